-- The first entry of a key is where the library's search finds it.
use Rattle.std.proofs.Common.{◌≡◌, ℕ, suc, ◌+◌, Bool, true, false, cond, eqb, List, [], ◌∷◌, Some, Option, sym, refl, ap, ◌∙◌, arith}
use Rattle.std.specs.List.{position_or_len, slice_get}
use Rattle.std.specs.Option.{option_map}
use Rattle.coordinator.specs.declared.tables.Entry.{Entry}
use Rattle.coordinator.specs.Tables.{sought}

module _ {V : Type 0} (key : ℕ) where
  abbrev pub first : List (Entry V) → ℕ
  first es = position_or_len (λ e. eqb e.key key) es

  abbrev pub numbered : ℕ → Option (Entry V) → Option (ℕ × Entry V)
  numbered n o = option_map (λ e. (n, e)) o

  by_head : (at : ℕ) (e : Entry V) (es : List (Entry V)) (b : Bool) → sought key (at + 1) es ≡ numbered (at + 1 + first es) (slice_get es (first es)) → cond b (Some (at, e)) (sought key (at + 1) es) ≡ numbered (at + cond b 0 (suc (first es))) (slice_get (e ∷ es) (cond b 0 (suc (first es))))
  by_head at e es true rest = ap (λ n. Some (n, e)) (omega arith)
  by_head at e es false rest = rest ∙ ap (λ n. numbered n (slice_get es (first es))) (omega arith)

  next : (e : Entry V) (es : List (Entry V)) → first (e ∷ es) ≡ cond (eqb e.key key) 0 (suc (first es))
  next e es = grind arith

  pub sought_first : (es : List (Entry V)) (at : ℕ) → sought key at es ≡ numbered (at + first es) (slice_get es (first es))
  sought_first [] at = refl
  sought_first (e ∷ es) at = by_head at e es (eqb e.key key) (sought_first es (at + 1)) ∙ ap (λ n. numbered (at + n) (slice_get (e ∷ es) n)) (sym (next e es))
