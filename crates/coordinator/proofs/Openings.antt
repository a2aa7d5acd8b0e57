-- The opening goes through the rows, and then through the places, one by one.
use Rattle.std.proofs.Common.{◌≡◌, ℕ, zero, suc, ◌+◌, ◌<◌, ◌≤◌, cond, eqb, List, [], ◌∷◌, ◌++◌, map, length, get_or, take, drop, set, Some, None, sym, refl, ap, ◌∙◌, arith}
use Rattle.std.specs.List.{slice_get}
use Rattle.std.proofs.lemmas.List.{drop_all}
use Rattle.home.specs.declared.row.Row.{Row}
use Rattle.coordinator.specs.declared.tables.Place.{Place}
use Rattle.coordinator.specs.Calls.{freed, held_from, holder_at}

module _ {V : Type 0} where
  step : (rows : List (Row V)) (at key : ℕ) → key < length rows → held_from at (drop key rows) ≡ cond (eqb (holder_at (slice_get rows key)) 0) (held_from (at + 1) (drop (suc key) rows)) (Some (at, holder_at (slice_get rows key)))
  step [] at key within = absurd (omega arith)
  step (r ∷ rows) at zero within = refl
  step (r ∷ rows) at (suc key) within = step rows at key (omega arith)

  pub held_more : (rows : List (Row V)) (key : ℕ) → key < length rows → held_from key (drop key rows) ≡ cond (eqb (holder_at (slice_get rows key)) 0) (held_from (key + 1) (drop (key + 1) rows)) (Some (key, holder_at (slice_get rows key)))
  held_more rows key within =
      let next : suc key ≡ key + 1 = omega arith in
      step rows key key within ∙ ap (λ k. cond (eqb (holder_at (slice_get rows key)) 0) (held_from (key + 1) (drop k rows)) (Some (key, holder_at (slice_get rows key)))) next

  pub held_all : (rows : List (Row V)) (key : ℕ) → length rows ≤ key → held_from key (drop key rows) ≡ None
  held_all rows key past = ap (held_from key) (drop_all key rows past)

-- ---- the places

-- one place more is freed
pub freed_more : (ps : List Place) (i : ℕ) (d : Place) → i < length ps → set (map freed (take i ps) ++ drop i ps) i (freed (get_or (map freed (take i ps) ++ drop i ps) i d)) ≡ map freed (take (i + 1) ps) ++ drop (i + 1) ps
freed_more ps i d within = let next : i + 1 ≡ suc i = omega arith in go ps i within ∙ ap (λ k. map freed (take k ps) ++ drop k ps) (sym next)
  where
    go : (ps : List Place) (i : ℕ) → i < length ps → set (map freed (take i ps) ++ drop i ps) i (freed (get_or (map freed (take i ps) ++ drop i ps) i d)) ≡ map freed (take (suc i) ps) ++ drop (suc i) ps
    go [] i within = absurd (omega arith)
    go (p ∷ ps) zero within = refl
    go (p ∷ ps) (suc i) within = ap (λ rest. freed p ∷ rest) (go ps i (omega arith))
