-- Keys in a sheet: the first entry of a key, where it stands, and that a transaction has no key twice.
--   keyed es     the keys of the entries, in their order
--   found k es   the first entry of a key
--   Sought       what a search that found an entry has shown
--   Apart ks     no key twice
use Rattle.std.proofs.Common.{◌≡◌, ℕ, zero, suc, ◌+◌, ◌<◌, true, false, cond, ◌||◌, eqb, List, [], ◌∷◌, ◌++◌, map, length, drop, set, Some, None, Option, sym, refl, ap, ◌∙◌, subst, arith}
use lib.Seq.{drop-nil}
use Rattle.std.specs.List.{slice_get}
use Rattle.std.specs.Option.{option_map}
use Rattle.std.proofs.lemmas.Bool.{cond_both}
use Rattle.std.proofs.lemmas.List.{map-set, map_push}
use Rattle.std.proofs.lemmas.List.Recursion.{found_push_other, found_set_other, or_push}
use Rattle.std.proofs.lemmas.Option.{get_or_from_slice_get, slice_get-map, slice_get_within, some_pair_parts}
use Rattle.std.proofs.lemmas.Bool.Decides.{nat_tests}
use Rattle.home.proofs.Calls.{set_same}
use Rattle.home.proofs.Laws.{nth_set_same}
use Rattle.coordinator.specs.declared.tables.Entry.{Entry}
use Rattle.coordinator.specs.Tables.{sought}
use Rattle.serial.specs.Transactions.{Op, among, is_some, key_of, keys_of, noted}

abbrev pub keyed : {V : Type 0} → List (Entry V) → List ℕ
keyed {V} es = map (λ (e : Entry V). e.key) es

abbrev pub found : {V : Type 0} → ℕ → List (Entry V) → Option (Entry V)
found k [] = None
found k (e ∷ es) = cond (eqb e.key k) (Some e) (found k es)

abbrev pub Apart : List ℕ → Type 0
Apart [] = Unit {0}
Apart (k ∷ ks) = (among k ks ≡ false) × Apart ks

-- ---- lists of keys

pub among_push : (k : ℕ) (ks : List ℕ) (j : ℕ) → among k (ks ++ (j ∷ [])) ≡ (among k ks || eqb j k)
among_push k ks j = or_push (among k) (λ l. eqb l k) refl (λ _ _. refl) ks j

pub apart_push : (ks : List ℕ) (j : ℕ) → Apart ks → among j ks ≡ false → Apart (ks ++ (j ∷ []))
apart_push [] j apart new = (refl, tt)
apart_push (k ∷ ks) j apart new = (grind (arith, nat_tests, among_push k ks j), apart_push ks j apart.1 (grind (arith, nat_tests)))

-- noting a key
pub apart_noted : (k : ℕ) (ks : List ℕ) → Apart ks → Apart (noted k ks)
apart_noted k ks apart = cond_both (among k ks) ks (ks ++ k ∷ []) Apart (λ _. apart) (apart_push ks k apart)

pub keys_apart : {V : Type 0} (ops : List (Op V)) → Apart (keys_of ops)
keys_apart [] = tt
keys_apart (op ∷ ops) = apart_noted (key_of op) (keys_of ops) (keys_apart ops)

-- the key at a place of the list
pub among_here : (ks : List ℕ) (c k : ℕ) → slice_get ks c ≡ Some k → among k (drop c ks) ≡ true
among_here [] c k at = cc
among_here (j ∷ ks) zero k at = let same : j ≡ k = cc in grind (arith, nat_tests)
among_here (j ∷ ks) (suc c) k at = among_here ks c k at

pub among_drop : (ks : List ℕ) (c k j : ℕ) → slice_get ks c ≡ Some k → (j ≡ k → ⊥) → among j (drop c ks) ≡ among j (drop (suc c) ks)
among_drop [] c k j at other = cc
among_drop (i ∷ ks) zero k j at other = let same : i ≡ k = cc in grind (arith, nat_tests)
among_drop (i ∷ ks) (suc c) k j at other = among_drop ks c k j at other

pub apart_past : (ks : List ℕ) (c k : ℕ) → Apart ks → slice_get ks c ≡ Some k → among k (drop (suc c) ks) ≡ false
apart_past [] c k apart at = cc
apart_past (j ∷ ks) zero k apart at = let same : j ≡ k = cc in rw same at apart.0
apart_past (j ∷ ks) (suc c) k apart at = apart_past ks c k apart.1 at

pub drop_none : (ks : List ℕ) (c k : ℕ) → slice_get ks c ≡ None → among k (drop c ks) ≡ false
drop_none [] c k at = ap (among k) (drop-nil c)
drop_none (j ∷ ks) zero k at = cc
drop_none (j ∷ ks) (suc c) k at = drop_none ks c k at

pub nth_among : (ks : List ℕ) (c k : ℕ) → slice_get ks c ≡ Some k → among k ks ≡ true
nth_among [] c k at = cc
nth_among (j ∷ ks) zero k at = let same : j ≡ k = cc in grind (arith, nat_tests)
nth_among (j ∷ ks) (suc c) k at = grind (arith, nat_tests, nth_among ks c k at)

-- ---- entries

-- What a search through a sheet, counted from n, has shown of the entry that it found at number i.
pub record Sought {V : Type 0} (k n : ℕ) (es : List (Entry V)) (i : ℕ) (e : Entry V) : Type 0 where
  pub past : ℕ
  pub is : i ≡ n + past
  pub here : slice_get es past ≡ Some e
  pub key : e.key ≡ k
  pub first : found k es ≡ Some e

module _ {V : Type 0} where
  pub sought_some : (k n : ℕ) (es : List (Entry V)) (i : ℕ) (e : Entry V) → sought k n es ≡ Some (i, e) → Sought k n es i e
  sought_some k n [] i e is = cc
  sought_some k n (a ∷ es) i e is =
      cond_both (eqb a.key k) _ _ (λ o. o ≡ Some (i, e) → Sought k n (a ∷ es) i e)
      (λ test at.
      let both = some_pair_parts n i a e at in
      record { past = 0; is = omega arith; here = cc; key = grind (arith, nat_tests); first = grind (arith, nat_tests) })
      (λ test at.
      let r = sought_some k (n + 1) es i e at in
      record { past = suc r.past; is = omega arith; here = r.here; key = r.key; first = grind (arith, nat_tests) })
      is

  pub sought_found : (k : ℕ) (es : List (Entry V)) (i : ℕ) (e : Entry V) → sought k 0 es ≡ Some (i, e)
      → (slice_get es i ≡ Some e) × (e.key ≡ k) × (found k es ≡ Some e) × (i < length es)
  sought_found k es i e is =
      let r = sought_some k 0 es i e is in
      let same : i ≡ r.past = omega arith in
      let here : slice_get es i ≡ Some e = ap (slice_get es) same ∙ r.here in
      (here, r.key, r.first, slice_get_within es i e here)

  pub sought_none : (k n : ℕ) (es : List (Entry V)) → sought k n es ≡ None → found k es ≡ None
  sought_none k n [] is = refl
  sought_none k n (a ∷ es) is = grind (arith, nat_tests, sought_none k (n + 1) es)

  pub found_among : (k : ℕ) (es : List (Entry V)) → is_some (found k es) ≡ among k (keyed es)
  found_among k [] = refl
  found_among k (a ∷ es) = grind (arith, nat_tests, found_among k es)

  -- what is found under a key has that key
  pub found_key : (k : ℕ) (es : List (Entry V)) (e : Entry V) → found k es ≡ Some e → e.key ≡ k
  found_key k [] e is = cc
  found_key k (a ∷ es) e is = grind (arith, nat_tests, found_key k es e)

  -- after a push the new entry is found under its key, the old ones under theirs
  pub found_pushed : (es : List (Entry V)) (e : Entry V) → found e.key es ≡ None → found e.key (es ++ (e ∷ [])) ≡ Some e
  found_pushed [] e none = grind (arith, nat_tests)
  found_pushed (a ∷ es) e none = grind (arith, nat_tests, found_pushed es e)

  pub found_unpushed : (es : List (Entry V)) (e : Entry V) (j : ℕ) → (j ≡ e.key → ⊥) → found j (es ++ (e ∷ [])) ≡ found j es
  found_unpushed es e j apart =
      found_push_other (found j) (λ (x : Entry V). eqb x.key j) (λ (x : Entry V). Some x) None refl (λ _ _. refl) es e (grind (arith, nat_tests))

  pub keyed_push : (es : List (Entry V)) (e : Entry V) → keyed (es ++ (e ∷ [])) ≡ keyed es ++ (e.key ∷ [])
  keyed_push es e = map_push (λ (x : Entry V). x.key) es e

  pub nth_keyed : (es : List (Entry V)) (c : ℕ) (e : Entry V) → slice_get es c ≡ Some e → slice_get (keyed es) c ≡ Some e.key
  nth_keyed es c e at = slice_get-map (λ (x : Entry V). x.key) es c ∙ ap (option_map (λ (x : Entry V). x.key)) at

  pub nth_keyed_none : (es : List (Entry V)) (c : ℕ) → slice_get es c ≡ None → slice_get (keyed es) c ≡ None
  nth_keyed_none es c at = slice_get-map (λ (x : Entry V). x.key) es c ∙ ap (option_map (λ (x : Entry V). x.key)) at

  pub keyed_set : (es : List (Entry V)) (i : ℕ) (e e' : Entry V) → slice_get es i ≡ Some e → e'.key ≡ e.key → keyed (set es i e') ≡ keyed es
  keyed_set es i e e' at same = map-set (λ (x : Entry V). x.key) es i e' ∙ set_same (keyed es) i e'.key (nth_keyed es i e at ∙ ap (λ (k : ℕ). Some k) (sym same))

  pub nth_found : (es : List (Entry V)) (c : ℕ) (e : Entry V) → Apart (keyed es) → slice_get es c ≡ Some e → found e.key es ≡ Some e
  nth_found [] c e apart at = cc
  nth_found (a ∷ es) zero e apart at = grind (arith, nat_tests)
  nth_found (a ∷ es) (suc c) e apart at = grind (arith, nat_tests, apart.0, nth_among (keyed es) c e.key (nth_keyed es c e at), nth_found es c e apart.1 at)

  -- an entry stored again under its key
  pub found_set : (es : List (Entry V)) (i : ℕ) (e e' : Entry V) → slice_get es i ≡ Some e → e'.key ≡ e.key → Apart (keyed es)
      → (found e.key (set es i e') ≡ Some e') × ((k : ℕ) → (k ≡ e.key → ⊥) → found k (set es i e') ≡ found k es)
  found_set es i e e' at same apart = (
    ap (λ k. found k (set es i e')) (sym same) ∙ nth_found (set es i e') i e' (subst Apart (sym (keyed_set es i e e' at same)) apart) (nth_set_same es i e' at),
    λ k else. found_set_other (found k) (λ (x : Entry V). eqb x.key k) (λ (x : Entry V). Some x) None refl (λ _ _. refl) es i e' e
        (grind (arith, nat_tests, get_or_from_slice_get es i e e at)) (grind (arith, nat_tests)),
  )
