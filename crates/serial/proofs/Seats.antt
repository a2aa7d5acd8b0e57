-- The flat tables, place by place: what a stored place or entry leaves of the places and of their sheets.
--   place_at places p    the record of place p
--   Entered              what the tests that come first have found, once they let a call in
--   by_entered           a call is refused by those tests, or let in
use Rattle.std.proofs.Common.{◌≡◌, ℕ, suc, ◌+◌, ◌-◌, ◌<◌, ◌≤◌, true, false, List, [], ◌∷◌, ◌++◌, length, get_or, take, drop, set, Some, Ok, Err, Result, sym, refl, ap, ◌∙◌, subst, add-one, arith, length-drop, length-take-le, get_or-set_other, get_or-set_same, take-suc-set, drop-set-lt, inl, inr}
use lib.Seq.{drop-set-add, take-set-le, take-set-lt}
use Rattle.std.specs.List.{slice_get}
use Rattle.std.proofs.lemmas.Option.{slice_get-get_or}
use Rattle.std.proofs.lemmas.Bool.{cond_both, cases_lt}
use Rattle.std.proofs.lemmas.Bool.Decides.{nat_tests}
use Rattle.home.specs.declared.fault.Fault.{Fault}
use Rattle.home.specs.Meaning.{is_place}
use Rattle.coordinator.specs.declared.tables.Place.{Place}
use Rattle.coordinator.specs.declared.tables.Entry.{Entry}
use Rattle.coordinator.specs.Tables.{admits, base_of, by_state, entered, is_short, put_entry, put_place, sheet}
use Rattle.coordinator.specs.Calls.{loses}

abbrev pub blank : Place
blank = record { state = 0; ts = 0; used = 0; cursor = 0 }

abbrev pub place_at : List Place → ℕ → Place
place_at places p = get_or places (p - 1) blank

pub place_range : (p : ℕ) → is_place p ≡ true → (1 ≤ p) × (p ≤ 64)
place_range p is = grind (arith, nat_tests)

-- ---- what the first tests have found

pub record Entered (code : ℕ) (places : List Place) (n p : ℕ) : Type 0 where
  pub place : is_place p ≡ true
  pub many : 64 ≤ length places
  pub long : 1024 ≤ n
  pub was : slice_get places (p - 1) ≡ Some (place_at places p)
  pub admitted : admits code (place_at places p).state ≡ true

-- A call is refused by them, and loses nothing, or is let in with the record of its place.
pub by_entered : (code : ℕ) (places : List Place) (n p key : ℕ) (P : Result Place Fault → Type 0)
    → ((fault : Fault) → loses fault ≡ false → P (Err fault)) → (Entered code places n p → P (Ok (place_at places p))) → P (entered code places n p key)
unfolding entered
by_entered code places n p key P refusal rule =
    cond_both (is_short (length places) n) _ _ P (λ _. refusal _ refl)
    (λ long. cond_both (is_place p) _ _ P (λ at. in_place long at) (λ _. refusal _ refl))
  where
    in_place : is_short (length places) n ≡ false → is_place p ≡ true → P (by_state code p key (slice_get places (p - 1)))
    in_place enough at =
        let r = place_range p at in
        let many : 64 ≤ length places = grind (arith, nat_tests) in
        let was : slice_get places (p - 1) ≡ Some (place_at places p) = slice_get-get_or places (p - 1) blank (omega arith) in
        subst (λ o. P (by_state code p key o)) (sym was)
        (cond_both (admits code (place_at places p).state) _ _ P
        (λ ok. rule (record { place = at; many = many; long = grind (arith, nat_tests); was = was; admitted = ok }))
        (λ _. refusal _ (grind (arith, nat_tests))))

-- ---- places

pub place_same : (ps : List Place) (p : ℕ) (pl : Place) → is_place p ≡ true → 64 ≤ length ps → place_at (put_place ps p pl) p ≡ pl
place_same ps p pl is many = get_or-set_same ps (p - 1) pl blank (omega (arith, place_range p is))

pub place_other : (ps : List Place) (p q : ℕ) (pl : Place) → is_place p ≡ true → is_place q ≡ true → (q ≡ p → ⊥)
    → place_at (put_place ps p pl) q ≡ place_at ps q
place_other ps p q pl is is' apart = get_or-set_other ps (p - 1) (q - 1) pl blank (omega (arith, place_range p is, place_range q is'))

module _ {V : Type 0} where
  -- ---- sheets

  -- a sheet begins at its place's base
  pub sheet_is : (p n : ℕ) (xs : List (Entry V)) → sheet p n xs ≡ take n (drop (base_of p) xs)
  sheet_is p n xs = ap (λ k. take k (drop (base_of p) xs)) (omega arith)

  -- a part of a table, when something past it is stored
  part_below : (b n i : ℕ) (xs : List (Entry V)) (e : Entry V) → b + n ≤ i → take n (drop b (set xs i e)) ≡ take n (drop b xs)
  part_below b n i xs e past =
      let from : i ≡ b + (i - b) = omega arith in
      ap (λ k. take n (drop b (set xs k e))) from
      ∙ ap (take n) (drop-set-add b xs (i - b) e)
      ∙ take-set-le n (drop b xs) (i - b) e (omega arith)

  pub sheet_other : (p q at n : ℕ) (xs : List (Entry V)) (e : Entry V) → is_place p ≡ true → is_place q ≡ true → (q ≡ p → ⊥) → at < 16 → n ≤ 16
      → sheet q n (put_entry xs p at e) ≡ sheet q n xs
  sheet_other p q at n xs e is is' apart low few =
      sheet_is q n (put_entry xs p at e)
      ∙ elim (cases_lt p q) [
        | inl before ↦ let r = place_range p is in ap (take n) (drop-set-lt (base_of q) xs (base_of p + at) e (omega arith))
        | inr after ↦ part_below (base_of q) n (base_of p + at) xs e (omega (arith, place_range q is'))
      ]
      ∙ sym (sheet_is q n xs)

  pub sheet_set : (p at n : ℕ) (xs : List (Entry V)) (e : Entry V) → is_place p ≡ true → at < n → n ≤ 16
      → sheet p n (put_entry xs p at e) ≡ set (sheet p n xs) at e
  sheet_set p at n xs e is low few =
      sheet_is p n (put_entry xs p at e)
      ∙ ap (take n) (drop-set-add (base_of p) xs at e)
      ∙ take-set-lt n (drop (base_of p) xs) at e low
      ∙ ap (λ (es : List (Entry V)). set es at e) (sym (sheet_is p n xs))

  pub sheet_push : (p n : ℕ) (xs : List (Entry V)) (e : Entry V) → is_place p ≡ true → n < 16 → 1024 ≤ length xs
      → sheet p (n + 1) (put_entry xs p n e) ≡ sheet p n xs ++ (e ∷ [])
  sheet_push p n xs e is few long =
      sheet_is p (n + 1) (put_entry xs p n e)
      ∙ ap (λ k. take k (drop (base_of p) (put_entry xs p n e))) (add-one n)
      ∙ ap (take (suc n)) (drop-set-add (base_of p) xs n e)
      ∙ take-suc-set (drop (base_of p) xs) n e (omega (arith, place_range p is, length-drop (base_of p) xs))
      ∙ ap (λ (es : List (Entry V)). es ++ (e ∷ [])) (sym (sheet_is p n xs))

  pub sheet_length : (p n : ℕ) (xs : List (Entry V)) → is_place p ≡ true → n ≤ 16 → 1024 ≤ length xs → length (sheet p n xs) ≡ n
  sheet_length p n xs is few long = ap length (sheet_is p n xs) ∙ length-take-le n (drop (base_of p) xs) (omega (arith, place_range p is, length-drop (base_of p) xs))

  pub sheet_none : (p : ℕ) (xs : List (Entry V)) → sheet p 0 xs ≡ []
  sheet_none p xs = sheet_is p 0 xs
