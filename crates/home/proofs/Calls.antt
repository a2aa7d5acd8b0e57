-- What holds of every call of a home, whatever its rule.
use Rattle.std.proofs.Common.{◌≡◌, ℕ, ◌<◌, Bool, true, cond, List, length, set, Some, Ok, Option, sym, refl, ap, ◌∙◌, arith, length-set}
use Rattle.std.specs.List.{slice_get}
use Rattle.std.proofs.lemmas.List.{set-get_or}
use Rattle.std.proofs.lemmas.List.Recursion.{and_at, and_set}
use Rattle.std.proofs.lemmas.Option.{get_or_from_slice_get, slice_get_cases, slice_get_within}
use Rattle.std.proofs.lemmas.Bool.Decides.{nat_tests}
use Rattle.home.specs.declared.row.Row.{Row}
use Rattle.home.specs.declared.row.Change.{Change}
use Rattle.home.specs.Rows.{Outcome, refuses, grants, row_after, amended}
use Rattle.home.specs.Meaning.{Meaning, fair, all_fair, rows_after, amended_at, after, changed, checked_place, found, is_sound, no_place, Sound, well_placed}
use Rattle.home.proofs.Rows.{amended_fair}

-- storing an element where it stands alters nothing
pub set_same : {A : Type 0} (xs : List A) (i : ℕ) (x : A) → slice_get xs i ≡ Some x → set xs i x ≡ xs
set_same xs i x at = ap (set xs i) (sym (get_or_from_slice_get xs i x x at)) ∙ set-get_or xs i x

module _ {V : Type 0} where
  -- a row of a home whose rows are fair
  pub fair_at : (last : ℕ) (rows : List (Row V)) (key : ℕ) (row : Row V) → all_fair last rows ≡ true → slice_get rows key ≡ Some row → fair last row ≡ true
  fair_at last rows key row all at =
      ap (fair last) (sym (get_or_from_slice_get rows key row row at)) ∙ and_at (all_fair last) (fair last) refl (λ _ _. refl) rows key row (slice_get_within rows key row at) all

  pub fair_set : (last : ℕ) (rows : List (Row V)) (key : ℕ) (row : Row V) → all_fair last rows ≡ true → fair last row ≡ true → all_fair last (set rows key row) ≡ true
  fair_set last rows key row all new = and_set (all_fair last) (fair last) refl (λ _ _. refl) rows key row new all

  -- storing what the rule left, accepted or not, is what the call leaves
  pub stored : (rows : List (Row V)) (key : ℕ) (row : Row V) (o : Outcome V) → slice_get rows key ≡ Some row → set rows key (row_after row o) ≡ rows_after rows key o
  stored rows key row (refuses cause) at = set_same rows key row at
  stored rows key row (grants new) at = refl

  -- ---- a change, test by test

  pub made : (m : Meaning V) (key : ℕ) (change : Change V) (row : Row V) → checked_place change ≡ Ok tt → found (slice_get m.rows key) ≡ Ok row → changed m key change ≡ amended m.last change row
  unfolding changed
  made m key change row ok at = grind (arith, nat_tests)

  -- a row that was found stands under its key
  pub found_at : (rows : List (Row V)) (key : ℕ) (row : Row V) → found (slice_get rows key) ≡ Ok row → (key < length rows) × (slice_get rows key ≡ Some row)
  found_at rows key row at = grind (arith, slice_get_cases rows key)

  -- ---- the conditions on a home

  pub sound_parts : (m : Meaning V) → is_sound m ≡ true → Sound m
  sound_parts m ok = record { few = grind (arith, nat_tests); ends = grind (arith, nat_tests); rows = grind (arith, nat_tests) }

  pub parts_sound : (m : Meaning V) → Sound m → is_sound m ≡ true
  parts_sound m s = grind (arith, nat_tests)

  -- a change leaves the conditions as they were
  fair_after : (m : Meaning V) (key : ℕ) (change : Change V) (row : Row V) (o : Outcome V) → well_placed change ≡ true → slice_get m.rows key ≡ Some row → amended m.last change row ≡ o → Sound m → Sound (after m key o)
  fair_after m key change row (refuses cause) ok at same s = s
  fair_after m key change row (grants new) ok at same s =
      let fair_new : fair m.last new ≡ true = rw same at (amended_fair m.last change row ok (fair_at m.last m.rows key row s.rows at)) in
      record { few = simp length-set s.few; ends = s.ends; rows = fair_set m.last m.rows key new s.rows fair_new }

  pub sound_after : (m : Meaning V) (key : ℕ) (change : Change V) → Sound m → Sound (after m key (changed m key change))
  unfolding changed
  sound_after m key change s = go (well_placed change) (slice_get m.rows key) refl refl
    where
      go : (b : Bool) (at : Option (Row V)) → well_placed change ≡ b → slice_get m.rows key ≡ at → Sound (after m key (cond b (amended_at m.last change at) (refuses no_place)))
      go true (Some row) ok at = fair_after m key change row _ ok at refl s
      go b o ok at = s
