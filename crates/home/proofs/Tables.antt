-- A row found in a table, and the table after the row was stored again.
use Rattle.std.proofs.Common.{◌≡◌, ℕ, ◌<◌, Bool, true, false, cond, List, [], ◌∷◌, map, length, set, is_err, Some, Ok, Err, Result, refl, ap, ◌∙◌}
use Rattle.std.specs.List.{slice_get}
use Rattle.std.proofs.lemmas.List.{length-map}
use Rattle.home.specs.declared.fault.Fault.{Fault}
use Rattle.home.specs.declared.row.Row.{Row}
use Rattle.home.specs.declared.row.Change.{Change}
use Rattle.home.specs.Rows.{amended, row_after}
use Rattle.home.specs.Meaning.{Sound, after, all_fair, changed, checked_place, fair, found, is_sound}
use Rattle.home.proofs.Calls.{found_at, made, parts_sound, sound_after, sound_parts, stored}
use Rattle.home.specs.Opening.{table_meaning}

pub passed_from : (r : Result (Unit {0}) Fault) → is_err r ≡ false → r ≡ Ok tt
passed_from (Ok x) ok = refl
passed_from (Err e) ok = cc

module _ {V : Type 0} where
  pub in_table : (passed : Bool) (rows : List (Row V)) (key : ℕ) (row : Row V) → found (slice_get (cond passed rows []) key) ≡ Ok row → (passed ≡ true) × (key < length rows) × (slice_get rows key ≡ Some row)
  in_table true rows key row at = let h = found_at rows key row at in (refl, h.0, h.1)
  in_table false rows key row at = cc

  -- storing what the rule left of the row is what the change leaves
  pub table_after : (passed : Bool) (last : ℕ) (rows : List (Row V)) (key : ℕ) (change : Change V) (row new : Row V) → checked_place change ≡ Ok tt → found (slice_get (cond passed rows []) key) ≡ Ok row
      → new ≡ row_after row (amended last change row)
      → table_meaning passed last (set rows key new) ≡ after (table_meaning passed last rows) key (changed (table_meaning passed last rows) key change)
  table_after true last rows key change row new ok at left =
      rw (left, made (table_meaning true last rows) key change row ok at) (ap (λ rs. record { last = last; rows = rs }) (stored rows key row _ (found_at rows key row at).1))
  table_after false last rows key change row new ok at left = cc

  -- and the conditions on a home stay
  pub table_sound : (passed : Bool) (last : ℕ) (rows : List (Row V)) (key : ℕ) (change : Change V) (row new : Row V) → checked_place change ≡ Ok tt → found (slice_get (cond passed rows []) key) ≡ Ok row
      → new ≡ row_after row (amended last change row) → is_sound (table_meaning passed last rows) ≡ true
      → is_sound (table_meaning passed last (set rows key new)) ≡ true
  table_sound passed last rows key change row new ok at left was =
      ap is_sound (table_after passed last rows key change row new ok at left) ∙ parts_sound _ (sound_after (table_meaning passed last rows) key change (sound_parts _ was))

-- The conditions on a home in a table of rows do not depend on the values, so they hold however these are read.
module _ {V W : Type 0} (f : Row V → Row W) (same : (last : ℕ) (row : Row V) → fair last (f row) ≡ fair last row) where
  mapped_fair : (last : ℕ) (rows : List (Row V)) → all_fair last (map f rows) ≡ all_fair last rows
  mapped_fair last [] = refl
  mapped_fair last (row ∷ rows) = cc (same last row, mapped_fair last rows)

  pub mapped_sound : (passed : Bool) (last : ℕ) (rows : List (Row V)) → is_sound (table_meaning passed last rows) ≡ true → Sound (table_meaning passed last (map f rows))
  mapped_sound true last rows ok =
      let s = sound_parts (table_meaning true last rows) ok in
      record {
        few = rw length-map s.few;
        ends = s.ends;
        rows = mapped_fair last rows ∙ s.rows;
      }
  mapped_sound false last rows ok = let s = sound_parts (table_meaning false last rows) ok in record { few = s.few; ends = s.ends; rows = s.rows }
