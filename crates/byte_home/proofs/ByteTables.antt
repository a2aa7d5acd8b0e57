-- The rows of a byte home: what its bytes say of them, whatever the words are read as.
use Rattle.std.proofs.Common.{◌≡◌, ℕ, zero, suc, ◌*◌, ◌/◌, ◌<◌, Bool, true, false, cond, List, [], ◌∷◌, map, length, set, Some, Ok, refl, ap, ◌∙◌, arith}
use borrow.Rule.Slice.PartMut.{put_mid}
use Rattle.std.specs.List.{slice_get}
use Rattle.std.proofs.lemmas.List.{length-map, length-set, map-set}
use Rattle.std.proofs.lemmas.Option.{slice_get-get_or}
use Rattle.std.proofs.lemmas.Bool.Decides.{nat_tests}
use Rattle.home.specs.declared.row.Row.{Row}
use Rattle.home.specs.declared.row.Change.{Change}
use Rattle.home.specs.Rows.{amended, row_after}
use Rattle.home.specs.Meaning.{Sound, checked_place, fair, found, is_sound, well_placed}
use Rattle.home.proofs.Rows.{amended_fair}
use Rattle.home.proofs.Calls.{fair_at, fair_set, parts_sound, sound_parts}
use Rattle.byte_home.specs.Bytes.{has_room, read_rows, row_at, row_bytes, valued, word_row, word_rows}
use Rattle.home.specs.Opening.{table_meaning}
use Rattle.byte_home.proofs.Bytes.{getD_word_rows, length_row_bytes, length_word_rows, word_row_bytes, word_rows_set}
use Rattle.home.proofs.Tables.{in_table, mapped_sound}

-- ---- what does not depend on the values

module _ {V : Type 0} (read : ℕ → V) where
  -- the conditions on a byte home, at its values
  pub bytes_sound : (passed : Bool) (bs : List ℕ) → is_sound (table_meaning passed 4294967295 (word_rows bs)) ≡ true → Sound (table_meaning passed 4294967295 (read_rows read bs))
  bytes_sound passed bs ok = mapped_sound (valued read) (λ last row. refl) passed 4294967295 (word_rows bs) ok

  pub length_read_rows : (bs : List ℕ) → length (read_rows read bs) ≡ length bs / 17
  length_read_rows bs = length-map (word_rows bs) (valued read) ∙ length_word_rows bs

  nth_valued : (rows : List (Row ℕ)) (key : ℕ) (row : Row ℕ) → slice_get rows key ≡ Some row → slice_get (map (valued read) rows) key ≡ Some (valued read row)
  nth_valued [] key row at = absurd (let z : ◌≡◌ {A = ℕ} 0 1 = cc in omega arith)
  nth_valued (r ∷ rows) zero row at = let same : r ≡ row = cc in ap (λ x. Some (valued read x)) same
  nth_valued (r ∷ rows) (suc key) row at = nth_valued rows key row at

  -- the row under a key
  pub nth_read_rows : (bs : List ℕ) (key : ℕ) → key < length bs / 17 → slice_get (read_rows read bs) key ≡ Some (valued read (row_at bs key))
  nth_read_rows bs key within =
      let l : key < length (word_rows bs) = rw length_word_rows within in
      nth_valued (word_rows bs) key (row_at bs key) (slice_get-get_or (word_rows bs) key (row_at bs key) l ∙ ap Some (getD_word_rows bs key (row_at bs key) within))

  -- the same, for the keys that the home has
  pub key_within : (passed : Bool) (bs : List ℕ) (key : ℕ) → key < length (cond passed (read_rows read bs) []) → key < length bs / 17
  key_within true bs key within = rw length_read_rows at within
  key_within false bs key within = absurd (omega arith)

  pub row_of_key : (passed : Bool) (bs : List ℕ) (key : ℕ) → key < length (cond passed (read_rows read bs) []) → slice_get (cond passed (read_rows read bs) []) key ≡ Some (valued read (row_at bs key))
  row_of_key true bs key within = nth_read_rows bs key (key_within true bs key within)
  row_of_key false bs key within = absurd (omega arith)

  -- ---- a row stored again

  pub read_rows_set : (packed : V → ℕ) (bs after : List ℕ) (key : ℕ) (row : Row V) → word_rows after ≡ set (word_rows bs) key (valued packed row) → read (packed row.value) ≡ row.value → read_rows read after ≡ set (read_rows read bs) key row
  read_rows_set packed bs after key row wrote own =
      let again : valued read (valued packed row) ≡ row = ap (λ v. valued (λ _. v) row) own in
      ap (map (valued read)) wrote ∙ map-set (valued read) (word_rows bs) key (valued packed row) ∙ ap (set (read_rows read bs) key) again

-- a row's bytes written over those of a key
pub stored_rows : (bs new : List ℕ) (key k : ℕ) (row : Row ℕ) → key < length bs / 17 → k ≡ 17 → new ≡ row_bytes row → row.value < 18446744073709551616 → has_room row ≡ true → word_rows (put_mid (key * 17) k bs new) ≡ set (word_rows bs) key row
stored_rows bs new key k row within whole is small room =
    let long : length new ≡ 17 = ap length is ∙ length_row_bytes row in
    word_rows_set bs new key k within long whole row (ap word_row is ∙ word_row_bytes row small room)

pub fair_stored : (passed : Bool) (rows : List (Row ℕ)) (key : ℕ) (row : Row ℕ) → passed ≡ true → is_sound (table_meaning passed 4294967295 rows) ≡ true → fair 4294967295 row ≡ true → is_sound (table_meaning passed 4294967295 (set rows key row)) ≡ true
fair_stored true rows key row is ok new =
    let s = sound_parts (table_meaning true 4294967295 rows) ok in
    parts_sound (table_meaning true 4294967295 (set rows key row)) (record {
      few = rw length-set s.few;
      ends = s.ends;
      rows = fair_set 4294967295 rows key row s.rows new;
    })
fair_stored false rows key row is ok new = absurd (let z : ◌≡◌ {A = ℕ} 0 1 = cc in omega arith)

pub fair_room : {V : Type 0} (row : Row V) → fair 4294967295 row ≡ true → has_room row ≡ true
fair_room row ok = grind (arith, nat_tests)

module _ {V : Type 0} where
  placed : (change : Change V) → checked_place change ≡ Ok tt → well_placed change ≡ true
  placed change ok = grind (arith, nat_tests)

  -- what a rule leaves of a row of a sound home is fair
  pub left_fair : (passed : Bool) (last : ℕ) (rows : List (Row V)) (key : ℕ) (change : Change V) (row new : Row V) → checked_place change ≡ Ok tt → found (slice_get (cond passed rows []) key) ≡ Ok row → new ≡ row_after row (amended last change row) → Sound (table_meaning passed last rows) → fair last new ≡ true
  left_fair true last rows key change row new ok at left s =
      let was = fair_at last rows key row s.rows (in_table true rows key row at).2 in
      ap (fair last) left ∙ amended_fair last change row (placed change ok) was
  left_fair false last rows key change row new ok at left s = absurd (let z : ◌≡◌ {A = ℕ} 0 1 = cc in omega arith)
