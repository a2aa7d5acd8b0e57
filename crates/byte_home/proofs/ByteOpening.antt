-- What a check of bytes that finds nothing has shown: the home is sound, and its rows are those of the kind.
use Rattle.std.proofs.Common.{◌≡◌, ℕ, ◌+◌, ◌-◌, ◌*◌, ◌/◌, ◌%◌, ◌<◌, ◌≤◌, Bool, true, false, cond, ◌&&◌, eqb, List, [], ◌∷◌, ◌++◌, map, length, take, drop, is_ok, Some, None, Ok, Err, Option, Result, sym, refl, ap, ◌∙◌, arith}
use Rattle.std.proofs.lemmas.Bool.{and_from}
use Rattle.std.proofs.lemmas.List.{drop-drop, drop_at, length-append, length-drop, take_at}
use Rattle.std.proofs.lemmas.Bool.Decides.{nat_tests}
use Rattle.home.specs.declared.fault.Fault.{Fault}
use Rattle.home.specs.declared.row.Flaw.{Flaw}
use Rattle.home.specs.declared.row.Row.{Row}
use Rattle.home.specs.Meaning.{all_fair, fair, is_sound}
use Rattle.home.specs.Opening.{first_bad, is_count, row_flaw, unless_bad, after_size, table_meaning}
use Rattle.home.proofs.Calls.{parts_sound}
use Rattle.home.proofs.Opening.{first_bad_more, first_bad_all}
use Rattle.byte_home.specs.Bytes.{byte_check, byte_flaw, byte_made, byte_opened, kind_rows, or_flaw, or_skip, read_rows, row_at, valued, valued_if, word_flaw, word_row, word_rows}
use Rattle.byte_home.proofs.Bytes.{getD_word_rows, length_word_rows, split_from}

-- ---- the loop

-- the bytes of a row come off those that are left
module _ (bs rest : List ℕ) (key : ℕ) (at : rest ≡ drop (key * 17) bs) where
  module _ (chunk left : List ℕ) (apart : rest ≡ chunk ++ left) (long : length chunk ≡ 17) where
    -- one row more
    pub chunk_more : (flaw : Row ℕ → Option Flaw) (row : Row ℕ) → Some row ≡ cond (eqb (length chunk) 17) (Some (word_row chunk)) None → first_bad flaw key (drop key (word_rows bs)) ≡ unless_bad key (flaw row) (first_bad flaw (key + 1) (drop (key + 1) (word_rows bs)))
    chunk_more flaw row is =
        let within : key < length bs / 17 = omega (arith, ap length at, ap length apart, length-drop (key * 17) bs, length-append chunk left) in
        let width : key * 17 + 17 - key * 17 ≡ 17 = omega arith in
        let here : chunk ≡ take (key * 17 + 17 - key * 17) (drop (key * 17) bs) = sym (ap (λ n. take n (drop (key * 17) bs)) width ∙ ap (take 17) (sym at ∙ apart) ∙ take_at chunk left 17 long) in
        let own : row ≡ row_at bs key = (split_from chunk row is).1 ∙ ap word_row here in
        let some : key < length (word_rows bs) = rw length_word_rows within in
        first_bad_more flaw (word_rows bs) key row some (own ∙ sym (getD_word_rows bs key row within))

    -- and the bytes that are then left
    pub chunk_left : left ≡ drop ((key + 1) * 17) bs
    chunk_left =
        let next : key * 17 + 17 ≡ (key + 1) * 17 = omega arith in
        sym (drop_at chunk left 17 long) ∙ ap (drop 17) (sym apart ∙ at) ∙ drop-drop 17 (key * 17) bs ∙ ap (λ n. drop n bs) next

  -- no row left
  pub chunk_none : (flaw : Row ℕ → Option Flaw) → length rest < 17 → first_bad flaw key (drop key (word_rows bs)) ≡ Ok tt
  chunk_none flaw short =
      let past : length bs / 17 ≤ key = omega (arith, ap length at, length-drop (key * 17) bs) in
      let none : length (word_rows bs) ≤ key = rw length_word_rows past in
      first_bad_all flaw (word_rows bs) key none

-- ---- the making

unflawed : (row : Row ℕ) → row_flaw 4294967295 row ≡ None → fair 4294967295 row ≡ true
unflawed row none = grind (arith, nat_tests)

module _ {V : Type 0} (unpacked : ℕ → Option V) (read : ℕ → V) (right : (w : ℕ) (x : V) → unpacked w ≡ Some x → read w ≡ x) where
  abbrev Shown : List (Row ℕ) → Type 0
  Shown rows = (all_fair 4294967295 rows ≡ true) × (kind_rows unpacked rows ≡ map (valued read) rows)

  one : (row : Row ℕ) (found : Option Flaw) (value : Option V) → row_flaw 4294967295 row ≡ found → unpacked row.value ≡ value → or_flaw found (word_flaw value) ≡ None → (fair 4294967295 row ≡ true) × (valued_if (unpacked row.value) row ≡ Some (valued read row))
  one row None None is word ok = absurd (let z : ◌≡◌ {A = ℕ} 0 1 = cc in omega arith)
  one row None (Some value) is word ok =
      let same : read row.value ≡ value = right row.value value word in
      (unflawed row is, ap (λ o. valued_if o row) word ∙ ap (λ x. Some (valued (λ _. x) row)) (sym same))
  one row (Some flaw) value is word ok = absurd (let z : ◌≡◌ {A = ℕ} 0 1 = cc in omega arith)

  more : (key : ℕ) (row : Row ℕ) (rows : List (Row ℕ)) (found : Option Flaw) → byte_flaw unpacked row ≡ found → unless_bad key found (first_bad (byte_flaw unpacked) (key + 1) rows) ≡ Ok tt → (first_bad (byte_flaw unpacked) (key + 1) rows ≡ Ok tt → Shown rows) → Shown (row ∷ rows)
  more key row rows None is ok rest =
      let h = one row _ _ refl refl is in
      let r = rest ok in
      (and_from _ _ h.0 r.0, ap (λ o. or_skip o (kind_rows unpacked rows)) h.1 ∙ ap (λ rs. valued read row ∷ rs) r.1)
  more key row rows (Some flaw) is ok rest = absurd (let z : ◌≡◌ {A = ℕ} 0 1 = cc in omega arith)

  all : (key : ℕ) (rows : List (Row ℕ)) → first_bad (byte_flaw unpacked) key rows ≡ Ok tt → Shown rows
  all key [] ok = (refl, refl)
  all key (row ∷ rows) ok = more key row rows _ refl ok (λ rest. all (key + 1) rows rest)

  by_size : (b : Bool) (bs : List ℕ) → (is_count (length bs / 17) && eqb (length bs % 17) 0) ≡ b → after_size b (first_bad (byte_flaw unpacked) 0 (word_rows bs)) ≡ Ok tt → (is_sound (table_meaning true 4294967295 (word_rows bs)) ≡ true) × (kind_rows unpacked (word_rows bs) ≡ read_rows read bs)
  by_size true bs size ok =
      let h = all 0 (word_rows bs) ok in
      let few : length bs / 17 ≤ 65535 = grind (arith, nat_tests) in
      (parts_sound (table_meaning true 4294967295 (word_rows bs)) (record { few = rw length_word_rows few; ends = omega arith; rows = h.0 }), h.1)
  by_size false bs size ok = absurd (let z : ◌≡◌ {A = ℕ} 0 1 = cc in omega arith)

  by_check : (bs : List ℕ) (r : Result (Unit {0}) Fault) (passed : Bool) → byte_check unpacked bs ≡ r → passed ≡ is_ok r → (is_sound (table_meaning passed 4294967295 (word_rows bs)) ≡ true) × (table_meaning passed 4294967295 (read_rows read bs) ≡ byte_made unpacked bs r)
  unfolding byte_check
  by_check bs (Ok x) true is ok =
      let h = by_size _ bs refl is in
      (h.0, ap (λ rs. record { last = 4294967295; rows = rs }) (sym h.1))
  by_check bs (Ok x) false is ok = absurd (let z : ◌≡◌ {A = ℕ} 0 1 = cc in omega arith)
  by_check bs (Err e) true is ok = absurd (let z : ◌≡◌ {A = ℕ} 0 1 = cc in omega arith)
  by_check bs (Err e) false is ok = (refl, refl)

  -- a home with the flag that the check answers is sound, and means what an opening gives
  pub opened : (bs : List ℕ) (passed : Bool) → passed ≡ is_ok (byte_check unpacked bs) → (is_sound (table_meaning passed 4294967295 (word_rows bs)) ≡ true) × (table_meaning passed 4294967295 (read_rows read bs) ≡ byte_opened unpacked bs)
  opened bs passed is = by_check bs _ passed refl is
