-- A table that passes its check is a sound home.
use Rattle.std.proofs.Common.{◌≡◌, ℕ, Bool, true, false, ◌&&◌, leb, List, length, is_err, Ok, refl, arith}
use Rattle.std.proofs.lemmas.Bool.Decides.{nat_tests}
use Rattle.home.specs.declared.row.Row.{Row}
use Rattle.home.specs.Meaning.{is_sound}
use Rattle.home.specs.Opening.{after_size, first_bad, is_count, row_flaw, table_meaning}
use Rattle.home.proofs.Calls.{parts_sound}
use Rattle.home.proofs.Opening.{all_fair_from}
use Rattle.home.proofs.Tables.{passed_from}
use Rattle.row_home.specs.Opening.{row_check}

module _ {V : Type 0} where
  by_size : (b : Bool) (last : ℕ) (rows : List (Row V)) → (is_count (length rows) && leb last 9223372036854775807) ≡ b → after_size b (first_bad (row_flaw last) 0 rows) ≡ Ok tt → is_sound (table_meaning true last rows) ≡ true
  by_size true last rows size ok =
      let all = all_fair_from last 0 rows ok in
      parts_sound (table_meaning true last rows) (record { few = grind (arith, nat_tests); ends = grind (arith, nat_tests); rows = all })
  by_size false last rows size ok = absurd (let z : ◌≡◌ {A = ℕ} 0 1 = cc in omega arith)

  pub checked_sound : (last : ℕ) (rows : List (Row V)) → is_err (row_check last rows) ≡ false → is_sound (table_meaning true last rows) ≡ true
  checked_sound last rows ok = by_size _ last rows refl (passed_from _ ok)
