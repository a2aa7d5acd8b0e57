-- The rules of a row keep the conditions on a row.
use Rattle.std.proofs.Common.{◌≡◌, ℕ, true, arith}
use Rattle.std.proofs.lemmas.Bool.Decides.{nat_tests}
use Rattle.home.specs.declared.row.Row.{Row}
use Rattle.home.specs.declared.row.Change.{Change}
use Rattle.home.specs.declared.row.Change.TheVariants.{Hold}
use Rattle.home.specs.Rows.{row_after, amended}
use Rattle.home.specs.Meaning.{fair, well_placed}

-- a fair row is left fair
pub amended_fair : {V : Type 0} (last : ℕ) (change : Change V) (row : Row V) → well_placed change ≡ true → fair last row ≡ true → fair last (row_after row (amended last change row)) ≡ true
amended_fair last (Hold place) row ok was = grind (arith, nat_tests)
amended_fair last change row ok was = grind (arith, nat_tests)
