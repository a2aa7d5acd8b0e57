-- What the check of a row home answers, and what its making gives.
--   row_check last rows     the check
--   row_opened last rows    what a row home means when it is made
use Rattle.std.specs.Prelude.{ℕ, ◌&&◌, List, [], length, Ok, Err, Result, nat_le}
use Rattle.home.specs.declared.fault.Fault.{Fault}
use Rattle.home.specs.declared.row.Row.{Row}
use Rattle.home.specs.Meaning.{Meaning}
use Rattle.home.specs.Opening.{after_size, first_bad, is_count, row_flaw}

-- 16 for a count outside 1 to 65,535 or a last timestamp over 9,223,372,036,854,775,807; then 17.
abbrev pub row_check : {V : Type 0} → ℕ → List (Row V) → Result (Unit {0}) Fault
row_check last rows = after_size (is_count (length rows) && nat_le last 9223372036854775807) (first_bad (row_flaw last) 0 rows)

-- Exactly those rows, or no keys and the last timestamp 0 where the check fails.
abbrev pub row_made : {V : Type 0} → ℕ → List (Row V) → Result (Unit {0}) Fault → Meaning V
row_made last rows (Ok _) = record { last = last; rows = rows }
row_made last rows (Err _) = record { last = 0; rows = [] }

abbrev pub row_opened : {V : Type 0} → ℕ → List (Row V) → Meaning V
row_opened last rows = row_made last rows (row_check last rows)
