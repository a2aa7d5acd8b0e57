-- What the check of an opening answers.
--   bad_size               16: a count outside 1 to 65,535, or another size that no home has
--   bad_row key flaw       17 with the first bad key and, as detail, 1 for the lease, 2 for the holder, 3 for the word
--   row_flaw last row      what is bad of a row, the lease before the holder
--   first_bad flaw key xs  the first of the items, counted from key, that has a flaw
--   is_count n             n lies from 1 to 65,535
--   size_checked fits      16 unless the size is one that a home has
--   after_size fits rest   16, or the rest of the check
--   table_meaning ..       a home in a table: the rows of the table, or no keys where the check failed
use Rattle.std.specs.Prelude.{ℕ, ◌+◌, Bool, true, false, cond, ◌&&◌, List, [], ◌∷◌, Some, None, Ok, Err, Option, Result, nat_le}
use Rattle.home.specs.declared.fault.Refusal.TheVariants.{BadSize, BadRow}
use Rattle.home.specs.declared.fault.Layer.TheVariants.{Home}
use Rattle.home.specs.declared.fault.Fault.{Fault}
use Rattle.home.specs.declared.row.Row.{Row}
use Rattle.home.specs.declared.row.Flaw.{Flaw}
use Rattle.home.specs.declared.row.Flaw.TheVariants.{Lease, Holder, Word}
use Rattle.home.specs.Meaning.{Meaning, fair_lease, fair_holder}

abbrev pub detail_of : Flaw → ℕ
detail_of Lease = 1
detail_of Holder = 2
detail_of Word = 3

abbrev pub bad_row : ℕ → Flaw → Fault
bad_row key flaw = record { refusal = BadRow; layer = Home; place = 0; key = key; detail = detail_of flaw }

abbrev pub bad_size : Fault
bad_size = record { refusal = BadSize; layer = Home; place = 0; key = 0; detail = 0 }

abbrev pub is_count : ℕ → Bool
is_count n = nat_le 1 n && nat_le n 65535

abbrev pub row_flaw : {V : Type 0} → ℕ → Row V → Option Flaw
row_flaw last row = cond (fair_lease last row) (cond (fair_holder row) None (Some Holder)) (Some Lease)

abbrev pub unless_bad : ℕ → Option Flaw → Result (Unit {0}) Fault → Result (Unit {0}) Fault
unless_bad key None rest = rest
unless_bad key (Some flaw) rest = Err (bad_row key flaw)

abbrev pub first_bad : {X : Type 0} → (X → Option Flaw) → ℕ → List X → Result (Unit {0}) Fault
first_bad flaw key [] = Ok tt
first_bad flaw key (x ∷ xs) = unless_bad key (flaw x) (first_bad flaw (key + 1) xs)

abbrev pub size_checked : Bool → Result (Unit {0}) Fault
size_checked true = Ok tt
size_checked false = Err bad_size

abbrev pub after_size : Bool → Result (Unit {0}) Fault → Result (Unit {0}) Fault
after_size true rest = rest
after_size false rest = Err bad_size

abbrev pub table_meaning : {V : Type 0} → Bool → ℕ → List (Row V) → Meaning V
table_meaning passed last rows = record { last = last; rows = cond passed rows [] }
