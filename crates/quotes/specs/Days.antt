-- A morning's orders, one after another, and how many were done and refused.
--   one_more n            n + 1, or n where a 64-bit number goes no further
--   tallied t answer      the tally with one answer more
--   day d orders          the home and the tally after the orders
--   curve_check near far  whether the two tables can be opened as one curve, or why not
--   morning l r orders    the home and the tally after a morning over two homes side by side
use Rattle.std.specs.Prelude.{◌≡◌, ℕ, ◌+◌, min, List, [], ◌∷◌, ◌++◌, length, replicate, Ok, Err, Result, slice_index, slice_set}
use Rattle.home.specs.declared.fault.Fault.{Fault}
use Rattle.home.specs.declared.row.Row.{Row}
use Rattle.home.specs.Meaning.{Meaning}
use Rattle.home.specs.Refusals.{number_of}
use Rattle.kinds.specs.declared.node.Node.{Node}
use Rattle.kinds.specs.Words.{node_reading, node_value}
use Rattle.byte_home.specs.Bytes.{byte_check, byte_opened, read_rows}
use Rattle.row_home.specs.Opening.{row_check, row_opened}
use Rattle.split_home.specs.Splits.{split_check, split_opened}
use Rattle.quotes.specs.declared.order.Order.{Order}
use Rattle.quotes.specs.declared.tally.Tally.{Tally}
use Rattle.quotes.specs.Orders.{served, told}

abbrev pub one_more : ℕ → ℕ
one_more n = min (n + 1) 18446744073709551615

-- Nothing was done yet: there are 19 refusals, and the place 0 stays empty.
abbrev pub no_tally : Tally
no_tally = record { accepted = 0; refused = replicate 20 0 }

abbrev pub tallied : Tally → Result (Unit {0}) Fault → Tally
tallied t (Ok _) = record { accepted = one_more t.accepted; refused = t.refused }
tallied t (Err fault) = record { accepted = t.accepted; refused = slice_set t.refused (number_of fault.refusal) (one_more (slice_index t.refused (number_of fault.refusal))) }

pub record Day : Type 0 where
  pub home : Meaning Node
  pub tally : Tally

abbrev pub day : Day → List Order → Day
day d [] = d
day d (order ∷ orders) = day (record { home = served d.home order; tally = tallied d.tally (told d.home order) }) orders

-- ---- a curve in two tables: rows at the near end, bytes at the far end

abbrev pub and_then : Result (Unit {0}) Fault → Result (Unit {0}) Fault → Result (Unit {0}) Fault
and_then (Ok _) next = next
and_then (Err fault) next = Err fault

abbrev pub near_home : List (Row Node) → Meaning Node
near_home near = row_opened 4294967295 near

abbrev pub far_home : List ℕ → Meaning Node
far_home far = byte_opened node_value far

unfoldable pub curve_check : List (Row Node) → List ℕ → Result (Unit {0}) Fault
curve_check near far = and_then (row_check 4294967295 near) (and_then (byte_check node_value far) (split_check (near_home near) (far_home far)))

-- A morning over two homes side by side.
unfoldable pub morning : Meaning Node → Meaning Node → List Order → Day
morning l r orders = day (record { home = split_opened l r; tally = no_tally }) orders

-- What is answered: the tally, unless the curve cannot be opened.
abbrev pub morning_answer : Result (Unit {0}) Fault → Day → Result Tally Fault
morning_answer (Ok _) d = Ok d.tally
morning_answer (Err fault) d = Err fault

-- What the two homes then mean: the rows of the whole, the left one's as many as before; where they do not go together, both are as they were.
abbrev pub Served : Result (Unit {0}) Fault → Day → (l l' r' : Meaning Node) → Type 0 → Type 0
Served (Ok _) d l l' r' Same = (l'.rows ++ r'.rows ≡ d.home.rows) × (length l'.rows ≡ length l.rows)
Served (Err fault) d l l' r' Same = Same

-- What the caller's tables then hold: the rows of the whole, each as many as before; or what they held.
abbrev pub Tables : Result (Unit {0}) Fault → Day → (near near' : List (Row Node)) (far far' : List ℕ) → Type 0
Tables (Ok _) d near near' far far' = (near' ++ read_rows node_reading far' ≡ d.home.rows) × (length near' ≡ length near) × (length far' ≡ length far)
Tables (Err fault) d near near' far far' = (near' ≡ near) × (far' ≡ far)
