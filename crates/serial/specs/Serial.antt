-- The law of the serial order: run one at a time in commit order, the decided transactions read what they were answered.
--   run_ops, run_all      the serial run: one value for each key, a write replaces it
--   AllGet, Replays       every read gets in the run the value that it answered
--   Sorted                by commit timestamp, then commit number
--   values_of home        the home's values, key by key
--   held_now rows         how many keys are held; is_held_by, by whom
--   SerialHistory         the law of one history of calls
--   opened ..             the store that an opening leaves
--   SerialFrom first      the law of every history from a store on
use Rattle.std.specs.Prelude.{◌≡◌, ℕ, ◌+◌, Bool, true, false, cond, ◌⊎◌, List, [], ◌∷◌, map, length, Some, None, Option, ◌==◌, slice_set}
use Rattle.std.specs.List.{slice_get}
use Rattle.std.specs.List.Sorted.{IsPermutation}
use Rattle.home.specs.declared.row.Row.{Row}
use Rattle.home.specs.Meaning.{Meaning, is_place}
use Rattle.coordinator.specs.declared.call.Call.{Call}
use Rattle.coordinator.specs.declared.tables.Place.{Place}
use Rattle.coordinator.specs.declared.tables.Entry.{Entry}
use Rattle.coordinator.specs.Calls.{opening}
use Rattle.serial.specs.Events.{Event, Store, history_of, store}
use Rattle.serial.specs.Transactions.{Op, reads, writes, Orderly, Transaction, before, decided_in, frees, granted, is_some, live, or_else, pending_write, puts, serial_order, unsettled}

-- ---- the serial run

-- A write replaces the value of its key.
abbrev pub run_op : {V : Type 0} → List V → Op V → List V
run_op values (reads key value) = values
run_op values (writes key value) = slice_set values key value

abbrev pub run_ops : {V : Type 0} → List V → List (Op V) → List V
run_ops values [] = values
run_ops values (op ∷ ops) = run_op (run_ops values ops) op

-- One transaction at a time, in the order.
abbrev pub run_all : {V : Type 0} → List V → List (Transaction V) → List V
run_all values [] = values
run_all values (t ∷ earlier) = run_ops (run_all values earlier) t.ops

-- A read gets the value that it answered.
abbrev pub Gets : {V : Type 0} → List V → Op V → Type 0
Gets values (reads key value) = slice_get values key ≡ Some value
Gets values (writes key value) = Unit {0}

abbrev pub AllGet : {V : Type 0} → List V → List (Op V) → Type 0
AllGet values [] = Unit {0}
AllGet values (op ∷ ops) = AllGet values ops × Gets (run_ops values ops) op

abbrev pub Replays : {V : Type 0} → List V → List (Transaction V) → Type 0
Replays values [] = Unit {0}
Replays values (t ∷ earlier) = Replays values earlier × AllGet (run_all values earlier) t.ops

-- ---- the order

abbrev pub AllBefore : {V : Type 0} → List (Transaction V) → Transaction V → Type 0
AllBefore [] t = Unit {0}
AllBefore (u ∷ us) t = (before u t ≡ true) × AllBefore us t

-- The last of the order stands first.
abbrev pub Sorted : {V : Type 0} → List (Transaction V) → Type 0
Sorted [] = Unit {0}
Sorted (t ∷ earlier) = AllBefore earlier t × Sorted earlier

-- ---- the home

abbrev pub value_of : {V : Type 0} → Row V → V
value_of row = row.value

abbrev pub values_of : {V : Type 0} → Meaning V → List V
values_of home = map value_of home.rows

abbrev pub held_now : {V : Type 0} → List (Row V) → ℕ
held_now [] = 0
held_now (row ∷ rows) = cond (row.holder == 0) 0 1 + held_now rows

abbrev pub is_held_by : {V : Type 0} → ℕ → Option (Row V) → Bool
is_held_by p None = false
is_held_by p (Some row) = row.holder == p

-- ---- the law

-- The home had the values `start` when the coordinator was opened; since then came the events; now it has this meaning.
pub record SerialHistory {V : Type 0} (start : List V) (es : List (Event V)) (home : Meaning V) : Type 0 where
  -- transactions follow one another at each place; one reads and writes only until it decides, and decides once
  pub orderly : Orderly es
  -- the order holds every decided transaction once, and no other
  pub complete : IsPermutation (decided_in es) (serial_order es)
  -- it goes by commit timestamp, then commit number, and no two have the same pair
  pub sorted : Sorted (serial_order es)
  -- run in that order from the values at the start, every read gets what it answered
  pub replays : Replays start (serial_order es)
  -- the values that the run leaves are the home's, once the unsettled writes of decided transactions are put in
  pub values : (key : ℕ) → slice_get (run_all start (serial_order es)) key ≡ or_else (unsettled key es) (slice_get (values_of home) key)
  -- every hold that was granted was ended by a put, or freed, or is a key held now
  pub holds : granted es ≡ puts es + frees es + held_now home.rows
  -- a place holds a key exactly while its transaction has written the key and not settled it
  pub held : (p key : ℕ) → is_place p ≡ true → is_held_by p (slice_get home.rows key) ≡ is_some (pending_write key (live p es))
  -- and only places hold keys
  pub holders : (key : ℕ) (row : Row V) → slice_get home.rows key ≡ Some row → (row.holder ≡ 0) ⊎ (is_place row.holder ≡ true)

-- ---- every history

-- The store that an opening leaves, by the rule that its contract names.
abbrev pub opened : {V : Type 0} → Meaning V → List Place → List (Entry V) → ℕ → Store V
opened home places entries counter = store home (opening home places (length entries) counter).places entries (opening home places (length entries) counter).counter

-- The law holds after any list of the eight calls, with any place, key and value, accepted or refused.
abbrev pub SerialFrom : {V : Type 0} → Store V → Type 0
SerialFrom {V} first = (calls : List (Call V)) → SerialHistory (values_of first.tables.home) (history_of first calls).events (history_of first calls).store.tables.home
