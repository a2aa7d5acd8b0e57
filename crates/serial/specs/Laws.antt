-- What holds of every call, whatever its rule says in particular.
--   place_of call          the place that a call is given
--   RefusalLeaves          what a refusal leaves: everything, but that 2 and 5 turn the place to losing
--   Reaches                what a call may alter: its own place, its own sheet, one row; decide the counter
--   OneEntry               renew and settle handle one entry, and answer how many are then left
use Rattle.std.specs.Prelude.{◌≡◌, ℕ, ◌+◌, ◌-◌, ◌<◌, ◌≤◌, Bool, true, false, cond, ◌⊎◌, List, length, Some, None, Option, ◌≢◌}
use Rattle.std.specs.List.{slice_get}
use Rattle.home.specs.declared.fault.Fault.{Fault}
use Rattle.coordinator.specs.declared.call.Call.{Call}
use Rattle.coordinator.specs.declared.tables.Place.{Place}
use Rattle.coordinator.specs.Tables.{base_of, cursor_of, put_place, used_of}
use Rattle.coordinator.specs.Calls.{freed, loses, moved_to, onward, with_places}
use Rattle.serial.specs.Events.{Event, Store, did_begin, did_read, did_write, did_freeze, did_renew, did_decide, did_settle, did_abort, refused, stepped}

abbrev pub place_of : {V : Type 0} → Call V → ℕ
place_of (Call.Begin place) = place
place_of (Call.Read place key) = place
place_of (Call.Write place key value) = place
place_of (Call.Freeze place) = place
place_of (Call.Renew place) = place
place_of (Call.Decide place) = place
place_of (Call.Settle place) = place
place_of (Call.Abort place) = place

-- ---- refusals

-- A place turned to losing, with the cursor at the beginning.
abbrev pub losing : List Place → ℕ → Option Place → List Place
losing places p None = places
losing places p (Some place) = put_place places p (moved_to 3 place)

-- Every refusal leaves the home, both tables and the counter as they were; 2 and 5 turn the place to losing, and alter
-- nothing else.
abbrev pub RefusalLeaves : {V : Type 0} → Store V → Call V → Type 0
RefusalLeaves st call =
    (fault : Fault)
    → (stepped st call).event ≡ refused call fault
    → (stepped st call).store ≡ record {
      tables = with_places st.tables (cond (loses fault) (losing st.tables.places (place_of call) (slice_get st.tables.places (place_of call - 1))) st.tables.places);
      counter = st.counter;
    }

-- ---- what a call may alter

-- Only an accepted decide raises the counter.
abbrev pub raised_by : {V : Type 0} → Event V → ℕ
raised_by (did_begin p) = 0
raised_by (did_read p key value) = 0
raised_by (did_write p key value ts) = 0
raised_by (did_freeze p ts) = 0
raised_by (did_renew p left) = 0
raised_by (did_decide p ts number) = 1
raised_by (did_settle p left freed) = 0
raised_by (did_abort p) = 0
raised_by (refused call fault) = 0

pub record Reaches {V : Type 0} (st new : Store V) (p raised : ℕ) : Type 0 where
  -- its own place
  pub places : (i : ℕ) → (i + 1 ≢ p) → slice_get new.tables.places i ≡ slice_get st.tables.places i
  pub many : length new.tables.places ≡ length st.tables.places
  -- its own sixteen entries
  pub entries : (i : ℕ) → (i < base_of p) ⊎ (base_of p + 16 ≤ i) → slice_get new.tables.entries i ≡ slice_get st.tables.entries i
  pub long : length new.tables.entries ≡ length st.tables.entries
  -- one row at most, and neither the count nor the last timestamp
  pub rows : (key : ℕ) × ((k : ℕ) → (k ≢ key) → slice_get new.tables.home.rows k ≡ slice_get st.tables.home.rows k)
  pub count : length new.tables.home.rows ≡ length st.tables.home.rows
  pub last : new.tables.home.last ≡ st.tables.home.last
  pub counter : new.counter ≡ st.counter + raised

-- ---- one entry a call

-- The place went on by one entry, which was the only one that may have been altered; `left` are left.
pub record Handled {V : Type 0} (st new : Store V) (p left : ℕ) : Type 0 where
  pub place : Place
  pub was : slice_get st.tables.places (p - 1) ≡ Some place
  pub goes : slice_get new.tables.places (p - 1) ≡ Some (onward place)
  pub counted : cursor_of place + 1 + left ≡ used_of place
  pub others : (i : ℕ) → (i ≢ base_of p + cursor_of place) → slice_get new.tables.entries i ≡ slice_get st.tables.entries i

-- No entry was left, and the place became free.
pub record Ended {V : Type 0} (st new : Store V) (p left : ℕ) : Type 0 where
  pub place : Place
  pub was : slice_get st.tables.places (p - 1) ≡ Some place
  pub goes : slice_get new.tables.places (p - 1) ≡ Some (freed place)
  pub counted : (left ≡ 0) × (cursor_of place ≡ used_of place)

abbrev pub SettlesOne : {V : Type 0} → Store V → Store V → ℕ → ℕ → Bool → Type 0
SettlesOne st new p left true = Ended st new p left
SettlesOne st new p left false = Handled st new p left

abbrev pub OneEntry : {V : Type 0} → Store V → Store V → Event V → Type 0
OneEntry st new (did_begin p) = Unit {0}
OneEntry st new (did_read p key value) = Unit {0}
OneEntry st new (did_write p key value ts) = Unit {0}
OneEntry st new (did_freeze p ts) = Unit {0}
OneEntry st new (did_renew p left) = Handled st new p left
OneEntry st new (did_decide p ts number) = Unit {0}
OneEntry st new (did_settle p left freed) = SettlesOne st new p left freed
OneEntry st new (did_abort p) = Unit {0}
OneEntry st new (refused call fault) = Unit {0}

-- ---- all of it, of one call

pub record Lawful {V : Type 0} (st : Store V) (call : Call V) : Type 0 where
  pub refusal : RefusalLeaves st call
  pub reach : Reaches st (stepped st call).store (place_of call) (raised_by (stepped st call).event)
  pub single : OneEntry st (stepped st call).store (stepped st call).event
