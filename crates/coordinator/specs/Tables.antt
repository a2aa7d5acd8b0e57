-- The tables of the coordinator, and how a call finds its place.
--   Tables V               what the calls work on: the home's meaning, the places and the entries
--   used_of p, cursor_of p, count_of n     stored numbers, limited
--   sheet place n entries  the first n entries of a place's sheet
--   sought key at es       the first entry of a key, with its number counted from `at`
--   entered code ..        what every call tests first: 14, 4, then the state
use Rattle.std.specs.Prelude.{ℕ, ◌+◌, ◌-◌, ◌*◌, min, Bool, cond, ◌&&◌, ◌||◌, List, [], ◌∷◌, length, Some, None, Ok, Err, Option, Result, ◌==◌, nat_le, nat_lt, slice_set}
use Rattle.std.specs.List.{slice_get, between}
use Rattle.home.specs.declared.fault.Refusal.{Refusal}
use Rattle.home.specs.declared.fault.Refusal.TheVariants.{NoPlace, PlaceTaken, ShortTable, WrongState}
use Rattle.home.specs.declared.fault.Layer.TheVariants.{Coordinator}
use Rattle.home.specs.declared.fault.Fault.{Fault}
use Rattle.home.specs.Meaning.{Meaning, is_place}
use Rattle.coordinator.specs.declared.tables.Place.{Place}
use Rattle.coordinator.specs.declared.tables.Entry.{Entry}

pub record Tables (V : Type 0) : Type 0 where
  pub home : Meaning V
  pub places : List Place
  pub entries : List (Entry V)

abbrev pub tables : {V : Type 0} → Meaning V → List Place → List (Entry V) → Tables V
tables home places entries = record { home = home; places = places; entries = entries }

-- ---- stored numbers, limited

abbrev pub used_of : Place → ℕ
used_of p = min p.used 16

abbrev pub cursor_of : Place → ℕ
cursor_of p = min p.cursor (used_of p)

abbrev pub count_of : ℕ → ℕ
count_of n = min n 999999

-- ---- the sheet of a place

abbrev pub base_of : ℕ → ℕ
base_of place = 16 * (place - 1)

abbrev pub sheet : {V : Type 0} → ℕ → ℕ → List (Entry V) → List (Entry V)
sheet place n entries = between (base_of place) (base_of place + n) entries

abbrev pub sought : {V : Type 0} → ℕ → ℕ → List (Entry V) → Option (ℕ × Entry V)
sought key at [] = None
sought key at (e ∷ es) = cond (e.key == key) (Some (at, e)) (sought key (at + 1) es)

-- The entry at the cursor of a place, if one is left.
abbrev pub at_cursor : {V : Type 0} → List (Entry V) → ℕ → Place → Option (Entry V)
at_cursor entries place p = slice_get (sheet place (used_of p) entries) (cursor_of p)

-- ---- what every call tests first

abbrev pub fault_of : Refusal → ℕ → ℕ → ℕ → Fault
fault_of refusal place key detail = record { refusal = refusal; layer = Coordinator; place = place; key = key; detail = detail }

-- The states in which a call may be made, by its code: 1 begin, 2 read, 3 write, 4 freeze, 5 renew, 6 decide, 7 settle, 8 abort.
abbrev pub admits : ℕ → ℕ → Bool
admits code state =
    (code == 1 && state == 0)
    || ((nat_le 2 code && nat_le code 4 && state == 1)
    || ((nat_le 5 code && nat_le code 6 && state == 2)
    || ((code == 7 && (nat_le 3 state && nat_le state 4))
    || (code == 8 && (nat_le 1 state && nat_le state 2)))))

-- The refusal of a call whose state it is not.
abbrev pub state_refusal : ℕ → Refusal
state_refusal code = cond (code == 1) PlaceTaken WrongState

abbrev pub admitted : ℕ → ℕ → ℕ → Place → Result Place Fault
admitted code place key p = cond (admits code p.state) (Ok p) (Err (fault_of (state_refusal code) place key p.state))

abbrev pub by_state : ℕ → ℕ → ℕ → Option Place → Result Place Fault
by_state code place key None = Err (fault_of ShortTable place key 0)
by_state code place key (Some p) = admitted code place key p

abbrev pub is_short : ℕ → ℕ → Bool
is_short places entries = nat_lt places 64 || nat_lt entries 1024

unfoldable pub entered : ℕ → List Place → ℕ → ℕ → ℕ → Result Place Fault
entered code places entries place key =
    cond (is_short (length places) entries)
    (Err (fault_of ShortTable place key 0))
    (cond (is_place place)
    (by_state code place key (slice_get places (place - 1)))
    (Err (fault_of NoPlace place key 0)))

-- The answer with f of what was accepted.
abbrev pub answered : {A B : Type 0} → (A → B) → Result A Fault → Result B Fault
answered f (Ok a) = Ok (f a)
answered f (Err fault) = Err fault

abbrev pub put_place : List Place → ℕ → Place → List Place
put_place places place p = slice_set places (place - 1) p

abbrev pub put_entry : {V : Type 0} → List (Entry V) → ℕ → ℕ → Entry V → List (Entry V)
put_entry entries place at e = slice_set entries (base_of place + at) e
