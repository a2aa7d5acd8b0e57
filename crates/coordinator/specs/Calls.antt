-- The rules of the opening and of the eight calls.
--   Did V A               what a call answers and what it leaves of home, places and entries
--   Turn A, Decision      the same for calls that alter places alone, or places and counter
--   opening, begin_turn, freeze_turn, abort_turn, decide_turn, read_call, write_call, renew_call, settle_call
use Rattle.std.specs.Prelude.{ℕ, ◌+◌, ◌-◌, ◌/◌, min, max, Bool, true, false, cond, not, ◌&&◌, ◌||◌, List, [], ◌∷◌, ◌++◌, map, length, take, drop, Some, None, Ok, Err, Option, Result, ◌==◌, nat_le, nat_lt}
use Rattle.home.specs.declared.fault.Refusal.TheVariants.{DayFull, MovedOn, NoneLeft, NotClean, SheetFull, ShortTable, Unchecked}
use Rattle.home.specs.declared.fault.Fault.{Fault}
use Rattle.home.specs.declared.row.Row.{Row}
use Rattle.home.specs.declared.row.Change.{Change}
use Rattle.home.specs.declared.row.Change.TheVariants.{Free, Hold, Put, Renew}
use Rattle.home.specs.Refusals.{number_of}
use Rattle.home.specs.Rows.{Outcome, refuses, grants}
use Rattle.home.specs.Meaning.{Meaning, after, changed, fault_at, looked}
use Rattle.coordinator.specs.declared.tables.Place.{Place}
use Rattle.coordinator.specs.declared.tables.Entry.{Entry}
use Rattle.coordinator.specs.Tables.{Tables, at_cursor, count_of, cursor_of, entered, fault_of, is_short, put_entry, put_place, sheet, sought, used_of}

pub record Did (V A : Type 0) : Type 0 where
  pub answer : Result A Fault
  pub tables : Tables V

pub record Turn (A : Type 0) : Type 0 where
  pub answer : Result A Fault
  pub places : List Place

pub record Decision (A : Type 0) : Type 0 where
  pub answer : Result A Fault
  pub places : List Place
  pub counter : ℕ

-- ---- parts of a rule

-- Into another state, with the cursor at the beginning.
abbrev pub moved_to : ℕ → Place → Place
moved_to state p = record { state = state; ts = p.ts; used = p.used; cursor = 0 }

abbrev pub freed : Place → Place
freed p = record { state = 0; ts = p.ts; used = p.used; cursor = p.cursor }

-- ---- the opening: 14, then 18 with the first held key and its holder

abbrev pub holder_at : {V : Type 0} → Option (Row V) → ℕ
holder_at None = 0
holder_at (Some row) = row.holder

abbrev pub held_from : {V : Type 0} → ℕ → List (Row V) → Option (ℕ × ℕ)
held_from key [] = None
held_from key (row ∷ rows) = cond (row.holder == 0) (held_from (key + 1) rows) (Some (key, row.holder))

-- All of the first 64 places become free, and the counter 0.
abbrev pub opening_clean : List Place → ℕ → Option (ℕ × ℕ) → Decision (Unit {0})
opening_clean places counter (Some held) = record { answer = Err (fault_of NotClean 0 held.0 held.1); places = places; counter = counter }
opening_clean places counter None = record { answer = Ok tt; places = map freed (take 64 places) ++ drop 64 places; counter = 0 }

unfoldable pub opening : {V : Type 0} → Meaning V → List Place → ℕ → ℕ → Decision (Unit {0})
opening home places entries counter =
    cond (is_short (length places) entries)
    (record { answer = Err (fault_of ShortTable 0 0 0); places = places; counter = counter })
    (opening_clean places counter (held_from 0 home.rows))

-- ---- begin, freeze, abort: the place alone

abbrev pub turning : {A : Type 0} → List Place → ℕ → (Place → A × Place) → Result Place Fault → Turn A
turning places place rule (Err fault) = record { answer = Err fault; places = places }
turning places place rule (Ok p) = record { answer = Ok (rule p).0; places = put_place places place (rule p).1 }

unfoldable pub begin_turn : List Place → ℕ → ℕ → Turn (Unit {0})
begin_turn places entries place = turning places place (λ p. (tt, record { state = 1; ts = 0; used = 0; cursor = 0 })) (entered 1 places entries place 0)

unfoldable pub freeze_turn : List Place → ℕ → ℕ → Turn ℕ
freeze_turn places entries place = turning places place (λ p. (p.ts, moved_to 2 p)) (entered 4 places entries place 0)

unfoldable pub abort_turn : List Place → ℕ → ℕ → Turn (Unit {0})
abort_turn places entries place = turning places place (λ p. (tt, moved_to 3 p)) (entered 8 places entries place 0)

-- ---- decide: 12 if entries are left, 13 if the counter is at its end

abbrev pub deciding : List Place → ℕ → ℕ → Place → Decision (ℕ × ℕ)
deciding places counter place p =
    cond (nat_lt (cursor_of p) (used_of p))
    (record { answer = Err (fault_of Unchecked place 0 0); places = places; counter = counter })
    (cond (count_of counter == 999999)
    (record { answer = Err (fault_of DayFull place 0 0); places = places; counter = counter })
    (record { answer = Ok (p.ts, count_of counter + 1); places = put_place places place (moved_to 4 p); counter = count_of counter + 1 }))

abbrev pub deciding_at : List Place → ℕ → ℕ → Result Place Fault → Decision (ℕ × ℕ)
deciding_at places counter place (Err fault) = record { answer = Err fault; places = places; counter = counter }
deciding_at places counter place (Ok p) = deciding places counter place p

unfoldable pub decide_turn : List Place → ℕ → ℕ → ℕ → Decision (ℕ × ℕ)
decide_turn places entries counter place = deciding_at places counter place (entered 6 places entries place 0)

-- ---- calls that look at the home

abbrev pub with_places : {V : Type 0} → Tables V → List Place → Tables V
with_places t places = record { home = t.home; places = places; entries = t.entries }

-- A refusal that alters nothing.
abbrev pub refused : {V A : Type 0} → Tables V → Fault → Did V A
refused t fault = record { answer = Err fault; tables = t }

-- 2 and 5 lose the transaction.
abbrev pub loses : Fault → Bool
loses fault = number_of fault.refusal == 2 || number_of fault.refusal == 5

abbrev pub lost_if : Fault → List Place → ℕ → Place → List Place
lost_if fault places place p = cond (loses fault) (put_place places place (moved_to 3 p)) places

abbrev pub turned_away : {V A : Type 0} → Tables V → ℕ → Place → Fault → Did V A
turned_away t place p fault = record { answer = Err fault; tables = with_places t (lost_if fault t.places place p) }

-- Every call: the tests that come first, then its own rule.
abbrev pub by_entry : {V A : Type 0} → Tables V → (Place → Did V A) → Result Place Fault → Did V A
by_entry t rule (Err fault) = refused t fault
by_entry t rule (Ok p) = rule p

abbrev pub at_place : {V A : Type 0} → ℕ → Tables V → ℕ → ℕ → (Place → Did V A) → Did V A
at_place code t place key rule = by_entry t rule (entered code t.places (length t.entries) place key)

-- The place alone is altered.
abbrev pub moving : {V A : Type 0} → Tables V → ℕ → A → Place → Did V A
moving t place answer p = record { answer = Ok answer; tables = with_places t (put_place t.places place p) }

-- ---- read

-- A row as a new entry of the place, at number `at` of its sheet.
abbrev pub entering : {V : Type 0} → Tables V → ℕ → ℕ → Place → ℕ → Row V → Tables V
entering t place key p at row =
    record {
      home = t.home;
      places = put_place t.places place (record { state = p.state; ts = max p.ts row.wts; used = at + 1; cursor = p.cursor });
      entries = put_entry t.entries place at (record { key = key; wts = row.wts; rts = row.rts; value = row.value; written = false });
    }

abbrev pub reading_row : {V : Type 0} → Tables V → ℕ → ℕ → Place → Result (Row V) Fault → Did V V
reading_row t place key p (Err fault) = refused t (record { refusal = fault.refusal; layer = fault.layer; place = place; key = key; detail = fault.detail })
reading_row t place key p (Ok row) = record { answer = Ok row.value; tables = entering t place key p (used_of p) row }

-- A key that is not in the sheet: 10 if the sheet is full, then the home's look.
unfoldable pub reading_new : {V : Type 0} → Tables V → ℕ → ℕ → Place → Did V V
reading_new t place key p = cond (used_of p == 16) (refused t (fault_of SheetFull place key 0)) (reading_row t place key p (looked t.home key))

abbrev pub reading : {V : Type 0} → Tables V → ℕ → ℕ → Place → Option (ℕ × Entry V) → Did V V
reading t place key p (Some found) = record { answer = Ok found.1.value; tables = t }
reading t place key p None = reading_new t place key p

unfoldable pub read_call : {V : Type 0} → Tables V → ℕ → ℕ → Did V V
read_call t place key = at_place 2 t place key (λ p. reading t place key p (sought key 0 (sheet place (used_of p) t.entries)))

-- ---- write

abbrev pub rewriting : {V : Type 0} → Tables V → ℕ → Place → ℕ → Entry V → V → Did V ℕ
rewriting t place p at e value =
    record {
      answer = Ok p.ts;
      tables = record { home = t.home; places = t.places; entries = put_entry t.entries place at (record { key = e.key; wts = e.wts; rts = e.rts; value = value; written = true }) };
    }

-- The hold's outcome: the entry at number `at` is written under the row's lease, and `used` entries are then in use.
abbrev pub holding : {V : Type 0} → Tables V → ℕ → ℕ → V → Place → ℕ → ℕ → Outcome V → Did V ℕ
holding t place key value p at used (refuses cause) = turned_away t place p (fault_at place key cause)
holding t place key value p at used (grants row) =
    record {
      answer = Ok (max p.ts (row.rts + 1));
      tables = record {
        home = after t.home key (grants row);
        places = put_place t.places place (record { state = p.state; ts = max p.ts (row.rts + 1); used = used; cursor = p.cursor });
        entries = put_entry t.entries place at (record { key = key; wts = row.wts; rts = row.rts; value = value; written = true });
      };
    }

unfoldable pub holding_at : {V : Type 0} → Tables V → ℕ → ℕ → V → Place → ℕ → ℕ → Did V ℕ
holding_at t place key value p at used = holding t place key value p at used (changed t.home key (Hold place))

-- The version that stands, if the row is free and it is another than the one that was read.
abbrev pub moved_on : {V : Type 0} → ℕ → Result (Row V) Fault → Option ℕ
moved_on wts (Err fault) = None
moved_on wts (Ok row) = cond (row.holder == 0 && not (row.wts == wts)) (Some row.wts) None

-- A key that was read: 5 if it has moved on, otherwise the hold.
abbrev pub comparing : {V : Type 0} → Tables V → ℕ → ℕ → V → Place → ℕ → Option ℕ → Did V ℕ
comparing t place key value p at (Some wts) = turned_away t place p (fault_of MovedOn place key wts)
comparing t place key value p at None = holding_at t place key value p at p.used

unfoldable pub comparing_at : {V : Type 0} → Tables V → ℕ → ℕ → V → Place → ℕ → ℕ → Did V ℕ
comparing_at t place key value p at wts = comparing t place key value p at (moved_on wts (looked t.home key))

-- A key that is not in the sheet: 10 if the sheet is full, then the hold.
abbrev pub writing_new : {V : Type 0} → Tables V → ℕ → ℕ → V → Place → Did V ℕ
writing_new t place key value p =
    cond (used_of p == 16)
    (refused t (fault_of SheetFull place key 0))
    (holding_at t place key value p (used_of p) (used_of p + 1))

abbrev pub writing : {V : Type 0} → Tables V → ℕ → ℕ → V → Place → Option (ℕ × Entry V) → Did V ℕ
writing t place key value p (Some found) =
    cond found.1.written
    (rewriting t place p found.0 found.1 value)
    (comparing_at t place key value p found.0 found.1.wts)
writing t place key value p None = writing_new t place key value p

unfoldable pub write_call : {V : Type 0} → Tables V → ℕ → ℕ → V → Did V ℕ
write_call t place key value = at_place 3 t place key (λ p. writing t place key value p (sought key 0 (sheet place (used_of p) t.entries)))

-- ---- renew

-- The stretch of a key, by its class, the key divided by 4,096: 16 for classes 8 to 11, 128 for 12 to 15, else 0.
abbrev pub stretch_of : ℕ → ℕ
stretch_of key =
    cond (nat_le 8 (key / 4096) && nat_le (key / 4096) 11) 16
    (cond (nat_le 12 (key / 4096) && nat_le (key / 4096) 15) 128 0)

abbrev pub wish_of : ℕ → ℕ → ℕ → ℕ
wish_of last key ts = min (ts + stretch_of key) last

abbrev pub onward : Place → Place
onward p = record { state = p.state; ts = p.ts; used = p.used; cursor = cursor_of p + 1 }

abbrev pub left_after : Place → ℕ
left_after p = used_of p - (cursor_of p + 1)

abbrev pub renewing_row : {V : Type 0} → Tables V → ℕ → Place → Entry V → Outcome V → Did V ℕ
renewing_row t place p e (refuses cause) = turned_away t place p (fault_at place e.key cause)
renewing_row t place p e (grants row) =
    record {
      answer = Ok (left_after p);
      tables = record {
        home = after t.home e.key (grants row);
        places = put_place t.places place (onward p);
        entries = put_entry t.entries place (cursor_of p) (record { key = e.key; wts = e.wts; rts = row.rts; value = e.value; written = e.written });
      };
    }

-- What the home is asked: that the entry's lease reach ts, and where it falls short, end at the wish.
abbrev pub lengthened : {V : Type 0} → Meaning V → Entry V → ℕ → Outcome V
lengthened home e ts = changed home e.key (Renew e.wts ts (wish_of home.last e.key ts))

unfoldable pub renewing_at : {V : Type 0} → Tables V → ℕ → Place → Entry V → Did V ℕ
renewing_at t place p e = renewing_row t place p e (lengthened t.home e p.ts)

abbrev pub renewing : {V : Type 0} → Tables V → ℕ → Place → Option (Entry V) → Did V ℕ
renewing t place p None = refused t (fault_of NoneLeft place 0 0)
renewing t place p (Some e) = cond (e.written || nat_le p.ts e.rts) (moving t place (left_after p) (onward p)) (renewing_at t place p e)

unfoldable pub renew_call : {V : Type 0} → Tables V → ℕ → Did V ℕ
renew_call t place = at_place 5 t place 0 (λ p. renewing t place p (at_cursor t.entries place p))

-- ---- settle

abbrev pub settling_row : {V : Type 0} → Tables V → ℕ → Place → Entry V → Outcome V → Did V (ℕ × Bool)
settling_row t place p e (refuses cause) = refused t (fault_at place e.key cause)
settling_row t place p e (grants row) =
    record {
      answer = Ok (left_after p, false);
      tables = record { home = after t.home e.key (grants row); places = put_place t.places place (onward p); entries = t.entries };
    }

-- A winner's write is put, a loser's hold freed.
abbrev pub ending : {V : Type 0} → ℕ → Place → Entry V → Change V
ending place p e = cond (p.state == 4) (Put place e.value p.ts) (Free place)

abbrev pub settling : {V : Type 0} → Tables V → ℕ → Place → Option (Entry V) → Did V (ℕ × Bool)
settling t place p None = moving t place (0, true) (freed p)
settling t place p (Some e) =
    cond e.written
    (settling_row t place p e (changed t.home e.key (ending place p e)))
    (moving t place (left_after p, false) (onward p))

unfoldable pub settle_call : {V : Type 0} → Tables V → ℕ → Did V (ℕ × Bool)
settle_call t place = at_place 7 t place 0 (λ p. settling t place p (at_cursor t.entries place p))
