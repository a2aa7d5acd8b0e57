-- The law of a day from its invariant, and the invariant from the opening on.
use Rattle.std.proofs.Common.{◌≡◌, ℕ, zero, suc, ◌+◌, ◌-◌, ◌≤◌, true, false, List, [], ◌∷◌, ◌++◌, map, length, take, drop, IfOk, Some, None, Ok, Err, Option, Result, sym, refl, ap, ◌∙◌, inl, arith, length-append, length-drop, length-take-le, inr}
use lib.ListN.{length-map, get_or-append, get_or-map}
use Rattle.std.specs.List.{slice_get, AllByRecursion as All}
use Rattle.std.specs.Option.{option_map}
use Rattle.std.proofs.lemmas.Bool.{cond_both}
use Rattle.std.proofs.lemmas.Option.{slice_get-map, slice_get_cases}
use Rattle.std.proofs.lemmas.Bool.Decides.{nat_tests}
use Rattle.home.specs.declared.fault.Fault.{Fault}
use Rattle.home.specs.declared.row.Row.{Row}
use Rattle.home.specs.Meaning.{Meaning, Sound, is_place}
use Rattle.home.proofs.Calls.{fair_at}
use Rattle.coordinator.specs.declared.call.Call.{Call}
use Rattle.coordinator.specs.declared.tables.Place.{Place}
use Rattle.coordinator.specs.declared.tables.Entry.{Entry}
use Rattle.coordinator.specs.Tables.{is_short, tables}
use Rattle.coordinator.specs.Calls.{Decision, freed}
use Rattle.coordinator.specs.Calls.{held_from, opening, opening_clean}
use Rattle.serial.specs.Events.{Event, history_of, Store, store}
use Rattle.serial.specs.Transactions.{Live, Orderly, Transaction, among, decided_in, first_of, is_some, keys_of, live, pending_write, or_else, serial_order, unsettled, when, unsettled_write}
use Rattle.serial.specs.Serial.{SerialHistory, SerialFrom, held_now, is_held_by, opened, run_all, value_of, values_of}
use Rattle.serial.proofs.Run.{absent, never_written, when_none, AllSee, all_along, along_skip, arranged_shuffled, latest, nth_run_all, replays, sees_skip, upto_end, upto_latest}
use Rattle.serial.proofs.Seats.{blank, place_at, place_range}
use Rattle.serial.proofs.Steps.{keeps}
use Rattle.serial.proofs.Changes.{stake_absent}
use Rattle.serial.proofs.Invariant.{Good, Inv, KeyOk, Stake, bound, seat_of, standing}

-- ---- the first that is there

module _ {V : Type 0} (f : ℕ → Option V) where
  first_none : (n : ℕ) → ((p : ℕ) → 1 ≤ p → p ≤ n → f p ≡ None) → first_of f n ≡ None
  first_none zero none = refl
  first_none (suc n) none = rw (none (suc n) (omega arith) (omega arith)) (first_none n (λ p low high. none p low (omega arith)))

  -- All that are there are one and the same.
  first_some : (n : ℕ) (v : V) (p : ℕ) → 1 ≤ p → p ≤ n → f p ≡ Some v →
      ((q : ℕ) (w : V) → 1 ≤ q → q ≤ n → f q ≡ Some w → w ≡ v) → first_of f n ≡ Some v
  first_some zero v p low high is only = absurd (omega arith)
  first_some (suc n) v p low high is only =
      go (f (suc n)) refl (λ below. first_some n v p low below is (λ q w low high. only q w low (omega arith)))
    where
      go : (o : Option V) → f (suc n) ≡ o → (p ≤ n → first_of f n ≡ Some v) → or_else o (first_of f n) ≡ Some v
      go (Some w) here rest = ap (λ (u : V). Some u) (only (suc n) w (omega arith) (omega arith) here)
      go None here rest = rest (let apart : (p ≡ suc n → ⊥) = λ same. cc in omega arith)

-- ---- transactions that leave a key alone

module _ {V : Type 0} where
  abbrev Skipped : ℕ → List (Transaction V) → Type 0
  Skipped k us = All (λ (t : Transaction V). among k (keys_of t.ops) ≡ false) us

  skipped_along : (k : ℕ) (x : Option V) (us : List (Transaction V)) → Skipped k us → all_along k x us ≡ x
  skipped_along k x [] all = refl
  skipped_along k x (t ∷ us) all = along_skip k t.ops all.0 (all_along k x us) ∙ skipped_along k x us all.1

  skipped_see : (k : ℕ) (x : Option V) (us : List (Transaction V)) → Skipped k us → AllSee k x us
  skipped_see k x [] all = tt
  skipped_see k x (t ∷ us) all = (skipped_see k x us all.1, sees_skip k t.ops all.0 (all_along k x us))

  unused_write : (k : ℕ) (l : Live V) → among k (keys_of l.ops) ≡ false → pending_write k l ≡ None
  unused_write k l none = ap (when (among k (drop l.handled (keys_of l.ops)))) (never_written k l.ops none) ∙ when_none _

  unused_won : (k : ℕ) (l : Live V) → among k (keys_of l.ops) ≡ false → unsettled_write k l ≡ None
  unused_won k l none = ap (when l.decided) (unused_write k l none) ∙ when_none l.decided

-- ---- the law

module _ {V : Type 0} (start : List V) (es : List (Event V)) (st : Store V) (i : Inv (λ k. slice_get start k) es st) where
  abbrev home_rows : List (Row V)
  home_rows = st.tables.home.rows

  -- A key that the home has, or has not.
  by_row : (P : ℕ → Type 0) (k : ℕ) → ((row : Row V) → slice_get home_rows k ≡ Some row → P k) → (slice_get home_rows k ≡ None → P k) → P k
  by_row P k some none = elim (slice_get_cases home_rows k).1 [ inl h ↦ some h.0 h.2 | inr h ↦ none h.1 ]

  see_key : (k : ℕ) → AllSee k (slice_get start k) (serial_order es)
  see_key k =
      by_row (λ k. AllSee k (slice_get start k) (serial_order es)) k
      (λ row is. (i.keys k row is).1.sees)
      (λ is. skipped_see k (slice_get start k) (serial_order es) (i.voids k is).skipped)

  abbrev RowOk : ℕ → Row V → Option (V × ℕ) → Type 0
  RowOk k row won = KeyOk k (slice_get start k) row (serial_order es) (seat_of st es) won

  -- The unsettled write of a key is what its row waits for.
  open_none : (k : ℕ) (row : Row V) → RowOk k row None → unsettled k es ≡ None
  open_none k row ok = first_none (λ p. unsettled_write k (live p es)) 64 (λ p low high. absent _ (λ v is. cc ((ok.stakes p (grind (arith, nat_tests))).wins v is)))

  open_some : (k : ℕ) (row : Row V) (w : V × ℕ) → RowOk k row (Some w) → unsettled k es ≡ Some w.0
  open_some k row w ok =
      let h = ok.winner w refl in
      let r = place_range h.0 h.1 in
      first_some (λ p. unsettled_write k (live p es)) 64 w.0 h.0 r.0 r.1 h.2
      (λ q v low high is. let same : w ≡ (v, (seat_of st es q).place.ts) = cc ((ok.stakes q (grind (arith, nat_tests))).wins v is) in sym (ap (λ (u : V × ℕ). u.0) same))

  -- At a time past all that was decided, the value that stands is the row's with the unsettled write put in.
  stands_late : (k : ℕ) (row : Row V) (won : Option (V × ℕ)) → RowOk k row won → (τ : ℕ) → bound won row ≤ τ →
      Some (standing won row τ) ≡ or_else (unsettled k es) (Some row.value)
  stands_late k row None ok τ late = rw (open_none k row ok)
  stands_late k row (Some w) ok τ late = rw (open_some k row w ok) (grind (arith, nat_tests))

  abbrev Value : ℕ → Type 0
  Value k = slice_get (run_all start (serial_order es)) k ≡ or_else (unsettled k es) (slice_get (values_of st.tables.home) k)

  row_value : (k : ℕ) (row : Row V) → slice_get home_rows k ≡ Some row → Value k
  row_value k row is =
      nth_run_all start (serial_order es) k
      ∙ upto_end k (slice_get start k) late (serial_order es) (upto_latest late (serial_order es) (omega arith))
      ∙ ok.stands late (omega arith)
      ∙ stands_late k row won ok late (omega arith)
      ∙ ap (or_else (unsettled k es)) (sym (slice_get-map value_of home_rows k ∙ ap (option_map value_of) is))
    where
      won : Option (V × ℕ)
      won = (i.keys k row is).0

      ok : RowOk k row won
      ok = (i.keys k row is).1

      late : ℕ
      late = latest (serial_order es) + (row.wts + bound won row)

  void_value : (k : ℕ) → slice_get home_rows k ≡ None → Value k
  void_value k is =
      let ok = i.voids k is in
      let none : unsettled k es ≡ None =
      first_none (λ p. unsettled_write k (live p es)) 64 (λ p low high. unused_won k (live p es) (ok.fresh p (grind (arith, nat_tests)))) in
      nth_run_all start (serial_order es) k
      ∙ skipped_along k (slice_get start k) (serial_order es) ok.skipped
      ∙ ok.none
      ∙ sym (slice_get-map value_of home_rows k ∙ ap (option_map value_of) is)
      ∙ sym (ap (λ (o : Option V). or_else o (slice_get (values_of st.tables.home) k)) none)

  held_row : (p k : ℕ) → is_place p ≡ true → (o : Option (Row V)) → slice_get home_rows k ≡ o → is_held_by p o ≡ is_some (pending_write k (live p es))
  held_row p k at (Some row) is = ((i.keys k row is).1.stakes p at).owner
  held_row p k at None is = sym (ap is_some (unused_write k (live p es) ((i.voids k is).fresh p at)))

  pub serial_history : Orderly es → SerialHistory start es st.tables.home
  serial_history orderly =
      record {
        orderly = orderly;
        complete = arranged_shuffled (decided_in es);
        sorted = i.sorted;
        replays = replays start (serial_order es) see_key;
        values = λ k. by_row Value k (row_value k) (void_value k);
        holds = i.holds;
        held = λ p k at. held_row p k at (slice_get home_rows k) refl;
        holders = λ k row is. (i.keys k row is).1.holder;
      }

-- ---- the opening

abbrev all_freed : List Place → List Place
all_freed places = map freed (take 64 places) ++ drop 64 places

freed_length : (places : List Place) → 64 ≤ length places → length (map freed (take 64 places)) ≡ 64
freed_length places many = length-map (take 64 places) freed ∙ length-take-le 64 places many

all_length : (places : List Place) → 64 ≤ length places → length (all_freed places) ≡ length places
all_length places many = omega (arith, length-append (map freed (take 64 places)) (drop 64 places), freed_length places many, length-drop 64 places)

freed_place : (places : List Place) (p : ℕ) → 64 ≤ length places → is_place p ≡ true → (place_at (all_freed places) p).state ≡ 0
freed_place places p many at =
    ap (λ (o : Place). o.state)
    (get_or-append (map freed (take 64 places)) (drop 64 places) blank (p - 1) (omega (arith, place_range p at, freed_length places many))
    ∙ get_or-map freed (take 64 places) (p - 1) blank)

module _ {V : Type 0} where
  free_first : (key : ℕ) (row : Row V) (rows : List (Row V)) → held_from key (row ∷ rows) ≡ None →
      (row.holder ≡ 0) × (held_from (key + 1) rows ≡ None)
  free_first key row rows is = grind (arith, nat_tests)

  free_row : (key : ℕ) (rows : List (Row V)) → held_from key rows ≡ None → (k : ℕ) (row : Row V) → slice_get rows k ≡ Some row → row.holder ≡ 0
  free_row key [] none k row is = cc
  free_row key (r ∷ rows) none zero row is = cc ((free_first key r rows none).0)
  free_row key (r ∷ rows) none (suc k) row is = free_row (key + 1) rows (free_first key r rows none).1 k row is

  free_count : (key : ℕ) (rows : List (Row V)) → held_from key rows ≡ None → held_now rows ≡ 0
  free_count key [] none = refl
  free_count key (r ∷ rows) none = grind (arith, nat_tests, free_first key r rows none, free_count (key + 1) rows (free_first key r rows none).1)

  module _ (m : Meaning V) (places : List Place) (entries : List (Entry V)) where
    abbrev clean : Store V
    clean = record { tables = tables m (all_freed places) entries; counter = 0 }

    free_stake : (k p : ℕ) (row : Row V) → 64 ≤ length places → is_place p ≡ true → row.holder ≡ 0 →
        Stake k (slice_get (values_of m) k) row [] None p (seat_of clean [] p)
    free_stake k p row many at free =
        let r = place_range p at in
        stake_absent refl (grind (arith, nat_tests)) (λ u e is unwritten. grind (arith, nat_tests, freed_place places p many at))

    clean_inv : Sound m → 64 ≤ length places → 1024 ≤ length entries → held_from 0 m.rows ≡ None →
        Inv (λ k. slice_get (values_of m) k) [] clean
    clean_inv sound many long none =
        record {
          many = omega (arith, all_length places many);
          long = long;
          seated = λ p at. record {
            free = λ _. refl;
            busy = λ is. grind (arith, nat_tests, freed_place places p many at);
          };
          keys = λ k row is. (None, key k row is (free_row 0 m.rows none k row is));
          voids = λ k is. record { none = slice_get-map value_of m.rows k ∙ ap (option_map value_of) is; skipped = tt; fresh = λ p at. refl };
          sorted = tt;
          numbered = tt;
          limit = omega arith;
          holds = omega (arith, free_count 0 m.rows none);
        }
      where
        key : (k : ℕ) (row : Row V) → slice_get m.rows k ≡ Some row → row.holder ≡ 0 → KeyOk k (slice_get (values_of m) k) row [] (seat_of clean []) None
        key k row is free =
            record {
              fair = grind (arith, nat_tests, fair_at m.last m.rows k row sound.rows is);
              stands = λ τ from. slice_get-map value_of m.rows k ∙ ap (option_map value_of) is;
              quiet = tt;
              sees = tt;
              above = tt;
              winner = λ w won. cc;
              stakes = λ p at. free_stake k p row many at free;
              holder = inl free;
            }

    clean_good : Sound m → 64 ≤ length places → 1024 ≤ length entries → held_from 0 m.rows ≡ None → Good (λ k. slice_get (values_of m) k) [] clean
    clean_good sound many long none =
        record {
          inv = clean_inv sound many long none;
          runs = λ p at. grind (arith, nat_tests, freed_place places p many at);
          orderly = tt;
        }

    -- An opening that is accepted has found all tables long enough and no key held.
    pub opened_good : (counter : ℕ) → Sound m → (opening m places (length entries) counter).answer ≡ Ok tt →
        Good (λ k. slice_get (values_of m) k) [] (opened m places entries counter)
    unfolding opening
    opened_good counter sound = cond_both (is_short (length places) (length entries)) _ _ Opens (λ short no'. cc) (λ enough. by_held enough (held_from 0 m.rows) refl)
      where
        Opens : Decision (Unit {0}) → Type 0
        Opens d = d.answer ≡ Ok tt → Good (λ k. slice_get (values_of m) k) [] (record { tables = tables m d.places entries; counter = d.counter })

        by_held : is_short (length places) (length entries) ≡ false → (o : Option (ℕ × ℕ)) → held_from 0 m.rows ≡ o → Opens (opening_clean places counter o)
        by_held enough None none is = clean_good sound (grind (arith, nat_tests)) (grind (arith, nat_tests)) none
        by_held enough (Some held) none is = cc

-- ---- every history

module _ {V : Type 0} where
  pub history_good : (x : ℕ → Option V) (first : Store V) → Good x [] first → (calls : List (Call V)) → Good x (history_of first calls).events (history_of first calls).store
  history_good x first g [] = g
  history_good x first g (call ∷ calls) = keeps x (history_of first calls).events (history_of first calls).store (history_good x first g calls) call

  pub opening_serial : (m : Meaning V) (places : List Place) (entries : List (Entry V)) (counter : ℕ) → Sound m →
      (opening m places (length entries) counter).answer ≡ Ok tt → SerialFrom (opened m places entries counter)
  opening_serial m places entries counter sound ok calls =
      let first = opened m places entries counter in
      let good = history_good (λ k. slice_get (values_of m) k) first (opened_good m places entries counter sound ok) calls in
      serial_history (values_of m) (history_of first calls).events (history_of first calls).store good.inv good.orderly

  -- the same, as a caller of the opening has it
  pub opening_made : (m : Meaning V) (places : List Place) (entries : List (Entry V)) (counter : ℕ) (r : Result (Unit {0}) Fault) (after : List Place) (number : ℕ) →
      r ≡ (opening m places (length entries) counter).answer → after ≡ (opening m places (length entries) counter).places → number ≡ (opening m places (length entries) counter).counter →
      IfOk r (λ _. Sound m) → IfOk r (λ _. SerialFrom (store m after entries number))
  opening_made m places entries counter (Ok done) after number is at_places at-counter sound =
      let law = opening_serial m places entries counter sound (sym is) in
      rw (at_places, at-counter) law
  opening_made m places entries counter (Err fault) after number is at_places at-counter sound = tt
