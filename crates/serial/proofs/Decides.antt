-- decide: the transaction of a frozen place goes into the order, and its writes count from its timestamp on.
--   decided_seat s, commit_of number s    the seat that a decide leaves, and the transaction that it adds
--   key_decides                           what then holds of a key: it was not touched, read only, or written
--   keeps_decide                          the invariant after any decide
use Rattle.std.proofs.Common.{◌≡◌, ℕ, zero, suc, ◌+◌, ◌<◌, ◌≤◌, Bool, true, false, cond, eqb, ltb, leb, List, [], ◌∷◌, length, Some, None, Option, sym, refl, ap, ◌∙◌, subst, arith, length-set, ◌-◌}
use Rattle.std.specs.List.{slice_get}
use Rattle.std.proofs.ByRecursion.{All-weaker}
use Rattle.std.proofs.lemmas.Bool.{cond_both}
use Rattle.std.proofs.lemmas.Bool.Decides.{nat_tests}
use Rattle.home.specs.declared.row.Row.{Row}
use Rattle.home.specs.Meaning.{is_place}
use Rattle.coordinator.specs.declared.call.Call.{Call}
use Rattle.coordinator.specs.declared.tables.Place.{Place}
use Rattle.coordinator.specs.declared.tables.Entry.{Entry}
use Rattle.coordinator.specs.Tables.{count_of, cursor_of, used_of}
use Rattle.coordinator.specs.Calls.{Decision, decide_turn, deciding_at, moved_to}
use Rattle.serial.specs.Events.{Event, Store, by_decision, did_decide, stepped}
use Rattle.serial.specs.Transactions.{Transaction, among, deciding_now, insert, is_some, keys_of, last_write, live, pending_write, serial_order, unsettled_write}
use Rattle.serial.proofs.Seats.{by_entered, place_at}
use Rattle.serial.proofs.Keys.{found}
use Rattle.serial.proofs.Run.{Newest, Ordered, Quiet, Sees, AfterSkip, all_insert, along, along_skip, along_unwritten, along_written, ordered, see_insert, quiet_keeps, skip_keeps, quiet_value, sees_skip, sorted_insert, value_upto, write_after, write_before, open_is_last, never_written}
use Rattle.serial.proofs.Invariant.{Busy, HoldOk, Inv, KeyOk, Moves, Seat, Seated, Stake, ahead, bound, seat_of, standing, undecided, void_moves, wrote, won_open, all_moved, won_moved, met, busy_stays}
use Rattle.serial.proofs.Moves.{inv_refused, moved, moved_state}
use Rattle.serial.proofs.Turns.{same_entries}
use Rattle.serial.proofs.Changes.{holds_it, loser_won}

module _ {V : Type 0} where
  abbrev pub decided_seat : Seat V → Seat V
  decided_seat s = record { place = moved_to 4 s.place; sheet = s.sheet; live = deciding_now s.live }

  abbrev pub commit_of : ℕ → Seat V → Transaction V
  commit_of number s = record { ts = s.place.ts; number = number; ops = s.live.ops }

  -- An entry that is found stands somewhere in the sheet.
  found_nth : (k : ℕ) (es : List (Entry V)) (e : Entry V) → found k es ≡ Some e → (i : ℕ) × (slice_get es i ≡ Some e) × (i < length es)
  found_nth k [] e is = cc
  found_nth k (a ∷ es) e is =
      cond_both (eqb a.key k) _ _ (λ o. o ≡ Some e → (i : ℕ) × (slice_get (a ∷ es) i ≡ Some e) × (i < length (a ∷ es)))
      (λ _ at. (zero, at, omega arith)) (λ _ later. let r = found_nth k es e later in (suc r.0, r.1, omega arith)) is

  -- A seat keeps its stake where the run stays as it was up to the end of the lease.
  stake_grows : {k : ℕ} {x : Option V} {row : Row V} {us new : List (Transaction V)} {won after : Option (V × ℕ)} {q : ℕ} {s : Seat V}
      → ((τ : ℕ) → τ ≤ row.rts → value_upto k x τ new ≡ value_upto k x τ us)
      → ((v : V) → unsettled_write k s.live ≡ Some v → after ≡ Some (v, s.place.ts))
      → Stake k x row us won q s → Stake k x row new after q s
  stake_grows same wins old =
      record {
        owner = old.owner;
        seen = λ u e is unwritten.
            let o = old.seen u e is unwritten in
            record { fair = o.fair; begins = o.begins; ends = o.ends; value = λ τ low high. same τ (omega arith) ∙ o.value τ low high; sees = o.sees };
        holds = old.holds;
        wins = wins;
      }

  -- What a frozen place decides on.
  module _ {s : Seat V} (b : Busy s) (frozen : s.place.state ≡ 2) where
    unsettled_yet : s.live.handled ≡ 0
    unsettled_yet = grind (arith, nat_tests)

    not_decided : s.live.decided ≡ false
    not_decided = grind (arith, nat_tests)

    is_undecided : undecided s.place ≡ true
    is_undecided = grind (arith, nat_tests)

  -- ---- a key

  module _ (k : ℕ) (x : Option V) (row : Row V) (us : List (Transaction V)) (seats next : ℕ → Seat V) (won : Option (V × ℕ)) (p number : ℕ)
      (at : is_place p ≡ true) (m : Moves seats next p (decided_seat (seats p))) (b : Busy (seats p))
      (frozen : (seats p).place.state ≡ 2) (done : (seats p).place.used ≤ (seats p).place.cursor)
      (order : Ordered us) (newest : Newest (commit_of number (seats p)) us) (old : KeyOk k x row us seats won) where
    abbrev it : Transaction V
    it = commit_of number (seats p)

    -- What no transaction past the bound does.
    abbrev Skips : Option (V × ℕ) → Transaction V → Type 0
    Skips after t = bound after row < t.ts → among k (keys_of t.ops) ≡ false

    -- The decided place has no lease to keep, and the hold that it had.
    stake_decided : (after : Option (V × ℕ)) → ((v : V) → pending_write k (seats p).live ≡ Some v → after ≡ Some (v, (seats p).place.ts))
        → Stake k x row (insert it us) after p (decided_seat (seats p))
    stake_decided after wins = record { owner = (old.stakes p at).owner; seen = λ u e is unwritten. cc; holds = λ u is. cc; wins = wins }

    -- The key was not written: what stood of it still stands.
    key_left : Quiet k it.ops → pending_write k (seats p).live ≡ None → Sees k (value_upto k x it.ts us) it.ops
        → Skips won it → KeyOk k x row (insert it us) next won
    key_left quiet none sees skips =
        record {
          fair = old.fair;
          stands = λ τ low. quiet_value k x τ it us quiet ∙ old.stands τ low;
          quiet = all_insert (Skips won) it us skips old.quiet;
          sees = see_insert k x it us (quiet_keeps k x it us quiet) order newest old.sees sees;
          above = old.above;
          winner = λ w is. won_moved m k w.0 (λ was. cc ((won_open k (seats p).live w.0 was).1)) (old.winner w is);
          stakes = all_moved m (Stake k x row (insert it us) won) (stake_decided won (λ v is. cc))
              (λ q here _. stake_grows (λ τ _. quiet_value k x τ it us quiet) (old.stakes q here).wins (old.stakes q here));
          holder = old.holder;
        }

    -- The key was not touched.
    key_skipped : among k (keys_of it.ops) ≡ false → KeyOk k x row (insert it us) next won
    key_skipped none =
        key_left (along_skip k it.ops none) (open_is_last k (seats p).live (unsettled_yet b frozen) ∙ never_written k it.ops none) (sees_skip k it.ops none (value_upto k x it.ts us)) (λ _. none)

    -- The key was read only: its lease reaches the timestamp.
    key_read : (e : Entry V) → found k (seats p).sheet ≡ Some e → e.written ≡ false → KeyOk k x row (insert it us) next won
    key_read e is unwritten =
        let none : last_write k it.ops ≡ None = wrote b k e is unwritten in
        let lease = (old.stakes p at).seen (is_undecided b frozen) e is unwritten in
        let stands = lease.value it.ts lease.begins reaches in
        key_left (along_unwritten k it.ops none) (open_is_last k (seats p).live (unsettled_yet b frozen) ∙ none)
        (subst (λ (o : Option V). Sees k o it.ops) (sym stands) lease.sees)
        (λ late. absurd (omega (arith, bounded won old.above, reaches)))
      where
        reaches : it.ts ≤ e.rts
        reaches =
            let r = found_nth k (seats p).sheet e is in
            b.passed frozen r.0 e (omega arith) r.1 unwritten

        bounded : (o : Option (V × ℕ)) → ahead o row → row.rts ≤ bound o row
        bounded None above = omega arith
        bounded (Some w) above = omega arith

    -- The key was written: the row is the place's, and the write stands from its timestamp on.
    key_written : (v : V) → last_write k it.ops ≡ Some v → KeyOk k x row (insert it us) next (Some (v, it.ts))
    key_written v is =
        record {
          fair = old.fair;
          stands = by_time;
          quiet = all_insert (Skips (Some (v, it.ts))) it us (λ late. absurd (omega arith)) skips;
          sees = see_insert k x it us (skip_keeps k x it us skips) order newest old.sees (subst (λ (o : Option V). Sees k o it.ops) (sym stood) hold.sees);
          above = above;
          winner = λ w same. (p, at, ap (λ (s : Seat V). unsettled_write k s.live) m.here ∙ opens ∙ (let pair : (v, it.ts) ≡ w = cc in ap (λ (o : V × ℕ). Some o.0) pair));
          stakes = all_moved m (Stake k x row (insert it us) (Some (v, it.ts)))
              (stake_decided (Some (v, it.ts)) (λ w is'. cc (opens)))
              (λ q here apart.
              stake_grows
              (λ τ low. write_before k x τ it us (omega (arith, above)))
              (λ w is'. absurd (apart (sym (holds_it old q here (ap is_some (won_open k (seats q).live w is').1)) ∙ mine)))
              (old.stakes q here));
          holder = old.holder;
        }
      where
        opens : pending_write k (seats p).live ≡ Some v
        opens = open_is_last k (seats p).live (unsettled_yet b frozen) ∙ is

        mine : row.holder ≡ p
        mine = holds_it old p at (ap is_some opens)

        none : won ≡ None
        none = loser_won old (ap (λ q. (seats q).live.decided) mine ∙ not_decided b frozen)

        hold : HoldOk k row (seats p)
        hold = (old.stakes p at).holds (is_undecided b frozen) (ap is_some opens)

        above : row.rts < it.ts
        above = hold.above

        before_it : (τ : ℕ) → row.wts ≤ τ → value_upto k x τ us ≡ Some row.value
        before_it τ low = old.stands τ low ∙ ap (λ (o : Option (V × ℕ)). Some (standing o row τ)) none

        stood : value_upto k x it.ts us ≡ Some row.value
        stood = before_it it.ts (omega (arith, above, old.fair))

        skips : AfterSkip k it us
        skips =
            All-weaker (Skips won) (Skips (Some (v, it.ts)))
            (λ t h late. h (omega (arith, above, ap (λ (o : Option (V × ℕ)). bound o row) none))) us old.quiet

        by_time : (τ : ℕ) → row.wts ≤ τ → value_upto k x τ (insert it us) ≡ Some (cond (leb it.ts τ) v row.value)
        by_time τ low =
            cond_both (leb it.ts τ) _ _ (λ (o : V). value_upto k x τ (insert it us) ≡ Some o)
            (λ past. write_after k x τ it us skips order newest (grind (arith, nat_tests)) ∙ ap (λ (o : Option V). along k o it.ops) stood ∙ along_written k it.ops v is row.value)
            (λ early. write_before k x τ it us (grind (arith, nat_tests)) ∙ before_it τ low)

    abbrev DecidedKey : Type 0
    DecidedKey = (after : Option (V × ℕ)) × KeyOk k x row (insert it us) next after

    pub key_decides : DecidedKey
    key_decides = by_entry (found k (seats p).sheet) refl
      where
        by_mark : (e : Entry V) → found k (seats p).sheet ≡ Some e → (c : Bool) → e.written ≡ c → DecidedKey
        by_mark e is true mark = (Some (e.value, it.ts), key_written e.value (wrote b k e is mark))
        by_mark e is false mark = (won, key_read e is mark)

        by_entry : (o : Option (Entry V)) → found k (seats p).sheet ≡ o → DecidedKey
        by_entry None is = (won, key_skipped (met b k is))
        by_entry (Some e) is = by_mark e is e.written refl

  -- ---- the whole

  module _ (x : ℕ → Option V) (es : List (Event V)) (st : Store V) (i : Inv x es st) (p : ℕ) where
    abbrev here : Place
    here = place_at st.tables.places p

    abbrev number : ℕ
    number = count_of st.counter + 1

    abbrev event : Event V
    event = did_decide p here.ts number

    abbrev next_state : Store V
    next_state = moved_state st st.tables.home number p (moved_to 4 here) st.tables.entries

    abbrev seat : Seat V
    seat = seat_of st es p

    abbrev next_seats : ℕ → Seat V
    next_seats = seat_of next_state (event ∷ es)

    module _ (at : is_place p ≡ true) (frozen : here.state ≡ 2) (done : used_of here ≤ cursor_of here)
        (more : eqb (count_of st.counter) 999999 ≡ false) where
      busy : Busy seat
      busy = (i.seated p at).busy (grind (arith, nat_tests))

      moves : Moves (seat_of st es) next_seats p (decided_seat seat)
      moves =
          moved st es (event ∷ es) st.tables.home number p (moved_to 4 here) st.tables.entries (deciding_now (live p es)) at i.many
          (same_entries p st.tables.entries)
          (grind (arith, nat_tests)) (λ q apart. grind (arith, nat_tests))

      -- the counter was within its limit, so that its number is above all
      counts : count_of st.counter ≡ st.counter
      counts = omega arith

      newest : Newest (commit_of number seat) (serial_order es)
      newest =
          All-weaker (λ (t : Transaction V). t.number ≤ st.counter) (λ (t : Transaction V). t.number < number)
          (λ t h. omega arith) (serial_order es) i.numbered

      seated_decided : Seated (decided_seat seat)
      seated_decided =
          record {
            free = λ no'. cc;
            busy = λ _. busy_stays busy (moved_to 4 here) true _ refl (omega (arith, busy)) refl (unsettled_yet busy frozen) (λ frozen' j e below is unwritten. absurd (omega arith));
          }

      decided : Inv x (event ∷ es) next_state
      decided =
          record {
            many = omega (arith, length-set st.tables.places (p - 1) (moved_to 4 here));
            long = i.long;
            seated = all_moved moves (λ q. Seated) seated_decided (λ q at _. i.seated q at);
            keys = λ k row is.
                let old = i.keys k row is in
                key_decides k (x k) row (serial_order es) (seat_of st es) next_seats old.0 p number at moves busy frozen
                (omega (arith, busy)) (ordered (serial_order es) i.sorted) newest old.1;
            voids = λ k is.
                let old = i.voids k is in
                let none = old.fresh p at in
                let skips =
                all_insert (λ (t : Transaction V). among k (keys_of t.ops) ≡ false) (commit_of number seat) (serial_order es) none old.skipped in
                void_moves moves none
                (record { none = old.none; skipped = skips; fresh = old.fresh });
            sorted = sorted_insert (commit_of number seat) (serial_order es) i.sorted newest;
            numbered =
                all_insert (λ (t : Transaction V). t.number ≤ number) (commit_of number seat) (serial_order es) (omega arith)
                (All-weaker (λ (t : Transaction V). t.number < number) (λ (t : Transaction V). t.number ≤ number)
                (λ t h. omega arith) (serial_order es) newest);
            limit = (let d : (count_of st.counter ≡ 999999 → ⊥) = grind (arith, nat_tests) in omega arith);
            holds = i.holds;
          }

    pub keeps_decide : Inv x ((stepped st (Call.Decide p)).event ∷ es) (stepped st (Call.Decide p)).store
    unfolding stepped decide_turn
    keeps_decide =
        by_entered 6 st.tables.places (length st.tables.entries) p 0 (λ r. Kept (deciding_at st.tables.places st.counter p r))
        (λ fault _. inv_refused x es st (Call.Decide p) fault i)
        (λ en. cond_both (ltb (cursor_of here) (used_of here)) _ _ Kept (λ left. inv_refused x es st (Call.Decide p) _ i)
        (λ none. cond_both (eqb (count_of st.counter) 999999) _ _ Kept (λ full. inv_refused x es st (Call.Decide p) _ i)
        (decided en.place (grind (arith, nat_tests)) (grind (arith, nat_tests)))))
      where
        Kept : Decision (ℕ × ℕ) → Type 0
        Kept d = Inv x ((by_decision st (Call.Decide p) (λ commit. did_decide p commit.0 commit.1) d).event ∷ es) (by_decision st (Call.Decide p) (λ commit. did_decide p commit.0 commit.1) d).store
