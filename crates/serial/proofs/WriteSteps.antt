-- write: of a key already written, of one that was read, and of a new one.
use Rattle.std.proofs.Common.{◌≡◌, ℕ, ◌+◌, ◌<◌, ◌≤◌, min, max, true, false, eqb, List, ◌∷◌, length, Some, None, Ok, Option, sym, refl, ap, ◌∙◌, subst, inr, arith, length-set}
use Rattle.std.specs.List.{slice_get, AllByRecursion as All}
use Rattle.std.proofs.lemmas.Bool.Decides.{nat_tests}
use Rattle.home.specs.declared.row.Row.{Row}
use Rattle.home.specs.declared.row.Change.TheVariants.{Hold}
use Rattle.home.specs.Rows.{grants, hold_row}
use Rattle.home.specs.Meaning.{changed, is_place}
use Rattle.home.proofs.Laws.{granted as granted-change, looked_at}
use Rattle.coordinator.specs.declared.call.Call.{Call}
use Rattle.coordinator.specs.declared.tables.Place.{Place}
use Rattle.coordinator.specs.declared.tables.Entry.{Entry}
use Rattle.coordinator.specs.Tables.{put_entry, sheet, sought, used_of, base_of}
use Rattle.coordinator.specs.Calls.{Did, holding, moved_on, write_call, writing}
use Rattle.serial.specs.Events.{Event, Store, by_did, did_write, stepped}
use Rattle.serial.specs.Transactions.{Live, Op, Transaction, among, doing, is_none, is_some, keys_of, last_write, live, noted, one_if, pending_write, serial_order, when, unsettled_write, writes}
use Rattle.serial.proofs.Run.{Sees, among_noted, never_written, sees_skip, open_is_last}
use Rattle.serial.proofs.Seats.{place_at, place_range, sheet_other}
use Rattle.serial.proofs.Keys.{found, sought_found, sought_none}
use Rattle.serial.proofs.Invariant.{Alike, Busy, Inv, KeyOk, Seat, by_place, seat_of, standing, write_of, won_open, met, wrote, KeyIn, StakeIn, all_moved, Moves, bound}
use Rattle.serial.proofs.Moves.{Kept, entry_kept, inv_moves, inv_refused, moved, moved_state, seat_in, stakes_but}
use Rattle.serial.proofs.Turns.{inv_lost}
use Rattle.serial.proofs.Changes.{free_won, holds_none, inv_changes, with_row, lease_kept, stake_absent}
use Rattle.serial.proofs.Rules.{write_cases}
use Rattle.serial.proofs.ReadSteps.{Grown, pushed, stored, is_busy, known_keys, no_win, none_handled, not_decided, same_state}

-- A key is among the others as before, once one more is noted.
among_other : (j k : ℕ) (ks : List ℕ) → (j ≡ k → ⊥) → among j (noted k ks) ≡ among j ks
among_other j k ks apart = grind (arith, nat_tests, among_noted j k ks)

module _ {V : Type 0} where
  -- ---- what a granted hold says

  pub hold_granted : (last p : ℕ) (row new : Row V) → hold_row last p row ≡ grants new → (row.holder ≡ 0) × (new ≡ record { value = row.value; wts = row.wts; rts = row.rts; holder = p })
  hold_granted last p row new is = grind (arith, nat_tests)

  -- ---- writes of one key, for another

  open_other : (j k : ℕ) (v : V) (l : Live V) → l.handled ≡ 0 → (j ≡ k → ⊥) → pending_write j (doing (writes k v) l) ≡ pending_write j l
  open_other j k v l none apart = grind (arith, nat_tests, open_is_last j (doing (writes k v) l) none, open_is_last j l none)

  open_here : (k : ℕ) (v : V) (l : Live V) → l.handled ≡ 0 → pending_write k (doing (writes k v) l) ≡ Some v
  open_here k v l none = grind (arith, nat_tests, open_is_last k (doing (writes k v) l) none)

  -- ---- an open place

  module _ (x : ℕ → Option V) (es : List (Event V)) (st : Store V) (p : ℕ) (i : Inv x es st) (at : is_place p ≡ true) (open' : (place_at st.tables.places p).state ≡ 1) where
    abbrev here : Place
    here = place_at st.tables.places p

    abbrev now_seat : Seat V
    now_seat = seat_of st es p

    busy : Busy now_seat
    busy = is_busy x es st p i at open'

    unhandled : (live p es).handled ≡ 0
    unhandled = none_handled x es st p i at open'

    undone : (live p es).decided ≡ false
    undone = not_decided x es st p i at open'

    -- An undecided transaction has won nothing.
    never_won : (k : ℕ) (v v' : V) → unsettled_write k (doing (writes k v) (live p es)) ≡ Some v' → ⊥
    never_won k v v' is = grind (arith, nat_tests, (won_open k (doing (writes k v) (live p es)) v' is).0)

    -- The place stays busy, where the sheet has the write.
    busy_wrote : (k : ℕ) (v : V) (pl : Place) (sh : List (Entry V)) (e : Entry V) → pl.state ≡ 1 → pl.used ≤ 16 → pl.cursor ≤ pl.used → write_of e ≡ Some v
        → Grown k now_seat sh e pl.used → Busy (record { place = pl; sheet = sh; live = doing (writes k v) (live p es) })
    busy_wrote k v pl sh e is_open few within is-v g =
        record {
          few = few;
          within = within;
          sized = g.sized;
          keys = g.keys;
          writes = λ j f is.
              by_place (λ m. found m sh ≡ Some f → last_write m (writes k v ∷ (live p es).ops) ≡ write_of f) k j
              (λ is. let same : e ≡ f = cc in grind (arith, nat_tests, ap write_of same))
              (λ apart is. grind (arith, nat_tests, busy.writes j f (sym (g.others j apart) ∙ is))) is;
          decided = grind (arith, nat_tests, undone);
          handled = grind (arith, nat_tests, unhandled);
          passed = λ frozen j f below is no'. absurd (omega arith);
        }

    -- ---- the first write of a key: the row is held

    module _ (k : ℕ) (v : V) (row : Row V) (at' used' : ℕ) where
      abbrev held_row : Row V
      held_row = record { value = row.value; wts = row.wts; rts = row.rts; holder = p }

      abbrev entry : Entry V
      entry = record { key = k; wts = row.wts; rts = row.rts; value = v; written = true }

      abbrev place' : Place
      place' = record { state = here.state; ts = max here.ts (row.rts + 1); used = used'; cursor = here.cursor }

      abbrev entries' : List (Entry V)
      entries' = put_entry st.tables.entries p at' entry

      abbrev writer : Live V
      writer = doing (writes k v) (live p es)

      abbrev new_seat : Seat V
      new_seat = seat_in p place' entries' writer

      -- The entry stands in the sheet under its key, and what was read before is the row's value.
      pub record Taken : Type 0 where
        pub room : at' < 16
        pub few : used' ≤ 16
        pub within : here.cursor ≤ used'
        pub grown : Grown k now_seat new_seat.sheet entry used'
        pub unwritten : last_write k (live p es).ops ≡ None
        pub sees : (won : Option (V × ℕ)) → KeyIn x es st k row won → Sees k (Some row.value) (live p es).ops

      module _ (t : Taken) (free : row.holder ≡ 0) (is : slice_get st.tables.home.rows k ≡ Some row) where
        stake_here : (won : Option (V × ℕ)) → KeyIn x es st k row won → StakeIn x es k held_row None p new_seat
        stake_here won ok =
            record {
              owner = (let yes' : eqb p p ≡ true = grind (arith, nat_tests) in yes' ∙ ap is_some (sym (open_here k v (live p es) unhandled)));
              seen = λ u e is no'. absurd (cc (t.grown.first));
              holds = λ u is. record { above = omega arith; sees = t.sees won ok };
              wins = λ v' is. absurd (never_won k v v' is);
            }

        stake_there : (won : Option (V × ℕ)) → KeyIn x es st k row won → (q : ℕ) → is_place q ≡ true → (q ≡ p → ⊥) → StakeIn x es k held_row None q (seat_of st es q)
        stake_there won ok q at_q apart =
            let r = place_range q at_q in
            stake_absent (holds_none ok q at_q (λ same. omega arith)) (grind (arith, nat_tests)) (λ u e is no'. lease_kept ((ok.stakes q at_q).seen u e is no') (omega arith))

        abbrev after : Store V
        after = moved_state st (with_row st.tables.home k held_row) st.counter p place' entries'

        abbrev event : Event V
        event = did_write p k v (max here.ts (row.rts + 1))

        moves : Moves (seat_of st es) (seat_of after (event ∷ es)) p new_seat
        moves =
            moved st es (event ∷ es) (with_row st.tables.home k held_row) st.counter p place' entries' writer at i.many
            (λ q n is' apart few. sheet_other p q at' n st.tables.entries entry at is' apart t.room few) (grind (arith, nat_tests)) (λ q apart. grind (arith, nat_tests))

        key_held : (won : Option (V × ℕ)) → KeyIn x es st k row won → KeyOk k (x k) held_row (serial_order es) (seat_of after (event ∷ es)) None
        key_held won ok =
            let none = free_won ok free in
            record {
              fair = ok.fair;
              stands = λ τ from. ok.stands τ from ∙ ap (λ (w : Option (V × ℕ)). Some (standing w row τ)) none;
              quiet = subst (λ (w : Option (V × ℕ)). All (λ (u : Transaction V). bound w row < u.ts → among k (keys_of u.ops) ≡ false) (serial_order es)) none ok.quiet;
              sees = ok.sees;
              above = tt;
              winner = λ w is. cc;
              holder = inr at;
              stakes = all_moved moves (StakeIn x es k held_row None) (stake_here won ok) (stake_there won ok);
            }

        pub write_held : Inv x (event ∷ es) after
        write_held =
            inv_changes x es st event p place' entries' writer k row held_row i at
            (record {
              order = refl;
              count =
                  (let r = place_range p at in
                  let one = ap (λ (o : Option V). one_if (is_none o)) t.unwritten in
                  grind (arith, nat_tests));
              long = length-set st.tables.entries (base_of p + at') entry;
              was = is;
              moves = moves;
              seated = record { free = λ no'. grind (arith, nat_tests); busy = λ _. busy_wrote k v place' new_seat.sheet entry open' t.few t.within refl t.grown };
              key = λ won ok. (None, key_held won ok);
              others = λ j apart. record {
                write = open_other j k v (live p es) unhandled apart;
                decided = refl;
                undecided = λ u. u;
                entry = t.grown.others j apart;
                later = omega arith;
                same = λ d. absurd (grind (arith, nat_tests));
                sees = λ y s. s;
              };
              fresh = λ j apart. among_other j k (keys_of (live p es).ops) apart;
            })

    -- ---- a new key

    module _ (k : ℕ) (v : V) (row : Row V) (unknown : found k now_seat.sheet ≡ None) (room : used_of here < 16) where
      not_among : among k (keys_of (live p es).ops) ≡ false
      not_among = met busy k unknown

      pub taken_new : Taken k v row (used_of here) (used_of here + 1)
      taken_new =
          record {
            room = room;
            few = omega arith;
            within = omega (arith, busy);
            grown = pushed x es st p i at open' (min (used_of here + 1) 16) (record { key = k; wts = row.wts; rts = row.rts; value = v; written = true }) (omega arith) unknown room;
            unwritten = never_written k (live p es).ops not_among;
            sees = λ won ok. sees_skip k (live p es).ops not_among (Some row.value);
          }

    -- ---- a key in the sheet

    module _ (k : ℕ) (v : V) (n : ℕ) (e : Entry V) (where' : sought k 0 now_seat.sheet ≡ Some (n, e)) where
      abbrev at_key : (slice_get now_seat.sheet n ≡ Some e) × (e.key ≡ k) × (found k now_seat.sheet ≡ Some e) × (n < length now_seat.sheet)
      at_key = sought_found k now_seat.sheet n e where'

      -- the entry at its place in the sheet, under the same key
      module _ (new : Entry V) (same : new.key ≡ e.key) where
        changed_sheet : Grown k now_seat (sheet p (used_of here) (put_entry st.tables.entries p n new)) new here.used
        changed_sheet = stored x es st p i at open' n e new at_key.0 (subst (λ j. found j now_seat.sheet ≡ Some e) (sym at_key.1) at_key.2) same k at_key.1

      room_known : n < 16
      room_known = omega (arith, busy, at_key)

      -- ---- one that was read: the version still stands

      pub taken_read : (row : Row V) → e.written ≡ false → row.holder ≡ 0 → row.wts ≡ e.wts → Taken k v row n here.used
      taken_read row read free stands =
          record {
            room = room_known;
            few = busy.few;
            within = busy.within;
            grown = changed_sheet new (sym at_key.1);
            unwritten = wrote busy k e at_key.2 read;
            sees = λ won ok. saw won ok;
          }
        where
          new : Entry V
          new = record { key = k; wts = row.wts; rts = row.rts; value = v; written = true }

          saw : (won : Option (V × ℕ)) → KeyIn x es st k row won → Sees k (Some row.value) (live p es).ops
          saw won ok =
              let l = (ok.stakes p at).seen (grind (arith, nat_tests)) e at_key.2 read in
              let old = l.value e.wts (omega arith) (omega arith) in
              let now' = ok.stands e.wts (omega arith) ∙ ap (λ (w : Option (V × ℕ)). Some (standing w row e.wts)) (free_won ok free) in
              let same : e.value ≡ row.value = cc in
              subst (λ (y : V). Sees k (Some y) (live p es).ops) same l.sees

      -- ---- one that was written: the entry takes the value

      module _ (written : e.written ≡ true) where
        abbrev rewritten : Entry V
        rewritten = record { key = e.key; wts = e.wts; rts = e.rts; value = v; written = true }

        abbrev again : Live V
        again = doing (writes k v) (live p es)

        abbrev again_entries : List (Entry V)
        again_entries = put_entry st.tables.entries p n rewritten

        abbrev again_seat : Seat V
        again_seat = seat_in p here again_entries again

        last_known : last_write k (live p es).ops ≡ Some e.value
        last_known = wrote busy k e at_key.2 written

        grown_again : Grown k now_seat again_seat.sheet rewritten here.used
        grown_again = changed_sheet rewritten refl

        stake_again : (row : Row V) (won : Option (V × ℕ)) → StakeIn x es k row won p now_seat → StakeIn x es k row won p again_seat
        stake_again row won old =
            let was : is_some (pending_write k (live p es)) ≡ true = ap is_some (open_is_last k (live p es) unhandled ∙ last_known) in
            record {
              owner = old.owner ∙ was ∙ ap is_some (sym (open_here k v (live p es) unhandled));
              seen = λ u f is no'. absurd (cc (grown_again.first));
              holds = λ u is. let o = old.holds u was in record { above = o.above; sees = o.sees };
              wins = λ v' is. absurd (never_won k v v' is);
            }

        alike_again : (j : ℕ) → (j ≡ k → ⊥) → Alike j now_seat again_seat
        alike_again j apart =
            record { write = open_other j k v (live p es) unhandled apart; decided = refl; undecided = λ u. u; entry = grown_again.others j apart; later = omega arith; same = λ _. refl; sees = λ y s. s }

        pub write_again : Inv x (did_write p k v here.ts ∷ es) (record { tables = record { home = st.tables.home; places = st.tables.places; entries = again_entries }; counter = st.counter })
        write_again =
            subst (λ ps. Inv x (did_write p k v here.ts ∷ es) (record { tables = record { home = st.tables.home; places = ps; entries = again_entries }; counter = st.counter })) (ap (λ (s : Store V). s.tables.places) (same_state st p))
            (inv_moves x es st (did_write p k v here.ts) p here again_entries again i
            (record { order = refl; grants = ap (λ (o : Option V). one_if (is_none o) + Rattle.serial.specs.Transactions.granted es) last_known ∙ (omega arith); put = refl; freed = refl })
            at (length-set st.tables.entries (base_of p + n) rewritten)
            (λ q m is' apart few. sheet_other p q n m st.tables.entries rewritten at is' apart room_known few)
            (grind (arith, nat_tests)) (λ q apart. grind (arith, nat_tests))
            (record {
              seated = record { free = λ no'. grind (arith, nat_tests); busy = λ _. busy_wrote k v here again_seat.sheet rewritten open' busy.few busy.within refl grown_again };
              stakes = stakes_but x es st at k (λ row won _ ok. stake_again row won (ok.stakes p at)) alike_again;
              wins = λ j. ap (λ b. when b (pending_write j again)) undone ∙ sym (no_win x es st p i at open' j);
              fresh = λ j is was. ap (among j) (known_keys k (keys_of (live p es).ops) (met busy k at_key.2)) ∙ was;
            }))

  -- ---- the whole call

  -- A row that is free and has not moved on has the version that was read.
  still_stands : (wts : ℕ) (row : Row V) → row.holder ≡ 0 → moved_on wts (Ok row) ≡ None → row.wts ≡ wts
  still_stands wts row free is = grind (arith, nat_tests)

  module _ (x : ℕ → Option V) (es : List (Event V)) (st : Store V) (i : Inv x es st) (p k : ℕ) (v : V) where
    abbrev WriteKept : Did V ℕ → Type 0
    WriteKept d = Kept x es (by_did st (Call.Write p k v) (λ ts. did_write p k v ts) d)

    module _ (at : is_place p ≡ true) (open' : (place_at st.tables.places p).state ≡ 1) where
      abbrev pl : Place
      pl = place_at st.tables.places p

      -- a granted hold, where the entry that it writes has its place
      by_hold : (n used : ℕ) (new : Row V) → ((row : Row V) → slice_get st.tables.home.rows k ≡ Some row → row.holder ≡ 0 → Taken x es st p i at open' k v row n used)
          → changed st.tables.home k (Hold p) ≡ grants new → WriteKept (holding st.tables p k v pl n used (grants new))
      by_hold n used new taken is =
          let g = granted-change st.tables.home k (Hold p) new is in
          let h = hold_granted st.tables.home.last p g.0 new g.2 in
          subst (λ (o : Row V). WriteKept (holding st.tables p k v pl n used (grants o))) (sym h.1) (write_held x es st p i at open' k v g.0 n used (taken g.0 g.1 h.0) h.0 g.1)

      by_cases : WriteKept (writing st.tables p k v pl (sought k 0 (seat_of st es p).sheet))
      by_cases =
          write_cases st.tables p pl k v WriteKept (λ fault _. inv_refused x es st (Call.Write p k v) fault i)
          (λ fault. inv_lost x es st p i at (Call.Write p k v) fault (grind (arith, nat_tests)))
          (write_again x es st p i at open' k v)
          (λ n e new is read stood. by_hold n pl.used new
          (λ row row_is free. taken_read x es st p i at open' k v n e is row read free (still_stands e.wts row free (ap (moved_on e.wts) (sym (looked_at st.tables.home k row row_is)) ∙ stood))))
          (λ new none room. by_hold (used_of pl) (used_of pl + 1) new
          (λ row row_is free. taken_new x es st p i at open' k v row (sought_none k 0 (seat_of st es p).sheet none) room))

    pub keeps_write : Inv x ((stepped st (Call.Write p k v)).event ∷ es) (stepped st (Call.Write p k v)).store
    unfolding stepped write_call
    keeps_write = entry_kept x es st i (Call.Write p k v) (λ ts. did_write p k v ts) 3 p k _ (λ en. by_cases en.place (grind (arith, nat_tests)))
