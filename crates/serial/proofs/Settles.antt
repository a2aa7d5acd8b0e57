-- settle: the next key of a place that has won or lost is handled, or the place becomes free.
use Rattle.std.proofs.Common.{◌≡◌, ℕ, ◌<◌, ◌≤◌, Bool, true, false, cond, ◌&&◌, eqb, leb, List, ◌∷◌, Some, None, Option, sym, refl, ap, ◌∙◌, subst, inl, arith}
use Rattle.std.specs.List.{slice_get, AllByRecursion as All}
use Rattle.std.proofs.lemmas.Option.{slice_get_within}
use Rattle.std.proofs.lemmas.Bool.{cond_both}
use Rattle.std.proofs.lemmas.Bool.Decides.{nat_tests}
use Rattle.home.specs.declared.row.Row.{Row}
use Rattle.home.specs.Rows.{grants, amended, free_row, put_row}
use Rattle.home.specs.Meaning.{Meaning, is_place}
use Rattle.home.proofs.Laws.{granted}
use Rattle.coordinator.specs.declared.call.Call.{Call}
use Rattle.coordinator.specs.declared.tables.Place.{Place}
use Rattle.coordinator.specs.declared.tables.Entry.{Entry}
use Rattle.coordinator.specs.Tables.{at_cursor, cursor_of, sheet, used_of}
use Rattle.coordinator.specs.Calls.{ending, freed, left_after, onward, settle_call}
use Rattle.serial.specs.Events.{Event, Store, by_did, did_settle, stepped}
use Rattle.serial.specs.Transactions.{Live, Transaction, among, nothing_done, is_some, keys_of, last_write, live, next_write, one_if, pending_write, serial_order, settling_now, when, unsettled_write, write_at}
use Rattle.serial.proofs.Run.{value_upto}
use Rattle.serial.proofs.Seats.{place_at, place_range}
use Rattle.serial.proofs.Keys.{among_drop, among_here, apart_past, drop_none, keys_apart, nth_found, nth_keyed, nth_keyed_none}
use Rattle.serial.proofs.Invariant.{Busy, Inv, KeyOk, Moves, Seat, Seated, Stake, bound, by_place, seat_of, standing, undecided, all_moved, its_apart, wrote, KeyIn, busy_stays}
use Rattle.serial.proofs.Moves.{Kept, alike_ok, entry_kept, inv_moves, inv_refused, moved, moved_state, seat_in}
use Rattle.serial.proofs.Changes.{holds_none, inv_changes, loser_won, with_row, lease_kept, stake_absent}
use Rattle.serial.proofs.Rules.{settle_cases}
use Rattle.serial.proofs.Turns.{same_entries}

module _ {V : Type 0} where
  -- ---- the rows that put and free leave

  -- A put is granted to the holder, past the lease.
  put_granted : (last p : ℕ) (v : V) (t : ℕ) (row new : Row V) → put_row last p v t row ≡ grants new
      → (row.holder ≡ p) × (row.rts < t) × (new ≡ record { value = v; wts = t; rts = t; holder = 0 })
  put_granted last p v t row new is = grind (arith, nat_tests)

  free_granted : (p : ℕ) (row new : Row V) → free_row p row ≡ grants new
      → (row.holder ≡ p) × (new ≡ record { value = row.value; wts = row.wts; rts = row.rts; holder = 0 })
  free_granted p row new is = grind (arith, nat_tests)

  -- ---- a transaction whose next key is handled

  module _ (l : Live V) (k : ℕ) (next : slice_get (keys_of l.ops) l.handled ≡ Some k) where
    open_here : pending_write k l ≡ last_write k l.ops
    open_here = ap (λ b. when b (last_write k l.ops)) (among_here (keys_of l.ops) l.handled k next)

    open_past : pending_write k (settling_now false l) ≡ None
    open_past = ap (λ b. when b (last_write k l.ops)) (apart_past (keys_of l.ops) l.handled k (keys_apart l.ops) next)

    open_other : (j : ℕ) → (j ≡ k → ⊥) → pending_write j (settling_now false l) ≡ pending_write j l
    open_other j apart = ap (λ b. when b (last_write j l.ops)) (sym (among_drop (keys_of l.ops) l.handled k j next apart))

    next_is : next_write l ≡ last_write k l.ops
    next_is = ap (λ o. write_at o l.ops) next

    -- A key that was only read was not open.
    open_read : last_write k l.ops ≡ None → (j : ℕ) → pending_write j (settling_now false l) ≡ pending_write j l
    open_read none j = by_place (λ j. pending_write j (settling_now false l) ≡ pending_write j l) k j (open_past ∙ sym (open_here ∙ none)) (open_other j)

  -- ---- one row is let go

  -- What is owed for the row that a holder leaves.
  record Released (k : ℕ) (x : Option V) (row new : Row V) (us : List (Transaction V)) (p : ℕ) : Type 0 where
    mine : row.holder ≡ p
    free : new.holder ≡ 0
    later : row.rts ≤ new.rts
    fair : new.wts ≤ new.rts
    stands : (τ : ℕ) → new.wts ≤ τ → value_upto k x τ us ≡ Some new.value
    quiet : All (λ (t : Transaction V). new.rts < t.ts → among k (keys_of t.ops) ≡ false) us

  module _ {k : ℕ} {x : Option V} {row : Row V} {us : List (Transaction V)} {seats : ℕ → Seat V} {won : Option (V × ℕ)} (p : ℕ) (old : KeyOk k x row us seats won) where
    -- The write that won stands in the row as it stood before.
    put_released : (v : V) (t : ℕ) → won ≡ Some (v, t) → row.holder ≡ p → row.rts < t → Released k x row (record { value = v; wts = t; rts = t; holder = 0 }) us p
    put_released v t wins mine above =
        record {
          mine = mine;
          free = refl;
          later = omega arith;
          fair = omega arith;
          stands = λ τ from.
              let past : leb t τ ≡ true = grind (arith, nat_tests) in
              old.stands τ (omega arith) ∙ ap (λ w. Some (standing w row τ)) wins ∙ ap (λ b. Some (cond b v row.value)) past;
          quiet = subst (λ w. All (λ (u : Transaction V). bound w row < u.ts → among k (keys_of u.ops) ≡ false) us) wins old.quiet;
        }

    free_released : won ≡ None → row.holder ≡ p → Released k x row (record { value = row.value; wts = row.wts; rts = row.rts; holder = 0 }) us p
    free_released none mine =
        record {
          mine = mine;
          free = refl;
          later = omega arith;
          fair = old.fair;
          stands = λ τ from. old.stands τ from ∙ ap (λ w. Some (standing w row τ)) none;
          quiet = subst (λ w. All (λ (u : Transaction V). bound w row < u.ts → among k (keys_of u.ops) ≡ false) us) none old.quiet;
        }

  module _ {k : ℕ} {x : Option V} {row new : Row V} {us : List (Transaction V)} {seats next : ℕ → Seat V} {won : Option (V × ℕ)} {p : ℕ} {n : Seat V} where
    -- Where the holder has settled the key, nobody holds it and nobody has won it.
    key_released : is_place p ≡ true → Moves seats next p n → KeyOk k x row us seats won → Released k x row new us p
        → pending_write k n.live ≡ None → undecided n.place ≡ false → KeyOk k x new us next None
    key_released at m old r closed done =
        record {
          fair = r.fair;
          stands = r.stands;
          quiet = r.quiet;
          sees = old.sees;
          above = tt;
          winner = λ w is. cc;
          stakes = all_moved m (Stake k x new us None) here there;
          holder = inl r.free;
        }
      where
        nobody : (q : ℕ) → is_place q ≡ true → eqb new.holder q ≡ false
        nobody q is = grind (arith, nat_tests, place_range q is)

        here : Stake k x new us None p n
        here = stake_absent (ap is_some closed) (nobody p at) (λ u e is unwritten. cc)

        there : (q : ℕ) → is_place q ≡ true → (q ≡ p → ⊥) → Stake k x new us None q (seats q)
        there q is apart =
            stake_absent (holds_none old q is (λ same. apart (sym same ∙ r.mine))) (nobody q is)
            (λ u e is' unwritten. lease_kept ((old.stakes q is).seen u e is' unwritten) r.later)

  -- ---- the place

  module _ (x : ℕ → Option V) (es : List (Event V)) (st : Store V) (p : ℕ) (i : Inv x es st) (at : is_place p ≡ true) where
    abbrev here : Place
    here = place_at st.tables.places p

    abbrev entries : List (Entry V)
    entries = st.tables.entries

    abbrev now : Live V
    now = live p es

    module _ (ending_state : leb 3 here.state && leb here.state 4 ≡ true) where
      busy : Busy (seat_of st es p)
      busy = (i.seated p at).busy (grind (arith, nat_tests))

      stored : cursor_of here ≡ here.cursor
      stored = omega (arith, busy)

      handled_is : now.handled ≡ cursor_of here
      handled_is = grind (arith, nat_tests, busy, stored)

      -- ---- nothing is left: the place becomes free

      closed : at_cursor entries p here ≡ None → (k : ℕ) → pending_write k now ≡ None
      closed is k =
          let none = nth_keyed_none (sheet p (used_of here) entries) (cursor_of here) is in
          let last : slice_get (keys_of now.ops) now.handled ≡ None = ap (slice_get (keys_of now.ops)) handled_is ∙ ap (λ ks. slice_get ks (cursor_of here)) (sym busy.keys) ∙ none in
          ap (λ b. when b (last_write k now.ops)) (drop_none (keys_of now.ops) now.handled k last)

      not_won : at_cursor entries p here ≡ None → (k : ℕ) → unsettled_write k now ≡ None
      not_won is k = go now.decided
        where
          go : (b : Bool) → when b (pending_write k now) ≡ None
          go true = closed is k
          go false = refl

      inv_freed : at_cursor entries p here ≡ None → Inv x (did_settle p 0 true ∷ es) (moved_state st st.tables.home st.counter p (freed here) entries)
      inv_freed is =
          inv_moves x es st (did_settle p 0 true) p (freed here) entries nothing_done i
          (record { order = refl; grants = refl; put = grind (arith, nat_tests); freed = grind (arith, nat_tests) }) at refl
          (same_entries p entries) (grind (arith, nat_tests)) (λ q apart. grind (arith, nat_tests))
          (record {
            seated = record { free = λ _. refl; busy = λ yes'. cc };
            stakes = λ k row won is' ok. record {
              owner = (ok.stakes p at).owner ∙ ap (λ (a : Option V). is_some a) (closed is k);
              seen = λ u e is'' unwritten. cc;
              holds = λ u is''. cc;
              wins = λ v is''. cc;
            };
            wins = λ k. sym (not_won is k);
            fresh = λ k is' was. refl;
          })

      -- ---- an entry is left

      module _ (e : Entry V) (is : at_cursor entries p here ≡ Some e) where
        abbrev then_live : Live V
        then_live = settling_now false now

        abbrev event : Event V
        event = did_settle p (left_after here) false

        next_key : slice_get (keys_of now.ops) now.handled ≡ Some e.key
        next_key =
            ap (slice_get (keys_of now.ops)) handled_is ∙ ap (λ ks. slice_get ks (cursor_of here)) (sym busy.keys)
            ∙ nth_keyed (sheet p (used_of here) entries) (cursor_of here) e is

        its_write : {c : Bool} → e.written ≡ c → last_write e.key now.ops ≡ cond c (Some e.value) None
        its_write mark = wrote busy e.key e (nth_found (sheet p (used_of here) entries) (cursor_of here) e (its_apart busy) is) mark

        seated_onward : Seated (seat_in p (onward here) entries then_live)
        seated_onward = record {
          free = λ no'. grind (arith, nat_tests);
          busy = λ _.
              let b = busy in
              let low = slice_get_within (sheet p (used_of here) entries) (cursor_of here) e is in
              busy_stays b (onward here) _ _ refl (omega arith) b.decided (grind (arith, nat_tests)) (λ frozen j e' below is' unwritten. grind (arith, nat_tests));
        }

        onward_moves : (home : Meaning V) → Moves (seat_of st es) (seat_of (moved_state st home st.counter p (onward here) entries) (event ∷ es)) p (seat_in p (onward here) entries then_live)
        onward_moves home =
            moved st es (event ∷ es) home st.counter p (onward here) entries then_live at i.many (same_entries p entries)
            (grind (arith, nat_tests)) (λ q apart. grind (arith, nat_tests))

        -- A key that was only read: nothing but the cursor.
        inv_read : e.written ≡ false → Inv x (event ∷ es) (moved_state st st.tables.home st.counter p (onward here) entries)
        inv_read unwritten =
            let write : last_write e.key now.ops ≡ None = its_write unwritten in
            let none = ap (λ (a : Option V). one_if (is_some a)) (next_is now e.key next_key ∙ write) in
            inv_moves x es st event p (onward here) entries then_live i
            (record { order = refl; grants = refl; put = grind (arith, nat_tests); freed = grind (arith, nat_tests) }) at refl
            (same_entries p entries) (grind (arith, nat_tests)) (λ q apart. grind (arith, nat_tests))
            (alike_ok at
            (λ k. record { write = open_read now e.key next_key write k; decided = refl; undecided = λ u. u; entry = refl; later = omega arith; same = λ _. refl; sees = λ y h. h })
            (λ k. refl)
            seated_onward)

        -- A key that was written: its row is let go.
        module _ (written : e.written ≡ true) where
          -- All of it holds with this row under the key.
          abbrev After : Row V → Type 0
          After new = Inv x (event ∷ es) (moved_state st (with_row st.tables.home e.key new) st.counter p (onward here) entries)

          module _ (row : Row V) (was : slice_get st.tables.home.rows e.key ≡ Some row) where
            inv_released : (new : Row V) → row.holder ≡ p → new.holder ≡ 0
                → ((won : Option (V × ℕ)) → KeyIn x es st e.key row won → Released e.key (x e.key) row new (serial_order es) p)
                → After new
            inv_released new mine free owed =
                inv_changes x es st event p (onward here) entries then_live e.key row new i at
                (record {
                  order = refl;
                  count =
                      (let range = place_range p at in
                      let ended = ap (λ (a : Option V). one_if (is_some a)) (next_is now e.key next_key ∙ its_write written) in
                      grind (arith, nat_tests));
                  long = refl;
                  was = was;
                  moves = onward_moves (with_row st.tables.home e.key new);
                  seated = seated_onward;
                  key = λ won old. (
                    None,
                    key_released at
                        (onward_moves (with_row st.tables.home e.key new)) old (owed won old)
                        (open_past now e.key next_key) (grind (arith, nat_tests)),
                  );
                  others = λ j apart. record { write = open_other now e.key next_key j apart; decided = refl; undecided = λ u. u; entry = refl; later = omega arith; same = λ _. refl; sees = λ y h. h };
                  fresh = λ j apart. refl;
                })

            inv_put : (new : Row V) → eqb here.state 4 ≡ true → put_row st.tables.home.last p e.value here.ts row ≡ grants new
                → After new
            inv_put new wins is' =
                let g = put_granted st.tables.home.last p e.value here.ts row new is' in
                let write : unsettled_write e.key now ≡ Some e.value =
                ap (λ b. when b (pending_write e.key now)) (busy.decided ∙ wins) ∙ open_here now e.key next_key ∙ its_write written in
                subst After (sym g.2)
                (inv_released _ g.0 refl
                (λ won old. put_released p old e.value here.ts
                ((old.stakes p at).wins e.value write) g.0 g.1))

            inv_free : (new : Row V) → eqb here.state 4 ≡ false → free_row p row ≡ grants new
                → After new
            inv_free new loses is' =
                let g = free_granted p row new is' in
                let undone : (live row.holder es).decided ≡ false = ap (λ q. (live q es).decided) g.0 ∙ busy.decided ∙ loses in
                subst After (sym g.1)
                (inv_released _ g.0 refl
                (λ won old. free_released p old
                (loser_won old undone) g.0))

            -- A winner puts, a loser frees.
            inv_ended : (new : Row V) → amended st.tables.home.last (ending p here e) row ≡ grants new
                → After new
            inv_ended new = cond_both (eqb here.state 4) _ _ (λ change. amended st.tables.home.last change row ≡ grants new → After new) (inv_put new) (inv_free new)

  module _ (x : ℕ → Option V) (es : List (Event V)) (st : Store V) (i : Inv x es st) (p : ℕ) where
    pub keeps_settle : Inv x ((stepped st (Call.Settle p)).event ∷ es) (stepped st (Call.Settle p)).store
    unfolding stepped settle_call
    keeps_settle =
        entry_kept x es st i (Call.Settle p) (λ answer. did_settle p answer.0 answer.1) 7 p 0 _
        (λ en.
        let ends : leb 3 (place_at st.tables.places p).state && leb (place_at st.tables.places p).state 4 ≡ true = grind (arith, nat_tests) in
        settle_cases st.tables p (place_at st.tables.places p) (λ d. Kept x es (by_did st (Call.Settle p) (λ answer. did_settle p answer.0 answer.1) d))
        (λ fault _. inv_refused x es st (Call.Settle p) fault i)
        (inv_freed x es st p i en.place ends)
        (inv_read x es st p i en.place ends)
        (λ e new is written came.
        let g = granted st.tables.home e.key (ending p (place_at st.tables.places p) e) new came in
        inv_ended x es st p i en.place ends e is written g.0 g.1 new g.2))
