-- renew: one entry of a frozen place is passed, and its lease made to reach the transaction's timestamp where it falls short.
use Rattle.std.proofs.Common.{◌≡◌, ℕ, ◌+◌, ◌<◌, ◌≤◌, true, false, ◌||◌, leb, List, ◌∷◌, length, set, Some, None, Option, sym, refl, ap, ◌∙◌, subst, inl, arith, length-set}
use Rattle.std.specs.List.{slice_get}
use Rattle.std.proofs.ByRecursion.{All-weaker}
use Rattle.std.proofs.lemmas.Option.{slice_get_within}
use Rattle.std.proofs.lemmas.Bool.Decides.{nat_tests}
use Rattle.home.specs.declared.row.Row.{Row}
use Rattle.home.specs.Rows.{grants, renew_row}
use Rattle.home.specs.Meaning.{is_place}
use Rattle.home.proofs.Laws.{granted, nth_set_other, nth_set_same}
use Rattle.coordinator.specs.declared.call.Call.{Call}
use Rattle.coordinator.specs.declared.tables.Place.{Place}
use Rattle.coordinator.specs.declared.tables.Entry.{Entry}
use Rattle.coordinator.specs.Tables.{at_cursor, cursor_of, put_entry, sheet, used_of, base_of}
use Rattle.coordinator.specs.Calls.{onward, renew_call}
use Rattle.serial.specs.Events.{Event, Store, by_did, did_renew, stepped}
use Rattle.serial.specs.Transactions.{Transaction, last_write, live, serial_order}
use Rattle.serial.proofs.Run.{value_upto}
use Rattle.serial.proofs.Seats.{place_at, place_range, sheet_other, sheet_set}
use Rattle.serial.proofs.Keys.{found, found_set, keyed, keyed_set, nth_found}
use Rattle.serial.proofs.Invariant.{Busy, Inv, KeyOk, LeaseOk, Moves, Seat, Seated, Stake, by_place, seat_of, undecided, write_of, all_moved, its_apart, KeyIn, StakeIn}
use Rattle.serial.proofs.Moves.{Kept, OnlyAt, alike_ok, entry_kept, inv_moves, inv_refused, moved, moved_state, seat_in}
use Rattle.serial.proofs.Turns.{inv_lost, same_entries}
use Rattle.serial.proofs.Rules.{renew_cases}
use Rattle.serial.proofs.Changes.{free_won, inv_changes, with_row, lease_kept, stake_absent}

module _ {V : Type 0} where
  -- ---- the row

  -- What a granted renewal has found of the row, and left of it.
  record Renewal (wts t : ℕ) (row new : Row V) : Type 0 where
    pub stood : row.wts ≡ wts
    pub free : row.holder ≡ 0
    pub value : new.value ≡ row.value
    pub begins : new.wts ≡ row.wts
    pub longer : row.rts ≤ new.rts
    pub reaches : t ≤ new.rts
    pub holder : new.holder ≡ 0

  renewal : (last wts t wish : ℕ) (row new : Row V) → renew_row last wts t wish row ≡ grants new → Renewal wts t row new
  renewal last wts t wish row new is =
      record {
        stood = grind (arith, nat_tests);
        free = grind (arith, nat_tests);
        value = grind (arith, nat_tests);
        begins = grind (arith, nat_tests);
        longer = grind (arith, nat_tests);
        reaches = grind (arith, nat_tests);
        holder = grind (arith, nat_tests);
      }

  -- ---- a key whose free row has a longer lease

  module _ {k : ℕ} {x : Option V} {row new : Row V} {us : List (Transaction V)} {wts t : ℕ} (r : Renewal wts t row new) where
    -- Nobody holds it, so only what was seen is left to show.
    stake_longer : (q : ℕ) → is_place q ≡ true → (s : Seat V) (pl : Place) (es : List (Entry V)) → Stake k x row us None q s
        → (undecided pl ≡ true → (e : Entry V) → found k es ≡ Some e → e.written ≡ false
        → LeaseOk k x new us (record { place = pl; sheet = es; live = s.live }) e)
        → Stake k x new us None q (record { place = pl; sheet = es; live = s.live })
    stake_longer q at s pl es old seen =
        let g = place_range q at in
        stake_absent (sym old.owner ∙ grind (arith, nat_tests)) (grind (arith, nat_tests)) seen

    key_longer : {seats next : ℕ → Seat V} {p : ℕ} {n : Seat V} → Moves seats next p n → Stake k x new us None p n
        → KeyOk k x row us seats None → KeyOk k x new us next None
    key_longer {seats} m stake old =
        record {
          fair = (let b = r.longer in let c = r.begins in omega arith);
          stands = λ τ low. old.stands τ (omega arith) ∙ ap (λ (v : V). Some v) (sym r.value);
          quiet = All-weaker _ _ (λ t h past. h (omega arith)) us old.quiet;
          sees = old.sees;
          above = tt;
          winner = λ w is. cc;
          stakes = all_moved m (Stake k x new us None) stake (λ q there _.
              let was = old.stakes q there in
              stake_longer q there (seats q) (seats q).place (seats q).sheet was (λ u e is unwritten. lease_kept (was.seen u e is unwritten) r.longer));
          holder = inl r.holder;
        }

  -- ---- a frozen place that passes the entry at its cursor

  module _ (x : ℕ → Option V) (es : List (Event V)) (st : Store V) (p : ℕ) (i : Inv x es st) (at : is_place p ≡ true) where
    abbrev here : Place
    here = place_at st.tables.places p

    abbrev was : List (Entry V)
    was = sheet p (used_of here) st.tables.entries

    abbrev onward_seat : List (Entry V) → Seat V
    onward_seat sh = record { place = onward here; sheet = sh; live = live p es }

    busy : here.state ≡ 2 → Busy (seat_of st es p)
    busy frozen = (i.seated p at).busy (grind (arith, nat_tests))

    -- stored numbers lie within their limits
    limits : here.state ≡ 2 → (e : Entry V) → at_cursor st.tables.entries p here ≡ Some e
        → (cursor_of here ≡ here.cursor) × (cursor_of here < used_of here) × (used_of here ≤ 16) × (used_of here ≡ here.used)
    limits frozen e is =
        let b = busy frozen in
        let d = slice_get_within was (cursor_of here) e is in
        (omega arith, omega arith, omega arith, omega arith)

    -- The sheet may have the entry at the cursor anew, under the same key.
    seated_onward : here.state ≡ 2 → (sh : List (Entry V)) (e : Entry V) → cursor_of here ≡ here.cursor → here.cursor < here.used
        → slice_get sh (cursor_of here) ≡ Some e
        → (e.written ≡ false → here.ts ≤ e.rts) → length sh ≡ length was → keyed sh ≡ keyed was
        → ((j : ℕ) → (j ≡ cursor_of here → ⊥) → slice_get sh j ≡ slice_get was j)
        → ((k : ℕ) (f : Entry V) → found k sh ≡ Some f → last_write k (live p es).ops ≡ write_of f)
        → Seated (onward_seat sh)
    seated_onward frozen sh e limited low is reaches sized keys others writes =
        let b = busy frozen in
        record {
          free = λ no'. grind (arith, nat_tests);
          busy = λ _. record {
            few = b.few;
            within = omega arith;
            sized = sized ∙ b.sized;
            keys = keys ∙ b.keys;
            writes = writes;
            decided = b.decided;
            handled = grind (arith, nat_tests);
            passed = λ _ j f below is' unwritten.
                by_place (λ m. m < cursor_of here + 1 → slice_get sh m ≡ Some f → here.ts ≤ f.rts) (cursor_of here) j
                (λ _ again. let one : e ≡ f = cc in subst (λ (g : Entry V). here.ts ≤ g.rts) one (reaches (ap (λ (g : Entry V). g.written) one ∙ unwritten)))
                (λ apart below is'. b.passed frozen j f (omega arith) (sym (others j apart) ∙ is') unwritten) below is';
          };
        }

    -- Nothing is to do for an entry that was written or whose lease reaches the timestamp.
    inv_passed : here.state ≡ 2 → (left : ℕ) (e : Entry V) → at_cursor st.tables.entries p here ≡ Some e
        → e.written || leb here.ts e.rts ≡ true
        → Inv x (did_renew p left ∷ es) (moved_state st st.tables.home st.counter p (onward here) st.tables.entries)
    inv_passed frozen left e is test =
        let l = limits frozen e is in
        inv_moves x es st (did_renew p left) p (onward here) st.tables.entries (live p es) i
        (record { order = refl; grants = refl; put = refl; freed = refl }) at refl
        (same_entries p st.tables.entries) refl (λ q _. refl)
        (alike_ok at
        (λ k. record { write = refl; decided = refl; undecided = λ u. u; entry = refl; later = omega arith; same = λ _. refl; sees = λ y h. h })
        (λ k. refl)
        (seated_onward frozen was e l.0 (omega arith) is (λ unwritten. grind (arith, nat_tests)) refl refl (λ j _. refl) (busy frozen).writes))

    -- A lease that fell short: the row and the entry have the longer one.
    module _ (frozen : here.state ≡ 2) (left : ℕ) (e : Entry V) (is : at_cursor st.tables.entries p here ≡ Some e) (unwritten : e.written ≡ false)
        (row new : Row V) (stored : slice_get st.tables.home.rows e.key ≡ Some row) (r : Renewal e.wts here.ts row new) where
      abbrev longer : Entry V
      longer = record { key = e.key; wts = e.wts; rts = new.rts; value = e.value; written = e.written }

      abbrev entries_after : List (Entry V)
      entries_after = put_entry st.tables.entries p (cursor_of here) longer

      abbrev sheet_after : List (Entry V)
      sheet_after = set was (cursor_of here) longer

      abbrev after_state : Store V
      after_state = moved_state st (with_row st.tables.home e.key new) st.counter p (onward here) entries_after

      sheet_same : sheet p (used_of here) entries_after ≡ sheet_after
      sheet_same = let l = limits frozen e is in sheet_set p (cursor_of here) (used_of here) st.tables.entries longer at l.1 l.2

      was_found : found e.key was ≡ Some e
      was_found = nth_found was (cursor_of here) e (its_apart (busy frozen)) is

      now_found : (found e.key sheet_after ≡ Some longer) × ((k : ℕ) → (k ≡ e.key → ⊥) → found k sheet_after ≡ found k was)
      now_found = found_set was (cursor_of here) e longer is refl (its_apart (busy frozen))

      writes_after : (k : ℕ) (f : Entry V) → found k sheet_after ≡ Some f → last_write k (live p es).ops ≡ write_of f
      writes_after k f =
          by_place (λ j. found j sheet_after ≡ Some f → last_write j (live p es).ops ≡ write_of f) e.key k
          (λ is'.
          let one : longer ≡ f = cc (now_found.0) in
          (busy frozen).writes e.key e was_found ∙ ap (λ (g : Entry V). write_of g) one)
          (λ apart is'. (busy frozen).writes k f (sym (now_found.1 k apart) ∙ is'))

      seated_after : Seated (onward_seat sheet_after)
      seated_after =
          let l = limits frozen e is in
          seated_onward frozen sheet_after longer l.0 (omega arith)
          (nth_set_same was (cursor_of here) longer is)
          (λ _. r.reaches)
          (length-set was (cursor_of here) longer)
          (keyed_set was (cursor_of here) e longer is refl)
          (λ j apart. nth_set_other was (cursor_of here) j longer apart)
          writes_after

      only_here : OnlyAt p st.tables.entries entries_after
      only_here q n is' apart few = sheet_other p q (cursor_of here) n st.tables.entries longer at is' apart (omega (arith, limits frozen e is)) few

      seats_after : Moves (seat_of st es) (seat_of after_state (did_renew p left ∷ es)) p (seat_in p (onward here) entries_after (live p es))
      seats_after =
          moved st es (did_renew p left ∷ es) (with_row st.tables.home e.key new) st.counter p (onward here) entries_after (live p es)
          at i.many only_here refl (λ q _. refl)

      -- what held of the key, and what is to hold
      abbrev KeyWas : Option (V × ℕ) → Type 0
      KeyWas won = KeyIn x es st e.key row won

      abbrev KeyNow : Option (V × ℕ) → Type 0
      KeyNow won = KeyOk e.key (x e.key) new (serial_order es) (seat_of after_state (did_renew p left ∷ es)) won

      abbrev StakeNow : List (Entry V) → Type 0
      StakeNow sh = StakeIn x es e.key new None p (onward_seat sh)

      -- The value that was read is the one that stands, for as long as the new lease.
      lease_after : KeyWas None → LeaseOk e.key (x e.key) new (serial_order es) (onward_seat sheet_after) longer
      lease_after ok =
          let old = (ok.stakes p at).seen (grind (arith, nat_tests)) e was_found unwritten in
          let f = old.fair in
          let one : value_upto e.key (x e.key) e.wts (serial_order es) ≡ Some e.value = old.value e.wts (omega arith) f in
          let two : value_upto e.key (x e.key) e.wts (serial_order es) ≡ Some row.value = ok.stands e.wts (omega arith) in
          let same : Some row.value ≡ Some e.value = sym two ∙ one in
          record {
            fair = omega arith;
            begins = old.begins;
            ends = omega arith;
            value = λ τ low high. ok.stands τ (omega arith) ∙ same;
            sees = old.sees;
          }

      key_after : (won : Option (V × ℕ)) → KeyWas won → (after : Option (V × ℕ)) × KeyNow after
      key_after won ok =
          (None, go (subst KeyWas (free_won ok r.free) ok))
        where
          stake : KeyWas None → StakeNow sheet_after
          stake ok =
              stake_longer r p at
              (seat_of st es p) (onward here) sheet_after (ok.stakes p at)
              (λ u f is' unwritten'.
              let one : longer ≡ f = cc (now_found.0) in
              subst (LeaseOk e.key (x e.key) new (serial_order es) (onward_seat sheet_after)) one (lease_after ok))

          go : KeyWas None → KeyNow None
          go ok = key_longer r seats_after (subst StakeNow (sym sheet_same) (stake ok)) ok

      inv_longer : Inv x (did_renew p left ∷ es) after_state
      inv_longer =
          inv_changes x es st (did_renew p left) p (onward here) entries_after (live p es) e.key row new i at
          (record {
            order = refl;
            count = grind (arith, nat_tests);
            long = length-set st.tables.entries (base_of p + cursor_of here) longer;
            was = stored;
            moves = seats_after;
            seated = subst (λ (sh : List (Entry V)). Seated (onward_seat sh)) (sym sheet_same) seated_after;
            key = key_after;
            others = λ j apart. record { write = refl; decided = refl; undecided = λ u. u; entry = ap (found j) sheet_same ∙ now_found.1 j apart; later = omega arith; same = λ _. refl; sees = λ y h. h };
            fresh = λ j apart. refl;
          })

  module _ (x : ℕ → Option V) (es : List (Event V)) (st : Store V) (i : Inv x es st) (p : ℕ) where
    pub keeps_renew : Inv x ((stepped st (Call.Renew p)).event ∷ es) (stepped st (Call.Renew p)).store
    unfolding stepped renew_call
    keeps_renew =
        entry_kept x es st i (Call.Renew p) (λ left. did_renew p left) 5 p 0 _
        (λ en.
        let frozen : (place_at st.tables.places p).state ≡ 2 = grind (arith, nat_tests) in
        renew_cases st.tables p (place_at st.tables.places p) (λ d. Kept x es (by_did st (Call.Renew p) (λ left. did_renew p left) d))
        (λ fault _. inv_refused x es st (Call.Renew p) fault i)
        (λ fault. inv_lost x es st p i en.place (Call.Renew p) fault (grind (arith, nat_tests)))
        (inv_passed x es st p i en.place frozen _)
        (λ e new is unwritten came.
        let g = granted st.tables.home e.key _ new came in
        inv_longer x es st p i en.place frozen _ e is unwritten g.0 new g.1 (renewal _ _ _ _ g.0 new g.2)))
