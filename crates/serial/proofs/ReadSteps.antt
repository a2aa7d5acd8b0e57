-- read: of a key in the sheet, and of a new one.
use Rattle.std.proofs.Common.{◌≡◌, ℕ, ◌+◌, ◌-◌, ◌<◌, ◌≤◌, max, Bool, true, false, cond, leb, List, [], ◌∷◌, ◌++◌, length, Some, None, Option, sym, refl, ap, ◌∙◌, subst, arith, length-set}
use lib.Seq.{set-get_or}
use Rattle.std.specs.List.{slice_get}
use Rattle.std.proofs.lemmas.Option.{slice_get_within}
use Rattle.std.proofs.lemmas.Bool.Decides.{nat_tests}
use Rattle.std.proofs.lemmas.List.{length_push}
use Rattle.home.specs.declared.row.Row.{Row}
use Rattle.home.specs.Meaning.{is_place}
use Rattle.coordinator.specs.declared.call.Call.{Call}
use Rattle.coordinator.specs.declared.tables.Place.{Place}
use Rattle.coordinator.specs.declared.tables.Entry.{Entry}
use Rattle.coordinator.specs.Tables.{put_entry, sheet, used_of, base_of}
use Rattle.coordinator.specs.Calls.{read_call}
use Rattle.serial.specs.Events.{Event, Store, by_did, did_read, stepped}
use Rattle.serial.specs.Transactions.{Live, Op, among, doing, is_some, keys_of, last_write, live, noted, pending_write, reads, serial_order, when, unsettled_write}
use Rattle.serial.proofs.Run.{Sees, along, along_unwritten, along_written, among_noted, never_written, sees_skip, value_upto, when_none, written_among, open_is_last}
use Rattle.serial.proofs.Seats.{blank, place_at, sheet_other, sheet_push, sheet_set}
use Rattle.serial.proofs.Keys.{found, found_pushed, found_unpushed, keyed, keyed_push, sought_found, sought_none, found_set, keyed_set}
use Rattle.serial.proofs.Invariant.{Alike, Busy, Inv, KeyOk, LeaseOk, Seat, Seated, Stake, by_place, engaged, seat_of, stake_alike, undecided, won_alike, write_of, met, wrote, KeyIn, StakeIn, its_apart}
use Rattle.serial.proofs.Moves.{Kept, entry_kept, inv_moves, inv_refused, moved_state, seat_in, stakes_but}
use Rattle.serial.proofs.Rules.{read_cases}
use Rattle.serial.proofs.Turns.{same_entries}

pub known_keys : (k : ℕ) (ks : List ℕ) → among k ks ≡ true → noted k ks ≡ ks
known_keys k ks is = ap (λ b. cond b ks (ks ++ k ∷ [])) is

pub new_keys : (k : ℕ) (ks : List ℕ) → among k ks ≡ false → noted k ks ≡ ks ++ k ∷ []
new_keys k ks is = ap (λ b. cond b ks (ks ++ k ∷ [])) is

-- ---- writes of a transaction that has settled nothing

module _ {V : Type 0} where
  -- A read leaves the open writes as they are.
  pub open_read : (j k : ℕ) (v : V) (l : Live V) → l.handled ≡ 0 → pending_write j (doing (reads k v) l) ≡ pending_write j l
  open_read j k v l none = open_is_last j (doing (reads k v) l) none ∙ sym (open_is_last j l none)

  pub sees_other : (j k : ℕ) (v : V) (y : Option V) (os : List (Op V)) → (j ≡ k → ⊥) → Sees j y os → Sees j y (reads k v ∷ os)
  sees_other j k v y os apart s = (s, λ same. absurd (apart (sym same)))

  -- Storing a place that is already there changes nothing.
  pub same_state : (st : Store V) (p : ℕ) → moved_state st st.tables.home st.counter p (place_at st.tables.places p) st.tables.entries ≡ st
  same_state st p = ap (λ ps. record { tables = record { home = st.tables.home; places = ps; entries = st.tables.entries }; counter = st.counter }) (set-get_or st.tables.places (p - 1) blank)

  -- ---- an open place

  -- Its sheet with the entry e under the key k, and all else as before.
  pub record Grown (k : ℕ) (s : Seat V) (sh : List (Entry V)) (e : Entry V) (used : ℕ) : Type 0 where
    pub sized : length sh ≡ used
    pub keys : keyed sh ≡ noted k (keys_of s.live.ops)
    pub first : found k sh ≡ Some e
    pub others : (j : ℕ) → (j ≡ k → ⊥) → found j sh ≡ found j s.sheet

  module _ (x : ℕ → Option V) (es : List (Event V)) (st : Store V) (p : ℕ) (i : Inv x es st) (at : is_place p ≡ true) (open' : (place_at st.tables.places p).state ≡ 1) where
    abbrev here : Place
    here = place_at st.tables.places p

    abbrev now_seat : Seat V
    now_seat = seat_of st es p

    pub is_busy : Busy now_seat
    is_busy = (i.seated p at).busy (grind (arith, nat_tests))

    pub none_handled : (live p es).handled ≡ 0
    none_handled = grind (arith, nat_tests)

    pub not_decided : (live p es).decided ≡ false
    not_decided = grind (arith, nat_tests)

    pub no_win : (k : ℕ) → unsettled_write k (live p es) ≡ None
    no_win k = ap (λ b. when b (pending_write k (live p es))) not_decided

    is_undecided : undecided here ≡ true
    is_undecided = grind (arith, nat_tests)

    -- one entry more, of a new key
    pub pushed : (n : ℕ) (e : Entry V) → n ≡ used_of here + 1 → found e.key now_seat.sheet ≡ None → used_of here < 16
        → Grown e.key now_seat (sheet p n (put_entry st.tables.entries p (used_of here) e)) e (used_of here + 1)
    pushed n e more unknown room =
        subst (λ sh. Grown e.key now_seat sh e (used_of here + 1))
        (sym (ap (λ m. sheet p m (put_entry st.tables.entries p (used_of here) e)) more ∙ sheet_push p (used_of here) st.tables.entries e at room i.long))
        (record {
          sized = length_push now_seat.sheet e ∙ omega (arith, is_busy);
          keys = keyed_push now_seat.sheet e ∙ ap (λ ks. ks ++ e.key ∷ []) is_busy.keys ∙ sym (new_keys e.key (keys_of (live p es).ops) (met is_busy e.key unknown));
          first = found_pushed now_seat.sheet e unknown;
          others = found_unpushed now_seat.sheet e;
        })

    -- one entry stored again, under its key
    pub stored : (n : ℕ) (e new : Entry V) → slice_get now_seat.sheet n ≡ Some e → found e.key now_seat.sheet ≡ Some e → new.key ≡ e.key → (k : ℕ) → e.key ≡ k
        → Grown k now_seat (sheet p (used_of here) (put_entry st.tables.entries p n new)) new here.used
    stored n e new is known same k key =
        let low = slice_get_within now_seat.sheet n e is in
        let again = found_set now_seat.sheet n e new is same (its_apart is_busy) in
        subst (λ j. Grown j now_seat (sheet p (used_of here) (put_entry st.tables.entries p n new)) new here.used) key
        (subst (λ sh. Grown e.key now_seat sh new here.used) (sym (sheet_set p n (used_of here) st.tables.entries new at (omega (arith, is_busy, low)) (omega arith)))
        (record {
          sized = length-set now_seat.sheet n new ∙ is_busy.sized;
          keys = keyed_set now_seat.sheet n e new is same ∙ is_busy.keys ∙ sym (known_keys e.key (keys_of (live p es).ops) (met is_busy e.key known));
          first = again.0;
          others = again.1;
        }))

    -- ---- a key in the sheet

    module _ (k : ℕ) (e : Entry V) (known : found k now_seat.sheet ≡ Some e) where
      abbrev after : Live V
      after = doing (reads k e.value) (live p es)

      keys_known : keys_of after.ops ≡ keys_of (live p es).ops
      keys_known = known_keys k (keys_of (live p es).ops) (met is_busy k known)

      busy_known : Busy (seat_in p here st.tables.entries after)
      busy_known =
          let b = is_busy in
          record { few = b.few; within = b.within; sized = b.sized; keys = b.keys ∙ sym keys_known; writes = b.writes; decided = b.decided; handled = b.handled; passed = b.passed }

      -- what was read last is what the transaction has
      stake_known : (row : Row V) (won : Option (V × ℕ)) → StakeIn x es k row won p now_seat → StakeIn x es k row won p (seat_in p here st.tables.entries after)
      stake_known row won old =
          record {
            owner = old.owner ∙ ap is_some (sym (open_read k k e.value (live p es) none_handled));
            seen = λ u f is unwritten.
                let o = old.seen u f is unwritten in
                let same : e ≡ f = cc in
                let w = wrote is_busy k f is unwritten in
                record { fair = o.fair; begins = o.begins; ends = o.ends; value = o.value; sees = (o.sees, λ _. along_unwritten k (live p es).ops w (Some f.value) ∙ ap (λ (g : Entry V). Some g.value) (sym same)) };
            holds = λ u is. held_known row (old.holds u (ap is_some (sym (open_read k k e.value (live p es) none_handled)) ∙ is)) (ap is_some (sym (open_is_last k after none_handled)) ∙ is);
            wins = λ v is. grind (arith, nat_tests, not_decided);
          }
        where
          held_known : (row : Row V) → Rattle.serial.proofs.Invariant.HoldOk k row now_seat → is_some (last_write k (live p es).ops) ≡ true → Rattle.serial.proofs.Invariant.HoldOk k row (seat_in p here st.tables.entries after)
          held_known row o is = record { above = o.above; sees = (o.sees, λ _. written e.written refl) }
            where
              written : (b : Bool) → e.written ≡ b → along k (Some row.value) (live p es).ops ≡ Some e.value
              written true w = along_written k (live p es).ops e.value (wrote is_busy k e known w) row.value
              written false w = cc (ap is_some (wrote is_busy k e known w))

      alike_known : (j : ℕ) → (j ≡ k → ⊥) → Alike j now_seat (seat_in p here st.tables.entries after)
      alike_known j apart =
          record { write = open_read j k e.value (live p es) none_handled; decided = refl; undecided = λ u. u; entry = refl; later = omega arith; same = λ _. refl; sees = λ y s. sees_other j k e.value y (live p es).ops apart s }

      pub read_known : Inv x (did_read p k e.value ∷ es) st
      read_known =
          subst (λ (s : Store V). Inv x (did_read p k e.value ∷ es) s) (same_state st p)
          (inv_moves x es st (did_read p k e.value) p here st.tables.entries after i (record { order = refl; grants = refl; put = refl; freed = refl }) at refl
          (same_entries p st.tables.entries) (grind (arith, nat_tests)) (λ q apart. grind (arith, nat_tests))
          (record {
            seated = record { free = λ no'. grind (arith, nat_tests); busy = λ _. busy_known };
            stakes = stakes_but x es st at k (λ row won _ ok. stake_known row won (ok.stakes p at)) alike_known;
            wins = λ j. ap (when (live p es).decided) (open_read j k e.value (live p es) none_handled);
            fresh = λ j is was. ap (among j) keys_known ∙ was;
          }))

    -- ---- a new key

    module _ (k : ℕ) (row : Row V) (unknown : found k now_seat.sheet ≡ None) (room : used_of here < 16) where
      abbrev entry : Entry V
      entry = record { key = k; wts = row.wts; rts = row.rts; value = row.value; written = false }

      abbrev place' : Place
      place' = record { state = here.state; ts = max here.ts row.wts; used = used_of here + 1; cursor = here.cursor }

      abbrev entries' : List (Entry V)
      entries' = put_entry st.tables.entries p (used_of here) entry

      abbrev reader : Live V
      reader = doing (reads k row.value) (live p es)

      abbrev new_seat : Seat V
      new_seat = seat_in p place' entries' reader

      not_among : among k (keys_of (live p es).ops) ≡ false
      not_among = met is_busy k unknown

      grown : Grown k now_seat new_seat.sheet entry (used_of here + 1)
      grown = pushed (used_of place') entry (omega arith) unknown room

      unwritten : last_write k (live p es).ops ≡ None
      unwritten = never_written k (live p es).ops not_among

      busy_new : Busy new_seat
      busy_new =
          let b = is_busy in
          record {
            few = omega arith;
            within = omega arith;
            sized = grown.sized;
            keys = grown.keys;
            writes = λ j e is.
                by_place (λ m. found m new_seat.sheet ≡ Some e → last_write m (live p es).ops ≡ write_of e) k j
                (λ is. let same : entry ≡ e = cc (grown.first) in unwritten ∙ ap write_of same)
                (λ apart is. b.writes j e (sym (grown.others j apart) ∙ is)) is;
            decided = b.decided;
            handled = b.handled;
            passed = λ frozen j e below is no'. absurd (omega arith);
          }

      -- the row's lease is one under which its value stands
      lease_new : (won : Option (V × ℕ)) → KeyIn x es st k row won → LeaseOk k (x k) row (serial_order es) new_seat entry
      lease_new won ok =
          record {
            fair = ok.fair;
            begins = omega arith;
            ends = omega arith;
            value = λ τ from upto. ok.stands τ from ∙ ap (λ (v : V). Some v) (go won τ upto ok.above);
            sees = (sees_skip k (live p es).ops not_among (Some row.value), λ _. Rattle.serial.proofs.Run.along_skip k (live p es).ops not_among (Some row.value));
          }
        where
          go : (w : Option (V × ℕ)) (τ : ℕ) → τ ≤ row.rts → Rattle.serial.proofs.Invariant.ahead w row → Rattle.serial.proofs.Invariant.standing w row τ ≡ row.value
          go None τ upto above = refl
          go (Some w) τ upto above = let late : leb w.1 τ ≡ false = grind (arith, nat_tests) in ap (λ b. cond b w.0 row.value) late

      stake_new : (won : Option (V × ℕ)) → KeyIn x es st k row won → StakeIn x es k row won p new_seat
      stake_new won ok =
          record {
            owner = (ok.stakes p at).owner ∙ ap is_some (sym (open_read k k row.value (live p es) none_handled));
            seen = λ u e is no'. let same : entry ≡ e = cc (grown.first) in subst (LeaseOk k (x k) row (serial_order es) new_seat) same (lease_new won ok);
            holds = λ u is. absurd (cc (ap is_some (open_is_last k reader none_handled ∙ unwritten)));
            wins = λ v is. absurd (grind (arith, nat_tests));
          }

      alike_new : (j : ℕ) → (j ≡ k → ⊥) → Alike j now_seat new_seat
      alike_new j apart =
          record {
            write = open_read j k row.value (live p es) none_handled;
            decided = refl;
            undecided = λ u. u;
            entry = grown.others j apart;
            later = omega arith;
            same = λ d. absurd (grind (arith, nat_tests));
            sees = λ y s. sees_other j k row.value y (live p es).ops apart s;
          }

      pub read_new : slice_get st.tables.home.rows k ≡ Some row → Inv x (did_read p k row.value ∷ es) (moved_state st st.tables.home st.counter p place' entries')
      read_new is =
          inv_moves x es st (did_read p k row.value) p place' entries' reader i (record { order = refl; grants = refl; put = refl; freed = refl }) at
          (length-set st.tables.entries (base_of p + (used_of here)) entry) (λ q n is' apart few. sheet_other p q (used_of here) n st.tables.entries entry at is' apart room few)
          (grind (arith, nat_tests)) (λ q apart. grind (arith, nat_tests))
          (record {
            seated = record { free = λ no'. grind (arith, nat_tests); busy = λ _. busy_new };
            stakes = stakes_but x es st at k
                (λ r won h ok. let same : row ≡ r = cc in subst (λ (o : Row V). KeyIn x es st k o won → StakeIn x es k o won p new_seat) same (stake_new won) ok)
                alike_new;
            wins = λ j. ap (when (live p es).decided) (open_read j k row.value (live p es) none_handled);
            fresh = λ j none was.
                by_place (λ m. slice_get st.tables.home.rows m ≡ None → among m (keys_of (live p es).ops) ≡ false → among m (keys_of reader.ops) ≡ false) k j
                (λ gone was. cc) (λ apart none was. grind (arith, nat_tests, among_noted j k (keys_of (live p es).ops))) none was;
          })

  -- ---- the whole call

  module _ (x : ℕ → Option V) (es : List (Event V)) (st : Store V) (i : Inv x es st) (p k : ℕ) where
    pub keeps_read : Inv x ((stepped st (Call.Read p k)).event ∷ es) (stepped st (Call.Read p k)).store
    unfolding stepped read_call
    keeps_read =
        entry_kept x es st i (Call.Read p k) (λ v. did_read p k v) 2 p k _
        (λ en.
        let open' : (place_at st.tables.places p).state ≡ 1 = grind (arith, nat_tests) in
        read_cases st.tables p (place_at st.tables.places p) k (λ d. Kept x es (by_did st (Call.Read p k) (λ v. did_read p k v) d))
        (λ fault _. inv_refused x es st (Call.Read p k) fault i)
        (λ n e is. read_known x es st p i en.place open' k e (sought_found k (seat_of st es p).sheet n e is).2)
        (λ row none room is. read_new x es st p i en.place open' k row (sought_none k 0 (seat_of st es p).sheet none) room is))
