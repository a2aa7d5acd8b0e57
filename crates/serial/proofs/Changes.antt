-- Steps that alter one row: what is owed for the key, and that all else stays.
use Rattle.std.proofs.Common.{◌≡◌, ℕ, zero, suc, ◌+◌, ◌≤◌, true, false, cond, eqb, List, [], ◌∷◌, length, set, Some, None, Option, sym, ap, ◌∙◌, subst, arith}
use Rattle.std.specs.List.{slice_get}
use Rattle.std.proofs.lemmas.Bool.Decides.{nat_tests}
use Rattle.home.specs.declared.row.Row.{Row}
use Rattle.home.proofs.Laws.{nth_set_other, nth_set_same}
use Rattle.home.specs.Meaning.{Meaning, is_place}
use Rattle.coordinator.specs.declared.tables.Place.{Place}
use Rattle.coordinator.specs.declared.tables.Entry.{Entry}
use Rattle.serial.specs.Events.{Event, Store}
use Rattle.serial.specs.Transactions.{Live, Transaction, among, frees, granted, is_some, keys_of, live, pending_write, puts, serial_order, unsettled_write}
use Rattle.serial.specs.Serial.{held_now}
use Rattle.serial.proofs.Run.{absent}
use Rattle.serial.proofs.Seats.{place_range}
use Rattle.serial.proofs.Invariant.{Alike, Inv, KeyOk, Moves, Seat, Seated, by_place, key_moves, seat_of, stake_alike, void_moves, won_alike, won_open, KeyIn, LeaseOk, Stake, undecided}
use Rattle.serial.proofs.Keys.{found}
use Rattle.serial.proofs.Moves.{moved_state, seat_in, KeyThen, VoidThen, inv_then}

-- One where the row is held.
abbrev pub held_one : {V : Type 0} → Row V → ℕ
held_one row = cond (eqb row.holder 0) 0 1

module _ {V : Type 0} where
  pub held_set : (rows : List (Row V)) (k : ℕ) (row new : Row V) → slice_get rows k ≡ Some row → held_now (set rows k new) + held_one row ≡ held_now rows + held_one new
  held_set [] k row new is = cc
  held_set (r ∷ rows) zero row new is =
      let same : r ≡ row = cc in
      let one = ap (λ (o : Row V). held_one o) same in
      omega arith
  held_set (r ∷ rows) (suc k) row new is = omega (arith, held_set rows k row new is)

  module _ {k : ℕ} {x : Option V} {row : Row V} {us : List (Transaction V)} {seats : ℕ → Seat V} {won : Option (V × ℕ)} (ok : KeyOk k x row us seats won) where
    -- Whoever has an unsettled write of the key is its holder.
    pub holds_it : (p : ℕ) → is_place p ≡ true → is_some (pending_write k (seats p).live) ≡ true → row.holder ≡ p
    holds_it p at is = grind (arith, nat_tests, (ok.stakes p at).owner ∙ is)

    -- A winner is its holder.
    pub winner_holds : (w : V × ℕ) → won ≡ Some w → (is_place row.holder ≡ true) × (unsettled_write k (seats row.holder).live ≡ Some w.0)
    winner_holds w is =
        let h = ok.winner w is in
        let o = won_open k (seats h.0).live w.0 h.2 in
        let same = holds_it h.0 h.1 (ap is_some o.1) in
        (ap is_place same ∙ h.1, ap (λ q. unsettled_write k (seats q).live) same ∙ h.2)

    -- A row that nobody holds has no winner.
    pub free_won : row.holder ≡ 0 → won ≡ None
    free_won free = absent won (λ w is. let h = winner_holds w is in omega (arith, place_range row.holder h.0))

    -- Nor has one whose holder has not decided.
    pub loser_won : (seats row.holder).live.decided ≡ false → won ≡ None
    loser_won loses = absent won (λ w is. let h = winner_holds w is in let o = won_open k (seats row.holder).live w.0 h.1 in cc)

    -- Where the row is held by another or by nobody, a place has no unsettled write of it.
    pub holds_none : (p : ℕ) → is_place p ≡ true → (row.holder ≡ p → ⊥) → is_some (pending_write k (seats p).live) ≡ false
    holds_none p at apart = sym (ok.stakes p at).owner ∙ grind (arith, nat_tests)

  -- ---- places that do not hold the key

  -- A lease within one that ends later.
  pub lease_kept : {k : ℕ} {x : Option V} {row new : Row V} {us : List (Transaction V)} {s : Seat V} {e : Entry V} → LeaseOk k x row us s e → row.rts ≤ new.rts → LeaseOk k x new us s e
  lease_kept o later = record { fair = o.fair; begins = o.begins; ends = omega arith; value = o.value; sees = o.sees }

  -- Such a place has only its leases at stake.
  pub stake_absent : {k : ℕ} {x : Option V} {new : Row V} {us : List (Transaction V)} {q : ℕ} {s : Seat V} → is_some (pending_write k s.live) ≡ false → eqb new.holder q ≡ false
      → (undecided s.place ≡ true → (e : Entry V) → found k s.sheet ≡ Some e → e.written ≡ false → LeaseOk k x new us s e) → Stake k x new us None q s
  stake_absent {k} {s = s} none nobody seen =
      record { owner = nobody ∙ sym none; seen = seen; holds = λ u some. cc; wins = λ v win. cc (ap is_some (won_open k s.live v win).1) }

  abbrev pub with_row : Meaning V → ℕ → Row V → Meaning V
  with_row m k row = record { last = m.last; rows = set m.rows k row }

  module _ (x : ℕ → Option V) (es : List (Event V)) (st : Store V) (e : Event V) (p : ℕ) (pl : Place) (entries : List (Entry V)) (l : Live V) (k : ℕ) (row new : Row V) where
    abbrev next_state : Store V
    next_state = moved_state st (with_row st.tables.home k new) st.counter p pl entries

    abbrev KeyNext : ℕ → Row V → Type 0
    KeyNext j r = KeyThen x es st e (with_row st.tables.home k new) p pl entries l j r

    abbrev here_seat : Seat V
    here_seat = seat_in p pl entries l

    -- What a step owes that gives the key k another row and moves the seat of place p.
    pub record ChangeOk : Type 0 where
      pub order : serial_order (e ∷ es) ≡ serial_order es
      pub count : granted (e ∷ es) + held_one row + puts es + frees es ≡ granted es + held_one new + puts (e ∷ es) + frees (e ∷ es)
      pub long : length entries ≡ length st.tables.entries
      pub was : slice_get st.tables.home.rows k ≡ Some row
      pub moves : Moves (seat_of st es) (seat_of next_state (e ∷ es)) p here_seat
      pub seated : Seated here_seat
      pub key : (won : Option (V × ℕ)) → KeyIn x es st k row won → KeyNext k new
      pub others : (j : ℕ) → (j ≡ k → ⊥) → Alike j (seat_of st es p) here_seat
      pub fresh : (j : ℕ) → (j ≡ k → ⊥) → among j (keys_of l.ops) ≡ among j (keys_of (live p es).ops)

    pub inv_changes : Inv x es st → is_place p ≡ true → ChangeOk → Inv x (e ∷ es) next_state
    inv_changes i at ok =
        inv_then x es st e (with_row st.tables.home k new) p pl entries l i ok.order ok.long ok.moves ok.seated each none (omega (arith, held_set st.tables.home.rows k row new ok.was))
      where
        each : (j : ℕ) (r : Row V) → slice_get (set st.tables.home.rows k new) j ≡ Some r → KeyNext j r
        each j r is =
            by_place (λ m. slice_get (set st.tables.home.rows k new) m ≡ Some r → KeyNext m r) k j
            (λ is.
            let same : new ≡ r = cc (nth_set_same st.tables.home.rows k new ok.was) in
            let old = i.keys k row ok.was in
            subst (KeyNext k) same (ok.key old.0 old.1))
            (λ apart is.
            let old = i.keys j r (sym (nth_set_other st.tables.home.rows k j new apart) ∙ is) in
            let a = ok.others j apart in
            (old.0, key_moves ok.moves (stake_alike a (old.1.stakes p at)) (won_alike a) old.1)) is

        none : (j : ℕ) → slice_get (set st.tables.home.rows k new) j ≡ None → VoidThen x es st e (with_row st.tables.home k new) p pl entries l j
        none j is =
            by_place (λ m. slice_get (set st.tables.home.rows k new) m ≡ None → VoidThen x es st e (with_row st.tables.home k new) p pl entries l m) k j
            (λ is. absurd (cc (nth_set_same st.tables.home.rows k new ok.was)))
            (λ apart is.
            let old = i.voids j (sym (nth_set_other st.tables.home.rows k j new apart) ∙ is) in
            void_moves ok.moves (ok.fresh j apart ∙ old.fresh p at) old) is
