-- Steps that leave every row and the order alone: one seat moves.
use Rattle.std.proofs.Common.{◌≡◌, ℕ, ◌+◌, ◌≤◌, true, false, List, ◌∷◌, length, Some, None, Ok, Option, sym, ap, ◌∙◌, subst, arith, length-set, ◌-◌}
use Rattle.std.specs.List.{slice_get, AllByRecursion as All}
use Rattle.home.specs.declared.fault.Fault.{Fault}
use Rattle.home.specs.declared.row.Row.{Row}
use Rattle.home.specs.Meaning.{Meaning, is_place}
use Rattle.coordinator.specs.declared.call.Call.{Call}
use Rattle.coordinator.specs.declared.tables.Place.{Place}
use Rattle.coordinator.specs.declared.tables.Entry.{Entry}
use Rattle.coordinator.specs.Tables.{entered, put_place, sheet, used_of}
use Rattle.coordinator.specs.Calls.{Did, at_place, by_entry, turning}
use Rattle.serial.specs.Events.{Event, Step, Store, by_did, by_turn, refused}
use Rattle.serial.specs.Transactions.{Live, Transaction, among, frees, granted, keys_of, live, puts, serial_order, unsettled_write}
use Rattle.serial.specs.Serial.{Sorted, held_now}
use Rattle.serial.proofs.Seats.{Entered, by_entered, place_at, place_other, place_same}
use Rattle.serial.proofs.Invariant.{Alike, Inv, KeyOk, Moves, Seat, Seated, VoidOk, key_moves, seat_of, stake_alike, void_moves, won_alike, all_moved, KeyIn, StakeIn, by_place}

module _ {V : Type 0} where
  -- ---- a refused call that alters nothing

  pub inv_refused : (x : ℕ → Option V) (es : List (Event V)) (st : Store V) (call : Call V) (fault : Fault) → Inv x es st → Inv x (refused call fault ∷ es) st
  inv_refused x es st call fault i =
      record { many = i.many; long = i.long; seated = i.seated; keys = i.keys; voids = i.voids; sorted = i.sorted; numbered = i.numbered; limit = i.limit; holds = i.holds }

  -- ---- a call that meets the first tests

  abbrev pub Kept : (ℕ → Option V) → List (Event V) → Step V → Type 0
  Kept x es step = Inv x (step.event ∷ es) step.store

  module _ (x : ℕ → Option V) (es : List (Event V)) (st : Store V) (i : Inv x es st) {A : Type 0} (call : Call V) (f : A → Event V) (code p key : ℕ) where
    abbrev LetIn : Type 0
    LetIn = Entered code st.tables.places (length st.tables.entries) p

    -- One that looks at the home keeps the invariant if its rule does, at the record of its place.
    pub entry_kept : (rule : Place → Did V A) → (LetIn → Kept x es (by_did st call f (rule (place_at st.tables.places p)))) → Kept x es (by_did st call f (at_place code st.tables p key rule))
    entry_kept rule kept =
        by_entered code st.tables.places (length st.tables.entries) p key (λ r. Kept x es (by_did st call f (by_entry st.tables rule r)))
        (λ fault _. inv_refused x es st call fault i) kept

    -- One that alters its place alone.
    pub turn_kept : (rule : Place → A × Place) → (LetIn → Kept x es (by_turn st call f (turning st.tables.places p rule (Ok (place_at st.tables.places p)))))
        → Kept x es (by_turn st call f (turning st.tables.places p rule (entered code st.tables.places (length st.tables.entries) p key)))
    turn_kept rule kept =
        by_entered code st.tables.places (length st.tables.entries) p key (λ r. Kept x es (by_turn st call f (turning st.tables.places p rule r)))
        (λ fault _. inv_refused x es st call fault i) kept

  -- ---- seats in the flat tables

  -- Entries are stored in the sheet of one place only.
  abbrev pub OnlyAt : ℕ → List (Entry V) → List (Entry V) → Type 0
  OnlyAt p entries new = (q n : ℕ) → is_place q ≡ true → (q ≡ p → ⊥) → n ≤ 16 → sheet q n new ≡ sheet q n entries

  abbrev pub moved_state : Store V → Meaning V → ℕ → ℕ → Place → List (Entry V) → Store V
  moved_state st home counter p pl entries =
      record { tables = record { home = home; places = put_place st.tables.places p pl; entries = entries }; counter = counter }

  abbrev pub seat_in : ℕ → Place → List (Entry V) → Live V → Seat V
  seat_in p pl entries l = record { place = pl; sheet = sheet p (used_of pl) entries; live = l }

  module _ (st : Store V) (es new : List (Event V)) (home : Meaning V) (counter p : ℕ) (pl : Place) (entries : List (Entry V)) (l : Live V) where
    pub moved : is_place p ≡ true → 64 ≤ length st.tables.places → OnlyAt p st.tables.entries entries
        → live p new ≡ l → ((q : ℕ) → (q ≡ p → ⊥) → live q new ≡ live q es)
        → Moves (seat_of st es) (seat_of (moved_state st home counter p pl entries) new) p (seat_in p pl entries l)
    moved at many only here others =
        record {
          here =
              ap (λ (o : Place). seat_in p o entries (live p new)) (place_same st.tables.places p pl at many)
              ∙ ap (λ (m : Live V). seat_in p pl entries m) here;
          others = λ q is apart.
              let same = place_other st.tables.places p q pl at is apart in
              let o = place_at st.tables.places q in
              let few : used_of o ≤ 16 = omega arith in
              ap (λ (o : Place). seat_in q o entries (live q new)) same
              ∙ ap (λ (m : List (Entry V)). record { place = o; sheet = m; live = live q new }) (only q (used_of o) is apart few)
              ∙ ap (λ (m : Live V). record { place = o; sheet = sheet q (used_of o) st.tables.entries; live = m }) (others q apart);
        }

  -- ---- the invariant, where one seat moves

  -- What a step must show of its seat, key by key.
  pub record MovedOk (x : ℕ → Option V) (es : List (Event V)) (st : Store V) (p : ℕ) (n : Seat V) : Type 0 where
    pub seated : Seated n
    pub stakes : (k : ℕ) (row : Row V) (won : Option (V × ℕ)) → slice_get st.tables.home.rows k ≡ Some row → KeyIn x es st k row won → StakeIn x es k row won p n
    pub wins : (k : ℕ) → unsettled_write k n.live ≡ unsettled_write k (seat_of st es p).live
    pub fresh : (k : ℕ) → slice_get st.tables.home.rows k ≡ None → among k (keys_of (seat_of st es p).live.ops) ≡ false → among k (keys_of n.live.ops) ≡ false

  -- Events that add nothing to the order and the counts of holds.
  pub record Plain (es : List (Event V)) (e : Event V) : Type 0 where
    pub order : serial_order (e ∷ es) ≡ serial_order es
    pub grants : granted (e ∷ es) ≡ granted es
    pub put : puts (e ∷ es) ≡ puts es
    pub freed : frees (e ∷ es) ≡ frees es

  -- What every step owes that leaves the order: its seat, each key and the holds.
  module _ (x : ℕ → Option V) (es : List (Event V)) (st : Store V) (e : Event V) (home : Meaning V) (p : ℕ) (pl : Place) (entries : List (Entry V)) (l : Live V) where
    abbrev then_state : Store V
    then_state = moved_state st home st.counter p pl entries

    abbrev pub KeyThen : ℕ → Row V → Type 0
    KeyThen k row = (won : Option (V × ℕ)) × KeyOk k (x k) row (serial_order es) (seat_of then_state (e ∷ es)) won

    abbrev pub VoidThen : ℕ → Type 0
    VoidThen k = VoidOk k (x k) (serial_order es) (seat_of then_state (e ∷ es))

    pub inv_then : Inv x es st → serial_order (e ∷ es) ≡ serial_order es → length entries ≡ length st.tables.entries
        → Moves (seat_of st es) (seat_of then_state (e ∷ es)) p (seat_in p pl entries l) → Seated (seat_in p pl entries l)
        → ((k : ℕ) (row : Row V) → slice_get home.rows k ≡ Some row → KeyThen k row) → ((k : ℕ) → slice_get home.rows k ≡ None → VoidThen k)
        → granted (e ∷ es) ≡ puts (e ∷ es) + frees (e ∷ es) + held_now home.rows → Inv x (e ∷ es) then_state
    inv_then i order long m seated keys voids holds =
        record {
          many = omega (arith, length-set st.tables.places (p - 1) pl);
          long = omega arith;
          seated = all_moved m (λ q. Seated) seated (λ q at _. i.seated q at);
          keys = λ k row is. subst (λ us. (won : Option (V × ℕ)) × KeyOk k (x k) row us (seat_of then_state (e ∷ es)) won) (sym order) (keys k row is);
          voids = λ k is. subst (λ us. VoidOk k (x k) us (seat_of then_state (e ∷ es))) (sym order) (voids k is);
          sorted = subst Sorted (sym order) i.sorted;
          numbered = subst (All (λ (t : Transaction V). t.number ≤ st.counter)) (sym order) i.numbered;
          limit = i.limit;
          holds = holds;
        }

  module _ (x : ℕ → Option V) (es : List (Event V)) (st : Store V) (e : Event V) (p : ℕ) (pl : Place) (entries : List (Entry V)) (l : Live V) where
    pub inv_moves : Inv x es st → Plain es e → is_place p ≡ true → length entries ≡ length st.tables.entries → OnlyAt p st.tables.entries entries
        → live p (e ∷ es) ≡ l → ((q : ℕ) → (q ≡ p → ⊥) → live q (e ∷ es) ≡ live q es)
        → MovedOk x es st p (seat_in p pl entries l) → Inv x (e ∷ es) (moved_state st st.tables.home st.counter p pl entries)
    inv_moves i plain at long only here others ok =
        let m = moved st es (e ∷ es) st.tables.home st.counter p pl entries l at i.many only here others in
        inv_then x es st e st.tables.home p pl entries l i plain.order long m ok.seated
        (λ k row is. let old = i.keys k row is in (old.0, key_moves m (ok.stakes k row old.0 is old.1) (ok.wins k) old.1))
        (λ k is. let old = i.voids k is in void_moves m (ok.fresh k is (old.fresh p at)) old)
        (omega arith)

  -- What a place has at stake, where every key but one is alike.
  pub stakes_but : (x : ℕ → Option V) (es : List (Event V)) (st : Store V) {p : ℕ} {n : Seat V} → is_place p ≡ true
      → (k : ℕ) → ((row : Row V) (won : Option (V × ℕ)) → slice_get st.tables.home.rows k ≡ Some row → KeyIn x es st k row won → StakeIn x es k row won p n)
      → ((j : ℕ) → (j ≡ k → ⊥) → Alike j (seat_of st es p) n)
      → (j : ℕ) (row : Row V) (won : Option (V × ℕ)) → slice_get st.tables.home.rows j ≡ Some row → KeyIn x es st j row won → StakeIn x es j row won p n
  stakes_but x es st {p} {n} at k here alike j row won =
      by_place (λ m. slice_get st.tables.home.rows m ≡ Some row → KeyIn x es st m row won → StakeIn x es m row won p n) k j
      (here row won) (λ apart _ ok. stake_alike (alike j apart) (ok.stakes p at))

  -- The same where every key is alike.
  pub alike_ok : {x : ℕ → Option V} {es : List (Event V)} {st : Store V} {p : ℕ} {n : Seat V} → is_place p ≡ true → ((k : ℕ) → Alike k (seat_of st es p) n)
      → ((k : ℕ) → among k (keys_of n.live.ops) ≡ among k (keys_of (live p es).ops)) → Seated n → MovedOk x es st p n
  alike_ok {p = p} at alike keys seated =
      record {
        seated = seated;
        stakes = λ k row won is ok. stake_alike (alike k) (ok.stakes p at);
        wins = λ k. won_alike (alike k);
        fresh = λ k is was. keys k ∙ was;
      }
