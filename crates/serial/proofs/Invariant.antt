-- What holds after every call of a day: of each place, of each key, and of the order so far.
--   Seat V                 a place with its sheet and the transaction that runs there
--   Seated s               what a place's tables say of its transaction
--   Stake ..               what one place has at stake in one key
--   KeyOk ..              the row of a key against the run of the decided transactions
--   Inv ..                 all of it
use Rattle.std.proofs.Common.{◌≡◌, ℕ, ◌+◌, ◌<◌, ◌≤◌, Bool, true, false, cond, ◌&&◌, ◌||◌, eqb, leb, ◌⊎◌, List, length, Some, None, Option, sym, refl, ap, ◌∙◌, subst, inl, inr, arith}
use Rattle.std.specs.List.{slice_get, AllByRecursion as All}
use Rattle.std.proofs.lemmas.Bool.{cases_eq}
use Rattle.home.specs.declared.row.Row.{Row}
use Rattle.home.specs.Meaning.{is_place}
use Rattle.coordinator.specs.declared.tables.Place.{Place}
use Rattle.coordinator.specs.declared.tables.Entry.{Entry}
use Rattle.coordinator.specs.Tables.{sheet, used_of}
use Rattle.serial.specs.Events.{Event, Store}
use Rattle.serial.specs.Transactions.{Live, Orderly, Transaction, among, frees, granted, nothing_done, is_some, keys_of, last_write, live, pending_write, puts, running, serial_order, unsettled_write, when}
use Rattle.serial.specs.Serial.{Sorted, held_now}
use Rattle.serial.proofs.Run.{AllSee, Sees, value_upto}
use Rattle.serial.proofs.Seats.{place_at}
use Rattle.serial.proofs.Keys.{found, keyed, Apart, keys_apart, found_among}

-- ---- a place

pub record Seat (V : Type 0) : Type 0 where
  pub place : Place
  pub sheet : List (Entry V)
  pub live : Live V

abbrev pub undecided : Place → Bool
undecided p = eqb p.state 1 || eqb p.state 2

abbrev pub engaged : Place → Bool
engaged p = leb 1 p.state && leb p.state 4

-- What an entry says of its transaction's last write.
abbrev pub write_of : {V : Type 0} → Entry V → Option V
write_of e = cond e.written (Some e.value) None

-- A place in the middle of a transaction.
pub record Busy {V : Type 0} (s : Seat V) : Type 0 where
  pub few : s.place.used ≤ 16
  pub within : s.place.cursor ≤ s.place.used
  pub sized : length s.sheet ≡ s.place.used
  pub keys : keyed s.sheet ≡ keys_of s.live.ops
  pub writes : (k : ℕ) (e : Entry V) → found k s.sheet ≡ Some e → last_write k s.live.ops ≡ write_of e
  pub decided : s.live.decided ≡ eqb s.place.state 4
  pub handled : s.live.handled ≡ cond (leb 3 s.place.state) s.place.cursor 0
  -- what was renewed stands at the transaction's timestamp
  pub passed : s.place.state ≡ 2 → (i : ℕ) (e : Entry V) → i < s.place.cursor → slice_get s.sheet i ≡ Some e → e.written ≡ false → s.place.ts ≤ e.rts

pub record Seated {V : Type 0} (s : Seat V) : Type 0 where
  pub free : engaged s.place ≡ false → s.live ≡ nothing_done
  pub busy : engaged s.place ≡ true → Busy s

module _ {V : Type 0} {s : Seat V} (b : Busy s) where
  -- The sheet has no key twice, and those that were met.
  pub its_apart : Apart (keyed s.sheet)
  its_apart = subst Apart (sym b.keys) (keys_apart s.live.ops)

  pub met : (k : ℕ) {o : Option (Entry V)} → found k s.sheet ≡ o → among k (keys_of s.live.ops) ≡ is_some o
  met k is = ap (among k) (sym b.keys) ∙ sym (found_among k s.sheet) ∙ ap is_some is

  -- An entry's mark says whether the key was written.
  pub wrote : (k : ℕ) (e : Entry V) {c : Bool} → found k s.sheet ≡ Some e → e.written ≡ c → last_write k s.live.ops ≡ cond c (Some e.value) None
  wrote k e is mark = b.writes k e is ∙ ap (λ c. cond c (Some e.value) None) mark

  -- The place stays busy with its sheet and its operations, where its numbers are in order.
  pub busy_stays : (pl : Place) (decided : Bool) (handled : ℕ) → pl.used ≡ s.place.used → pl.cursor ≤ pl.used
      → decided ≡ eqb pl.state 4 → handled ≡ cond (leb 3 pl.state) pl.cursor 0
      → (pl.state ≡ 2 → (i : ℕ) (e : Entry V) → i < pl.cursor → slice_get s.sheet i ≡ Some e → e.written ≡ false → pl.ts ≤ e.rts)
      → Busy (record { place = pl; sheet = s.sheet; live = record { ops = s.live.ops; decided = decided; handled = handled } })
  busy_stays pl decided handled used within is_decided is_handled passed =
      record {
        few = omega arith;
        within = within;
        sized = b.sized ∙ sym used;
        keys = b.keys;
        writes = b.writes;
        decided = is_decided;
        handled = is_handled;
        passed = passed;
      }

-- ---- a key

module _ {V : Type 0} where
  -- The value at τ: a write that won counts from its timestamp on, though it is not settled.
  abbrev pub standing : Option (V × ℕ) → Row V → ℕ → V
  standing None row τ = row.value
  standing (Some w) row τ = cond (leb w.1 τ) w.0 row.value

  -- From then on no decided transaction has touched the key.
  abbrev pub bound : Option (V × ℕ) → Row V → ℕ
  bound None row = row.rts
  bound (Some w) row = w.1

  abbrev pub ahead : Option (V × ℕ) → Row V → Type 0
  ahead None row = Unit {0}
  ahead (Some w) row = row.rts < w.1

-- What a transaction read: the value stands for the whole of the lease.
pub record LeaseOk {V : Type 0} (k : ℕ) (x : Option V) (row : Row V) (us : List (Transaction V)) (s : Seat V) (e : Entry V) : Type 0 where
  pub fair : e.wts ≤ e.rts
  pub begins : e.wts ≤ s.place.ts
  pub ends : e.rts ≤ row.rts
  pub value : (τ : ℕ) → e.wts ≤ τ → τ ≤ e.rts → value_upto k x τ us ≡ Some e.value
  pub sees : Sees k (Some e.value) s.live.ops

pub record HoldOk {V : Type 0} (k : ℕ) (row : Row V) (s : Seat V) : Type 0 where
  pub above : row.rts < s.place.ts
  pub sees : Sees k (Some row.value) s.live.ops

pub record Stake {V : Type 0} (k : ℕ) (x : Option V) (row : Row V) (us : List (Transaction V)) (won : Option (V × ℕ)) (p : ℕ) (s : Seat V) : Type 0 where
  pub owner : eqb row.holder p ≡ is_some (pending_write k s.live)
  pub seen : undecided s.place ≡ true → (e : Entry V) → found k s.sheet ≡ Some e → e.written ≡ false → LeaseOk k x row us s e
  pub holds : undecided s.place ≡ true → is_some (pending_write k s.live) ≡ true → HoldOk k row s
  pub wins : (v : V) → unsettled_write k s.live ≡ Some v → won ≡ Some (v, s.place.ts)

pub record KeyOk {V : Type 0} (k : ℕ) (x : Option V) (row : Row V) (us : List (Transaction V)) (seats : ℕ → Seat V) (won : Option (V × ℕ)) : Type 0 where
  pub fair : row.wts ≤ row.rts
  pub stands : (τ : ℕ) → row.wts ≤ τ → value_upto k x τ us ≡ Some (standing won row τ)
  pub quiet : All (λ (t : Transaction V). bound won row < t.ts → among k (keys_of t.ops) ≡ false) us
  pub sees : AllSee k x us
  pub above : ahead won row
  pub winner : (w : V × ℕ) → won ≡ Some w → (p : ℕ) × (is_place p ≡ true) × (unsettled_write k (seats p).live ≡ Some w.0)
  pub stakes : (p : ℕ) → is_place p ≡ true → Stake k x row us won p (seats p)
  -- a holder is a place
  pub holder : (row.holder ≡ 0) ⊎ (is_place row.holder ≡ true)

-- A key that the home does not have.
pub record VoidOk {V : Type 0} (k : ℕ) (x : Option V) (us : List (Transaction V)) (seats : ℕ → Seat V) : Type 0 where
  pub none : x ≡ None
  pub skipped : All (λ (t : Transaction V). among k (keys_of t.ops) ≡ false) us
  pub fresh : (p : ℕ) → is_place p ≡ true → among k (keys_of (seats p).live.ops) ≡ false

-- ---- all of it

abbrev pub seat_of : {V : Type 0} → Store V → List (Event V) → ℕ → Seat V
seat_of st es p =
    record {
      place = place_at st.tables.places p;
      sheet = sheet p (used_of (place_at st.tables.places p)) st.tables.entries;
      live = live p es;
    }

-- What holds of a key of the home with its row, and what a place has at stake in it.
abbrev pub KeyIn : {V : Type 0} → (ℕ → Option V) → List (Event V) → Store V → ℕ → Row V → Option (V × ℕ) → Type 0
KeyIn x es st k row won = KeyOk k (x k) row (serial_order es) (seat_of st es) won

abbrev pub StakeIn : {V : Type 0} → (ℕ → Option V) → List (Event V) → ℕ → Row V → Option (V × ℕ) → ℕ → Seat V → Type 0
StakeIn x es k row won p s = Stake k (x k) row (serial_order es) won p s

pub record Inv {V : Type 0} (x : ℕ → Option V) (es : List (Event V)) (st : Store V) : Type 0 where
  pub many : 64 ≤ length st.tables.places
  pub long : 1024 ≤ length st.tables.entries
  pub seated : (p : ℕ) → is_place p ≡ true → Seated (seat_of st es p)
  pub keys : (k : ℕ) (row : Row V) → slice_get st.tables.home.rows k ≡ Some row → (won : Option (V × ℕ)) × KeyIn x es st k row won
  pub voids : (k : ℕ) → slice_get st.tables.home.rows k ≡ None → VoidOk k (x k) (serial_order es) (seat_of st es)
  pub sorted : Sorted (serial_order es)
  pub numbered : All (λ (t : Transaction V). t.number ≤ st.counter) (serial_order es)
  pub limit : st.counter ≤ 999999
  pub holds : granted es ≡ puts es + frees es + held_now st.tables.home.rows

-- A transaction runs at a place exactly while the place is not free.
abbrev pub Runs : {V : Type 0} → List (Event V) → Store V → Type 0
Runs es st = (p : ℕ) → is_place p ≡ true → running p es ≡ engaged (place_at st.tables.places p)

-- All that holds after every call.
pub record Good {V : Type 0} (x : ℕ → Option V) (es : List (Event V)) (st : Store V) : Type 0 where
  pub inv : Inv x es st
  pub runs : Runs es st
  pub orderly : Orderly es

-- ---- one seat moves

-- The place in question, or another.
pub by_place : (P : ℕ → Type 0) (p q : ℕ) → P p → ((q ≡ p → ⊥) → P q) → P q
by_place P p q here other = elim (cases_eq q p) [ inl same ↦ subst P (sym same) here | inr apart ↦ other apart ]

module _ {V : Type 0} where
  -- Nothing that counts for the key has changed, but that the timestamp may have grown.
  pub record Alike (k : ℕ) (s n : Seat V) : Type 0 where
    pub write : pending_write k n.live ≡ pending_write k s.live
    pub decided : n.live.decided ≡ s.live.decided
    pub undecided : undecided n.place ≡ true → undecided s.place ≡ true
    pub entry : found k n.sheet ≡ found k s.sheet
    pub later : s.place.ts ≤ n.place.ts
    pub same : s.live.decided ≡ true → n.place.ts ≡ s.place.ts
    pub sees : (y : Option V) → Sees k y s.live.ops → Sees k y n.live.ops

  -- What is won is held.
  pub won_open : (k : ℕ) (l : Live V) (v : V) → unsettled_write k l ≡ Some v → (l.decided ≡ true) × (pending_write k l ≡ Some v)
  won_open k l v is = go l.decided is
    where
      go : (b : Bool) → when b (pending_write k l) ≡ Some v → (b ≡ true) × (pending_write k l ≡ Some v)
      go true is = (refl, is)
      go false is = cc

  pub won_alike : {k : ℕ} {s n : Seat V} → Alike k s n → unsettled_write k n.live ≡ unsettled_write k s.live
  won_alike a = cc

  pub stake_alike : {k : ℕ} {x : Option V} {row : Row V} {us : List (Transaction V)} {won : Option (V × ℕ)} {p : ℕ} {s n : Seat V} → Alike k s n → Stake k x row us won p s → Stake k x row us won p n
  stake_alike {k} {s = s} a old =
      record {
        owner = old.owner ∙ ap is_some (sym a.write);
        seen = λ u e is unwritten.
            let o = old.seen (a.undecided u) e (sym a.entry ∙ is) unwritten in
            record { fair = o.fair; begins = (let b = o.begins in let l = a.later in omega arith); ends = o.ends; value = o.value; sees = a.sees _ o.sees };
        holds = λ u is.
            let o = old.holds (a.undecided u) (sym (ap is_some a.write) ∙ is) in
            record { above = omega arith; sees = a.sees _ o.sees };
        wins = λ v is.
            let was = sym (won_alike a) ∙ is in
            let t = a.same (won_open k s.live v was).0 in
            old.wins v was ∙ ap (λ (m : ℕ). Some (v, m)) (sym t);
      }

  -- One place has another seat, the others the same.
  pub record Moves (seats next : ℕ → Seat V) (p : ℕ) (n : Seat V) : Type 0 where
    pub here : next p ≡ n
    pub others : (q : ℕ) → is_place q ≡ true → (q ≡ p → ⊥) → next q ≡ seats q

  -- What holds of the new seat, and of the others as they were, holds of every seat.
  pub all_moved : {seats next : ℕ → Seat V} {p : ℕ} {n : Seat V} → Moves seats next p n → (P : ℕ → Seat V → Type 0) → P p n
      → ((q : ℕ) → is_place q ≡ true → (q ≡ p → ⊥) → P q (seats q)) → (q : ℕ) → is_place q ≡ true → P q (next q)
  all_moved {seats} {next} {p} {n} m P here there q at =
      by_place (λ r. is_place r ≡ true → P r (next r)) p q (λ _. subst (P p) (sym m.here) here)
      (λ apart at. subst (P q) (sym (m.others q at apart)) (there q at apart)) at

  -- Where a write that won is.
  abbrev pub WonBy : ℕ → V → (ℕ → Seat V) → Type 0
  WonBy k v seats = (p : ℕ) × (is_place p ≡ true) × (unsettled_write k (seats p).live ≡ Some v)

  pub won_moved : {seats next : ℕ → Seat V} {p : ℕ} {n : Seat V} → Moves seats next p n → (k : ℕ) (v : V)
      → (unsettled_write k (seats p).live ≡ Some v → unsettled_write k n.live ≡ Some v) → WonBy k v seats → WonBy k v next
  won_moved {seats} m k v still won =
      (won.0, won.1, all_moved m (λ q (s : Seat V). unsettled_write k (seats q).live ≡ Some v → unsettled_write k s.live ≡ Some v) still (λ q at apart is. is) won.0 won.1 won.2)

  -- A key keeps what holds of it where one seat moves and neither its row nor the order changes.
  module _ {k : ℕ} {x : Option V} {row : Row V} {us : List (Transaction V)} {seats next : ℕ → Seat V} {won : Option (V × ℕ)} {p : ℕ} {n : Seat V} where
    pub key_moves : Moves seats next p n → Stake k x row us won p n → unsettled_write k n.live ≡ unsettled_write k (seats p).live → KeyOk k x row us seats won → KeyOk k x row us next won
    key_moves m stake write old =
        record {
          fair = old.fair;
          stands = old.stands;
          quiet = old.quiet;
          sees = old.sees;
          above = old.above;
          holder = old.holder;
          winner = λ w is. won_moved m k w.0 (λ was. write ∙ was) (old.winner w is);
          stakes = all_moved m (Stake k x row us won) stake (λ q at _. old.stakes q at);
        }

  module _ {k : ℕ} {x : Option V} {us : List (Transaction V)} {seats next : ℕ → Seat V} {p : ℕ} {n : Seat V} where
    pub void_moves : Moves seats next p n → among k (keys_of n.live.ops) ≡ false → VoidOk k x us seats → VoidOk k x us next
    void_moves m none old =
        record { none = old.none; skipped = old.skipped; fresh = all_moved m (λ q (s : Seat V). among k (keys_of s.live.ops) ≡ false) none (λ q at _. old.fresh q at) }
