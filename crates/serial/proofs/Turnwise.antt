-- Each accepted call has its turn in the transaction at its place.
--   keeps_runs    a transaction runs at a place exactly while the place is engaged, after every call
--   in_turn       what is accepted is what the transaction may do next
use Rattle.std.proofs.Common.{◌≡◌, ℕ, ◌≤◌, Bool, true, false, ◌&&◌, eqb, ltb, leb, List, ◌∷◌, length, Some, None, Ok, Err, Option, Result, sym, refl, ap, ◌∙◌, subst, arith}
use lib.ListN.{length-map}
use Rattle.std.proofs.lemmas.Bool.{cond_both}
use Rattle.std.proofs.lemmas.Option.{slice_get_cases, slice_get_within}
use Rattle.std.proofs.lemmas.Bool.Decides.{nat_tests}
use Rattle.home.specs.declared.fault.Fault.{Fault}
use Rattle.home.specs.Meaning.{is_place}
use Rattle.coordinator.specs.declared.call.Call.{Call}
use Rattle.coordinator.specs.declared.tables.Place.{Place}
use Rattle.coordinator.specs.declared.tables.Entry.{Entry}
use Rattle.coordinator.specs.Tables.{Tables, at_cursor, count_of, cursor_of, entered, put_place, sheet, sought, used_of}
use Rattle.coordinator.specs.Calls.{Decision, Did, Turn, abort_turn, at_place, begin_turn, by_entry, decide_turn, deciding, deciding_at, freed, freeze_turn, left_after, loses, lost_if, onward, read_call, reading, renew_call, renewing, settle_call, settling, turning, write_call, writing}
use Rattle.serial.specs.Events.{Event, Store, did_abort, did_begin, did_decide, did_freeze, did_read, did_renew, did_settle, did_write, happens, stepped}
use Rattle.serial.specs.Transactions.{InTurn, Live, Undecided, keys_of, live, running}
use Rattle.serial.proofs.Seats.{Entered, by_entered, place_at, place_other, place_same}
use Rattle.serial.proofs.Rules.{read_cases, write_cases, renew_cases, settle_cases}
use Rattle.serial.proofs.Invariant.{Inv, Runs, by_place, engaged}

-- ---- which places are engaged

-- The same places are engaged.
abbrev Same : List Place → List Place → Type 0
Same old new = (q : ℕ) → is_place q ≡ true → engaged (place_at new q) ≡ engaged (place_at old q)

-- A place in the middle of a transaction, where any other such record may be stored.
record InCourse (places : List Place) (p : ℕ) : Type 0 where
  pub busy : engaged (place_at places p) ≡ true
  pub stored : (new : Place) → engaged new ≡ true → Same places (put_place places p new)

in_course : (code : ℕ) (places : List Place) (n p : ℕ) → eqb code 1 ≡ false → Entered code places n p → InCourse places p
in_course code places n p later en =
    record {
      busy = was;
      stored = λ new is q at.
          by_place (λ r. is_place r ≡ true → engaged (place_at (put_place places p new) r) ≡ engaged (place_at places r)) p q
          (λ _. ap engaged (place_same places p new en.place en.many) ∙ is ∙ sym was)
          (λ apart at. ap engaged (place_other places p q new en.place at apart)) at;
    }
  where
    was : engaged (place_at places p) ≡ true
    was = grind (arith, nat_tests)

module _ (places : List Place) (p : ℕ) (c : InCourse places p) where
  abbrev at_p : Place
  at_p = place_at places p

  lost_same : (fault : Fault) → Same places (lost_if fault places p at_p)
  lost_same fault = cond_both (loses fault) _ _ (Same places) (λ _. c.stored _ refl) (λ _ q at. refl)

  decide_same : (counter : ℕ) → Same places (deciding places counter p at_p).places
  decide_same counter =
      cond_both (ltb (cursor_of at_p) (used_of at_p)) _ _ (λ (d : Decision (ℕ × ℕ)). Same places d.places) (λ _ q at. refl)
      (λ _. cond_both (eqb (count_of counter) 999999) _ _ (λ (d : Decision (ℕ × ℕ)). Same places d.places) (λ _ q at. refl) (λ _. c.stored _ refl))

module _ {V : Type 0} where
  -- ---- the calls after begin, but settle: the same places stay engaged

  abbrev Stays : {A : Type 0} → Tables V → Did V A → Type 0
  Stays t d = Same t.places d.tables.places

  module _ (t : Tables V) (p : ℕ) (c : InCourse t.places p) where
    abbrev pl : Place
    pl = place_at t.places p

    read_stays : (k : ℕ) → Stays t (reading t p k pl (sought k 0 (sheet p (used_of pl) t.entries)))
    read_stays k = read_cases t p pl k (Stays t) (λ fault _ q at. refl) (λ n e is q at. refl) (λ row none room is. c.stored _ c.busy)

    write_stays : (k : ℕ) (v : V) → Stays t (writing t p k v pl (sought k 0 (sheet p (used_of pl) t.entries)))
    write_stays k v =
        write_cases t p pl k v (Stays t) (λ fault _ q at. refl) (lost_same t.places p c) (λ n e is written q at. refl)
        (λ n e row is read stood came. c.stored _ c.busy) (λ row none room came. c.stored _ c.busy)

    renew_stays : Stays t (renewing t p pl (at_cursor t.entries p pl))
    renew_stays =
        renew_cases t p pl (Stays t) (λ fault _ q at. refl) (lost_same t.places p c) (λ e is passed. c.stored _ c.busy) (λ e row is unwritten came. c.stored _ c.busy)

  -- ---- settle: refused, the place freed, or the next entry handled

  -- Taken apart once for whatever is to hold of its answer and its places.
  module _ (t : Tables V) (p : ℕ) (P : Result (ℕ × Bool) Fault → List Place → Type 0) (refusal : (fault : Fault) → P (Err fault) t.places) where
    abbrev at_settle : Place
    at_settle = place_at t.places p

    settle_comes : (Entered 7 t.places (length t.entries) p → at_cursor t.entries p at_settle ≡ None → P (Ok (0, true)) (put_place t.places p (freed at_settle)))
        → (Entered 7 t.places (length t.entries) p → (e : Entry V) → at_cursor t.entries p at_settle ≡ Some e
        → P (Ok (left_after at_settle, false)) (put_place t.places p (onward at_settle)))
        → P (settle_call t p).answer (settle_call t p).tables.places
    unfolding settle_call
    settle_comes done next =
        by_entered 7 t.places (length t.entries) p 0 (λ r. P (came r).answer (came r).tables.places)
        (λ fault _. refusal fault)
        (λ en. settle_cases t p at_settle (λ d. P d.answer d.tables.places) (λ fault _. refusal fault) (done en) (λ e is read. next en e is) (λ e row is written came. next en e is))
      where
        came : Result Place Fault → Did V (ℕ × Bool)
        came r = by_entry t (λ pl. settling t p pl (at_cursor t.entries p pl)) r

  -- ---- a transaction runs exactly while its place is engaged

  abbrev RunsIn : List (Event V) → List Place → Type 0
  RunsIn es places = (q : ℕ) → is_place q ≡ true → running q es ≡ engaged (place_at places q)

  -- The event begins and ends nothing, and the same places are engaged.
  runs_same : {A : Type 0} (es : List (Event V)) (places new : List Place) (call : Call V) (f : A → Event V) → ((a : A) (q : ℕ) → running q (f a ∷ es) ≡ running q es)
      → (answer : Result A Fault) → RunsIn es places → Same places new → RunsIn (happens call f answer ∷ es) new
  runs_same es places new call f quiet (Ok a) r same q at = quiet a q ∙ r q at ∙ sym (same q at)
  runs_same es places new call f quiet (Err fault) r same q at = r q at ∙ sym (same q at)

  -- One place is stored, and the event says of it what the record does.
  runs_stored : (es : List (Event V)) (places : List Place) (p : ℕ) (pl : Place) (e : Event V) → is_place p ≡ true → 64 ≤ length places → RunsIn es places
      → running p (e ∷ es) ≡ engaged pl → ((q : ℕ) → (q ≡ p → ⊥) → running q (e ∷ es) ≡ running q es) → RunsIn (e ∷ es) (put_place places p pl)
  runs_stored es places p pl e at many r here others q is =
      by_place (λ s. is_place s ≡ true → running s (e ∷ es) ≡ engaged (place_at (put_place places p pl) s)) p q
      (λ _. here ∙ sym (ap engaged (place_same places p pl at many)))
      (λ apart is. others q apart ∙ r q is ∙ sym (ap engaged (place_other places p q pl at is apart))) is

  module _ (es : List (Event V)) (st : Store V) (r : Runs es st) (p : ℕ) where
    abbrev places : List Place
    places = st.tables.places

    abbrev n : ℕ
    n = length st.tables.entries

    -- Calls that look at the home, and calls that alter their place alone.
    module _ {A : Type 0} (code k : ℕ) (call : Call V) (f : A → Event V) (later : eqb code 1 ≡ false) (quiet : (a : A) (q : ℕ) → running q (f a ∷ es) ≡ running q es) where
      entry_runs : (rule : Place → Did V A) → (InCourse places p → Stays st.tables (rule (place_at places p)))
          → RunsIn (happens call f (at_place code st.tables p k rule).answer ∷ es) (at_place code st.tables p k rule).tables.places
      entry_runs rule stays =
          by_entered code places n p k (λ o. RunsIn (happens call f (by_entry st.tables rule o).answer ∷ es) (by_entry st.tables rule o).tables.places) (λ fault _. r)
          (λ en. let d = rule (place_at places p) in runs_same es places d.tables.places call f quiet d.answer r (stays (in_course code places n p later en)))

      turn_runs : (rule : Place → A × Place) → engaged (rule (place_at places p)).1 ≡ true
          → RunsIn (happens call f (turning places p rule (entered code places n p k)).answer ∷ es) (turning places p rule (entered code places n p k)).places
      turn_runs rule still =
          by_entered code places n p k (λ o. RunsIn (happens call f (turning places p rule o).answer ∷ es) (turning places p rule o).places) (λ fault _. r)
          (λ en. let o = rule (place_at places p) in runs_same es places (put_place places p o.1) call f quiet (Ok o.0) r ((in_course code places n p later en).stored o.1 still))

    begin_runs : Runs ((stepped st (Call.Begin p)).event ∷ es) (stepped st (Call.Begin p)).store
    unfolding stepped begin_turn
    begin_runs =
        by_entered 1 places n p 0 (λ o. RunsIn (happens (Call.Begin p) (λ _. did_begin p) (came o).answer ∷ es) (came o).places) (λ fault _. r)
        (λ en. runs_stored es places p fresh (did_begin p) en.place en.many r (grind (arith, nat_tests)) (λ q apart. grind (arith, nat_tests)))
      where
        fresh : Place
        fresh = record { state = 1; ts = 0; used = 0; cursor = 0 }

        came : Result Place Fault → Turn (Unit {0})
        came o = turning places p (λ pl. (tt {0}, fresh)) o

    decide_runs : Runs ((stepped st (Call.Decide p)).event ∷ es) (stepped st (Call.Decide p)).store
    unfolding stepped decide_turn
    decide_runs =
        by_entered 6 places n p 0 (λ o. RunsIn (happens (Call.Decide p) decides (deciding_at places st.counter p o).answer ∷ es) (deciding_at places st.counter p o).places) (λ fault _. r)
        (λ en. let d = deciding places st.counter p (place_at places p) in runs_same es places d.places (Call.Decide p) decides (λ commit q. refl) d.answer r (decide_same places p (in_course 6 places n p refl en) st.counter))
      where
        decides : ℕ × ℕ → Event V
        decides commit = did_decide p commit.0 commit.1

    settle_runs : Runs ((stepped st (Call.Settle p)).event ∷ es) (stepped st (Call.Settle p)).store
    unfolding stepped
    settle_runs =
        settle_comes st.tables p (λ answer new. RunsIn (happens (Call.Settle p) (λ a. did_settle p a.0 a.1) answer ∷ es) new) (λ fault. r)
        (λ en is. runs_stored es places p (freed (place_at places p)) (did_settle p 0 true) en.place en.many r (grind (arith, nat_tests)) (λ q apart. grind (arith, nat_tests)))
        (λ en e is.
        let c = in_course 7 places n p refl en in
        let next = onward (place_at places p) in
        runs_same es places (put_place places p next) (Call.Settle p) (λ (left : ℕ). did_settle p left false) (λ left q. grind (arith, nat_tests))
        (Ok (left_after (place_at places p))) r (c.stored next c.busy))

  pub keeps_runs : (es : List (Event V)) (st : Store V) → 64 ≤ length st.tables.places → Runs es st → (call : Call V) → Runs ((stepped st call).event ∷ es) (stepped st call).store
  unfolding stepped read_call write_call renew_call freeze_turn abort_turn
  keeps_runs es st many r (Call.Begin p) = begin_runs es st r p
  keeps_runs es st many r (Call.Read p k) = entry_runs es st r p 2 k (Call.Read p k) (λ v. did_read p k v) refl (λ v q. refl) _
      (λ c. read_stays st.tables p c k)
  keeps_runs es st many r (Call.Write p k v) = entry_runs es st r p 3 k (Call.Write p k v) (λ ts. did_write p k v ts) refl (λ ts q. refl) _
      (λ c. write_stays st.tables p c k v)
  keeps_runs es st many r (Call.Freeze p) = turn_runs es st r p 4 0 (Call.Freeze p) (λ ts. did_freeze p ts) refl (λ ts q. refl) _ refl
  keeps_runs es st many r (Call.Renew p) = entry_runs es st r p 5 0 (Call.Renew p) (λ left. did_renew p left) refl (λ left q. refl) _
      (renew_stays st.tables p)
  keeps_runs es st many r (Call.Decide p) = decide_runs es st r p
  keeps_runs es st many r (Call.Settle p) = settle_runs es st r p
  keeps_runs es st many r (Call.Abort p) = turn_runs es st r p 8 0 (Call.Abort p) (λ _. did_abort p) refl (λ _ q. refl) _ refl

  -- ---- each call in its turn

  module _ (x : ℕ → Option V) (es : List (Event V)) (st : Store V) (i : Inv x es st) (r : Runs es st) (p : ℕ) where
    abbrev here : Place
    here = place_at st.tables.places p

    abbrev now : Live V
    now = live p es

    -- Let in by any call but begin and settle, a transaction has neither decided nor settled anything.
    undecided_now : (code : ℕ) → leb 2 code && leb code 8 ≡ true → eqb code 7 ≡ false → Entered code st.tables.places (length st.tables.entries) p → Undecided p es
    undecided_now code range other en =
        let was : engaged here ≡ true = grind (arith, nat_tests) in
        let b = (i.seated p en.place).busy was in
        record { runs = r p en.place ∙ was; undecided = grind (arith, nat_tests); unsettled = grind (arith, nat_tests) }

    -- The answers of a call that is let in only while the transaction is undecided.
    module _ {A : Type 0} (code k : ℕ) (call : Call V) (f : A → Event V) (range : leb 2 code && leb code 8 ≡ true) (other : eqb code 7 ≡ false)
        (turn : (a : A) → Undecided p es → InTurn (f a) es) where
      entry_in_turn : (answer : Result Place Fault → Result A Fault) → ((fault : Fault) → answer (Err fault) ≡ Err fault)
          → InTurn (happens call f (answer (entered code st.tables.places (length st.tables.entries) p k))) es
      entry_in_turn answer passes =
          by_entered code st.tables.places (length st.tables.entries) p k (λ o. InTurn (happens call f (answer o)) es)
          (λ fault _. subst (λ a. InTurn (happens call f a) es) (sym (passes fault)) (tt {0}))
          (λ en. by_answer (undecided_now code range other en) (answer (Ok here)))
        where
          by_answer : Undecided p es → (a : Result A Fault) → InTurn (happens call f a) es
          by_answer u (Ok a) = turn a u
          by_answer u (Err fault) = tt {0}

      -- The same of calls that look at the home, and of calls that alter their place alone.
      call_in_turn : (rule : Place → Did V A) → InTurn (happens call f (at_place code st.tables p k rule).answer) es
      call_in_turn rule = entry_in_turn (λ o. (by_entry st.tables rule o).answer) (λ fault. refl)

      turn_in_turn : (rule : Place → A × Place) → InTurn (happens call f (turning st.tables.places p rule (entered code st.tables.places (length st.tables.entries) p k)).answer) es
      turn_in_turn rule = entry_in_turn (λ o. (turning st.tables.places p rule o).answer) (λ fault. refl)

    begin_in_turn : InTurn (stepped st (Call.Begin p)).event es
    unfolding stepped begin_turn
    begin_in_turn =
        by_entered 1 st.tables.places (length st.tables.entries) p 0 (λ o. InTurn (happens (Call.Begin p) (λ _. did_begin p) (came o).answer) es) (λ fault _. tt {0})
        (λ en. r p en.place ∙ grind (arith, nat_tests))
      where
        came : Result Place Fault → Turn (Unit {0})
        came o = turning st.tables.places p (λ pl. (tt {0}, record { state = 1; ts = 0; used = 0; cursor = 0 })) o

    -- How far the settles have come, by the stored numbers.
    abbrev Progress : Type 0
    Progress = (running p es ≡ true) × (now.handled ≡ cursor_of here) × (length (keys_of now.ops) ≡ used_of here) × (length (sheet p (used_of here) st.tables.entries) ≡ used_of here)

    progress : Entered 7 st.tables.places (length st.tables.entries) p → Progress
    progress en =
        let was : engaged here ≡ true = grind (arith, nat_tests) in
        let b = (i.seated p en.place).busy was in
        let far : now.handled ≡ here.cursor = grind (arith, nat_tests) in
        let size = length-map (sheet p (used_of here) st.tables.entries) (λ (e : Entry V). e.key) in
        let keys = ap length b.keys in
        (r p en.place ∙ was, omega arith, omega arith, omega arith)

    settle_in_turn : InTurn (stepped st (Call.Settle p)).event es
    unfolding stepped
    settle_in_turn =
        settle_comes st.tables p (λ answer new. InTurn (happens (Call.Settle p) (λ a. did_settle p a.0 a.1) answer) es) (λ fault. tt {0})
        (λ en is.
        let f = progress en in
        (f.0, (refl, grind (arith, slice_get_cases (sheet p (used_of here) st.tables.entries) (cursor_of here)))))
        (λ en e is.
        let f = progress en in
        (f.0, omega (arith, slice_get_within (sheet p (used_of here) st.tables.entries) (cursor_of here) e is)))

  pub in_turn : (x : ℕ → Option V) (es : List (Event V)) (st : Store V) → Inv x es st → Runs es st → (call : Call V) → InTurn (stepped st call).event es
  unfolding stepped read_call write_call renew_call freeze_turn abort_turn decide_turn
  in_turn x es st i r (Call.Begin p) = begin_in_turn x es st i r p
  in_turn x es st i r (Call.Read p k) = call_in_turn x es st i r p 2 k (Call.Read p k) (λ v. did_read p k v) refl refl (λ v u. u) _
  in_turn x es st i r (Call.Write p k v) = call_in_turn x es st i r p 3 k (Call.Write p k v) (λ ts. did_write p k v ts) refl refl (λ ts u. u) _
  in_turn x es st i r (Call.Freeze p) = turn_in_turn x es st i r p 4 0 (Call.Freeze p) (λ ts. did_freeze p ts) refl refl (λ ts u. u) _
  in_turn x es st i r (Call.Renew p) = call_in_turn x es st i r p 5 0 (Call.Renew p) (λ left. did_renew p left) refl refl (λ left u. u) _
  in_turn x es st i r (Call.Decide p) =
      entry_in_turn x es st i r p 6 0 (Call.Decide p) (λ (commit : ℕ × ℕ). did_decide p commit.0 commit.1) refl refl (λ commit u. u)
      (λ o. (deciding_at st.tables.places st.counter p o).answer) (λ fault. refl)
  in_turn x es st i r (Call.Settle p) = settle_in_turn x es st i r p
  in_turn x es st i r (Call.Abort p) = turn_in_turn x es st i r p 8 0 (Call.Abort p) (λ _. did_abort p) refl refl (λ _ u. u) _
