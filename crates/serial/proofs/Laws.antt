-- Every call obeys the laws of its refusals and of its reach; its rule is taken apart stage by stage.
--   Fine st call step    the laws of one call, of a step that it may come to
--   lawful               the laws of every call
use Rattle.std.proofs.Common.{◌≡◌, ℕ, ◌+◌, ◌-◌, ◌<◌, ◌≤◌, Bool, true, false, cond, eqb, ltb, ◌⊎◌, List, length, Some, None, Ok, Err, Option, Result, sym, refl, ap, ◌∙◌, subst, arith, length-set}
use Rattle.std.specs.List.{slice_get}
use Rattle.std.proofs.lemmas.Option.{slice_get_cases, slice_get_within}
use Rattle.std.proofs.lemmas.Bool.{cond_both}
use Rattle.std.proofs.lemmas.Bool.Decides.{nat_tests}
use Rattle.home.specs.declared.fault.Fault.{Fault}
use Rattle.home.specs.declared.row.Row.{Row}
use Rattle.home.specs.Rows.{grants}
use Rattle.home.proofs.Laws.{nth_set_other, nth_set_same}
use Rattle.home.specs.Meaning.{Meaning, after, is_place, raised}
use Rattle.coordinator.specs.declared.call.Call.{Call}
use Rattle.coordinator.specs.declared.tables.Place.{Place}
use Rattle.coordinator.specs.declared.tables.Entry.{Entry}
use Rattle.coordinator.specs.Tables.{at_cursor, base_of, count_of, cursor_of, entered, put_entry, put_place, sheet, sought, tables, used_of}
use Rattle.coordinator.specs.Calls.{Decision, Did, abort_turn, begin_turn, by_entry, decide_turn, deciding_at, freed, freeze_turn, holding, left_after, loses, onward, read_call, renew_call, settle_call, turning, with_places, write_call, writing}
use Rattle.serial.specs.Events.{Event, Store, Step, by_decision, by_did, by_turn, did_abort, did_begin, did_decide, did_freeze, did_read, did_renew, did_settle, did_write, refused, stepped}
use Rattle.serial.specs.Laws.{Handled, Lawful, OneEntry, Reaches, losing, place_of, raised_by}
use Rattle.serial.proofs.Seats.{by_entered, place_range, sheet_length}
use Rattle.serial.proofs.Rules.{read_cases, write_cases, renew_cases, settle_cases}
use Rattle.serial.proofs.Keys.{sought_found}

-- ---- what a step may alter of the places

abbrev OwnPlace : ℕ → List Place → List Place → Type 0
OwnPlace p old new = ((i : ℕ) → (i + 1 ≡ p → ⊥) → slice_get new i ≡ slice_get old i) × (length new ≡ length old)

same_places : (p : ℕ) (places : List Place) → OwnPlace p places places
same_places p places = (λ i apart. refl, refl)

put_places : (p : ℕ) (places : List Place) (pl : Place) → is_place p ≡ true → OwnPlace p places (put_place places p pl)
put_places p places pl at = (λ i apart. nth_set_other places (p - 1) i pl (λ same. apart (omega (arith, place_range p at))), length-set places (p - 1) pl)

module _ {V : Type 0} where
  -- ---- the laws of a step

  -- The store that a refusal leaves: `loss` for one that loses, and `here` what stands at the place.
  abbrev lost_store : Store V → Call V → Bool → Option Place → Store V
  lost_store st call loss here =
      record { tables = with_places st.tables (cond loss (losing st.tables.places (place_of call) here) st.tables.places); counter = st.counter }

  pub record Fine (st : Store V) (call : Call V) (step : Step V) : Type 0 where
    pub refusal : (fault : Fault) → step.event ≡ refused call fault → step.store ≡ lost_store st call (loses fault) (slice_get st.tables.places (place_of call - 1))
    pub reach : Reaches st step.store (place_of call) (raised_by step.event)
    pub single : OneEntry st step.store step.event

  -- ---- what a step may alter of the entries and of the home

  abbrev OwnSheet : ℕ → List (Entry V) → List (Entry V) → Type 0
  OwnSheet p old new = ((i : ℕ) → (i < base_of p) ⊎ (base_of p + 16 ≤ i) → slice_get new i ≡ slice_get old i) × (length new ≡ length old)

  abbrev OneRow : Meaning V → Meaning V → Type 0
  OneRow old new =
      ((key : ℕ) × ((k : ℕ) → (k ≡ key → ⊥) → slice_get new.rows k ≡ slice_get old.rows k))
      × (length new.rows ≡ length old.rows) × (new.last ≡ old.last)

  same_sheets : (p : ℕ) (entries : List (Entry V)) → OwnSheet p entries entries
  same_sheets p entries = (λ i out. refl, refl)

  put_sheets : (p at : ℕ) (entries : List (Entry V)) (e : Entry V) → at < 16 → OwnSheet p entries (put_entry entries p at e)
  put_sheets p at entries e low = (λ i out. nth_set_other entries (base_of p + at) i e (λ same. grind arith), length-set entries (base_of p + at) e)

  same_rows : (m : Meaning V) → OneRow m m
  same_rows m = ((0, λ k apart. refl), refl, refl)

  put_rows : (m : Meaning V) (key : ℕ) (row : Row V) → OneRow m (after m key (grants row))
  put_rows m key row = ((key, λ k apart. nth_set_other m.rows key k row apart), length-set m.rows key row, refl)

  reaches : (st new : Store V) (p raised : ℕ)
      → OwnPlace p st.tables.places new.tables.places → OwnSheet p st.tables.entries new.tables.entries
      → OneRow st.tables.home new.tables.home → new.counter ≡ st.counter + raised → Reaches st new p raised
  reaches st new p raised places entries home counter =
      record {
        places = places.0;
        many = places.1;
        entries = entries.0;
        long = entries.1;
        rows = home.0;
        count = home.1;
        last = home.2;
        counter = counter;
      }

  -- ---- a refusal

  -- It alters nothing.
  stays : (st : Store V) (call : Call V) (fault : Fault) → loses fault ≡ false → Fine st call (record { event = refused call fault; store = st })
  stays st call fault no' =
      record {
        refusal = λ given is.
            let same : fault ≡ given = cc in
            ap (λ b. lost_store st call b (slice_get st.tables.places (place_of call - 1))) (sym no' ∙ ap loses same);
        reach = reaches st st (place_of call) 0 (same_places _ _) (same_sheets _ _) (same_rows _) (omega arith);
        single = tt;
      }

  -- It turns the place to losing, if it is by 2 or 5.
  turns_away : (st : Store V) (call : Call V) (pl : Place) → is_place (place_of call) ≡ true → slice_get st.tables.places (place_of call - 1) ≡ Some pl
      → (fault : Fault) → Fine st call (record { event = refused call fault; store = lost_store st call (loses fault) (Some pl) })
  turns_away st call pl at is fault =
      record {
        refusal = λ given came.
            let same : fault ≡ given = cc in
            ap (λ (f : Fault). lost_store st call (loses f) (Some pl)) same ∙ ap (λ o. lost_store st call (loses given) o) (sym is);
        reach =
            reaches st (lost_store st call (loses fault) (Some pl)) (place_of call) 0
            (cond_both (loses fault) _ _ (OwnPlace (place_of call) st.tables.places) (λ _. put_places _ _ _ at) (λ _. same_places _ _)) (same_sheets _ _) (same_rows _) (omega arith);
        single = tt;
      }

  -- ---- an accepted call

  accepts : (st new : Store V) (call : Call V) (e : Event V) → ((fault : Fault) → e ≡ refused call fault → ⊥)
      → OwnPlace (place_of call) st.tables.places new.tables.places → OwnSheet (place_of call) st.tables.entries new.tables.entries
      → OneRow st.tables.home new.tables.home → new.counter ≡ st.counter + raised_by e → OneEntry st new e → Fine st call (record { event = e; store = new })
  accepts st new call e accepted places entries home counter single =
      record {
        refusal = λ fault is. absurd (accepted fault is);
        reach = reaches st new (place_of call) (raised_by e) places entries home counter;
        single = single;
      }

  -- ---- the tests that come first, and begin, freeze, abort

  module _ (st : Store V) (call : Call V) where
    -- What every call meets first.
    abbrev at_first : ℕ → ℕ → Result Place Fault
    at_first code key = entered code st.tables.places (length st.tables.entries) (place_of call) key

    -- A call that was let in has its place.
    record Here (pl : Place) : Type 0 where
      pub place : is_place (place_of call) ≡ true
      pub long : 1024 ≤ length st.tables.entries
      pub was : slice_get st.tables.places (place_of call - 1) ≡ Some pl

    -- It is refused by the first tests, and loses nothing, or goes on by its rule.
    by_first : (code key : ℕ) (step : Result Place Fault → Step V) → ((fault : Fault) → step (Err fault) ≡ record { event = refused call fault; store = st })
        → ((pl : Place) → Here pl → Fine st call (step (Ok pl))) → Fine st call (step (at_first code key))
    by_first code key step refusal rule =
        by_entered code _ _ (place_of call) key (λ r. Fine st call (step r)) (λ fault no'. subst (Fine st call) (sym (refusal fault)) (stays st call fault no'))
        (λ en. rule _ (record { place = en.place; long = en.long; was = en.was }))

    -- The place alone is altered.
    fine_turn : {A : Type 0} (f : A → Event V) (code : ℕ) (rule : Place → A × Place)
        → ((a : A) (fault : Fault) → f a ≡ refused call fault → ⊥) → ((a : A) → raised_by (f a) ≡ 0) → ((a : A) (new : Store V) → OneEntry st new (f a))
        → Fine st call (by_turn st call f (turning st.tables.places (place_of call) rule (at_first code 0)))
    fine_turn f code rule accepted level single =
        by_first code 0 (λ r. by_turn st call f (turning st.tables.places (place_of call) rule r)) (λ fault. refl)
        (λ pl h.
        accepts st _ call _ (accepted _) (put_places _ _ _ h.place) (same_sheets _ _) (same_rows _) (omega (arith, level (rule pl).0)) (single _ _))

    -- Calls that look at the home.
    fine_entry : {A : Type 0} (f : A → Event V) (code key : ℕ) (rule : Place → Did V A)
        → ((pl : Place) → Here pl → Fine st call (by_did st call f (rule pl))) → Fine st call (by_did st call f (by_entry st.tables rule (at_first code key)))
    fine_entry f code key rule fine = by_first code key (λ r. by_did st call f (by_entry st.tables rule r)) (λ fault. refl) fine

  fine_begin : (st : Store V) (p : ℕ) → Fine st (Call.Begin p) (stepped st (Call.Begin p))
  unfolding stepped begin_turn
  fine_begin st p = fine_turn st (Call.Begin p) (λ _. did_begin p) 1 _ (λ _ fault is. cc) (λ _. refl) (λ _ new. tt {0})

  fine_freeze : (st : Store V) (p : ℕ) → Fine st (Call.Freeze p) (stepped st (Call.Freeze p))
  unfolding stepped freeze_turn
  fine_freeze st p = fine_turn st (Call.Freeze p) (λ ts. did_freeze p ts) 4 _ (λ _ fault is. cc) (λ _. refl) (λ _ new. tt {0})

  fine_abort : (st : Store V) (p : ℕ) → Fine st (Call.Abort p) (stepped st (Call.Abort p))
  unfolding stepped abort_turn
  fine_abort st p = fine_turn st (Call.Abort p) (λ _. did_abort p) 8 _ (λ _ fault is. cc) (λ _. refl) (λ _ new. tt {0})

  -- ---- decide

  fine_decide : (st : Store V) (p : ℕ) → Fine st (Call.Decide p) (stepped st (Call.Decide p))
  unfolding stepped decide_turn
  fine_decide st p =
      by_first st (Call.Decide p) 6 0 (λ r. step (deciding_at st.tables.places st.counter p r)) (λ fault. refl)
      (λ pl h. cond_both (ltb (cursor_of pl) (used_of pl)) _ _ Ends (λ left. stays st _ _ refl)
      (λ none. cond_both (eqb (count_of st.counter) 999999) _ _ Ends (λ full. stays st _ _ refl)
      (λ more.
      let below : count_of st.counter ≡ 999999 → ⊥ = grind (arith, nat_tests) in
      accepts st _ _ _ (λ fault is. cc) (put_places _ _ _ h.place) (same_sheets _ _) (same_rows _) (omega arith) tt)))
    where
      step : Decision (ℕ × ℕ) → Step V
      step d = by_decision st (Call.Decide p) (λ commit. did_decide p commit.0 commit.1) d

      Ends : Decision (ℕ × ℕ) → Type 0
      Ends d = Fine st (Call.Decide p) (step d)

  -- ---- read

  module _ (st : Store V) (p key : ℕ) where
    fine_read : Fine st (Call.Read p key) (stepped st (Call.Read p key))
    unfolding stepped read_call
    fine_read =
        fine_entry st (Call.Read p key) (λ value. did_read p key value) 2 key _
        (λ pl h. read_cases st.tables p pl key (λ d. Fine st (Call.Read p key) (by_did st (Call.Read p key) (λ value. did_read p key value) d)) (λ fault no'. stays st _ _ no')
        (λ n e is. accepts st st _ _ (λ fault is. cc) (same_places _ _) (same_sheets _ _) (same_rows _) (omega arith) tt)
        (λ row none room is. accepts st _ _ _ (λ fault is. cc) (put_places _ _ _ h.place) (put_sheets p _ _ _ room) (same_rows _) (omega arith) tt))

  -- ---- write

  module _ (st : Store V) (p key : ℕ) (value : V) where
    abbrev WriteFine : Did V ℕ → Type 0
    WriteFine d = Fine st (Call.Write p key value) (by_did st (Call.Write p key value) (λ ts. did_write p key value ts) d)

    module _ (pl : Place) (h : Here st (Call.Write p key value) pl) where
      low_known : (n : ℕ) (e : Entry V) → sought key 0 (sheet p (used_of pl) st.tables.entries) ≡ Some (n, e) → n < 16
      low_known n e is = omega (arith, sought_found key _ n e is, sheet_length p (used_of pl) st.tables.entries h.place (omega arith) h.long)

      write_hold : (n used : ℕ) (row : Row V) → n < 16 → WriteFine (holding st.tables p key value pl n used (grants row))
      write_hold n used row low = accepts st _ _ _ (λ fault is. cc) (put_places _ _ _ h.place) (put_sheets p _ _ _ low) (put_rows _ key row) (omega arith) tt

      by_cases : WriteFine (writing st.tables p key value pl (sought key 0 (sheet p (used_of pl) st.tables.entries)))
      by_cases =
          write_cases st.tables p pl key value WriteFine (λ fault no'. stays st _ _ no') (turns_away st (Call.Write p key value) pl h.place h.was)
          (λ n e is written. accepts st _ _ _ (λ fault is. cc) (same_places _ _) (put_sheets p _ _ _ (low_known n e is)) (same_rows _) (omega arith) tt)
          (λ n e row is read stood came. write_hold n pl.used row (low_known n e is))
          (λ row none room came. write_hold (used_of pl) (used_of pl + 1) row room)

    fine_write : Fine st (Call.Write p key value) (stepped st (Call.Write p key value))
    unfolding stepped write_call
    fine_write = fine_entry st (Call.Write p key value) (λ ts. did_write p key value ts) 3 key _ by_cases

  -- ---- the entry at the cursor

  module _ (st : Store V) (call : Call V) (pl : Place) (h : Here st call pl) where
    cursor_low : (e : Entry V) → at_cursor st.tables.entries (place_of call) pl ≡ Some e → cursor_of pl < used_of pl
    cursor_low e is =
        let low = slice_get_within _ (cursor_of pl) e is in
        omega (arith, sheet_length (place_of call) (used_of pl) st.tables.entries h.place (omega arith) h.long)

    cursor_past : at_cursor st.tables.entries (place_of call) pl ≡ None → cursor_of pl ≡ used_of pl
    cursor_past is =
        grind (arith, slice_get_cases (sheet (place_of call) (used_of pl) st.tables.entries) (cursor_of pl), sheet_length (place_of call) (used_of pl) st.tables.entries h.place (omega arith) h.long)

    goes_to : (new : Place) → slice_get (put_place st.tables.places (place_of call) new) (place_of call - 1) ≡ Some new
    goes_to new = nth_set_same st.tables.places (place_of call - 1) new h.was

    -- The place goes on, and the entry at the cursor may be altered.
    handles : (e : Entry V) → at_cursor st.tables.entries (place_of call) pl ≡ Some e → (home : Meaning V) (entries : List (Entry V))
        → ((i : ℕ) → (i ≡ base_of (place_of call) + cursor_of pl → ⊥) → slice_get entries i ≡ slice_get st.tables.entries i)
        → Handled st (record { tables = tables home (put_place st.tables.places (place_of call) (onward pl)) entries; counter = st.counter })
        (place_of call) (left_after pl)
    handles e is home entries others =
        record { place = pl; was = h.was; goes = goes_to (onward pl); counted = omega (arith, cursor_low e is); others = others }

  -- ---- renew

  module _ (st : Store V) (p : ℕ) where
    abbrev RenewFine : Did V ℕ → Type 0
    RenewFine d = Fine st (Call.Renew p) (by_did st (Call.Renew p) (λ left. did_renew p left) d)

    fine_renew : Fine st (Call.Renew p) (stepped st (Call.Renew p))
    unfolding stepped renew_call
    fine_renew =
        fine_entry st (Call.Renew p) (λ left. did_renew p left) 5 0 _
        (λ pl h. renew_cases st.tables p pl RenewFine (λ fault no'. stays st _ _ no') (turns_away st (Call.Renew p) pl h.place h.was)
        (λ e is passed.
        accepts st _ _ _ (λ fault is. cc) (put_places _ _ _ h.place) (same_sheets p _) (same_rows _) (omega arith) (handles st (Call.Renew p) pl h e is _ _ (λ i apart. refl)))
        (λ e row is unwritten came.
        let low = cursor_low st (Call.Renew p) pl h e is in
        accepts st _ _ _ (λ fault is. cc) (put_places _ _ _ h.place) (put_sheets p _ _ _ (omega arith)) (put_rows _ e.key row) (omega arith)
        (handles st (Call.Renew p) pl h e is _ _ (λ i apart. nth_set_other st.tables.entries (base_of p + cursor_of pl) i _ apart))))

  -- ---- settle

  module _ (st : Store V) (p : ℕ) where
    abbrev SettleFine : Did V (ℕ × Bool) → Type 0
    SettleFine d = Fine st (Call.Settle p) (by_did st (Call.Settle p) (λ answer. did_settle p answer.0 answer.1) d)

    fine_settle : Fine st (Call.Settle p) (stepped st (Call.Settle p))
    unfolding stepped settle_call
    fine_settle =
        fine_entry st (Call.Settle p) (λ answer. did_settle p answer.0 answer.1) 7 0 _
        (λ pl h. settle_cases st.tables p pl SettleFine (λ fault no'. stays st _ _ no')
        (λ is.
        accepts st _ _ _ (λ fault is. cc) (put_places _ _ _ h.place) (same_sheets p _) (same_rows _) (omega arith)
        (record { place = pl; was = h.was; goes = goes_to st (Call.Settle p) pl h (freed pl); counted = (refl, cursor_past st (Call.Settle p) pl h is) }))
        (λ e is read.
        accepts st _ _ _ (λ fault is. cc) (put_places _ _ _ h.place) (same_sheets p _) (same_rows _) (omega arith) (handles st (Call.Settle p) pl h e is _ _ (λ i apart. refl)))
        (λ e row is written came.
        accepts st _ _ _ (λ fault is. cc) (put_places _ _ _ h.place) (same_sheets p _) (put_rows _ e.key row) (omega arith) (handles st (Call.Settle p) pl h e is _ _ (λ i apart. refl))))

  -- ---- every call

  fine : (st : Store V) (call : Call V) → Fine st call (stepped st call)
  fine st (Call.Begin p) = fine_begin st p
  fine st (Call.Read p key) = fine_read st p key
  fine st (Call.Write p key value) = fine_write st p key value
  fine st (Call.Freeze p) = fine_freeze st p
  fine st (Call.Renew p) = fine_renew st p
  fine st (Call.Decide p) = fine_decide st p
  fine st (Call.Settle p) = fine_settle st p
  fine st (Call.Abort p) = fine_abort st p

pub lawful : {V : Type 0} (st : Store V) (call : Call V) → Lawful st call
lawful st call = let f = fine st call in record { refusal = f.refusal; reach = f.reach; single = f.single }
