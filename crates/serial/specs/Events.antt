-- Histories: any of the eight calls, one after another, each with its answer.
--   Store V              what the calls work on: the home's meaning, both tables and the commit counter
--   Event V              a call with its answer; answer_of, the answer alone
--   stepped st call      what a call comes to, by the rule that its contract names
--   History V, history_of    the events of a list of calls and the store that they leave; newest first
use Rattle.std.specs.Prelude.{ℕ, Bool, List, [], ◌∷◌, length, Ok, Err, Result}
use Rattle.home.specs.declared.fault.Fault.{Fault}
use Rattle.home.specs.Meaning.{Meaning}
use Rattle.coordinator.specs.declared.call.Call.{Call}
use Rattle.coordinator.specs.declared.call.Answer.{Answer}
use Rattle.coordinator.specs.declared.tables.Place.{Place}
use Rattle.coordinator.specs.declared.tables.Entry.{Entry}
use Rattle.coordinator.specs.Tables.{Tables, tables}
use Rattle.coordinator.specs.Calls.{Decision, Did, Turn, abort_turn, begin_turn, decide_turn, freeze_turn, read_call, renew_call, settle_call, with_places, write_call}

pub record Store (V : Type 0) : Type 0 where
  pub tables : Tables V
  pub counter : ℕ

abbrev pub store : {V : Type 0} → Meaning V → List Place → List (Entry V) → ℕ → Store V
store home places entries counter = record { tables = tables home places entries; counter = counter }

-- An accepted call with what it was given and answered, or a refused one with its fault.
pub data Event (V : Type 0) : Type 0 where
  -- begin: the place
  did_begin : ℕ → Event V
  -- read: the place, the key, the value that was answered
  did_read : ℕ → ℕ → V → Event V
  -- write: the place, the key, the value, the timestamp that was answered
  did_write : ℕ → ℕ → V → ℕ → Event V
  -- freeze: the place, the timestamp
  did_freeze : ℕ → ℕ → Event V
  -- renew: the place, the entries left
  did_renew : ℕ → ℕ → Event V
  -- decide: the place, the commit timestamp, the commit number
  did_decide : ℕ → ℕ → ℕ → Event V
  -- settle: the place, the entries left, whether the place was freed
  did_settle : ℕ → ℕ → Bool → Event V
  -- abort: the place
  did_abort : ℕ → Event V
  refused : Call V → Fault → Event V

abbrev pub happens : {V A : Type 0} → Call V → (A → Event V) → Result A Fault → Event V
happens call f (Ok a) = f a
happens call f (Err fault) = refused call fault

-- What the caller is answered.
abbrev pub answer_of : {V : Type 0} → Event V → Result (Answer V) Fault
answer_of (did_begin place) = Ok Answer.Done
answer_of (did_read place key value) = Ok (Answer.Value value)
answer_of (did_write place key value ts) = Ok (Answer.Time ts)
answer_of (did_freeze place ts) = Ok (Answer.Time ts)
answer_of (did_renew place left) = Ok (Answer.Left left)
answer_of (did_decide place ts number) = Ok (Answer.Committed ts number)
answer_of (did_settle place left freed) = Ok (Answer.Settled left freed)
answer_of (did_abort place) = Ok Answer.Done
answer_of (refused call fault) = Err fault

-- ---- one call

pub record Step (V : Type 0) : Type 0 where
  pub event : Event V
  pub store : Store V

abbrev pub by_turn : {V A : Type 0} → Store V → Call V → (A → Event V) → Turn A → Step V
by_turn st call f d = record { event = happens call f d.answer; store = record { tables = with_places st.tables d.places; counter = st.counter } }

abbrev pub by_did : {V A : Type 0} → Store V → Call V → (A → Event V) → Did V A → Step V
by_did st call f d = record { event = happens call f d.answer; store = record { tables = d.tables; counter = st.counter } }

abbrev pub by_decision : {V A : Type 0} → Store V → Call V → (A → Event V) → Decision A → Step V
by_decision st call f d = record { event = happens call f d.answer; store = record { tables = with_places st.tables d.places; counter = d.counter } }

-- Each call by the rule that the contract of its function names.
unfoldable pub stepped : {V : Type 0} → Store V → Call V → Step V
stepped st (Call.Begin place) = by_turn st (Call.Begin place) (λ _. did_begin place) (begin_turn st.tables.places (length st.tables.entries) place)
stepped st (Call.Read place key) = by_did st (Call.Read place key) (λ value. did_read place key value) (read_call st.tables place key)
stepped st (Call.Write place key value) = by_did st (Call.Write place key value) (λ ts. did_write place key value ts) (write_call st.tables place key value)
stepped st (Call.Freeze place) = by_turn st (Call.Freeze place) (λ ts. did_freeze place ts) (freeze_turn st.tables.places (length st.tables.entries) place)
stepped st (Call.Renew place) = by_did st (Call.Renew place) (λ left. did_renew place left) (renew_call st.tables place)
stepped st (Call.Decide place) = by_decision st (Call.Decide place) (λ commit. did_decide place commit.0 commit.1) (decide_turn st.tables.places (length st.tables.entries) st.counter place)
stepped st (Call.Settle place) = by_did st (Call.Settle place) (λ answer. did_settle place answer.0 answer.1) (settle_call st.tables place)
stepped st (Call.Abort place) = by_turn st (Call.Abort place) (λ _. did_abort place) (abort_turn st.tables.places (length st.tables.entries) place)

-- ---- a list of calls, the newest first, each made on what the earlier ones left

pub record History (V : Type 0) : Type 0 where
  -- the newest first
  pub events : List (Event V)
  pub store : Store V

abbrev pub onto : {V : Type 0} → History V → Step V → History V
onto earlier step = record { events = step.event ∷ earlier.events; store = step.store }

abbrev pub next : {V : Type 0} → History V → Call V → History V
next earlier call = onto earlier (stepped earlier.store call)

abbrev pub history_of : {V : Type 0} → Store V → List (Call V) → History V
history_of first [] = record { events = []; store = first }
history_of first (call ∷ earlier) = next (history_of first earlier) call
