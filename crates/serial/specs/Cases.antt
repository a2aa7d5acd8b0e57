-- Eight worked cases: histories of calls with every answer, and words of nodes.
--   Scene         a home, calls on it with their answers, and what they come to
--   Naming        a day and a rate of a node, with their word
--   Case          some scenes, or some words
--   cases         the eight
--   AllCases      every one of them holds
use Rattle.std.specs.Prelude.{◌≡◌, ℕ, ◌+◌, ◌*◌, Bool, true, false, List, [], ◌∷◌, ◌++◌, map, reverse, replicate, ℤ, pos, negsuc, Some, None, Option}
use Rattle.std.specs.Int.{w32}
use Rattle.std.proofs.Common.{of_z}
use Rattle.std.specs.List.{slice_get}
use Rattle.home.specs.declared.fault.Refusal.{Refusal}
use Rattle.home.specs.declared.fault.Refusal.TheVariants.{TimeSpent, MovedOn, SheetFull, NoneLeft}
use Rattle.home.specs.declared.fault.Layer.{Layer}
use Rattle.home.specs.declared.fault.Layer.TheVariants.{Home, Coordinator}
use Rattle.home.specs.declared.fault.Fault.{Fault}
use Rattle.home.specs.declared.row.Row.{Row}
use Rattle.kinds.specs.Words.{node_of, node_value, node_word}
use Rattle.kinds.specs.declared.node.Node.{Node}
use Rattle.coordinator.specs.declared.call.Call.{Call}
use Rattle.coordinator.specs.declared.tables.Place.{Place}
use Rattle.coordinator.specs.declared.tables.Entry.{Entry}
use Rattle.coordinator.specs.Tables.{tables}
use Rattle.serial.specs.Events.{Store, Event, did_begin, did_read, did_write, did_freeze, did_renew, did_decide, did_settle, did_abort, refused, History, history_of}
use Rattle.serial.specs.Transactions.{Transaction, serial_order, is_some}

-- ---- a history of calls

pub record Scene : Type 0 where
  -- the home at the opening
  pub last : ℕ
  pub rows : List (Row ℕ)
  -- the calls, each with its answer, the oldest first
  pub script : List (Event ℕ)
  -- the commit numbers in the serial order, the first first
  pub order : List ℕ
  -- some keys with the rows that the calls leave of them
  pub left : List (ℕ × Row ℕ)

-- The call that an event answers.
abbrev pub call_of : Event ℕ → Call ℕ
call_of (did_begin place) = Call.Begin place
call_of (did_read place key value) = Call.Read place key
call_of (did_write place key value ts) = Call.Write place key value
call_of (did_freeze place ts) = Call.Freeze place
call_of (did_renew place left) = Call.Renew place
call_of (did_decide place ts number) = Call.Decide place
call_of (did_settle place left freed) = Call.Settle place
call_of (did_abort place) = Call.Abort place
call_of (refused call fault) = call

-- 64 free places, 1,024 entries that nobody uses, and no commit yet.
abbrev pub free_place : Place
free_place = record { state = 0; ts = 0; used = 0; cursor = 0 }

abbrev pub unused_entry : Entry ℕ
unused_entry = record { key = 0; wts = 0; rts = 0; value = 0; written = false }

abbrev pub opened : ℕ → List (Row ℕ) → Store ℕ
opened last rows =
    record { tables = tables (record { last = last; rows = rows }) (replicate 64 free_place) (replicate 1024 unused_entry); counter = 0 }

-- The same calls once more, by the rules.
abbrev pub played : Scene → History ℕ
played s = history_of (opened s.last s.rows) (reverse (map call_of s.script))

abbrev pub number_in : Transaction ℕ → ℕ
number_in t = t.number

abbrev pub AreLeft : List (Row ℕ) → List (ℕ × Row ℕ) → Type 0
AreLeft rows [] = Unit {0}
AreLeft rows (k ∷ ks) = (slice_get rows k.0 ≡ Some k.1) × AreLeft rows ks

-- Every call is answered as the script says, and the history comes to what is said of it.
abbrev pub Plays : Scene → History ℕ → Type 0
Plays s h =
    (reverse h.events ≡ s.script)
    × (reverse (map number_in (serial_order h.events)) ≡ s.order)
    × AreLeft h.store.tables.home.rows s.left

-- ---- words of nodes

pub record Naming : Type 0 where
  pub day : ℕ
  pub rate : ℤ
  pub word : ℕ
  -- whether there is such a node
  pub stands : Bool

abbrev pub HasWord : Option Node → ℕ → Type 0
HasWord None word = Unit {0}
HasWord (Some node) word = node_word node ≡ word

-- The word is the one of that day and rate; they make a node or none, the word unpacks to the same, and a node packs into it.
abbrev pub Names : Naming → Type 0
Names n =
    (n.day * 4294967296 + of_z w32 n.rate ≡ n.word)
    × (is_some (node_of n.day n.rate) ≡ n.stands)
    × (node_value n.word ≡ node_of n.day n.rate)
    × HasWord (node_of n.day n.rate) n.word

-- ---- cases

pub data Case : Type 0 where
  scenes : List Scene → Case
  words : List Naming → Case

abbrev pub AllPlay : List Scene → Type 0
AllPlay [] = Unit {0}
AllPlay (s ∷ ss) = Plays s (played s) × AllPlay ss

abbrev pub AllName : List Naming → Type 0
AllName [] = Unit {0}
AllName (n ∷ ns) = Names n × AllName ns

abbrev pub Holds : Case → Type 0
Holds (scenes ss) = AllPlay ss
Holds (words ns) = AllName ns

abbrev pub AllHold : List Case → Type 0
AllHold [] = Unit {0}
AllHold (c ∷ cs) = Holds c × AllHold cs

-- ---- the eight: values are small numbers, and a lease is [wts, rts]

abbrev pub row : ℕ → ℕ → ℕ → Row ℕ
row value wts rts = record { value = value; wts = wts; rts = rts; holder = 0 }

abbrev pub held_row : ℕ → ℕ → ℕ → ℕ → Row ℕ
held_row place value wts rts = record { value = value; wts = wts; rts = rts; holder = place }

abbrev pub fault : Refusal → Layer → ℕ → ℕ → ℕ → Fault
fault refusal layer place key detail = record { refusal = refusal; layer = layer; place = place; key = key; detail = detail }

-- 1. Place 1 reads key 0, [0, 0]. Place 2 writes it, decides with timestamp 1 and number 1, and settles.
-- Place 1 decides with timestamp 0 and number 2, and is first in the serial run.
abbrev pub later_number_first : Case
later_number_first = scenes (record {
  last = 1000;
  rows = row 5 0 0 ∷ [];
  script =
      did_begin 1 ∷ did_read 1 0 5
      ∷ did_begin 2 ∷ did_write 2 0 6 1 ∷ did_freeze 2 1 ∷ did_renew 2 0 ∷ did_decide 2 1 1 ∷ did_settle 2 0 false ∷ did_settle 2 0 true
      ∷ did_freeze 1 0 ∷ did_renew 1 0 ∷ did_decide 1 0 2 ∷ [];
  order = 2 ∷ 1 ∷ [];
  left = (0, row 6 1 1) ∷ [];
} ∷ [])

-- 2. With last 10, a write on [4, 9] gets timestamp 10; on [4, 10] it answers 3.
abbrev pub time_spent : Case
time_spent = scenes (record {
  last = 10;
  rows = row 5 4 9 ∷ row 5 4 10 ∷ [];
  script = did_begin 1 ∷ did_write 1 0 6 10 ∷ refused (Call.Write 1 1 6) (fault TimeSpent Home 1 1 0) ∷ [];
  order = [];
  left = (0, held_row 1 5 4 9) ∷ (1, row 5 4 10) ∷ [];
} ∷ [])

-- 3. Keys of class 0: reading [3, 5] and [0, 2] freezes at 3; renewing makes the second row [0, 3].
abbrev pub no_stretch : Case
no_stretch = scenes (record {
  last = 1000;
  rows = row 5 3 5 ∷ row 6 0 2 ∷ [];
  script = did_begin 1 ∷ did_read 1 0 5 ∷ did_read 1 1 6 ∷ did_freeze 1 3 ∷ did_renew 1 1 ∷ did_renew 1 0 ∷ [];
  order = [];
  left = (0, row 5 3 5) ∷ (1, row 6 0 3) ∷ [];
} ∷ [])

-- 4. Place 1 reads [0, 0] and [3, 3]. Place 2 settles a write of the first at 1.
-- Place 1 freezes at 3, and renew answers 5 from the home, with the timestamp 1 that stands; the transaction is lost and settles.
abbrev pub moved_on : Case
moved_on = scenes (record {
  last = 1000;
  rows = row 5 0 0 ∷ row 6 3 3 ∷ [];
  script =
      did_begin 1 ∷ did_read 1 0 5 ∷ did_read 1 1 6
      ∷ did_begin 2 ∷ did_write 2 0 7 1 ∷ did_freeze 2 1 ∷ did_renew 2 0 ∷ did_decide 2 1 1 ∷ did_settle 2 0 false ∷ did_settle 2 0 true
      ∷ did_freeze 1 3 ∷ refused (Call.Renew 1) (fault MovedOn Home 1 0 1)
      ∷ did_settle 1 1 false ∷ did_settle 1 0 false ∷ did_settle 1 0 true ∷ [];
  order = 1 ∷ [];
  left = (0, row 7 1 1) ∷ (1, row 6 3 3) ∷ [];
} ∷ [])

-- 5. Key 49,152 is of class 12. Its lease [0, 0], renewed at 3, ends at 131; with last 100, at 100. Key 0 brings the timestamp 3.
abbrev pub stretched : ℕ → ℕ → Scene
stretched last rts = record {
  last = last;
  rows = row 5 3 3 ∷ replicate 49152 (row 6 0 0);
  script = did_begin 1 ∷ did_read 1 0 5 ∷ did_read 1 49152 6 ∷ did_freeze 1 3 ∷ did_renew 1 1 ∷ did_renew 1 0 ∷ [];
  order = [];
  left = (0, row 5 3 3) ∷ (49152, row 6 0 rts) ∷ [];
}

abbrev pub long_stretch : Case
long_stretch = scenes (stretched 1000 131 ∷ stretched 100 100 ∷ [])

-- 6. A 16th key is accepted, a 17th answers 10, and a known key still reads.
abbrev pub sixteen_keys : List ℕ
sixteen_keys = 0 ∷ 1 ∷ 2 ∷ 3 ∷ 4 ∷ 5 ∷ 6 ∷ 7 ∷ 8 ∷ 9 ∷ 10 ∷ 11 ∷ 12 ∷ 13 ∷ 14 ∷ 15 ∷ []

abbrev pub full_sheet : Case
full_sheet = scenes (record {
  last = 1000;
  rows = map (λ key. row (key + 50) 0 0) (sixteen_keys ++ (16 ∷ []));
  script =
      did_begin 1
      ∷ (map (λ key. did_read 1 key (key + 50)) sixteen_keys
      ++ (refused (Call.Read 1 16) (fault SheetFull Coordinator 1 16 0) ∷ did_read 1 3 53 ∷ []));
  order = [];
  left = [];
} ∷ [])

-- 7. Begin and freeze with no entry: renew answers 11, and decide gives timestamp 0.
abbrev pub no_entry : Case
no_entry = scenes (record {
  last = 1000;
  rows = row 5 0 0 ∷ [];
  script = did_begin 1 ∷ did_freeze 1 0 ∷ refused (Call.Renew 1) (fault NoneLeft Coordinator 1 0 0) ∷ did_decide 1 0 1 ∷ did_settle 1 0 true ∷ [];
  order = 1 ∷ [];
  left = (0, row 5 0 0) ∷ [];
} ∷ [])

-- 8. Day 1 with rate −1 is the word 8,589,934,591. Days 0 and 65,537 are no node: the last word of the one and the first of the other.
abbrev pub node_days : Case
node_days = words (
    record { day = 1; rate = negsuc 0; word = 8589934591; stands = true }
    ∷ record { day = 0; rate = negsuc 0; word = 4294967295; stands = false }
    ∷ record { day = 65537; rate = pos 0; word = 281479271677952; stands = false }
    ∷ [])

abbrev pub cases : List Case
cases =
    later_number_first ∷ time_spent ∷ no_stretch ∷ moved_on ∷ long_stretch ∷ full_sheet ∷ no_entry ∷ node_days ∷ []

abbrev pub AllCases : Type 0
AllCases = AllHold cases
