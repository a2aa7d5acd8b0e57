-- Transactions, their order and their holds, read off the calls and answers alone; no table is looked at.
-- Every list of events, operations or transactions has the newest, or the last in the order, first.
--   Op V                   an accepted read or write of a transaction
--   live p es              what the transaction that runs at place p has done so far
--   decided_in es          the decided transactions, with their operations as they stood at the decide
--   serial_order es        the same by commit timestamp, then commit number
--   keys_of ops            the keys of a transaction in the order of its first access to each, oldest first
--   Orderly es             each accepted call has its turn in the transaction at its place
--   last_write k ops       what a transaction wrote last to a key
--   pending_write k l      the same, until the settle that handles the key
--   unsettled k es         the pending write of a decided transaction
--   granted, puts, frees   the holds that were granted, ended by a put, and freed
use Rattle.std.specs.Prelude.{◌≡◌, ℕ, zero, suc, ◌+◌, Bool, true, false, cond, ◌&&◌, ◌||◌, List, [], ◌∷◌, ◌++◌, length, drop, Some, None, Option, ◌==◌, nat_lt}
use Rattle.std.specs.List.{slice_get}
use Rattle.serial.specs.Events.{Event, did_begin, did_read, did_write, did_freeze, did_renew, did_decide, did_settle, did_abort, refused}

pub data Op (V : Type 0) : Type 0 where
  -- the key, and the value that was answered
  reads : ℕ → V → Op V
  -- the key, and the value that was given
  writes : ℕ → V → Op V

-- ---- the transaction that runs at a place: from its accepted begin to the settle that frees the place

pub record Live (V : Type 0) : Type 0 where
  -- its accepted reads and writes
  pub ops : List (Op V)
  -- whether its decide was accepted
  pub decided : Bool
  -- how many of its keys are settled
  pub handled : ℕ

abbrev pub nothing_done : {V : Type 0} → Live V
nothing_done = record { ops = []; decided = false; handled = 0 }

abbrev pub doing : {V : Type 0} → Op V → Live V → Live V
doing op l = record { ops = op ∷ l.ops; decided = l.decided; handled = l.handled }

abbrev pub deciding_now : {V : Type 0} → Live V → Live V
deciding_now l = record { ops = l.ops; decided = true; handled = l.handled }

-- A settle handles the next key, or frees the place.
abbrev pub settling_now : {V : Type 0} → Bool → Live V → Live V
settling_now true l = nothing_done
settling_now false l = record { ops = l.ops; decided = l.decided; handled = suc l.handled }

abbrev pub live : {V : Type 0} → ℕ → List (Event V) → Live V
live p [] = nothing_done
live p (did_begin q ∷ es) = cond (q == p) nothing_done (live p es)
live p (did_read q key value ∷ es) = cond (q == p) (doing (reads key value) (live p es)) (live p es)
live p (did_write q key value ts ∷ es) = cond (q == p) (doing (writes key value) (live p es)) (live p es)
live p (did_freeze q ts ∷ es) = live p es
live p (did_renew q left ∷ es) = live p es
live p (did_decide q ts number ∷ es) = cond (q == p) (deciding_now (live p es)) (live p es)
live p (did_settle q left freed ∷ es) = cond (q == p) (settling_now freed (live p es)) (live p es)
live p (did_abort q ∷ es) = live p es
live p (refused call fault ∷ es) = live p es

-- ---- the keys of a transaction

abbrev pub key_of : {V : Type 0} → Op V → ℕ
key_of (reads key value) = key
key_of (writes key value) = key

abbrev pub among : ℕ → List ℕ → Bool
among key [] = false
among key (k ∷ ks) = k == key || among key ks

abbrev pub noted : ℕ → List ℕ → List ℕ
noted key ks = cond (among key ks) ks (ks ++ key ∷ [])

-- In the order of the first access to each, oldest first, unlike the other lists.
abbrev pub keys_of : {V : Type 0} → List (Op V) → List ℕ
keys_of [] = []
keys_of (op ∷ ops) = noted (key_of op) (keys_of ops)

abbrev pub last_write : {V : Type 0} → ℕ → List (Op V) → Option V
last_write key [] = None
last_write key (reads k value ∷ ops) = last_write key ops
last_write key (writes k value ∷ ops) = cond (k == key) (Some value) (last_write key ops)

-- ---- one transaction after another

-- Whether a transaction runs at a place.
abbrev pub running : {V : Type 0} → ℕ → List (Event V) → Bool
running p [] = false
running p (did_begin q ∷ es) = cond (q == p) true (running p es)
running p (did_read q key value ∷ es) = running p es
running p (did_write q key value ts ∷ es) = running p es
running p (did_freeze q ts ∷ es) = running p es
running p (did_renew q left ∷ es) = running p es
running p (did_decide q ts number ∷ es) = running p es
running p (did_settle q left freed ∷ es) = cond (q == p && freed) false (running p es)
running p (did_abort q ∷ es) = running p es
running p (refused call fault ∷ es) = running p es

-- A transaction runs that has neither decided nor settled anything.
pub record Undecided {V : Type 0} (p : ℕ) (es : List (Event V)) : Type 0 where
  pub runs : running p es ≡ true
  pub undecided : (live p es).decided ≡ false
  pub unsettled : (live p es).handled ≡ 0

-- A settle answers how many keys are then left; the one that finds none left frees the place.
abbrev pub Counted : {V : Type 0} → ℕ → Bool → Live V → Type 0
Counted left true l = (left ≡ 0) × (l.handled ≡ length (keys_of l.ops))
Counted left false l = l.handled + 1 + left ≡ length (keys_of l.ops)

-- An accepted call has its turn: where no transaction runs only a begin, and so on.
abbrev pub InTurn : {V : Type 0} → Event V → List (Event V) → Type 0
InTurn (did_begin p) es = running p es ≡ false
InTurn (did_read p key value) es = Undecided p es
InTurn (did_write p key value ts) es = Undecided p es
InTurn (did_freeze p ts) es = Undecided p es
InTurn (did_renew p left) es = Undecided p es
InTurn (did_decide p ts number) es = Undecided p es
InTurn (did_settle p left freed) es = (running p es ≡ true) × Counted left freed (live p es)
InTurn (did_abort p) es = Undecided p es
InTurn (refused call fault) es = Unit {0}

abbrev pub Orderly : {V : Type 0} → List (Event V) → Type 0
Orderly [] = Unit {0}
Orderly (e ∷ es) = InTurn e es × Orderly es

-- ---- the decided transactions

pub record Transaction (V : Type 0) : Type 0 where
  -- the commit timestamp and the commit number
  pub ts : ℕ
  pub number : ℕ
  pub ops : List (Op V)

abbrev pub decided_in : {V : Type 0} → List (Event V) → List (Transaction V)
decided_in [] = []
decided_in (did_begin q ∷ es) = decided_in es
decided_in (did_read q key value ∷ es) = decided_in es
decided_in (did_write q key value ts ∷ es) = decided_in es
decided_in (did_freeze q ts ∷ es) = decided_in es
decided_in (did_renew q left ∷ es) = decided_in es
decided_in (did_decide q ts number ∷ es) = record { ts = ts; number = number; ops = (live q es).ops } ∷ decided_in es
decided_in (did_settle q left freed ∷ es) = decided_in es
decided_in (did_abort q ∷ es) = decided_in es
decided_in (refused call fault ∷ es) = decided_in es

-- The serial order is by commit timestamp, then commit number.
abbrev pub before : {V : Type 0} → Transaction V → Transaction V → Bool
before t u = nat_lt t.ts u.ts || (t.ts == u.ts && nat_lt t.number u.number)

abbrev pub insert : {V : Type 0} → Transaction V → List (Transaction V) → List (Transaction V)
insert t [] = t ∷ []
insert t (u ∷ us) = cond (before t u) (u ∷ insert t us) (t ∷ (u ∷ us))

abbrev pub arranged : {V : Type 0} → List (Transaction V) → List (Transaction V)
arranged [] = []
arranged (t ∷ ts) = insert t (arranged ts)

abbrev pub serial_order : {V : Type 0} → List (Event V) → List (Transaction V)
serial_order es = arranged (decided_in es)

-- ---- unsettled writes

abbrev pub when : {V : Type 0} → Bool → Option V → Option V
when true o = o
when false o = None

-- A transaction's last write of a key, unless it has settled the key.
abbrev pub pending_write : {V : Type 0} → ℕ → Live V → Option V
pending_write key l = when (among key (drop l.handled (keys_of l.ops))) (last_write key l.ops)

-- The same of a decided transaction: the write will be put.
abbrev pub unsettled_write : {V : Type 0} → ℕ → Live V → Option V
unsettled_write key l = when l.decided (pending_write key l)

abbrev pub or_else : {V : Type 0} → Option V → Option V → Option V
or_else (Some v) o = Some v
or_else None o = o

-- The first that is there, from n down to 1.
abbrev pub first_of : {V : Type 0} → (ℕ → Option V) → ℕ → Option V
first_of f zero = None
first_of f (suc n) = or_else (f (suc n)) (first_of f n)

-- The write of a key that a decided transaction at one of the 64 places has not settled yet.
abbrev pub unsettled : {V : Type 0} → ℕ → List (Event V) → Option V
unsettled key es = first_of (λ p. unsettled_write key (live p es)) 64

-- ---- holds

abbrev pub one_if : Bool → ℕ
one_if true = 1
one_if false = 0

abbrev pub is_some : {V : Type 0} → Option V → Bool
is_some (Some v) = true
is_some None = false

abbrev pub is_none : {V : Type 0} → Option V → Bool
is_none (Some v) = false
is_none None = true

-- A hold is granted by a transaction's first accepted write of a key.
abbrev pub granted : {V : Type 0} → List (Event V) → ℕ
granted [] = 0
granted (did_begin q ∷ es) = granted es
granted (did_read q key value ∷ es) = granted es
granted (did_write q key value ts ∷ es) = one_if (is_none (last_write key (live q es).ops)) + granted es
granted (did_freeze q ts ∷ es) = granted es
granted (did_renew q left ∷ es) = granted es
granted (did_decide q ts number ∷ es) = granted es
granted (did_settle q left freed ∷ es) = granted es
granted (did_abort q ∷ es) = granted es
granted (refused call fault ∷ es) = granted es

abbrev pub write_at : {V : Type 0} → Option ℕ → List (Op V) → Option V
write_at None ops = None
write_at (Some key) ops = last_write key ops

-- The write of the key that the next settle handles.
abbrev pub next_write : {V : Type 0} → Live V → Option V
next_write l = write_at (slice_get (keys_of l.ops) l.handled) l.ops

-- Whether a settle ends a hold: the one that frees the place handles no key.
abbrev pub ends_hold : {V : Type 0} → Bool → Live V → Bool
ends_hold true l = false
ends_hold false l = is_some (next_write l)

-- An accepted settle of a key that the transaction wrote ends the hold by a put, if the transaction is decided.
abbrev pub puts : {V : Type 0} → List (Event V) → ℕ
puts [] = 0
puts (did_begin q ∷ es) = puts es
puts (did_read q key value ∷ es) = puts es
puts (did_write q key value ts ∷ es) = puts es
puts (did_freeze q ts ∷ es) = puts es
puts (did_renew q left ∷ es) = puts es
puts (did_decide q ts number ∷ es) = puts es
puts (did_settle q left freed ∷ es) = cond (live q es).decided (one_if (ends_hold freed (live q es))) 0 + puts es
puts (did_abort q ∷ es) = puts es
puts (refused call fault ∷ es) = puts es

-- If it is not, the settle frees the hold.
abbrev pub frees : {V : Type 0} → List (Event V) → ℕ
frees [] = 0
frees (did_begin q ∷ es) = frees es
frees (did_read q key value ∷ es) = frees es
frees (did_write q key value ts ∷ es) = frees es
frees (did_freeze q ts ∷ es) = frees es
frees (did_renew q left ∷ es) = frees es
frees (did_decide q ts number ∷ es) = frees es
frees (did_settle q left freed ∷ es) = cond (live q es).decided 0 (one_if (ends_hold freed (live q es))) + frees es
frees (did_abort q ∷ es) = frees es
frees (refused call fault ∷ es) = frees es
