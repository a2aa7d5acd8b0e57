-- What a home means, and what each of its calls answers and leaves.
--   Meaning V              a last timestamp, and a row for each key from 0 on
--   is_place p             p lies from 1 to 64
--   looked m key           the row of a key, or 1
--   changed m key change   what a change comes to: 4 for no place, then 1 for no key, then the row's rule
--   answer f place key o   what the caller is answered: f of the row that is left, or the fault
--   after m key o          the meaning that is left: a refusal leaves it as it was
--   is_sound m, Sound m    the conditions that every home keeps: as a test, and as facts
use Rattle.std.specs.Prelude.{◌≡◌, ℕ, ◌≤◌, Bool, true, cond, ◌&&◌, List, [], ◌∷◌, length, Some, None, Ok, Err, Option, Result, nat_le, slice_set}
use Rattle.std.specs.List.{slice_get}
use Rattle.home.specs.declared.fault.Refusal.TheVariants.{NoKey, NoPlace}
use Rattle.home.specs.declared.fault.Layer.TheVariants.{Home}
use Rattle.home.specs.declared.fault.Fault.{Fault}
use Rattle.home.specs.declared.row.Row.{Row}
use Rattle.home.specs.declared.row.Cause.{Cause}
use Rattle.home.specs.declared.row.Change.{Change}
use Rattle.home.specs.declared.row.Change.TheVariants.{Hold, Renew, Put, Free}
use Rattle.home.specs.Rows.{Outcome, refuses, grants, amended}

pub record Meaning (V : Type 0) : Type 0 where
  pub last : ℕ
  pub rows : List (Row V)

-- ---- places

abbrev pub is_place : ℕ → Bool
is_place p = nat_le 1 p && nat_le p 64

-- The place that makes a change; a renewal has none.
abbrev pub place_of : {V : Type 0} → Change V → ℕ
place_of (Hold place) = place
place_of (Renew wts t wish) = 0
place_of (Put place value t) = place
place_of (Free place) = place

-- Whether a change names a place, where it needs one.
abbrev pub well_placed : {V : Type 0} → Change V → Bool
well_placed (Hold place) = is_place place
well_placed (Renew wts t wish) = true
well_placed (Put place value t) = is_place place
well_placed (Free place) = is_place place

-- ---- calls

abbrev pub no_key : Cause
no_key = record { refusal = NoKey; detail = 0 }

abbrev pub no_place : Cause
no_place = record { refusal = NoPlace; detail = 0 }

abbrev pub checked_place : {V : Type 0} → Change V → Result (Unit {0}) Cause
checked_place change = cond (well_placed change) (Ok tt) (Err no_place)

-- The row under a key, or the refusal.
abbrev pub found : {V : Type 0} → Option (Row V) → Result (Row V) Cause
found None = Err no_key
found (Some row) = Ok row

abbrev pub amended_at : {V : Type 0} → ℕ → Change V → Option (Row V) → Outcome V
amended_at last change None = refuses no_key
amended_at last change (Some row) = amended last change row

unfoldable pub changed : {V : Type 0} → Meaning V → ℕ → Change V → Outcome V
changed m key change = cond (well_placed change) (amended_at m.last change (slice_get m.rows key)) (refuses no_place)

-- Nothing of the cause is dropped: the fault adds the layer and what the call was given.
abbrev pub fault_at : ℕ → ℕ → Cause → Fault
fault_at place key cause = record { refusal = cause.refusal; layer = Home; place = place; key = key; detail = cause.detail }

abbrev pub raised : {A : Type 0} → ℕ → ℕ → Result A Cause → Result A Fault
raised place key (Ok a) = Ok a
raised place key (Err cause) = Err (fault_at place key cause)

unfoldable pub looked : {V : Type 0} → Meaning V → ℕ → Result (Row V) Fault
looked m key = raised 0 key (found (slice_get m.rows key))

abbrev pub answer : {V A : Type 0} → (Row V → A) → ℕ → ℕ → Outcome V → Result A Fault
answer f place key (refuses cause) = Err (fault_at place key cause)
answer f place key (grants row) = Ok (f row)

abbrev pub rows_after : {V : Type 0} → List (Row V) → ℕ → Outcome V → List (Row V)
rows_after rows key (refuses cause) = rows
rows_after rows key (grants row) = slice_set rows key row

abbrev pub after : {V : Type 0} → Meaning V → ℕ → Outcome V → Meaning V
after m key o = record { last = m.last; rows = rows_after m.rows key o }

-- What a renewal answers: where the lease then ends.
abbrev pub end_of : {V : Type 0} → Row V → ℕ
end_of row = row.rts

-- What put and free answer.
abbrev pub nothing : {V : Type 0} → Row V → Unit {0}
nothing row = tt

-- ---- the conditions on a home

-- The lease lies within the home's time.
abbrev pub fair_lease : {V : Type 0} → ℕ → Row V → Bool
fair_lease last row = nat_le row.wts row.rts && nat_le row.rts last

-- The holder is nobody or a place.
abbrev pub fair_holder : {V : Type 0} → Row V → Bool
fair_holder row = nat_le row.holder 64

abbrev pub fair : {V : Type 0} → ℕ → Row V → Bool
fair last row = fair_lease last row && fair_holder row

abbrev pub all_fair : {V : Type 0} → ℕ → List (Row V) → Bool
all_fair last [] = true
all_fair last (row ∷ rows) = fair last row && all_fair last rows

abbrev pub is_sound : {V : Type 0} → Meaning V → Bool
is_sound m = nat_le (length m.rows) 65535 && (nat_le m.last 9223372036854775807 && all_fair m.last m.rows)

-- What `is_sound` tests, part by part.
pub record Sound {V : Type 0} (m : Meaning V) : Type 0 where
  pub few : length m.rows ≤ 65535
  pub ends : m.last ≤ 9223372036854775807
  pub rows : all_fair m.last m.rows ≡ true
