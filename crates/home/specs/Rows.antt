-- What each change makes of the one row that it is about.
--   Outcome V                 a refusal with its cause, or the row that is left
--   row_after row o           the row that is left: a refusal leaves it as it was
--   answer_of o               what is answered: the lease that then stands, or the cause
--   hold_row, renew_row, put_row, free_row    the rules, each tested in the order written
--   amended last change row   the rule of any change
use Rattle.std.specs.Prelude.{ℕ, cond, ◌||◌, Ok, Err, Result, ◌==◌, nat_le, nat_lt}
use Rattle.home.specs.declared.fault.Refusal.{Refusal}
use Rattle.home.specs.declared.fault.Refusal.TheVariants.{Held, TimeSpent, MovedOn, NotYours, TooEarly}
use Rattle.home.specs.declared.row.Row.{Row}
use Rattle.home.specs.declared.row.Lease.{Lease}
use Rattle.home.specs.declared.row.Cause.{Cause}
use Rattle.home.specs.declared.row.Change.{Change}
use Rattle.home.specs.declared.row.Change.TheVariants.{Hold, Renew, Put, Free}

pub data Outcome (V : Type 0) : Type 0 where
  refuses : Cause → Outcome V
  grants : Row V → Outcome V

abbrev pub lease_of : {V : Type 0} → Row V → Lease
lease_of row = record { wts = row.wts; rts = row.rts }

abbrev pub row_after : {V : Type 0} → Row V → Outcome V → Row V
row_after row (refuses cause) = row
row_after row (grants new) = new

abbrev pub result_of : {V : Type 0} → Outcome V → Result (Unit {0}) Cause
result_of (refuses cause) = Err cause
result_of (grants new) = Ok tt

abbrev pub answer_of : {V : Type 0} → Outcome V → Result Lease Cause
answer_of (refuses cause) = Err cause
answer_of (grants new) = Ok (lease_of new)

abbrev pub because : {V : Type 0} → Refusal → ℕ → Outcome V
because refusal detail = refuses (record { refusal = refusal; detail = detail })

-- 2 if the row is held; 3 if its lease runs to the last timestamp, so that no write could follow it;
-- otherwise the place holds it.
abbrev pub hold_row : {V : Type 0} → ℕ → ℕ → Row V → Outcome V
hold_row last place row =
    cond (row.holder == 0)
    (cond (row.rts == last)
    (because TimeSpent 0)
    (grants (record { value = row.value; wts = row.wts; rts = row.rts; holder = place })))
    (because Held row.holder)

-- The end of a lease that has to reach t: where it falls short it becomes wish.
abbrev pub reaching : ℕ → ℕ → ℕ → ℕ
reaching t wish rts = cond (nat_lt rts t) wish rts

-- 3 if wish lies before t or past the last timestamp; 5 if another version stands; 2 if the row is held;
-- otherwise the lease reaches t.
abbrev pub renew_row : {V : Type 0} → ℕ → ℕ → ℕ → ℕ → Row V → Outcome V
renew_row last wts t wish row =
    cond (nat_lt wish t || nat_lt last wish)
    (because TimeSpent 0)
    (cond (row.wts == wts)
    (cond (row.holder == 0)
    (grants (record { value = row.value; wts = row.wts; rts = reaching t wish row.rts; holder = row.holder }))
    (because Held row.holder))
    (because MovedOn row.wts))

-- 6 if the place is not the holder; 3 if t is past the last timestamp; 7 if t is within the lease;
-- otherwise the value stands from t to t and the hold ends.
abbrev pub put_row : {V : Type 0} → ℕ → ℕ → V → ℕ → Row V → Outcome V
put_row last place value t row =
    cond (row.holder == place)
    (cond (nat_le t last)
    (cond (nat_le t row.rts)
    (because TooEarly 0)
    (grants (record { value = value; wts = t; rts = t; holder = 0 })))
    (because TimeSpent 0))
    (because NotYours 0)

-- 6 if the place is not the holder; otherwise the hold ends.
abbrev pub free_row : {V : Type 0} → ℕ → Row V → Outcome V
free_row place row =
    cond (row.holder == place)
    (grants (record { value = row.value; wts = row.wts; rts = row.rts; holder = 0 }))
    (because NotYours 0)

abbrev pub amended : {V : Type 0} → ℕ → Change V → Row V → Outcome V
amended last (Hold place) row = hold_row last place row
amended last (Renew wts t wish) row = renew_row last wts t wish row
amended last (Put place value t) row = put_row last place value t row
amended last (Free place) row = free_row place row
