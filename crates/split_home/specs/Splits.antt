-- Two homes as one.
--   split_fits l r          together they have 1 to 65,535 keys, and one last timestamp
--   split_meaning l r       the left home's rows, then the right one's; no keys where the two do not fit
--   split_check l r         the check: 16 for the sum of the counts, then 19
--   split_opened l r        what the split home means when it is made
--   split_counts l r        the counts of the two, where they fit
--   side_of l r key         which home has a key, or 1
--   split_memory ..         the memory of both
use Rattle.std.specs.Prelude.{ℕ, ◌+◌, ◌-◌, Bool, cond, ◌&&◌, [], ◌++◌, length, Some, None, Ok, Err, Option, Result, ◌==◌, nat_lt}
use Rattle.home.specs.declared.fault.Refusal.TheVariants.{TwoLasts}
use Rattle.home.specs.declared.fault.Layer.TheVariants.{Home}
use Rattle.home.specs.declared.fault.Fault.{Fault}
use Rattle.home.specs.declared.row.Cause.{Cause}
use Rattle.home.specs.Meaning.{Meaning, no_key}
use Rattle.home.specs.Memory.{Memory, Parts, idle, in_two, parted}
use Rattle.home.specs.Opening.{is_count, after_size}
use Rattle.split_home.specs.declared.Side.{Side}
use Rattle.split_home.specs.declared.Side.TheVariants.{Left, Right}

abbrev pub split_size : {V : Type 0} → Meaning V → Meaning V → ℕ
split_size l r = length l.rows + length r.rows

abbrev pub split_fits : {V : Type 0} → Meaning V → Meaning V → Bool
split_fits l r = is_count (split_size l r) && l.last == r.last

abbrev pub split_meaning : {V : Type 0} → Meaning V → Meaning V → Meaning V
split_meaning l r = record { last = l.last; rows = cond (split_fits l r) (l.rows ++ r.rows) [] }

abbrev pub two_lasts : Fault
two_lasts = record { refusal = TwoLasts; layer = Home; place = 0; key = 0; detail = 0 }

abbrev pub split_check : {V : Type 0} → Meaning V → Meaning V → Result (Unit {0}) Fault
split_check l r = after_size (is_count (split_size l r)) (cond (l.last == r.last) (Ok tt) (Err two_lasts))

-- The rows of both, or no keys and the left one's last timestamp where the check fails.
abbrev pub split_made : {V : Type 0} → Meaning V → Meaning V → Result (Unit {0}) Fault → Meaning V
split_made l r (Ok _) = record { last = l.last; rows = l.rows ++ r.rows }
split_made l r (Err _) = record { last = l.last; rows = [] }

abbrev pub split_opened : {V : Type 0} → Meaning V → Meaning V → Meaning V
split_opened l r = split_made l r (split_check l r)

-- The counts of the two, where they fit.
abbrev pub split_counts : {V : Type 0} → Meaning V → Meaning V → Option (ℕ × ℕ)
split_counts l r = cond (split_fits l r) (Some (length l.rows, length r.rows)) None

abbrev pub side_from : ℕ → ℕ → ℕ → Result Side Cause
side_from left right key = cond (nat_lt key left) (Ok Left) (cond (nat_lt (key - left) right) (Ok (Right (key - left))) (Err no_key))

abbrev pub side_of : {V : Type 0} → Meaning V → Meaning V → ℕ → Result Side Cause
side_of l r key = cond (split_fits l r) (side_from (length l.rows) (length r.rows) key) (Err no_key)

abbrev pub split_parts : {V : Type 0} → Meaning V → Meaning V → Parts V
split_parts l r = cond (split_fits l r) (parted (length l.rows)) (idle l r)

abbrev pub split_memory : {V : Type 0} → ℕ → Memory V → ℕ → Memory V → Meaning V → Meaning V → Memory V
split_memory left ml right mr l r = in_two left ml right mr (split_parts l r)
