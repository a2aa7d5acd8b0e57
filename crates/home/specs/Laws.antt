-- What holds of every change of every home, whatever its rule says in particular.
use Rattle.std.specs.Prelude.{◌≡◌, ℕ, ◌≤◌, Bool, true, false, length, is_err, Some, Result, ◌≢◌}
use Rattle.std.specs.List.{slice_get}
use Rattle.home.specs.declared.fault.Fault.{Fault}
use Rattle.home.specs.declared.row.Row.{Row}
use Rattle.home.specs.declared.row.Change.{Change}
use Rattle.home.specs.declared.row.Change.TheVariants.{Hold, Renew, Put, Free}
use Rattle.home.specs.Meaning.{Meaning, Sound}

-- Only hold, put and free may change a holder.
abbrev pub keeps_holder : {V : Type 0} → Change V → Bool
keeps_holder (Hold place) = false
keeps_holder (Renew wts t wish) = true
keeps_holder (Put place value t) = false
keeps_holder (Free place) = false

-- From the meaning m a change of a key led to the meaning n, with this answer.
pub record Lawful {V A : Type 0} (m n : Meaning V) (key : ℕ) (change : Change V) (r : Result A Fault) : Type 0 where
  -- a refused call alters nothing
  pub refused : is_err r ≡ true → n ≡ m
  -- the count and the last timestamp never change
  pub count : length n.rows ≡ length m.rows
  pub last : n.last ≡ m.last
  -- one row is altered at most
  pub others : (k : ℕ) → (k ≢ key) → slice_get n.rows k ≡ slice_get m.rows k
  -- its timestamps never fall
  pub leases : (old new : Row V) → slice_get m.rows key ≡ Some old → slice_get n.rows key ≡ Some new → (old.wts ≤ new.wts) × (old.rts ≤ new.rts)
  -- a renewal leaves its holder
  pub holder : keeps_holder change ≡ true → (old new : Row V) → slice_get m.rows key ≡ Some old → slice_get n.rows key ≡ Some new → new.holder ≡ old.holder
  -- and the conditions on a home still hold
  pub sound : Sound n
