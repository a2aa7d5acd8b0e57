-- Which memory of the caller's a home works in, and what of it no call of the home alters.
-- A number stands for a reference that the caller lent: as long as it stays, what lies behind it at the
-- home's end is what the caller then has.
--   in_rows ref kept      a table of rows; kept is the whole table where the home has no keys, else nothing
--   in_bytes ref kept     a table of bytes, likewise
--   in_two ref l ref r k  two homes with their own memory
--   parted n              the left home has n keys
--   idle ml mr            the two together have no keys, so both keep their meaning
use Rattle.std.specs.Prelude.{ℕ, List}
use Rattle.home.specs.declared.row.Row.{Row}
use Rattle.home.specs.Meaning.{Meaning}

pub data Parts (V : Type 0) : Type 0 where
  parted : ℕ → Parts V
  idle : Meaning V → Meaning V → Parts V

pub data Memory (V : Type 0) : Type 0 where
  in_rows : ℕ → List (Row V) → Memory V
  in_bytes : ℕ → List ℕ → Memory V
  in_two : ℕ → Memory V → ℕ → Memory V → Parts V → Memory V
