use Rattle.std.proofs.Common.{◌≡◌, drop}
use Rattle.home.specs.Opening.{first_bad, row_flaw}
use Rattle.row_home.proofs.making.check_rows.Given as goal

abbrev pub invariant-loop-key : goal.invariant-loop-key
invariant-loop-key g l = first_bad (row_flaw l.last) 0 l.rows ≡ first_bad (row_flaw l.last) l.key (drop l.key l.rows)
