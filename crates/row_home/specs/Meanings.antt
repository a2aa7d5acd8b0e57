-- What a row home means: its table, or no keys where the check failed.
use Rattle.std.specs.Prelude.{cond, []}
use Rattle.home.specs.Meaning.{Meaning}
use Rattle.home.specs.Memory.{Memory, in_rows}
use Rattle.home.specs.Opening.{table_meaning}
use Rattle.row_home.specs.declared.RowHome.{RowHome}

abbrev pub row_home_meaning : {V : Type 0} → RowHome V → Meaning V
row_home_meaning h = table_meaning h.passed h.last h.rows.now

-- The caller's table; where the home has no keys, all of it is left alone.
abbrev pub row_home_memory : {V : Type 0} → RowHome V → Memory V
row_home_memory h = in_rows h.rows.ghost_name (cond h.passed [] h.rows.now)
