-- What a byte home means: the rows of its bytes, or no keys where the check failed.
use Rattle.std.specs.Prelude.{ℕ, cond, []}
use Rattle.home.specs.Meaning.{Meaning}
use Rattle.home.specs.Memory.{Memory, in_bytes}
use Rattle.byte_home.specs.Bytes.{read_rows}
use Rattle.home.specs.Opening.{table_meaning}
use Rattle.byte_home.specs.declared.ByteHome.{ByteHome}

abbrev pub byte_home_meaning : {V : Type 0} → (ℕ → V) → ByteHome V → Meaning V
byte_home_meaning read h = table_meaning h.passed 4294967295 (read_rows read h.bytes.now)

-- The caller's bytes; where the home has no keys, all of them are left alone.
abbrev pub byte_home_memory : {V : Type 0} → ByteHome V → Memory V
byte_home_memory h = in_bytes h.bytes.ghost_name (cond h.passed [] h.bytes.now)
