use Rattle.std.proofs.Common.{rules}
use Rattle.byte_home.specs.Bytes.{byte_check}
use Rattle.byte_home.proofs.ByteHome.check.Goals as goal

pub returns : goal.returns
unfolding byte_check
returns g c = search rules

pub returns-in_err-check_size : goal.returns-in_err-check_size
unfolding byte_check
returns-in_err-check_size g c = search rules
