use Rattle.std.proofs.Common.{◌∙◌, rules}
use Rattle.byte_home.proofs.Bytes.{split_is}
use Rattle.byte_home.proofs.row_bytes.split_row.Goals as goal

pub returns : goal.returns
returns c = split_is c.args.bytes.now _ _ _ _ (search rules) c.from_be_bytes.ensures (c.from.ensures ∙ c.from_be_bytes-2.ensures) (c.from-2.ensures ∙ c.from_be_bytes-3.ensures) c.from-3.ensures
