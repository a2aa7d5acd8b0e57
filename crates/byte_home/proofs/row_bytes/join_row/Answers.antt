use Rattle.std.proofs.Common.{◌∙◌}
use Rattle.byte_home.specs.Bytes.{row_bytes}
use Rattle.byte_home.proofs.row_bytes.join_row.Goals as goal

pub returns : goal.returns
unfolding row_bytes
returns c =
    let word = c.copy_from_slice.ensures.after ∙ c.to_be_bytes.ensures in
    let wts = c.copy_from_slice-2.ensures.after ∙ c.to_be_bytes-2.ensures in
    let rts = c.copy_from_slice-3.ensures.after ∙ c.to_be_bytes-3.ensures in
    simp (word, wts, rts)
