use Rattle.std.proofs.Common.{◌≡◌, false, is_err, rules}
use Rattle.row_home.specs.Opening.{row_check}
use Rattle.row_home.proofs.Opening.{checked_sound}
use Rattle.row_home.proofs.RowHome.make.Goals as goal

pub invariant_of-result-2 : goal.invariant_of-result-2
invariant_of-result-2 g c =
    let passed : is_err (row_check c.args.last c.args.rows.now) ≡ false = search rules in
    record { sound = checked_sound c.args.last c.args.rows.now passed }
