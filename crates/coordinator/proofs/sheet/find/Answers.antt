use Rattle.std.proofs.Common.{rules}
use Rattle.std.proofs.lemmas.Option.{slice_get_past, slice_get_read}
use Rattle.coordinator.proofs.Sheets.{sought_first}
use Rattle.coordinator.proofs.sheet.find.Goals as goal

pub returns-in_err-number-clause-answer : goal.returns-in_err-number-clause-answer
returns-in_err-number-clause-answer g c =
    let h = sought_first c.args.key c.args.sheet.now 0 in
    search (rules, slice_get_past)

pub returns-clause-answer : goal.returns-clause-answer
returns-clause-answer g c =
    let h = sought_first c.args.key c.args.sheet.now 0 in
    search (rules, slice_get_read)
