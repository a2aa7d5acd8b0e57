use Rattle.std.proofs.Common.{rules}
use Rattle.std.proofs.lemmas.Option.{slice_get-get_or}
use Rattle.coordinator.specs.Tables.{entered}
use Rattle.coordinator.proofs.enter.enter.Goals as goal

pub returns-in_err-place-in-1-to-64-clause-answer : goal.returns-in_err-place-in-1-to-64-clause-answer
unfolding entered
returns-in_err-place-in-1-to-64-clause-answer c = search (rules, slice_get-get_or)

pub returns-in_ok-place-in-1-to-64-clause-answer : goal.returns-in_ok-place-in-1-to-64-clause-answer
unfolding entered
returns-in_ok-place-in-1-to-64-clause-answer c = search (rules, slice_get-get_or)
