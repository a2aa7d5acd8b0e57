use Rattle.std.proofs.Common.{List, get_or, set, ap, ◌∙◌}
use Rattle.coordinator.specs.declared.tables.Place.{Place}
use Rattle.coordinator.specs.Calls.{freed}
use Rattle.coordinator.proofs.Openings.{freed_more}
use Rattle.coordinator.proofs.opening.free_places.Goals as goal

abbrev blank : Place
blank = record { state = 0; ts = 0; used = 0; cursor = 0 }

pub loop-place-preserved : goal.loop-place-preserved
loop-place-preserved c =
    let i = c.loop-place.place-index in
    ap (λ (ps : List Place). set ps i (freed (get_or ps i blank))) c.loop-place.invariant ∙ freed_more c.args.places.now i blank c.loop-place-test.true
