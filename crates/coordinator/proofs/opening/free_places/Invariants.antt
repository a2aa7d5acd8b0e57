use Rattle.std.proofs.Common.{◌≡◌, ◌++◌, map, take, drop}
use Rattle.coordinator.specs.Calls.{freed}
use Rattle.coordinator.proofs.opening.free_places.Given as goal

abbrev pub invariant-loop-place : goal.invariant-loop-place
invariant-loop-place l = l.places ≡ map freed (take l.place-index l.initial.places) ++ drop l.place-index l.initial.places
