use Rattle.std.proofs.Common.{◌≡◌, drop}
use Rattle.coordinator.specs.Calls.{held_from}
use Rattle.coordinator.proofs.opening.first_held.Given as goal

abbrev pub invariant-loop-key : goal.invariant-loop-key
invariant-loop-key g l = held_from 0 (g.H.Home.meaning l.home).rows ≡ held_from l.key (drop l.key (g.H.Home.meaning l.home).rows)
