use Rattle.std.proofs.Common.{◌≡◌, drop}
use Rattle.quotes.specs.Days.{day, no_tally}
use Rattle.quotes.proofs.morning.serve_all.Given as goal

abbrev pub invariant-loop-order : goal.invariant-loop-order
invariant-loop-order g l =
    (day (record { home = g.H.Home.meaning l.initial.home; tally = no_tally }) l.orders ≡ day (record { home = g.H.Home.meaning l.home; tally = l.tally }) (drop l.order-index l.orders))
    × (g.H.Home.memory l.home ≡ g.H.Home.memory l.initial.home)
