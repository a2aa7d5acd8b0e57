use Rattle.std.proofs.Common.{rules}
use Rattle.coordinator.proofs.Renewals.{wished}
use Rattle.coordinator.proofs.renews.lengthen.Goals as goal

pub returns : goal.returns
returns g c =
    let same = wished (g.H.Home.meaning c.args.home.now).last c.args.entry.key c.args.ts _ _ _ c.min-wish.result (g.met.H.Home.sound c.args.home.now).ends c.stretch.ensures c.saturating_add.ensures c.last.ensures c.min-wish.ensures in
    search rules
