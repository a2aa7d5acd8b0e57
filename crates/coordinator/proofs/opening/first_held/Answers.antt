use Rattle.std.proofs.Common.{rules}
use Rattle.coordinator.proofs.Openings.{held_all, held_more}
use Rattle.coordinator.proofs.opening.first_held.Goals as goal

pub returns-in-Ok : goal.returns-in-Ok
returns-in-Ok g c =
    let h = held_more (g.H.Home.meaning c.args.home.now).rows c.loop-key.key (search rules) in
    let k = c.fetch.ensures in
    search rules

pub loop-key-preserved : goal.loop-key-preserved
loop-key-preserved g c =
    let h = held_more (g.H.Home.meaning c.args.home.now).rows c.loop-key.key (search rules) in
    let k = c.fetch.ensures in
    search rules

pub returns : goal.returns
returns g c =
    let h = held_all (g.H.Home.meaning c.args.home.now).rows c.loop-key.key (search rules) in
    search rules
