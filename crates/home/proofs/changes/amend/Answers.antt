use Rattle.std.proofs.Common.{rules}
use Rattle.home.specs.Meaning.{nothing, place_of}
use Rattle.home.proofs.Laws.{lawful}
use Rattle.home.proofs.changes.amend.Goals as goal

pub returns : goal.returns
returns g c =
    let h = lawful nothing (place_of c.args.change) (g.H.Home.meaning c.args.home.now) c.args.key c.args.change (g.met.H.Home.sound c.args.home.now) in
    search rules
