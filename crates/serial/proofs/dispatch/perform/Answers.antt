use Rattle.serial.specs.Events.{store}
use Rattle.serial.proofs.Laws.{lawful}
use Rattle.serial.proofs.dispatch.perform.Goals as goal

pub returns-clause-law : goal.returns-clause-law
returns-clause-law g c = lawful (store (g.H.Home.meaning c.args.home.now) c.args.places.now c.args.entries.now c.args.counter.now) c.args.call
