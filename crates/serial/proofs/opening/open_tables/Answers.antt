use Rattle.serial.proofs.Law.{opening_made}
use Rattle.serial.proofs.opening.open_tables.Goals as goal

pub returns-clause-serial : goal.returns-clause-serial
returns-clause-serial g c =
    let r = c.open_tables.ensures in
    opening_made (g.H.Home.meaning c.args.home.now) c.args.places.now c.args.entries.now c.args.counter.now c.open_tables.result c.open_tables.new.places c.open_tables.new.counter r.answer r.places r.counter r.sound
