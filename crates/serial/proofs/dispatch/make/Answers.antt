use Rattle.std.proofs.Common.{rules}
use Rattle.coordinator.specs.Tables.{tables}
use Rattle.serial.proofs.Answered.{read_home, settle_entries}
use Rattle.serial.specs.Events.{stepped}
use Rattle.serial.proofs.dispatch.make.Goals as goal

pub returns-in-Read-clause-home : goal.returns-in-Read-clause-home
unfolding stepped
returns-in-Read-clause-home g c =
    let h = read_home (tables (g.H.Home.meaning c.args.home.now) c.args.places.now c.args.entries.now) c.in-Read.place c.in-Read.key in
    search rules

pub returns-in-Settle-clause-entries : goal.returns-in-Settle-clause-entries
unfolding stepped
returns-in-Settle-clause-entries g c =
    let h = settle_entries (tables (g.H.Home.meaning c.args.home.now) c.args.places.now c.args.entries.now) c.in-Settle.place in
    search rules
