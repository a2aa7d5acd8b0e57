use Rattle.std.proofs.Common.{◌∙◌}
use Rattle.quotes.proofs.Orders.{withdraw_after}
use Rattle.quotes.proofs.serve.withdraw.Goals as goal

pub returns-clause-after : goal.returns-clause-after
returns-clause-after g c =
    c.free.ensures.after ∙ withdraw_after (g.H.Home.meaning c.args.home.now) (g.H.Home.meaning c.hold.new.self) c.args.key c.args.place _ (g.met.H.Home.sound c.args.home.now) c.in_ok-lease.ensures.answer c.hold.ensures.after
