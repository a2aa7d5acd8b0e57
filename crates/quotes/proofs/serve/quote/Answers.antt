use Rattle.std.proofs.Common.{◌≡◌, ◌∙◌, arith, rules}
use Rattle.home.proofs.Holds.{hold_room}
use Rattle.kinds.specs.Words.{with_rate}
use Rattle.quotes.proofs.Orders.{never_barred, never_gone, quote_after}
use Rattle.quotes.proofs.serve.quote.Goals as goal

pub overflow_add-t : goal.overflow_add-t
overflow_add-t g c =
    let h = hold_room (g.H.Home.meaning c.args.home.now) c.args.key c.args.place _ (g.met.H.Home.sound c.args.home.now) c.in_ok-lease.ensures.answer in
    record { fits = omega arith }

pub returns-in_err-row : goal.returns-in_err-row
returns-in_err-row g c =
    absurd (never_gone (g.H.Home.meaning c.args.home.now) (g.H.Home.meaning c.hold.new.self) c.args.key c.args.place _ (g.met.H.Home.sound c.args.home.now) c.in_ok-lease.ensures.answer c.hold.ensures.after _ c.in_err-row.ensures)

pub returns-in_err-put : goal.returns-in_err-put
returns-in_err-put g c =
    let new : c.with_rate.result ≡ with_rate c.in_ok-row.row.value c.args.rate = search rules in
    absurd (never_barred (g.H.Home.meaning c.args.home.now) (g.H.Home.meaning c.hold.new.self) c.args.key c.args.place _ (g.met.H.Home.sound c.args.home.now) c.in_ok-lease.ensures.answer c.hold.ensures.after _ c.args.rate _ _ c.in_ok-row.ensures new c.in_err-put.ensures.answer)

pub returns-clause-after : goal.returns-clause-after
returns-clause-after g c =
    let new : c.with_rate.result ≡ with_rate c.in_ok-row.row.value c.args.rate = search rules in
    c.put.ensures.after ∙ quote_after (g.H.Home.meaning c.args.home.now) (g.H.Home.meaning c.hold.new.self) c.args.key c.args.place _ (g.met.H.Home.sound c.args.home.now) c.in_ok-lease.ensures.answer c.hold.ensures.after _ c.args.rate _ c.in_ok-row.ensures new
