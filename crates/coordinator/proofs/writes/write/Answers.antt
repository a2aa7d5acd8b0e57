use Rattle.std.proofs.Common.{arith}
use Rattle.home.proofs.Holds.{hold_room}
use Rattle.coordinator.proofs.writes.write.Goals as goal

pub overflow_add-lease : goal.overflow_add-lease
overflow_add-lease g c =
    let h = hold_room (g.H.Home.meaning c.args.home.now) c.args.key c.args.place _ (g.met.H.Home.sound c.args.home.now) c.in-Ok.ensures.answer in
    record { fits = omega arith }
