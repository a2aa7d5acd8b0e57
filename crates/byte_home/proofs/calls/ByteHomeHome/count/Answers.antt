use Rattle.std.proofs.Common.{◌≡◌, ◌/◌, cond, [], length, sym, ap, ◌∙◌, arith}
use Rattle.byte_home.specs.Bytes.{read_rows}
use Rattle.byte_home.proofs.ByteTables.{bytes_sound, length_read_rows}
use Rattle.byte_home.proofs.calls.ByteHomeHome.count.Given as given
use Rattle.byte_home.proofs.calls.ByteHomeHome.count.Goals as goal
use Rattle.byte_home.proofs.calls.ByteHomeHome.count.Goals.{Then-self}

-- the rows of a home that passed its check
counted : (g : given.Over) (c : Then-self g) → length (cond c.args.self.now.passed (read_rows g.K.Kind.reading c.args.self.now.bytes.now) []) ≡ length c.args.self.now.bytes.now / 17
counted g c =
    let rows = read_rows g.K.Kind.reading c.args.self.now.bytes.now in
    ap (λ b. length (cond b rows [])) c.if-self.true ∙ length_read_rows g.K.Kind.reading c.args.self.now.bytes.now

pub overflow_cast-result : goal.overflow_cast-result
overflow_cast-result g c =
    let few = bytes_sound g.K.Kind.reading c.args.self.now.passed c.args.self.now.bytes.now c.args.self.now.sound in
    let rows = counted g (goal.at.overflow_cast-result g c).Then-self in
    omega arith

pub returns-then-self : goal.returns-then-self
returns-then-self g c = sym (counted g (goal.at.returns-then-self g c).Then-self)
