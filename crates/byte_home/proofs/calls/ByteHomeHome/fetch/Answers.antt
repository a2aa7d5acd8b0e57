use Rattle.std.proofs.Common.{◌≡◌, ap, ◌∙◌, arith, rules}
use Rattle.byte_home.specs.Bytes.{row_at, valued}
use Rattle.byte_home.proofs.ByteTables.{key_within, row_of_key}
use Rattle.byte_home.proofs.calls.ByteHomeHome.fetch.Goals as goal
use Rattle.byte_home.proofs.calls.ByteHomeHome.fetch.Goals.{Else-key-count}

pub row_at-row-requires : goal.row_at-row-requires
row_at-row-requires g c = key_within g.K.Kind.reading c.args.self.now.passed c.args.self.now.bytes.now c.args.key (omega (arith, c.count.ensures))

pub returns : goal.returns
returns g c =
    let t = c.args.self.now in
    let read = g.K.Kind.reading in
    let at = row_of_key read t.passed t.bytes.now c.args.key (omega (arith, c.count.ensures)) in
    let value : c.revalued.result ≡ valued read c.row_at-row.result = c.revalued.ensures ∙ ap (λ v. valued (λ _. v) c.row_at-row.result) c.read.ensures in
    let row : c.revalued.result ≡ valued read (row_at t.bytes.now c.args.key) = value ∙ ap (valued read) c.row_at-row.ensures in
    search rules
