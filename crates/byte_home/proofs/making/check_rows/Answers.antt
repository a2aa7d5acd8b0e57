use Rattle.std.proofs.Common.{◌≡◌, ◌+◌, ◌*◌, ◌∙◌, drop, sym, ap, rules, arith}
use Rattle.home.specs.Opening.{first_bad, unless_bad}
use Rattle.byte_home.specs.Bytes.{byte_flaw, word_rows}
use Rattle.byte_home.proofs.ByteOpening.{chunk_left, chunk_more, chunk_none}
use Rattle.byte_home.proofs.making.check_rows.Given as given
use Rattle.byte_home.proofs.making.check_rows.Goals as goal
use Rattle.byte_home.proofs.making.check_rows.Goals.{After-unwrap-row}

-- the check as far as the row that has come
more : (g : given.Over) (c : After-unwrap-row g) → first_bad (byte_flaw g.K.Kind.unpacked) 0 (word_rows c.args.bytes.now) ≡ unless_bad c.loop-key.key-iterator.count (byte_flaw g.K.Kind.unpacked c.unwrap-row.result) (first_bad (byte_flaw g.K.Kind.unpacked) (c.loop-key.key-iterator.count + 1) (drop (c.loop-key.key-iterator.count + 1) (word_rows c.args.bytes.now)))
more g c =
    let s = c.in-Some.ensures.steps.0.1 in
    let own = sym c.unwrap-row.ensures ∙ c.split_row.ensures in
    c.loop-key.invariant.so_far ∙ chunk_more c.args.bytes.now _ c.loop-key.key-iterator.count c.loop-key.invariant.rest c.in-Some.chunk.now _ s.0 (s.1 ∙ c.loop-key.invariant.size) (byte_flaw g.K.Kind.unpacked) c.unwrap-row.result own

pub returns-in-Some-flaw_of : goal.returns-in-Some-flaw_of
returns-in-Some-flaw_of g c =
    let h = more g (goal.at.returns-in-Some-flaw_of g c).After-unwrap-row in
    let s = c.in-Some.ensures.steps.1 in
    search rules

pub loop-key-preserved : goal.loop-key-preserved
loop-key-preserved g c =
    let s = c.in-Some.ensures.steps in
    let chunk = s.0.1 in
    let key = c.loop-key.key-iterator.count in
    let h = more g (goal.at.loop-key-preserved g c).After-unwrap-row in
    record {
      size = s.0.0 ∙ c.loop-key.invariant.size;
      rest = chunk_left c.args.bytes.now _ key c.loop-key.invariant.rest c.in-Some.chunk.now _ chunk.0 (chunk.1 ∙ c.loop-key.invariant.size) ∙ ap (λ n. drop (n * 17) c.args.bytes.now) (sym s.2);
      so_far = search rules;
    }

pub returns : goal.returns
returns g c =
    let s = c.in-None.ensures.steps in
    let none = chunk_none c.args.bytes.now _ c.loop-key.key-iterator.count c.loop-key.invariant.rest (byte_flaw g.K.Kind.unpacked) (omega (arith, c.loop-key.invariant.size, s.0)) in
    sym (c.loop-key.invariant.so_far ∙ none)
