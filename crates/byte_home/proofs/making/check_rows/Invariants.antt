use Rattle.std.proofs.Common.{◌≡◌, ◌*◌, drop}
use Rattle.std.specs.Slice.Iter.{chunks_exact_rest, chunks_exact_size}
use Rattle.home.specs.Opening.{first_bad}
use Rattle.byte_home.specs.Bytes.{byte_flaw, word_rows}
use Rattle.byte_home.proofs.making.check_rows.Given as goal

abbrev pub invariant-loop-key : goal.invariant-loop-key
invariant-loop-key g l = record {
  size : chunks_exact_size l.key-iterator.iter ≡ 17;
  rest : chunks_exact_rest l.key-iterator.iter ≡ drop (l.key-iterator.count * 17) l.bytes;
  so_far : first_bad (byte_flaw g.K.Kind.unpacked) 0 (word_rows l.bytes) ≡ first_bad (byte_flaw g.K.Kind.unpacked) l.key-iterator.count (drop l.key-iterator.count (word_rows l.bytes));
}
