use Rattle.std.proofs.Common.{◌≡◌, ℕ, ◌<◌, List, get_or, Some, sym, ap, ◌∙◌, arith}
use Rattle.byte_home.specs.Bytes.{row_packed, valued, word_row}
use Rattle.byte_home.proofs.Bytes.{packed_unpacked, split_from, unpacked_is, word_small}
use Rattle.byte_home.proofs.row_bytes.unpack_row.Goals as goal

pub returns : goal.returns
returns g c =
    let packed = g.K.Kind.packed in
    let unpacked = g.K.Kind.unpacked in
    let bs : List ℕ = c.args.bytes.now in
    let fit : (i : ℕ) → get_or bs i 0 < 256 = λ i. omega (arith, c.type_inv.bytes i) in
    let value = c.in_ok-value.value in
    let apart = split_from bs c.in_ok-row.row c.in_ok-row.ensures in
    let own : unpacked (word_row bs).value ≡ Some value = ap (λ r. unpacked r.value) (sym apart.1) ∙ sym c.in_ok-value.ensures in
    let back = g.met.K.Kind.back (word_row bs).value value (word_small bs fit) own in
    let row : c.revalued.result ≡ valued (λ _. value) (word_row bs) = c.revalued.ensures ∙ ap (valued (λ _. value)) apart.1 in
    record {
      row = ap Some row ∙ sym (unpacked_is packed unpacked bs value apart.0 own);
      again = ap (row_packed packed) row ∙ packed_unpacked packed unpacked bs value apart.0 fit back;
    }
