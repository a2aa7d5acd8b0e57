use Rattle.std.proofs.Common.{◌≡◌, ◌<◌, true, Some, sym, ap, ◌∙◌, arith, rules}
use Rattle.std.proofs.lemmas.Bool.{cond-true}
use Rattle.std.proofs.lemmas.Bool.Decides.{nat_tests}
use Rattle.byte_home.specs.Bytes.{has_room, row_bytes, row_unpacked, valued}
use Rattle.byte_home.proofs.Bytes.{unpacked_packed}
use Rattle.byte_home.proofs.row_bytes.pack_row.Goals as goal

pub returns : goal.returns
returns g c =
    let row = c.args.row in
    let packed = g.K.Kind.packed in
    let unpacked = g.K.Kind.unpacked in
    let words : c.words_of.result ≡ valued packed row = c.words_of.ensures.words in
    let word : c.words_of.result.value ≡ packed row.value = ap (λ r. r.value) words in
    let room : has_room row ≡ true = grind (arith, nat_tests) in
    let bytes : c.join_row.result ≡ row_bytes (valued packed row) = c.join_row.ensures ∙ ap row_bytes words in
    let fits : c.words_of.result.value < 18446744073709551616 = search rules in
    let small : packed row.value < 18446744073709551616 = rw word at fits in
    let own : unpacked (packed row.value) ≡ Some row.value = ap unpacked (sym word) ∙ c.words_of.ensures.again in
    record {
      bytes = ap Some bytes ∙ sym (cond-true _ _ _ room);
      again = ap (row_unpacked unpacked) bytes ∙ unpacked_packed packed unpacked row small room own;
    }
