use Rattle.std.proofs.Common.{◌≡◌, ◌+◌, ◌-◌, ◌*◌, ◌<◌, true, set, Some, sym, ap, ◌∙◌, arith, rules}
use borrow.Rule.Slice.PartMut.{put_mid}
use Rattle.home.specs.Meaning.{fair, is_sound}
use Rattle.home.specs.Opening.{table_meaning}
use Rattle.byte_home.specs.Bytes.{has_room, row_bytes, word_rows}
use Rattle.byte_home.proofs.ByteTables.{fair_room, fair_stored, read_rows_set, stored_rows}
use Rattle.byte_home.proofs.ByteHome.store.Given as given
use Rattle.byte_home.proofs.ByteHome.store.Goals as goal
use Rattle.byte_home.proofs.ByteHome.store.Goals.{After-copy_from_slice}

-- the rows once the bytes of the row are written
wrote : (g : given.Over) (c : After-copy_from_slice g) → word_rows (put_mid (c.args.key * 17) (c.args.key * 17 + 17 - c.args.key * 17) c.args.self.now.bytes.now c.copy_from_slice.new.self) ≡ set (word_rows c.args.self.now.bytes.now) c.args.key c.words_of.result
wrote g c =
    let words = c.words_of.result in
    let small : words.value < 18446744073709551616 = search rules in
    let room : has_room words ≡ true = ap has_room c.words_of.ensures.words ∙ fair_room c.args.row c.requires.fair in
    let bytes : c.copy_from_slice.new.self ≡ row_bytes words = search rules in
    stored_rows c.args.self.now.bytes.now c.copy_from_slice.new.self c.args.key _ words c.requires.within (omega arith) bytes small room

pub invariant_of-self : goal.invariant_of-self
invariant_of-self g c =
    let t = c.args.self.now in
    let words : fair 4294967295 c.words_of.result ≡ true = ap (fair 4294967295) c.words_of.ensures.words ∙ c.requires.fair in
    let still = fair_stored t.passed (word_rows t.bytes.now) c.args.key c.words_of.result c.requires.passed t.sound words in
    record { sound = ap (λ rows. is_sound (table_meaning t.passed 4294967295 rows)) (wrote g (goal.at.invariant_of-self g c).After-copy_from_slice) ∙ still }

pub returns-clause-rows : goal.returns-clause-rows
returns-clause-rows g c =
    let t = c.args.self.now in
    let kind = g.K.Kind in
    let row = c.args.row in
    let words = c.words_of.ensures.words in
    let all = wrote g (goal.at.returns-clause-rows g c).After-copy_from_slice ∙ ap (set (word_rows t.bytes.now) c.args.key) words in
    let own : kind.unpacked (kind.packed row.value) ≡ Some row.value = ap (λ r. kind.unpacked r.value) (sym words) ∙ c.words_of.ensures.again in
    read_rows_set kind.reading kind.packed t.bytes.now _ c.args.key row all (g.met.K.Kind.right _ _ own)
