use Rattle.std.proofs.Common.{◌≡◌, ℕ, ◌<◌, ◌∙◌, Err, length, sym, arith, rules}
use Rattle.home.specs.declared.row.Cause.{Cause}
use Rattle.home.specs.Rows.{Outcome, refuses, grants, answer_of}
use Rattle.home.proofs.Calls.{made}
use Rattle.byte_home.specs.Bytes.{read_rows}
use Rattle.byte_home.specs.Meanings.{byte_home_meaning}
use Rattle.home.proofs.Tables.{in_table}
use Rattle.byte_home.proofs.ByteTables.{bytes_sound, left_fair, length_read_rows}
use Rattle.byte_home.proofs.calls.ByteHomeHome.apply.Goals as goal

-- An outcome that answers a cause refuses for it.
refused : {V : Type 0} (o : Outcome V) (cause : Cause) → Err cause ≡ answer_of o → o ≡ refuses cause
refused (refuses other) cause is = cc
refused (grants row) cause is = absurd (let z : ◌≡◌ {A = ℕ} 0 1 = cc in omega arith)

pub returns-in_err-lease-clause-after : goal.returns-in_err-lease-clause-after
returns-in_err-lease-clause-after g c =
    let h = made (byte_home_meaning g.K.Kind.reading c.args.self.now) c.args.key c.args.change _ (sym c.in_ok-check_place.ensures) (sym c.in_ok-row.ensures) ∙ refused _ _ c.in_err-lease.ensures.answer in
    search rules

pub store-requires : goal.store-requires
store-requires g c =
    let t = c.args.self.now in
    let read = g.K.Kind.reading in
    let rows = read_rows read t.bytes.now in
    let found = sym c.in_ok-row.ensures in
    let within : c.args.key < length rows = (in_table t.passed rows c.args.key _ found).1 in
    record {
      passed = (in_table t.passed rows c.args.key _ found).0;
      within = rw length_read_rows at within;
      fair = left_fair t.passed 4294967295 rows c.args.key c.args.change _ _ (sym c.in_ok-check_place.ensures) found c.amend.ensures.row (bytes_sound read t.passed t.bytes.now t.sound);
    }
