use Rattle.std.proofs.Common.{sym, rules}
use Rattle.home.proofs.Calls.{made}
use Rattle.home.proofs.Tables.{in_table, table_sound}
use Rattle.row_home.specs.Meanings.{row_home_meaning}
use Rattle.row_home.proofs.calls.RowHomeHome.apply.Goals as goal

pub returns-in_err-lease-clause-after : goal.returns-in_err-lease-clause-after
returns-in_err-lease-clause-after g c =
    let h = made (row_home_meaning c.args.self.now) c.args.key c.args.change _ (sym c.in_ok-check_place.ensures) (sym c.in_ok-row.ensures) in
    let r = c.in_err-lease.ensures.answer in
    search rules

pub store-requires : goal.store-requires
store-requires g c =
    let t = c.args.self.now in
    let found = sym c.in_ok-row.ensures in
    record {
      within = (in_table t.passed t.rows.now c.args.key _ found).1;
      sound = table_sound t.passed t.last t.rows.now c.args.key c.args.change _ _ (sym c.in_ok-check_place.ensures) found c.amend.ensures.row t.sound;
    }
