use Rattle.std.proofs.Common.{rules}
use Rattle.home.specs.Opening.{row_flaw}
use Rattle.home.proofs.Opening.{first_bad_more, first_bad_all}
use Rattle.row_home.proofs.making.check_rows.Goals as goal

pub returns-in-Some : goal.returns-in-Some
returns-in-Some g c =
    let h = first_bad_more (row_flaw c.args.last) c.args.rows.now c.loop-key.key _ c.loop-key-test.true c.index-rows-key.is in
    search rules

pub loop-key-preserved : goal.loop-key-preserved
loop-key-preserved g c =
    let h = first_bad_more (row_flaw c.args.last) c.args.rows.now c.loop-key.key _ c.loop-key-test.true c.index-rows-key.is in
    search rules

pub returns : goal.returns
returns g c =
    let h = first_bad_all (row_flaw c.args.last) c.args.rows.now c.loop-key.key c.loop-key-test.false in
    search rules
