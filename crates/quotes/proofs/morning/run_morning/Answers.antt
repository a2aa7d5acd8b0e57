use Rattle.std.proofs.Common.{◌≡◌, cond, [], sym, ◌∙◌, rules}
use Rattle.quotes.proofs.Days.{bytes_free, rows_free, tables_after}
use Rattle.quotes.proofs.morning.run_morning.Goals as goal

pub returns-clause-tables : goal.returns-clause-tables
returns-clause-tables c =
    let near = c.args.near.now in
    let far = c.args.far.now in
    let row_ok = sym c.in_ok-check.ensures in
    let byte_ok = sym c.in_ok-check-2.ensures in
    let left = c.serve_both.new.left in
    let right = c.serve_both.new.right in
    let in_left : cond left.passed [] left.rows.now ≡ [] = rows_free _ _ _ _ _ _ (c.serve_both.ensures.memory.0 ∙ c.make-left.ensures.memory) row_ok in
    let in_right : cond right.passed [] right.bytes.now ≡ [] = bytes_free _ _ _ _ _ _ (c.serve_both.ensures.memory.1 ∙ c.make-right.ensures.memory) byte_ok in
    tables_after near far c.args.orders.now _ _ row_ok byte_ok _ _ left.passed right.passed left.last 4294967295 left.rows.now _ right.bytes.now _ _ c.make-left.ensures.meaning c.make-right.ensures.meaning (search rules) (search rules) (search rules) (search rules) (λ s. (search rules, search rules)) in_left in_right c.serve_both.ensures.served
