use Rattle.std.proofs.Common.{Ok, sym, ap, ◌∙◌, rules}
use Rattle.split_home.proofs.Splits.{left_row, no_row, right_row}
use Rattle.split_home.proofs.calls.SplitHomeHome.fetch.Goals as goal

pub returns-in_err-side : goal.returns-in_err-side
returns-in_err-side g c =
    let l = g.L.Home.meaning c.args.self.now.left.now in
    let r = g.R.Home.meaning c.args.self.now.right.now in
    let h = no_row l r c.args.key _ (sym c.in_err-side.ensures) in
    search rules

pub returns-in-Left : goal.returns-in-Left
returns-in-Left g c =
    let l = g.L.Home.meaning c.args.self.now.left.now in
    let r = g.R.Home.meaning c.args.self.now.right.now in
    let h = left_row l r c.args.key (sym c.in_ok-side.ensures ∙ ap Ok c.in-Left.is) in
    search rules

pub returns-in-Right : goal.returns-in-Right
returns-in-Right g c =
    let l = g.L.Home.meaning c.args.self.now.left.now in
    let r = g.R.Home.meaning c.args.self.now.right.now in
    let h = right_row l r c.args.key _ (sym c.in_ok-side.ensures ∙ ap Ok c.in-Right.is) in
    search rules
