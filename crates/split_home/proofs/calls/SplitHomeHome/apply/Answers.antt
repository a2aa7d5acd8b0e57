use Rattle.std.proofs.Common.{Ok, sym, ap, ◌∙◌, rules}
use Rattle.home.specs.Meaning.{changed}
use Rattle.split_home.specs.Splits.{split_counts}
use Rattle.split_home.proofs.Splits.{left_change, no_row, right_change}
use Rattle.split_home.proofs.calls.SplitHomeHome.apply.Goals as goal

pub returns-in_err-side : goal.returns-in_err-side
unfolding changed
returns-in_err-side g c =
    let l = g.L.Home.meaning c.args.self.now.left.now in
    let r = g.R.Home.meaning c.args.self.now.right.now in
    let h = no_row l r c.args.key _ (sym c.in_err-side.ensures) in
    search rules

pub invariant_of-self : goal.invariant_of-self
invariant_of-self g c =
    let l = g.L.Home.meaning c.args.self.now.left.now in
    let r = g.R.Home.meaning c.args.self.now.right.now in
    let h = left_change l r c.args.key c.args.change (sym c.in_ok-side.ensures ∙ ap Ok c.in-Left.is) in
    record { counted = c.args.self.now.counted ∙ sym h.3 ∙ ap (λ m. split_counts m r) (sym c.apply.ensures.after) }

pub invariant_of-self-in-Right : goal.invariant_of-self-in-Right
invariant_of-self-in-Right g c =
    let l = g.L.Home.meaning c.args.self.now.left.now in
    let r = g.R.Home.meaning c.args.self.now.right.now in
    let h = right_change l r c.args.key _ c.args.change (sym c.in_ok-side.ensures ∙ ap Ok c.in-Right.is) in
    record { counted = c.args.self.now.counted ∙ sym h.3 ∙ ap (λ m. split_counts l m) (sym c.apply-in-Right.ensures.after) }

pub returns-in-Left : goal.returns-in-Left
returns-in-Left g c =
    let l = g.L.Home.meaning c.args.self.now.left.now in
    let r = g.R.Home.meaning c.args.self.now.right.now in
    let h = left_change l r c.args.key c.args.change (sym c.in_ok-side.ensures ∙ ap Ok c.in-Left.is) in
    search rules

pub returns-in-Right : goal.returns-in-Right
returns-in-Right g c =
    let l = g.L.Home.meaning c.args.self.now.left.now in
    let r = g.R.Home.meaning c.args.self.now.right.now in
    let h = right_change l r c.args.key _ c.args.change (sym c.in_ok-side.ensures ∙ ap Ok c.in-Right.is) in
    search rules
