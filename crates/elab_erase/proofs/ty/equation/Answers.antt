use Rattle.std.proofs.lemmas.Result.{err_from_is_err_and}
use Rattle.cdle_model.specs.Trees.{Tree}
use Rattle.cdle_model.specs.Forms.{eq}
use Rattle.scoped_tree.specs.Trees.{place}
use Rattle.elab_erase.proofs.Chains.{first_ends, second_ends, both_on}
use Rattle.elab_erase.proofs.ty.equation.Goals as goal

pub returns-in_err-left : goal.returns-in_err-left
returns-in_err-left c = let p = err_from_is_err_and c.from_residual.result c.from_residual.ensures.1 in rw (p.1, p.2) (first_ends c.args.rules.now.env.now c.args.rules.now.budget (place c.args.span) (λ (a b : Tree). eq a b) c.args.left.now c.args.right.now _ c.in_err-left.ensures)

pub returns-in_err-right : goal.returns-in_err-right
returns-in_err-right c = let p = err_from_is_err_and c.from_residual-in_err-right.result c.from_residual-in_err-right.ensures.1 in rw (p.1, p.2) (second_ends c.args.rules.now.env.now c.args.rules.now.budget (place c.args.span) (λ (a b : Tree). eq a b) c.args.left.now c.args.right.now c.in_ok-left.left _ c.in_ok-left.ensures c.in_err-right.ensures)

pub returns : goal.returns
returns c = both_on c.args.rules.now.env.now c.args.rules.now.budget (place c.args.span) (λ (a b : Tree). eq a b) c.args.left.now c.args.right.now c.in_ok-left.left c.in_ok-right.right _ c.in_ok-left.ensures c.in_ok-right.ensures (c.equal.ensures c.args.rules.now.env.now c.args.rules.now.budget)
