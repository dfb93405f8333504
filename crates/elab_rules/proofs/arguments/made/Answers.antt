use Rattle.std.proofs.lemmas.Result.{err_from_is_err_and}
use Rattle.scoped_tree.specs.Trees.{place}
use Rattle.elab_rules.specs.Spines.{spine_of}
use Rattle.elab_rules.proofs.Taking.{first_deep, second_deep, both_low}
use Rattle.elab_rules.proofs.arguments.made.Goals as goal

pub returns-in_err-low : goal.returns-in_err-low
returns-in_err-low c = let p = err_from_is_err_and c.from_residual.result c.from_residual.ensures.1 in rw (p.1, p.2) (λ k n. first_deep k n (place c.args.form) (spine_of c.args.spine) _ _ c.depth.ensures.is c.in_err-low.ensures)

pub returns-in_err-low-2 : goal.returns-in_err-low-2
returns-in_err-low-2 c = let p = err_from_is_err_and c.from_residual-in_err-low-2.result c.from_residual-in_err-low-2.ensures.1 in rw (p.1, p.2) (λ k n. second_deep k n (place c.args.form) (spine_of c.args.spine) _ _ _ c.depth.ensures.is c.in_ok-low.ensures c.depth-2.ensures.is c.in_err-low-2.ensures)

pub returns : goal.returns
returns c = λ k n. both_low k n (place c.args.form) (spine_of c.args.spine) _ _ c.depth.ensures.is c.in_ok-low.ensures c.depth-2.ensures.is c.in_ok-low-2.ensures
