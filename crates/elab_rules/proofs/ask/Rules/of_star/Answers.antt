use Rattle.std.proofs.lemmas.Result.{err_from_is_err_and}
use Rattle.scoped_tree.specs.Trees.{place}
use Rattle.elab_rules.proofs.Steps.{given, no_memory}
use Rattle.elab_rules.proofs.Endings.{low_on, low_ends}
use Rattle.elab_rules.proofs.ask.Rules.of_star.Goals as goal

pub returns-in_err-low : goal.returns-in_err-low
returns-in_err-low c = let p = err_from_is_err_and c.from_residual.result c.from_residual.ensures.1 in rw (p.1, p.2) (low_ends c.args.self.now.env.now c.args.self.now.budget (place c.args.form) c.args.ty c.depth.result _ _ c.depth.ensures.is c.in_err-low.ensures)

pub returns-in_err-kind : goal.returns-in_err-kind
returns-in_err-kind c = let p = err_from_is_err_and c.from_residual-in_err-kind.result c.from_residual-in_err-kind.ensures.1 in rw (p.1, p.2) (no_memory _ _ _)

pub returns : goal.returns
returns c = rw (← c.in_ok-kind.ensures) (low_on c.args.self.now.env.now c.args.self.now.budget (place c.args.form) c.args.ty c.depth.result _ _ c.depth.ensures.is c.in_ok-low.ensures (given c.args.self.now.env.now c.args.self.now.budget _))
