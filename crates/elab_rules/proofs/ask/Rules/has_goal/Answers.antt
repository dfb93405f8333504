use Rattle.cdle_model.specs.Erasure.{erased}
use Rattle.std.proofs.lemmas.Result.{err_from_is_err_and}
use Rattle.elab_model.specs.Questions.{gives}
use Rattle.elab_model.specs.declared.codes.Code.TheVariants.{Mismatch}
use Rattle.scoped_tree.specs.Trees.{place}
use Rattle.elab_rules.proofs.Steps.{given, same_on, same_ends}
use Rattle.elab_rules.proofs.ask.Rules.has_goal.Goals as goal

pub returns-in_err-same_types : goal.returns-in_err-same_types
returns-in_err-same_types c = let p = err_from_is_err_and c.from_residual.result c.from_residual.ensures.1 in rw (p.1, p.2) (same_ends c.args.self.now.env.now c.args.self.now.budget (place c.args.whole) (place c.args.whole) Mismatch (erased c.args.found.1) (erased c.args.goal.now) (gives c.args.found.0) _ c.in_err-same_types.ensures)

pub returns : goal.returns
returns c = same_on c.args.self.now.env.now c.args.self.now.budget (place c.args.whole) (place c.args.whole) Mismatch (erased c.args.found.1) (erased c.args.goal.now) (gives c.args.found.0) _ c.in_ok-same_types.ensures (given c.args.self.now.env.now c.args.self.now.budget c.args.found.0)
