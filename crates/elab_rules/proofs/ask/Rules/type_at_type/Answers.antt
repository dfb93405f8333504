use Rattle.std.proofs.lemmas.Result.{err_from_is_err_and}
use Rattle.cdle_model.specs.Erasure.{erased}
use Rattle.scoped_tree.specs.Trees.{place}
use Rattle.elab_model.specs.declared.codes.Code.TheVariants.{WantedKind}
use Rattle.elab_rules.proofs.Steps.{same_on, same_ends}
use Rattle.elab_rules.proofs.ask.Rules.type_at_type.Goals as goal

pub returns-in_err-same_kinds : goal.returns-in_err-same_kinds
returns-in_err-same_kinds c = let p = err_from_is_err_and c.from_residual.result c.from_residual.ensures.1 in rw (p.1, p.2) (same_ends c.args.self.now.env.now c.args.self.now.budget (place c.args.form) (place c.args.at) WantedKind (erased c.args.arg.now.1) (erased c.args.parts.now.0) _ _ c.in_err-same_kinds.ensures)

pub returns : goal.returns
returns c = same_on c.args.self.now.env.now c.args.self.now.budget (place c.args.form) (place c.args.at) WantedKind (erased c.args.arg.now.1) (erased c.args.parts.now.0) _ _ c.in_ok-same_kinds.ensures c.applied_type.ensures
