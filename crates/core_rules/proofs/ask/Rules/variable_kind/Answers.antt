use Rattle.std.proofs.Common.{sym, ◌∙◌}
use Rattle.std.proofs.lemmas.Result.{err_from_is_err_and}
use Rattle.cdle_model.specs.Derivation.{entry}
use Rattle.core_rules.specs.Context.{entries}
use Rattle.core_rules.proofs.Known.{known_type}
use Rattle.core_rules.proofs.Looked.{lift_none}
use Rattle.core_rules.proofs.Results.{no_memory}
use Rattle.core_rules.proofs.ask.Rules.variable_kind.Goals as goal

pub returns-in_err-kind_of : goal.returns-in_err-kind_of
returns-in_err-kind_of c = let p = err_from_is_err_and c.from_residual.result c.from_residual.ensures.1 in rw (p.1, p.2) (no_memory _ _ _)

pub returns : goal.returns
returns c = known_type c.args.self.now.items.now c.args.self.now.budget (entries c.args.context.now) (entry (entries c.args.context.now) c.args.index) _ _ (sym (lift_none (entry (entries c.args.context.now) c.args.index)) ∙ c.in_ok-kind_of.ensures) c.limited_kind.ensures
