use Rattle.std.proofs.Common.{sym, ◌∙◌}
use Rattle.std.proofs.lemmas.Result.{err_from_is_err_and}
use Rattle.elab_model.specs.declared.codes.Code.TheVariants.{ErasedVariableUsed}
use Rattle.elab_rules.specs.declared.place.At.TheVariants.{Letter}
use Rattle.elab_rules.proofs.Steps.{given, no_memory}
use Rattle.elab_rules.proofs.Endings.{refused}
use Rattle.elab_rules.proofs.ask.Rules.unused.Goals as goal

pub returns-in_err-erased : goal.returns-in_err-erased
returns-in_err-erased c = let p = err_from_is_err_and c.from_residual.result c.from_residual.ensures.1 in rw (p.1, p.2) (no_memory _ _ _)

pub returns-then-is_unused : goal.returns-then-is_unused
returns-then-is_unused c = rw (← c.in_ok-erased.ensures) (rw (sym c.is_unused.ensures ∙ c.if-is_unused.true) (given c.args.self.now.env.now c.args.self.now.budget _))

pub returns : goal.returns
returns c = rw (← c.in_ok-erased.ensures) (rw (sym c.is_unused.ensures ∙ c.if-is_unused.false) (refused _ c.args.self.now.env.now c.args.self.now.budget (Letter c.args.form) ErasedVariableUsed))
