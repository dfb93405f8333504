use Rattle.std.proofs.Common.{sym, ◌∙◌}
use Rattle.cdle_model.specs.Trees.{Tree}
use Rattle.elab_model.specs.declared.codes.Code.TheVariants.{ErasedVariableUsed}
use Rattle.elab_rules.specs.declared.place.At.TheVariants.{Letter}
use Rattle.elab_rules.proofs.Endings.{refused}
use Rattle.elab_erase.proofs.pure.without_variable.Goals as goal

pub returns-else-is_unused : goal.returns-else-is_unused
returns-else-is_unused c = λ e n. rw (sym c.is_unused.ensures ∙ c.if-is_unused.false) (refused Tree e n (Letter c.args.form) ErasedVariableUsed)
