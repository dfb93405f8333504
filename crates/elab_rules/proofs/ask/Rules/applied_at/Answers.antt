use Rattle.std.proofs.Common.{sym, ◌∙◌}
use Rattle.std.proofs.lemmas.Result.{err_from_is_err_and}
use Rattle.elab_model.specs.Questions.{astray}
use Rattle.elab_model.specs.Spines.{applied}
use Rattle.scoped_tree.specs.Trees.{place}
use Rattle.elab_rules.specs.Spines.{binary_of, binder_of, spine_of}
use Rattle.elab_rules.proofs.Steps.{no_memory}
use Rattle.elab_rules.proofs.Taking.{parts_on}
use Rattle.elab_rules.proofs.ask.Rules.applied_at.Goals as goal

pub returns-in_err-range : goal.returns-in_err-range
returns-in_err-range c = let p = err_from_is_err_and c.from_residual.result c.from_residual.ensures.1 in rw (p.1, p.2) (no_memory _ _ _)

pub returns-in-None : goal.returns-in-None
returns-in-None c = no_memory _ _ _

pub returns-in-Some : goal.returns-in-Some
returns-in-Some c =
    parts_on c.args.self.now.env.now c.args.self.now.budget (binder_of c.args.argument) c.args.spine.ty _ c.in-Some.range
    (λ a b. applied (place c.args.whole) (binary_of c.args.argument) c.args.term.now b (spine_of c.args.spine)) astray _ (sym c.in_ok-range.ensures ∙ c.in-Some.is) c.applied.ensures
