use Rattle.std.proofs.Common.{◌≡◌, suc, Some, ap, sym, ◌∙◌, subst, arith}
use Rattle.cdle_model.specs.Trees.{shift}
use Rattle.cdle_model.specs.Derivation.{type_of}
use Rattle.elab_tree.specs.Answers.{Gives}
use Rattle.elab_rules.specs.Answers.{Meets}
use Rattle.elab_rules.specs.Contexts.{entries}
use Rattle.elab_rules.specs.Parts.{kind_known, seen_known}
use Rattle.scoped_tree.specs.Trees.{place}
use Rattle.elab_rules.proofs.Steps.{no_memory}
use Rattle.elab_rules.proofs.Looked.{entry_is}
use Rattle.elab_rules.proofs.ask.Rules.variable_kind.Goals as goal

pub returns-in_default : goal.returns-in_default
returns-in_default c = no_memory _ _ _

pub returns-in_default-checked_add : goal.returns-in_default-checked_add
returns-in_default-checked_add c = no_memory _ _ _

pub returns : goal.returns
returns c = let i = c.in-Some.ensures in let e : c.in-Some.binders ≡ suc c.args.index = omega (arith, i.1) in subst (λ o. Meets c.args.self.now.env.now c.args.self.now.budget (kind_known (place c.args.form) o) c.kind_made.result) (sym (entry_is (entries c.args.context.now) c.args.index (type_of c.in-Some-OfType.kind.now) (sym c.in-Some-OfType.ensures ∙ ap (λ z. seen_known (Some z)) c.in-Some-OfType.field-0-is))) (c.kind_made.ensures c.args.self.now.env.now c.args.self.now.budget (shift 0 (suc c.args.index) c.in-Some-OfType.kind.now) (subst (λ z. Gives (shift 0 z c.in-Some-OfType.kind.now) c.shift.result) e c.shift.ensures))
