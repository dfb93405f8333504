use Rattle.std.proofs.Common.{◌≡◌, suc, Some, ap, sym, ◌∙◌, subst, arith}
use Rattle.cdle_model.specs.Trees.{shift}
use Rattle.cdle_model.specs.Derivation.{term_of}
use Rattle.elab_tree.specs.Answers.{Gives}
use Rattle.elab_rules.specs.Answers.{Meets}
use Rattle.elab_rules.specs.Contexts.{entries}
use Rattle.elab_rules.specs.Parts.{type_known, seen_known}
use Rattle.scoped_tree.specs.Trees.{place}
use Rattle.elab_rules.proofs.Steps.{no_memory}
use Rattle.elab_rules.proofs.Looked.{entry_is}
use Rattle.elab_rules.proofs.ask.Rules.variable_type.Goals as goal

pub returns-in_default : goal.returns-in_default
returns-in_default c = no_memory _ _ _

pub returns-in_default-checked_add : goal.returns-in_default-checked_add
returns-in_default-checked_add c = no_memory _ _ _

pub returns : goal.returns
returns c = let i = c.in-Some.ensures in let e : c.in-Some.binders ≡ suc c.args.index = omega (arith, i.1) in subst (λ o. Meets c.args.self.now.env.now c.args.self.now.budget (type_known (place c.args.form) o) c.type_made.result) (sym (entry_is (entries c.args.context.now) c.args.index (term_of c.in-Some-Term.ty.now) (sym c.in-Some-Term.ensures ∙ ap (λ z. seen_known (Some z)) c.in-Some-Term.field-0-is))) (c.type_made.ensures c.args.self.now.env.now c.args.self.now.budget (shift 0 (suc c.args.index) c.in-Some-Term.ty.now) (subst (λ z. Gives (shift 0 z c.in-Some-Term.ty.now) c.shift.result) e c.shift.ensures))
