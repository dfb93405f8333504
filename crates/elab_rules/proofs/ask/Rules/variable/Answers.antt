use Rattle.std.proofs.Common.{Ok, Err, sym, subst}
use Rattle.std.proofs.lemmas.Result.{err_from_is_err_and}
use Rattle.cdle_model.specs.Trees.{var}
use Rattle.cdle_model.specs.Derivation.{entry}
use Rattle.elab_model.specs.Questions.{gives, then}
use Rattle.elab_model.specs.Spines.{spine, starting}
use Rattle.elab_rules.specs.Contexts.{entries}
use Rattle.elab_rules.specs.Answers.{Meets}
use Rattle.elab_rules.specs.Parts.{type_known}
use Rattle.elab_rules.specs.Spines.{made_of}
use Rattle.scoped_tree.specs.Trees.{place}
use Rattle.elab_rules.proofs.Steps.{ends, given, goes_on, no_memory}
use Rattle.elab_rules.proofs.Looked.{term_found}
use Rattle.elab_rules.proofs.ask.Rules.variable.Goals as goal

pub returns-in_err-ty : goal.returns-in_err-ty
returns-in_err-ty c = let p = err_from_is_err_and c.from_residual.result c.from_residual.ensures.1 in rw (p.1, p.2) (subst (λ q. Meets c.args.self.now.env.now c.args.self.now.budget q (Err c.in_err-ty.field-0.0)) (term_found (place c.args.form) (var c.args.index) (entry (entries c.args.context.now) c.args.index)) (ends c.args.self.now.env.now c.args.self.now.budget (type_known (place c.args.form) (entry (entries c.args.context.now) c.args.index)) (λ a. gives (spine (starting (place c.args.form) (var c.args.index) a))) c.in_err-ty.field-0.0 c.in_err-ty.ensures))

pub returns-in_err-term : goal.returns-in_err-term
returns-in_err-term c = let p = err_from_is_err_and c.from_residual-in_err-term.result c.from_residual-in_err-term.ensures.1 in rw (p.1, p.2) (no_memory _ _ _)

pub returns : goal.returns
returns c = subst (λ q. Meets c.args.self.now.env.now c.args.self.now.budget q (Ok (made_of c.starting.result))) (term_found (place c.args.form) (var c.args.index) (entry (entries c.args.context.now) c.args.index)) (subst (λ m. Meets c.args.self.now.env.now c.args.self.now.budget (then (type_known (place c.args.form) (entry (entries c.args.context.now) c.args.index)) (λ a. gives (spine (starting (place c.args.form) (var c.args.index) a)))) (Ok m)) (sym c.starting.ensures) (subst (λ z. Meets c.args.self.now.env.now c.args.self.now.budget (then (type_known (place c.args.form) (entry (entries c.args.context.now) c.args.index)) (λ a. gives (spine (starting (place c.args.form) (var c.args.index) a)))) (Ok (spine (starting (place c.args.form) z c.in_ok-ty.ty)))) (sym c.in_ok-term.ensures) (goes_on c.args.self.now.env.now c.args.self.now.budget (type_known (place c.args.form) (entry (entries c.args.context.now) c.args.index)) (λ a. gives (spine (starting (place c.args.form) (var c.args.index) a))) c.in_ok-ty.ty _ c.in_ok-ty.ensures (given c.args.self.now.env.now c.args.self.now.budget _))))
