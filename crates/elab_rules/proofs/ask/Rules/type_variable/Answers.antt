use Rattle.std.proofs.Common.{Ok, Err, sym, subst}
use Rattle.std.proofs.lemmas.Result.{err_from_is_err_and}
use Rattle.cdle_model.specs.Trees.{var}
use Rattle.cdle_model.specs.Derivation.{entry}
use Rattle.elab_model.specs.Questions.{gives, then}
use Rattle.elab_rules.specs.Contexts.{entries}
use Rattle.elab_rules.specs.Answers.{Meets}
use Rattle.elab_rules.specs.Parts.{kind_known}
use Rattle.scoped_tree.specs.Trees.{place}
use Rattle.elab_rules.proofs.Steps.{ends, given, goes_on, no_memory}
use Rattle.elab_rules.proofs.Looked.{type_found}
use Rattle.elab_rules.proofs.ask.Rules.type_variable.Goals as goal

pub returns-in_err-kind : goal.returns-in_err-kind
returns-in_err-kind c = let p = err_from_is_err_and c.from_residual.result c.from_residual.ensures.1 in rw (p.1, p.2) (subst (λ q. Meets c.args.self.now.env.now c.args.self.now.budget q (Err c.in_err-kind.field-0.0)) (type_found (place c.args.form) (var c.args.index) (entry (entries c.args.context.now) c.args.index)) (ends c.args.self.now.env.now c.args.self.now.budget (kind_known (place c.args.form) (entry (entries c.args.context.now) c.args.index)) (λ k. gives ((var c.args.index), k)) c.in_err-kind.field-0.0 c.in_err-kind.ensures))

pub returns-in_err-ty : goal.returns-in_err-ty
returns-in_err-ty c = let p = err_from_is_err_and c.from_residual-in_err-ty.result c.from_residual-in_err-ty.ensures.1 in rw (p.1, p.2) (no_memory _ _ _)

pub returns : goal.returns
returns c = subst (λ q. Meets c.args.self.now.env.now c.args.self.now.budget q (Ok (c.in_ok-ty.ty, c.in_ok-kind.kind))) (type_found (place c.args.form) (var c.args.index) (entry (entries c.args.context.now) c.args.index)) (subst (λ z. Meets c.args.self.now.env.now c.args.self.now.budget (then (kind_known (place c.args.form) (entry (entries c.args.context.now) c.args.index)) (λ k. gives ((var c.args.index), k))) (Ok (z, c.in_ok-kind.kind))) (sym c.in_ok-ty.ensures) (goes_on c.args.self.now.env.now c.args.self.now.budget (kind_known (place c.args.form) (entry (entries c.args.context.now) c.args.index)) (λ k. gives ((var c.args.index), k)) c.in_ok-kind.kind _ c.in_ok-kind.ensures (given c.args.self.now.env.now c.args.self.now.budget _)))
