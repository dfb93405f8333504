use Rattle.std.proofs.Common.{Ok, Err, subst}
use Rattle.std.proofs.lemmas.Result.{err_from_is_err_and}
use Rattle.cdle_model.specs.Substitution.{put_written}
use Rattle.scoped_tree.specs.Trees.{place}
use Rattle.elab_model.specs.Questions.{gives}
use Rattle.elab_model.specs.Rules.{gives_type}
use Rattle.elab_rules.specs.Answers.{Meets}
use Rattle.elab_rules.proofs.Steps.{given, no_memory}
use Rattle.elab_rules.proofs.Endings.{deep_on, deep_ends, low_on, low_ends}
use Rattle.elab_rules.proofs.ask.Rules.applied_type.Goals as goal

pub returns-in_err-ty : goal.returns-in_err-ty
returns-in_err-ty c = let p = err_from_is_err_and c.from_residual.result c.from_residual.ensures.1 in rw (p.1, p.2) (no_memory _ _ _)

pub returns-in_err-low : goal.returns-in_err-low
returns-in_err-low c = let p = err_from_is_err_and c.from_residual-in_err-low.result c.from_residual-in_err-low.ensures.1 in rw (p.1, p.2) (subst (λ z. Meets c.args.self.now.env.now c.args.self.now.budget (gives_type (place c.args.form) z (put_written 0 c.args.arg.now c.args.rest.now)) (Err c.in_err-low.field-0.0)) c.in_ok-ty.ensures (low_ends c.args.self.now.env.now c.args.self.now.budget (place c.args.form) c.in_ok-ty.ty c.depth.result _ _ c.depth.ensures.is c.in_err-low.ensures))

pub returns-in_err-kind : goal.returns-in_err-kind
returns-in_err-kind c = let p = err_from_is_err_and c.from_residual-in_err-kind.result c.from_residual-in_err-kind.ensures.1 in rw (p.1, p.2) (subst (λ z. Meets c.args.self.now.env.now c.args.self.now.budget (gives_type (place c.args.form) z (put_written 0 c.args.arg.now c.args.rest.now)) (Err c.in_err-kind.field-0.0)) c.in_ok-ty.ensures (low_on c.args.self.now.env.now c.args.self.now.budget (place c.args.form) c.in_ok-ty.ty c.depth.result _ _ c.depth.ensures.is c.in_ok-low.ensures (deep_ends c.args.self.now.env.now c.args.self.now.budget (place c.args.form) (put_written 0 c.args.arg.now c.args.rest.now) (λ x. gives (c.in_ok-ty.ty, x)) _ (c.in_err-kind.ensures c.args.self.now.env.now c.args.self.now.budget (put_written 0 c.args.arg.now c.args.rest.now) c.put_type.ensures))))

pub returns : goal.returns
returns c = subst (λ z. Meets c.args.self.now.env.now c.args.self.now.budget (gives_type (place c.args.form) z (put_written 0 c.args.arg.now c.args.rest.now)) (Ok (c.in_ok-ty.ty, c.in_ok-kind.kind))) c.in_ok-ty.ensures (low_on c.args.self.now.env.now c.args.self.now.budget (place c.args.form) c.in_ok-ty.ty c.depth.result _ _ c.depth.ensures.is c.in_ok-low.ensures (deep_on c.args.self.now.env.now c.args.self.now.budget (place c.args.form) (put_written 0 c.args.arg.now c.args.rest.now) _ (λ x. gives (c.in_ok-ty.ty, x)) _ (c.in_ok-kind.ensures c.args.self.now.env.now c.args.self.now.budget (put_written 0 c.args.arg.now c.args.rest.now) c.put_type.ensures) (given c.args.self.now.env.now c.args.self.now.budget _)))
