use Rattle.std.proofs.Common.{Ok, Err, subst}
use Rattle.std.proofs.lemmas.Result.{err_from_is_err_and}
use Rattle.cdle_model.specs.Forms.{kpit}
use Rattle.elab_model.specs.Rules.{gives_type}
use Rattle.elab_rules.specs.Answers.{Meets}
use Rattle.scoped_tree.specs.Trees.{place}
use Rattle.elab_rules.proofs.Steps.{given, no_memory}
use Rattle.elab_rules.proofs.Endings.{low_on, low_ends}
use Rattle.elab_rules.proofs.ask.Rules.type_function.Goals as goal

pub returns-in_err-ty : goal.returns-in_err-ty
returns-in_err-ty c = let p = err_from_is_err_and c.from_residual.result c.from_residual.ensures.1 in rw (p.1, p.2) (no_memory _ _ _)

pub returns-in_err-low : goal.returns-in_err-low
returns-in_err-low c = let p = err_from_is_err_and c.from_residual-in_err-low.result c.from_residual-in_err-low.ensures.1 in rw (p.1, p.2) (subst (λ z. Meets c.args.self.now.env.now c.args.self.now.budget (gives_type (place c.args.form) z (kpit c.args.kind.now c.args.body.now.1)) (Err c.in_err-low.field-0.0)) c.in_ok-ty.ensures (low_ends c.args.self.now.env.now c.args.self.now.budget (place c.args.form) c.in_ok-ty.ty c.depth.result _ _ c.depth.ensures.is c.in_err-low.ensures))

pub returns-in_err-kind : goal.returns-in_err-kind
returns-in_err-kind c = let p = err_from_is_err_and c.from_residual-in_err-kind.result c.from_residual-in_err-kind.ensures.1 in rw (p.1, p.2) (no_memory _ _ _)

pub returns-in_err-low-2 : goal.returns-in_err-low-2
returns-in_err-low-2 c = let p = err_from_is_err_and c.from_residual-in_err-low-2.result c.from_residual-in_err-low-2.ensures.1 in rw (p.1, p.2) (subst (λ z. Meets c.args.self.now.env.now c.args.self.now.budget (gives_type (place c.args.form) z (kpit c.args.kind.now c.args.body.now.1)) (Err c.in_err-low-2.field-0.0)) c.in_ok-ty.ensures (subst (λ z. Meets c.args.self.now.env.now c.args.self.now.budget (gives_type (place c.args.form) c.in_ok-ty.ty z) (Err c.in_err-low-2.field-0.0)) c.in_ok-kind.ensures (low_on c.args.self.now.env.now c.args.self.now.budget (place c.args.form) c.in_ok-ty.ty c.depth.result _ _ c.depth.ensures.is c.in_ok-low.ensures (low_ends c.args.self.now.env.now c.args.self.now.budget (place c.args.form) c.in_ok-kind.kind c.depth-2.result _ _ c.depth-2.ensures.is c.in_err-low-2.ensures))))

pub returns : goal.returns
returns c = subst (λ z. Meets c.args.self.now.env.now c.args.self.now.budget (gives_type (place c.args.form) z (kpit c.args.kind.now c.args.body.now.1)) (Ok (c.in_ok-ty.ty, c.in_ok-kind.kind))) c.in_ok-ty.ensures (subst (λ z. Meets c.args.self.now.env.now c.args.self.now.budget (gives_type (place c.args.form) c.in_ok-ty.ty z) (Ok (c.in_ok-ty.ty, c.in_ok-kind.kind))) c.in_ok-kind.ensures (low_on c.args.self.now.env.now c.args.self.now.budget (place c.args.form) c.in_ok-ty.ty c.depth.result _ _ c.depth.ensures.is c.in_ok-low.ensures (low_on c.args.self.now.env.now c.args.self.now.budget (place c.args.form) c.in_ok-kind.kind c.depth-2.result _ _ c.depth-2.ensures.is c.in_ok-low-2.ensures (given c.args.self.now.env.now c.args.self.now.budget _))))
