use Rattle.std.proofs.Common.{Ok, Err, sym, subst}
use Rattle.std.proofs.lemmas.Result.{err_from_is_err_and}
use Rattle.cdle_model.specs.Forms.{fst}
use Rattle.cdle_model.specs.Substitution.{put_written}
use Rattle.elab_model.specs.Questions.{gives}
use Rattle.elab_model.specs.Rules.{gives_spine}
use Rattle.elab_model.specs.Spines.{spine, starting}
use Rattle.elab_tree.specs.Answers.{Gives}
use Rattle.elab_rules.specs.Answers.{Meets}
use Rattle.elab_rules.specs.Spines.{made_of}
use Rattle.scoped_tree.specs.Trees.{place}
use Rattle.elab_rules.proofs.Steps.{given, no_memory}
use Rattle.elab_rules.proofs.Endings.{deep_on, deep_ends, low_on, low_ends}
use Rattle.elab_rules.proofs.ask.Rules.second.Goals as goal

pub returns-in_err-first : goal.returns-in_err-first
returns-in_err-first c = let p = err_from_is_err_and c.from_residual.result c.from_residual.ensures.1 in rw (p.1, p.2) (no_memory _ _ _)

pub returns-in_err-term : goal.returns-in_err-term
returns-in_err-term c = let p = err_from_is_err_and c.from_residual-in_err-term.result c.from_residual-in_err-term.ensures.1 in rw (p.1, p.2) (no_memory _ _ _)

pub returns-in_err-low : goal.returns-in_err-low
returns-in_err-low c = let p = err_from_is_err_and c.from_residual-in_err-low.result c.from_residual-in_err-low.ensures.1 in rw (p.1, p.2) (subst (λ z. Meets c.args.self.now.env.now c.args.self.now.budget (gives_spine (place c.args.form) z (put_written 0 (fst c.args.part.now) c.args.range.now)) (Err c.in_err-low.field-0.0)) c.in_ok-term.ensures (low_ends c.args.self.now.env.now c.args.self.now.budget (place c.args.form) c.in_ok-term.term c.depth.result _ _ c.depth.ensures.is c.in_err-low.ensures))

pub returns-in_err-ty : goal.returns-in_err-ty
returns-in_err-ty c = let p = err_from_is_err_and c.from_residual-in_err-ty.result c.from_residual-in_err-ty.ensures.1 in rw (p.1, p.2) (subst (λ z. Meets c.args.self.now.env.now c.args.self.now.budget (gives_spine (place c.args.form) z (put_written 0 (fst c.args.part.now) c.args.range.now)) (Err c.in_err-ty.field-0.0)) c.in_ok-term.ensures (low_on c.args.self.now.env.now c.args.self.now.budget (place c.args.form) c.in_ok-term.term c.depth.result _ _ c.depth.ensures.is c.in_ok-low.ensures (deep_ends c.args.self.now.env.now c.args.self.now.budget (place c.args.form) (put_written 0 (fst c.args.part.now) c.args.range.now) (λ a. gives (spine (starting (place c.args.form) c.in_ok-term.term a))) _ (c.in_err-ty.ensures c.args.self.now.env.now c.args.self.now.budget (put_written 0 (fst c.args.part.now) c.args.range.now) (subst (λ z. Gives (put_written 0 z c.args.range.now) c.put_term.result) c.in_ok-first.ensures c.put_term.ensures)))))

pub returns : goal.returns
returns c = subst (λ z. Meets c.args.self.now.env.now c.args.self.now.budget (gives_spine (place c.args.form) z (put_written 0 (fst c.args.part.now) c.args.range.now)) (Ok (made_of c.starting.result))) c.in_ok-term.ensures (subst (λ z. Meets c.args.self.now.env.now c.args.self.now.budget (gives_spine (place c.args.form) c.in_ok-term.term (put_written 0 (fst c.args.part.now) c.args.range.now)) (Ok z)) (sym c.starting.ensures) (low_on c.args.self.now.env.now c.args.self.now.budget (place c.args.form) c.in_ok-term.term c.depth.result _ _ c.depth.ensures.is c.in_ok-low.ensures (deep_on c.args.self.now.env.now c.args.self.now.budget (place c.args.form) (put_written 0 (fst c.args.part.now) c.args.range.now) _ (λ a. gives (spine (starting (place c.args.form) c.in_ok-term.term a))) _ (c.in_ok-ty.ensures c.args.self.now.env.now c.args.self.now.budget (put_written 0 (fst c.args.part.now) c.args.range.now) (subst (λ z. Gives (put_written 0 z c.args.range.now) c.put_term.result) c.in_ok-first.ensures c.put_term.ensures)) (given c.args.self.now.env.now c.args.self.now.budget _))))
