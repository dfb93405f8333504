use Rattle.std.proofs.Common.{Ok, sym, subst}
use Rattle.std.proofs.lemmas.Result.{err_from_is_err_and}
use Rattle.elab_model.specs.Rules.{gives_spine}
use Rattle.elab_rules.specs.Answers.{Meets}
use Rattle.scoped_tree.specs.Trees.{place}
use Rattle.elab_rules.proofs.Steps.{given}
use Rattle.elab_rules.proofs.Endings.{low_on, low_ends}
use Rattle.elab_rules.proofs.ask.Rules.spine_of.Goals as goal

pub returns-in_err-low : goal.returns-in_err-low
returns-in_err-low c = let p = err_from_is_err_and c.from_residual.result c.from_residual.ensures.1 in rw (p.1, p.2) (low_ends c.args.self.now.env.now c.args.self.now.budget (place c.args.form) c.args.term c.depth.result _ _ c.depth.ensures.is c.in_err-low.ensures)

pub returns-in_err-low-2 : goal.returns-in_err-low-2
returns-in_err-low-2 c = let p = err_from_is_err_and c.from_residual-in_err-low-2.result c.from_residual-in_err-low-2.ensures.1 in rw (p.1, p.2) (low_on c.args.self.now.env.now c.args.self.now.budget (place c.args.form) c.args.term c.depth.result _ _ c.depth.ensures.is c.in_ok-low.ensures (low_ends c.args.self.now.env.now c.args.self.now.budget (place c.args.form) c.args.ty c.depth-2.result _ _ c.depth-2.ensures.is c.in_err-low-2.ensures))

pub returns : goal.returns
returns c = subst (λ z. Meets c.args.self.now.env.now c.args.self.now.budget (gives_spine (place c.args.form) c.args.term c.args.ty) (Ok z)) (sym c.starting.ensures) (low_on c.args.self.now.env.now c.args.self.now.budget (place c.args.form) c.args.term c.depth.result _ _ c.depth.ensures.is c.in_ok-low.ensures (low_on c.args.self.now.env.now c.args.self.now.budget (place c.args.form) c.args.ty c.depth-2.result _ _ c.depth-2.ensures.is c.in_ok-low-2.ensures (given c.args.self.now.env.now c.args.self.now.budget _)))
