use Rattle.std.proofs.Common.{subst}
use Rattle.std.proofs.lemmas.Result.{err_from_is_err_and}
use Rattle.elab_model.specs.Rules.{gives_spine}
use Rattle.elab_rules.specs.Spines.{MeetsMade}
use Rattle.scoped_tree.specs.Trees.{place}
use Rattle.elab_rules.proofs.Steps.{no_memory}
use Rattle.elab_rules.proofs.ask.Rules.first.Goals as goal

pub returns-in_err-term : goal.returns-in_err-term
returns-in_err-term c = let p = err_from_is_err_and c.from_residual.result c.from_residual.ensures.1 in rw (p.1, p.2) (no_memory _ _ _)

pub returns-in_err-ty : goal.returns-in_err-ty
returns-in_err-ty c = let p = err_from_is_err_and c.from_residual-in_err-ty.result c.from_residual-in_err-ty.ensures.1 in rw (p.1, p.2) (no_memory _ _ _)

pub returns : goal.returns
returns c = subst (λ z. MeetsMade c.args.self.now.env.now c.args.self.now.budget (gives_spine (place c.args.form) z c.args.ty.now) c.spine_of.result) c.in_ok-term.ensures (subst (λ z. MeetsMade c.args.self.now.env.now c.args.self.now.budget (gives_spine (place c.args.form) c.in_ok-term.term z) c.spine_of.result) c.in_ok-ty.ensures.cases (c.spine_of.ensures))
