use Rattle.std.proofs.Common.{subst}
use Rattle.std.proofs.lemmas.Result.{err_from_is_err_and}
use Rattle.cdle_model.specs.Erasure.{erased}
use Rattle.cdle_model.specs.Forms.{beta, eq, rho}
use Rattle.cdle_model.specs.Trees.{shift, var}
use Rattle.elab_model.specs.Rules.{gives_inferred}
use Rattle.elab_rules.specs.Spines.{MeetsMade}
use Rattle.scoped_tree.specs.Trees.{place}
use Rattle.elab_rules.proofs.Steps.{no_memory}
use Rattle.elab_rules.proofs.ask.Rules.flipped.Goals as goal

pub returns-in_err-ty : goal.returns-in_err-ty
returns-in_err-ty c = let p = err_from_is_err_and c.from_residual.result c.from_residual.ensures.1 in rw (p.1, p.2) (no_memory _ _ _)

pub returns-in_err-term : goal.returns-in_err-term
returns-in_err-term c = let p = err_from_is_err_and c.from_residual-in_err-term.result c.from_residual-in_err-term.ensures.1 in rw (p.1, p.2) (no_memory _ _ _)

pub returns : goal.returns
returns c = subst (λ z. MeetsMade c.args.self.now.env.now c.args.self.now.budget (gives_inferred (place c.args.form) (rho c.args.proof.now (eq (shift 0 1 c.args.sides.now.1) (var 0)) z (beta c.args.sides.now.1 (erased c.args.proof.now))) z) c.inferred.result) c.in_ok-ty.ensures (subst (λ z. MeetsMade c.args.self.now.env.now c.args.self.now.budget (gives_inferred (place c.args.form) z c.in_ok-ty.ty) c.inferred.result) c.in_ok-term.ensures (c.inferred.ensures))
