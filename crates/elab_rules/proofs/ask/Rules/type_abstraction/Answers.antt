use Rattle.std.proofs.Common.{subst}
use Rattle.std.proofs.lemmas.Result.{err_from_is_err_and}
use Rattle.cdle_model.specs.Erasure.{erased}
use Rattle.cdle_model.specs.Forms.{allt}
use Rattle.elab_model.specs.ScopedForms.{letter}
use Rattle.elab_model.specs.Rules.{gives_inferred}
use Rattle.elab_rules.specs.Spines.{MeetsMade}
use Rattle.scoped_tree.specs.Trees.{place}
use Rattle.elab_rules.proofs.Steps.{no_memory}
use Rattle.elab_rules.proofs.Endings.{unused_on, unused_ends}
use Rattle.elab_rules.proofs.ask.Rules.type_abstraction.Goals as goal

pub returns-in_err-unused : goal.returns-in_err-unused
returns-in_err-unused c = let p = err_from_is_err_and c.from_residual.result c.from_residual.ensures.1 in rw (p.1, p.2) (unused_ends c.args.self.now.env.now c.args.self.now.budget (letter (place c.args.form)) (erased c.args.body.now.0) _ _ c.in_err-unused.ensures)

pub returns-in_err-term : goal.returns-in_err-term
returns-in_err-term c = let p = err_from_is_err_and c.from_residual-in_err-term.result c.from_residual-in_err-term.ensures.1 in rw (p.1, p.2) (no_memory _ _ _)

pub returns-in_err-ty : goal.returns-in_err-ty
returns-in_err-ty c = let p = err_from_is_err_and c.from_residual-in_err-ty.result c.from_residual-in_err-ty.ensures.1 in rw (p.1, p.2) (no_memory _ _ _)

pub returns : goal.returns
returns c = unused_on c.args.self.now.env.now c.args.self.now.budget (letter (place c.args.form)) (erased c.args.body.now.0) _ _ c.in_ok-unused.ensures (subst (λ z. MeetsMade c.args.self.now.env.now c.args.self.now.budget (gives_inferred (place c.args.form) z (allt c.args.kind.now c.args.body.now.1)) c.inferred.result) c.in_ok-term.ensures (subst (λ z. MeetsMade c.args.self.now.env.now c.args.self.now.budget (gives_inferred (place c.args.form) c.in_ok-term.term z) c.inferred.result) c.in_ok-ty.ensures (c.inferred.ensures)))
