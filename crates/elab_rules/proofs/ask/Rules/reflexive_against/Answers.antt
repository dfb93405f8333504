use Rattle.std.proofs.Common.{subst}
use Rattle.std.proofs.lemmas.Result.{err_from_is_err_and}
use Rattle.elab_model.specs.ScopedForms.{letter}
use Rattle.elab_model.specs.Rules.{gives_checked}
use Rattle.elab_model.specs.declared.codes.Code.TheVariants.{SidesDiffer}
use Rattle.elab_rules.specs.Spines.{MeetsMade}
use Rattle.scoped_tree.specs.Trees.{place}
use Rattle.elab_rules.proofs.Steps.{no_memory, same_on, same_ends}
use Rattle.elab_rules.proofs.ask.Rules.reflexive_against.Goals as goal

pub returns-in_err-same_terms : goal.returns-in_err-same_terms
returns-in_err-same_terms c = let p = err_from_is_err_and c.from_residual.result c.from_residual.ensures.1 in rw (p.1, p.2) (same_ends c.args.self.now.env.now c.args.self.now.budget (place c.args.form) (letter (place c.args.form)) SidesDiffer c.args.sides.now.0 c.args.sides.now.1 _ _ c.in_err-same_terms.ensures)

pub returns-in_err-term : goal.returns-in_err-term
returns-in_err-term c = let p = err_from_is_err_and c.from_residual-in_err-term.result c.from_residual-in_err-term.ensures.1 in rw (p.1, p.2) (no_memory _ _ _)

pub returns : goal.returns
returns c = same_on c.args.self.now.env.now c.args.self.now.budget (place c.args.form) (letter (place c.args.form)) SidesDiffer c.args.sides.now.0 c.args.sides.now.1 _ _ c.in_ok-same_terms.ensures (subst (λ z. MeetsMade c.args.self.now.env.now c.args.self.now.budget (gives_checked (place c.args.form) z) c.checked.result) c.in_ok-term.ensures (c.checked.ensures))
