use Rattle.std.proofs.Common.{Ok, Err, subst}
use Rattle.std.proofs.lemmas.Result.{err_from_is_err_and}
use Rattle.cdle_model.specs.Erasure.{erased}
use Rattle.elab_model.specs.ScopedForms.{letter}
use Rattle.elab_model.specs.Questions.{gives, ask_same}
use Rattle.elab_model.specs.declared.codes.Code.TheVariants.{SidesDiffer}
use Rattle.elab_rules.specs.Answers.{Meets}
use Rattle.scoped_tree.specs.Trees.{place}
use Rattle.elab_rules.proofs.Steps.{no_memory, same_on, same_ends}
use Rattle.elab_rules.proofs.ask.Rules.are_sides.Goals as goal

pub returns-in_err-part : goal.returns-in_err-part
returns-in_err-part c = let p = err_from_is_err_and c.from_residual.result c.from_residual.ensures.1 in rw (p.1, p.2) (no_memory _ _ _)

pub returns-in_err-same_terms : goal.returns-in_err-same_terms
returns-in_err-same_terms c = let p = err_from_is_err_and c.from_residual-in_err-same_terms.result c.from_residual-in_err-same_terms.ensures.1 in rw (p.1, p.2) (same_ends c.args.self.now.env.now c.args.self.now.budget (place c.args.form) (letter (place c.args.form)) SidesDiffer c.args.sides.now.0 (erased c.args.part.now) _ _ (subst (λ z. Meets c.args.self.now.env.now c.args.self.now.budget (ask_same (place c.args.form) (letter (place c.args.form)) SidesDiffer c.args.sides.now.0 z (gives (tt {0}))) (Err c.in_err-same_terms.field-0.0)) c.in_ok-part.ensures (c.in_err-same_terms.ensures)))

pub returns : goal.returns
returns c = same_on c.args.self.now.env.now c.args.self.now.budget (place c.args.form) (letter (place c.args.form)) SidesDiffer c.args.sides.now.0 (erased c.args.part.now) _ _ (subst (λ z. Meets c.args.self.now.env.now c.args.self.now.budget (ask_same (place c.args.form) (letter (place c.args.form)) SidesDiffer c.args.sides.now.0 z (gives (tt {0}))) (Ok (tt {0}))) c.in_ok-part.ensures (c.in_ok-same_terms.ensures)) c.same_terms-2.ensures
