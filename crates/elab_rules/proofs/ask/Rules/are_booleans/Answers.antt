use Rattle.std.proofs.Common.{Ok, Err, subst}
use Rattle.std.proofs.lemmas.Result.{err_from_is_err_and}
use Rattle.cdle_model.specs.Derivation.{true_pure}
use Rattle.elab_model.specs.ScopedForms.{letter}
use Rattle.elab_model.specs.Questions.{gives, ask_same}
use Rattle.elab_model.specs.declared.codes.Code.TheVariants.{NotTheTwoBooleans}
use Rattle.elab_rules.specs.Answers.{Meets}
use Rattle.scoped_tree.specs.Trees.{place}
use Rattle.elab_rules.proofs.Steps.{no_memory, same_on, same_ends}
use Rattle.elab_rules.proofs.ask.Rules.are_booleans.Goals as goal

pub returns-in_err-first : goal.returns-in_err-first
returns-in_err-first c = let p = err_from_is_err_and c.from_residual.result c.from_residual.ensures.1 in rw (p.1, p.2) (no_memory _ _ _)

pub returns-in_err-second : goal.returns-in_err-second
returns-in_err-second c = let p = err_from_is_err_and c.from_residual-in_err-second.result c.from_residual-in_err-second.ensures.1 in rw (p.1, p.2) (no_memory _ _ _)

pub returns-in_err-same_terms : goal.returns-in_err-same_terms
returns-in_err-same_terms c = let p = err_from_is_err_and c.from_residual-in_err-same_terms.result c.from_residual-in_err-same_terms.ensures.1 in rw (p.1, p.2) (same_ends c.args.self.now.env.now c.args.self.now.budget (place c.args.form) (letter (place c.args.form)) NotTheTwoBooleans c.args.sides.now.0 true_pure _ _ (subst (λ z. Meets c.args.self.now.env.now c.args.self.now.budget (ask_same (place c.args.form) (letter (place c.args.form)) NotTheTwoBooleans c.args.sides.now.0 z (gives (tt {0}))) (Err c.in_err-same_terms.field-0.0)) c.in_ok-first.ensures (c.in_err-same_terms.ensures)))

pub returns : goal.returns
returns c = same_on c.args.self.now.env.now c.args.self.now.budget (place c.args.form) (letter (place c.args.form)) NotTheTwoBooleans c.args.sides.now.0 true_pure _ _ (subst (λ z. Meets c.args.self.now.env.now c.args.self.now.budget (ask_same (place c.args.form) (letter (place c.args.form)) NotTheTwoBooleans c.args.sides.now.0 z (gives (tt {0}))) (Ok (tt {0}))) c.in_ok-first.ensures (c.in_ok-same_terms.ensures)) (subst (λ z. Meets c.args.self.now.env.now c.args.self.now.budget (ask_same (place c.args.form) (letter (place c.args.form)) NotTheTwoBooleans c.args.sides.now.1 z (gives (tt {0}))) c.same_terms-2.result) c.in_ok-second.ensures (c.same_terms-2.ensures))
