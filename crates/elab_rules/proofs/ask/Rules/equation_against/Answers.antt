use Rattle.std.proofs.Common.{Ok, sym, subst}
use Rattle.std.proofs.lemmas.Result.{err_from_is_err_and}
use Rattle.cdle_model.specs.Erasure.{erased}
use Rattle.cdle_model.specs.Trees.{put}
use Rattle.elab_model.specs.declared.codes.Code.TheVariants.{SidesDiffer}
use Rattle.elab_model.specs.Questions.{ask_same, gives}
use Rattle.elab_model.specs.ScopedForms.{letter}
use Rattle.elab_rules.specs.Answers.{Meets}
use Rattle.scoped_tree.specs.Trees.{place}
use Rattle.elab_rules.proofs.Endings.{deep_on, deep_ends}
use Rattle.elab_rules.proofs.Steps.{given, no_memory, same_on, same_ends}
use Rattle.elab_rules.proofs.ask.Rules.equation_against.Goals as goal

pub returns-in_err-said : goal.returns-in_err-said
returns-in_err-said c = let p = err_from_is_err_and c.from_residual.result c.from_residual.ensures.1 in rw (p.1, p.2) (deep_ends c.args.self.now.env.now c.args.self.now.budget (place c.args.form) (put 0 c.args.side.now c.args.guide.now) (λ y. ask_same (place c.args.form) (letter (place c.args.form)) SidesDiffer (erased c.args.goal.now) y (gives y)) _ c.in_err-said.ensures)

pub returns-in_err-is_guide : goal.returns-in_err-is_guide
returns-in_err-is_guide c = let p = err_from_is_err_and c.from_residual-in_err-is_guide.result c.from_residual-in_err-is_guide.ensures.1 in rw (p.1, p.2) (deep_on c.args.self.now.env.now c.args.self.now.budget (place c.args.form) (put 0 c.args.side.now c.args.guide.now) c.in_ok-said.said (λ y. ask_same (place c.args.form) (letter (place c.args.form)) SidesDiffer (erased c.args.goal.now) y (gives y)) _ c.in_ok-said.ensures (same_ends c.args.self.now.env.now c.args.self.now.budget (place c.args.form) (letter (place c.args.form)) SidesDiffer (erased c.args.goal.now) c.in_ok-said.said (gives c.in_ok-said.said) _ c.in_err-is_guide.ensures))

pub returns-in_err-equation_type : goal.returns-in_err-equation_type
returns-in_err-equation_type c = let p = err_from_is_err_and c.from_residual-in_err-equation_type.result c.from_residual-in_err-equation_type.ensures.1 in rw (p.1, p.2) (no_memory _ _ _)

pub returns : goal.returns
returns c = deep_on c.args.self.now.env.now c.args.self.now.budget (place c.args.form) (put 0 c.args.side.now c.args.guide.now) c.in_ok-said.said (λ y. ask_same (place c.args.form) (letter (place c.args.form)) SidesDiffer (erased c.args.goal.now) y (gives y)) _ c.in_ok-said.ensures (same_on c.args.self.now.env.now c.args.self.now.budget (place c.args.form) (letter (place c.args.form)) SidesDiffer (erased c.args.goal.now) c.in_ok-said.said (gives c.in_ok-said.said) _ c.in_ok-is_guide.ensures (subst (λ z. Meets c.args.self.now.env.now c.args.self.now.budget (gives c.in_ok-said.said) (Ok z)) (sym c.in_ok-equation_type.ensures) (given c.args.self.now.env.now c.args.self.now.budget c.in_ok-said.said)))
