use Rattle.std.proofs.Common.{true, subst}
use Rattle.std.proofs.lemmas.Result.{err_from_is_err_and}
use Rattle.elab_model.specs.declared.codes.Code.TheVariants.{ArgumentLeftOpen}
use Rattle.elab_model.specs.Instances.{Solution, instance}
use Rattle.elab_model.specs.Questions.{ask_head, gives, rejects}
use Rattle.elab_model.specs.Spines.{if_solved}
use Rattle.scoped_tree.specs.Trees.{place}
use Rattle.elab_rules.specs.Answers.{Meets}
use Rattle.elab_rules.proofs.Steps.{given, no_memory}
use Rattle.elab_rules.proofs.Taking.{finds_one, finds_none, solved_on, solved_off}
use Rattle.elab_rules.proofs.ask.Rules.fitted.Goals as goal

pub returns-in_err-instance : goal.returns-in_err-instance
returns-in_err-instance c = let p = err_from_is_err_and c.from_residual.result c.from_residual.ensures.1 in rw (p.1, p.2) (no_memory _ _ _)

pub returns-then-branch : goal.returns-then-branch
returns-then-branch c = solved_on c.args.self.now.env.now c.args.self.now.budget _ _ (λ os. gives os) _ _ (finds_one _ _ _ _ _ c.in_ok-instance.ensures c.if-branch.true) (given c.args.self.now.env.now c.args.self.now.budget _)

pub returns : goal.returns
returns c =
    let h = finds_none _ (instance c.args.found c.args.pattern.now c.args.target.now) c.args.found c.instance.new.solution c.in_ok-instance.field-0 c.in_ok-instance.ensures c.if-branch.false in
    solved_off c.args.self.now.env.now c.args.self.now.budget _ (λ os. gives os) _ _ h.0
    (subst (λ (z : Solution). Meets c.args.self.now.env.now c.args.self.now.budget (ask_head (place c.args.whole) (place c.args.at) true c.args.target.now (λ h. if_solved (instance z c.args.pattern.now h) (λ os. gives os) (rejects (place c.args.at) ArgumentLeftOpen)))
    c.fitted_by_head.result) h.1 c.fitted_by_head.ensures)
