use Rattle.std.proofs.Common.{true}
use Rattle.std.proofs.lemmas.Result.{err_from_is_err_and}
use Rattle.elab_model.specs.declared.codes.Code.TheVariants.{ArgumentLeftOpen}
use Rattle.elab_model.specs.Instances.{Solution, instance}
use Rattle.elab_model.specs.Questions.{gives, rejects}
use Rattle.elab_model.specs.Spines.{if_solved}
use Rattle.scoped_tree.specs.Trees.{place}
use Rattle.elab_rules.specs.declared.place.At.TheVariants.{Whole}
use Rattle.elab_rules.proofs.Steps.{given, head_on, head_ends, no_memory}
use Rattle.elab_rules.proofs.Taking.{finds_one, finds_none, refused, solved_on, solved_off}
use Rattle.elab_rules.proofs.ask.Rules.fitted_by_head.Goals as goal

pub returns-in_err-head : goal.returns-in_err-head
returns-in_err-head c =
    let p = err_from_is_err_and c.from_residual.result c.from_residual.ensures.1 in rw (p.1, p.2) (head_ends c.args.self.now.env.now c.args.self.now.budget (place c.args.whole) (place c.args.at) true c.args.target.now
    (λ h. if_solved (instance c.args.found c.args.pattern.now h) (λ os. gives os) (rejects (place c.args.at) ArgumentLeftOpen)) _ c.in_err-head.ensures)

pub returns-in_err-instance : goal.returns-in_err-instance
returns-in_err-instance c = let p = err_from_is_err_and c.from_residual-in_err-instance.result c.from_residual-in_err-instance.ensures.1 in rw (p.1, p.2) (no_memory _ _ _)

pub returns-then-branch : goal.returns-then-branch
returns-then-branch c =
    head_on c.args.self.now.env.now c.args.self.now.budget (place c.args.whole) (place c.args.at) true c.args.target.now (λ h. if_solved (instance c.args.found c.args.pattern.now h) (λ os. gives os) (rejects (place c.args.at) ArgumentLeftOpen)) _ _ c.in_ok-head.ensures
    (solved_on c.args.self.now.env.now c.args.self.now.budget _ _ (λ os. gives os) _ _ (finds_one _ _ _ _ _ c.in_ok-instance.ensures c.if-branch.true) (given c.args.self.now.env.now c.args.self.now.budget _))

pub returns : goal.returns
returns c =
    head_on c.args.self.now.env.now c.args.self.now.budget (place c.args.whole) (place c.args.at) true c.args.target.now (λ h. if_solved (instance c.args.found c.args.pattern.now h) (λ os. gives os) (rejects (place c.args.at) ArgumentLeftOpen)) _ _ c.in_ok-head.ensures
    (solved_off c.args.self.now.env.now c.args.self.now.budget _ (λ os. gives os) _ _ (finds_none _ _ _ _ _ c.in_ok-instance.ensures c.if-branch.false).0 (refused Solution c.args.self.now.env.now c.args.self.now.budget (Whole c.args.at) ArgumentLeftOpen))
