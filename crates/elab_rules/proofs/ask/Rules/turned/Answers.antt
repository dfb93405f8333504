use Rattle.std.proofs.Common.{true, cond}
use Rattle.std.proofs.lemmas.Result.{err_from_is_err_and}
use Rattle.elab_model.specs.Questions.{gives}
use Rattle.scoped_tree.specs.Trees.{place}
use Rattle.elab_rules.specs.Arguments.{further, headed}
use Rattle.elab_rules.specs.Spines.{spine_of}
use Rattle.elab_rules.proofs.Steps.{ends, given, goes_on}
use Rattle.elab_rules.proofs.Taking.{first_on, second_on}
use Rattle.elab_rules.proofs.ask.Rules.turned.Goals as goal

pub returns-in_err-spine : goal.returns-in_err-spine
returns-in_err-spine c = let p = err_from_is_err_and c.from_residual.result c.from_residual.ensures.1 in rw (p.1, p.2) (ends c.args.self.now.env.now c.args.self.now.budget (headed (place c.args.whole) (spine_of c.args.spine)) (λ r. cond c.args.typed (gives (true, r)) (further (place c.args.whole) r)) _ c.in_err-spine.ensures)

pub returns-then-typed : goal.returns-then-typed
returns-then-typed c =
    goes_on c.args.self.now.env.now c.args.self.now.budget (headed (place c.args.whole) (spine_of c.args.spine)) (λ r. cond c.args.typed (gives (true, r)) (further (place c.args.whole) r)) _ _ c.in_ok-spine.ensures
    (first_on c.args.self.now.env.now c.args.self.now.budget _ _ _ _ c.if-typed.true (given c.args.self.now.env.now c.args.self.now.budget _))

pub returns : goal.returns
returns c =
    goes_on c.args.self.now.env.now c.args.self.now.budget (headed (place c.args.whole) (spine_of c.args.spine)) (λ r. cond c.args.typed (gives (true, r)) (further (place c.args.whole) r)) _ _ c.in_ok-spine.ensures
    (second_on c.args.self.now.env.now c.args.self.now.budget _ _ _ _ c.if-typed.false c.unless_type.ensures)
