use Rattle.std.proofs.Common.{Ok, suc, ◌-◌, refl, sym, ◌∙◌, arith}
use Rattle.std.proofs.lemmas.Result.{err_from_is_err_and}
use Rattle.cdle_model.specs.HeadForms.{deepest}
use Rattle.elab_model.specs.Spines.{leading_out}
use Rattle.elab_reduce.specs.Items.{env_of}
use Rattle.scoped_tree.specs.Trees.{place}
use Rattle.elab_rules.specs.Spines.{spine_of}
use Rattle.elab_rules.proofs.Closing.{no_turns, passed_spine, turn_on, turn_ends, turns_done}
use Rattle.elab_rules.proofs.Steps.{alike, no_memory}
use Rattle.elab_rules.proofs.ask.Rules.led_out.Goals as goal

pub leading-init : goal.leading-init
leading-init c = refl

pub returns-in_err-kind : goal.returns-in_err-kind
returns-in_err-kind c = let p = err_from_is_err_and c.from_residual.result c.from_residual.ensures.1 in passed_spine c.args.self.now.env.now c.args.self.now.budget (leading_out (env_of c.args.self.now.env.now) (suc deepest) (place c.args.whole) (spine_of c.args.spine)) c.from_residual.result _ _ p.1 p.2 (no_memory _ _ _)

pub returns-in_err-current-in-Some : goal.returns-in_err-current-in-Some
returns-in_err-current-in-Some c =
    let t = c.leading-test.true in
    let p = err_from_is_err_and c.from_residual-in_err-current-in-Some.result c.from_residual-in_err-current-in-Some.ensures.1 in passed_spine c.args.self.now.env.now c.args.self.now.budget (leading_out (env_of c.args.self.now.env.now) (suc deepest) (place c.args.whole) (spine_of c.args.spine)) c.from_residual-in_err-current-in-Some.result _ _ p.1 p.2 (alike c.args.self.now.env.now c.args.self.now.budget (leading_out (env_of c.args.self.now.env.now) c.leading.left (place c.args.whole) (spine_of c.leading.current)) (leading_out (env_of c.args.self.now.env.now) (suc deepest) (place c.args.whole) (spine_of c.args.spine)) _ c.leading.invariant (turn_ends c.args.self.now.env.now c.args.self.now.budget (place c.args.whole) c.leading.left (c.leading.left - 1) (spine_of c.leading.current) (omega arith) _ (c.in-Some.kind, c.in-Some.range) (c.in_ok-kind.ensures ∙ c.in-Some.is) c.in_err-current-in-Some.ensures))

pub returns-in-None : goal.returns-in-None
returns-in-None c =
    let t = c.leading-test.true in
    alike c.args.self.now.env.now c.args.self.now.budget (leading_out (env_of c.args.self.now.env.now) c.leading.left (place c.args.whole) (spine_of c.leading.current)) (leading_out (env_of c.args.self.now.env.now) (suc deepest) (place c.args.whole) (spine_of c.args.spine)) (Ok (spine_of c.leading.current)) c.leading.invariant (turns_done c.args.self.now.env.now c.args.self.now.budget (place c.args.whole) c.leading.left (c.leading.left - 1) (spine_of c.leading.current) (omega arith) (c.in_ok-kind.ensures ∙ c.in-None.is))

pub leading-preserved : goal.leading-preserved
leading-preserved c =
    let t = c.leading-test.true in
    sym (turn_on c.args.self.now.env.now c.args.self.now.budget (place c.args.whole) c.leading.left (c.leading.left - 1) (spine_of c.leading.current) (omega arith) (spine_of c.in_ok-current-in-Some.current) (c.in-Some.kind, c.in-Some.range) (c.in_ok-kind.ensures ∙ c.in-Some.is) c.in_ok-current-in-Some.ensures) ∙ c.leading.invariant

pub returns : goal.returns
returns c =
    let t = c.leading-test.false in
    alike c.args.self.now.env.now c.args.self.now.budget (leading_out (env_of c.args.self.now.env.now) c.leading.left (place c.args.whole) (spine_of c.leading.current)) (leading_out (env_of c.args.self.now.env.now) (suc deepest) (place c.args.whole) (spine_of c.args.spine)) _ c.leading.invariant (no_turns c.args.self.now.env.now c.args.self.now.budget c.args.whole c.leading.left (spine_of c.leading.current) (omega arith))
