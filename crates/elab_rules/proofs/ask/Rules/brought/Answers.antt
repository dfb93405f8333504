use Rattle.std.proofs.Common.{suc, ◌-◌, refl, arith}
use Rattle.std.proofs.lemmas.Result.{err_from_is_err_and}
use Rattle.cdle_model.specs.HeadForms.{deepest}
use Rattle.scoped_tree.specs.Trees.{place}
use Rattle.elab_rules.specs.Spines.{spine_of}
use Rattle.elab_rules.proofs.Brought.{comes, runs_out, starts, stops, turns_on}
use Rattle.elab_rules.proofs.Taking.{failed}
use Rattle.elab_rules.proofs.ask.Rules.brought.Goals as goal

pub turns-init : goal.turns-init
turns-init c = starts c.args.self.now.env.now c.args.self.now.budget (place c.args.whole) c.args.typed _ (suc deepest) (spine_of c.args.spine) refl

pub returns-in_err-done : goal.returns-in_err-done
returns-in_err-done c =
    let h = c.turns-test.true in
    let p = err_from_is_err_and c.from_residual.result c.from_residual.ensures.1 in failed c.args.self.now.env.now c.args.self.now.budget _ spine_of _ _ _ p.1 p.2 (stops c.args.self.now.env.now c.args.self.now.budget (place c.args.whole) c.args.typed c.turns.left (c.turns.left - 1) (suc deepest) _ _ _ (omega arith) c.in_err-done.ensures c.turns.invariant)

pub returns-then-done : goal.returns-then-done
returns-then-done c =
    let h = c.turns-test.true in
    comes c.args.self.now.env.now c.args.self.now.budget (place c.args.whole) c.args.typed c.turns.left (c.turns.left - 1) (suc deepest) _ _ _ _ (omega arith) c.if-done.true c.in_ok-done.ensures c.turns.invariant

pub turns-preserved : goal.turns-preserved
turns-preserved c =
    let h = c.turns-test.true in
    turns_on c.args.self.now.env.now c.args.self.now.budget (place c.args.whole) c.args.typed c.turns.left (c.turns.left - 1) (suc deepest) _ _ _ _ (omega arith) c.if-done.false c.in_ok-done.ensures c.turns.invariant

pub returns : goal.returns
returns c =
    let h = c.turns-test.false in
    runs_out c.args.self.now.env.now c.args.self.now.budget (place c.args.whole) c.args.typed c.turns.left (suc deepest) _ _ c.args.whole (omega arith) refl c.turns.invariant
