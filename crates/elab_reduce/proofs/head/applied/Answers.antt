use Rattle.std.proofs.Common.{◌≡◌, ◌-◌, ◌≤◌, suc, drop, subst, arith}
use Rattle.cdle_model.specs.Depth.{depth}
use Rattle.elab_reduce.specs.Spines.{spine}
use Rattle.elab_reduce.proofs.Spines.{head_depth, too_deep_at}
use Rattle.elab_reduce.proofs.Steps.{whole_deep, whole_is}
use Rattle.elab_reduce.proofs.head.applied.Goals as goal

pub returns-then-depth-gt-DEEPEST : goal.returns-then-depth-gt-DEEPEST
returns-then-depth-gt-DEEPEST c u n k =
    let t = c.if-depth-gt-DEEPEST.true in let d = c.depth.ensures.is in
    whole_deep u c.args.head.now c.args.args.now.items n k (omega (arith, head_depth c.args.head.now c.args.args.now.items))

pub returns-then-max-ge-DEEPEST : goal.returns-then-max-ge-DEEPEST
returns-then-max-ge-DEEPEST c u n k =
    let (a, i, l) = c.build.invariant in let t = c.build-test.true in
    let j : c.build.k ≡ suc (c.build.k - 1) = omega arith in
    let m = c.if-max-ge-DEEPEST.true in let e = c.max.ensures in let d = c.depth-in-build.ensures.is in let f = c.arg_depth.ensures in
    whole_deep u c.args.head.now c.args.args.now.items n k
    (too_deep_at c.args.head.now c.args.args.now.items (c.build.k - 1) c.index.result.now c.build.tree (omega arith) c.index.ensures
    (subst (λ z. c.build.tree ≡ spine c.args.head.now (drop z c.args.args.now.items)) j i) (omega arith))

pub returns : goal.returns
returns c u n k =
    let (a, i, l) = c.build.invariant in let t = c.build-test.false in
    let z : c.build.k ≡ 0 = omega arith in
    let e : c.build.tree ≡ spine c.args.head.now c.args.args.now.items = subst (λ m. c.build.tree ≡ spine c.args.head.now (drop m c.args.args.now.items)) z i in
    whole_is u c.args.head.now c.args.args.now.items n c.build.tree k e (subst (λ m. depth m ≤ 4096) e l)
