use Rattle.std.proofs.Common.{◌-◌, arith}
use Rattle.core_compare.proofs.Stacks.{same_length, parts_more}
use Rattle.core_compare.proofs.settle.put_parts.Goals as goal

pub index-requires-in-parts : goal.index-requires-in-parts
index-requires-in-parts c =
    let t = c.parts-test.true in let b = c.parts.invariant.0 in let e = same_length c.args.xs.now.items c.args.ys.now.items c.requires in
    omega (arith, c.args.xs.now.ok.0, c.args.ys.now.ok.0)

pub parts-preserved : goal.parts-preserved
parts-preserved c =
    let t = c.parts-test.true in let b = c.parts.invariant.0 in (
      omega arith,
      rw c.in_ok-push.ensures.items
          (parts_more c.args.binders c.args.pairs.now.items c.parts.pairs.items c.args.xs.now.items c.args.ys.now.items c.parts.k (c.parts.k - 1)
          c.index.result.now c.index-in-parts.result.now c.in_ok-left.left c.in_ok-right.right c.parts.invariant.1 (omega arith) b
          (same_length c.args.xs.now.items c.args.ys.now.items c.requires) c.index.ensures c.index-in-parts.ensures c.in_ok-left.ensures c.in_ok-right.ensures),
    )
