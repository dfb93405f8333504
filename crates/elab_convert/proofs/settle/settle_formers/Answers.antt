use Rattle.std.proofs.Common.{arith}
use Rattle.elab_convert.specs.Sides.{erased_tree}
use Rattle.elab_convert.proofs.Settling.{left_stuck, right_stuck}
use Rattle.elab_convert.proofs.settle.settle_formers.Goals as goal

pub returns-then-len-eq0 : goal.returns-then-len-eq0
returns-then-len-eq0 c = right_stuck (erased_tree c.args.left.now.head) (erased_tree c.args.right.now.head) c.args.left.now.args.items c.args.right.now.args.items c.args.pairs.now.items c.args.pairs.now.items
    c.requires.left c.requires.right
    (let t = c.if-len-eq0.true in let e = c.len.ensures in omega (arith, c.args.left.now.args.ok.0))
    (let t = c.if-len-eq0-2.false in let e = c.len-then-len-eq0.ensures in omega (arith, c.args.right.now.args.ok.0))

pub returns-then-len-eq0-3 : goal.returns-then-len-eq0-3
returns-then-len-eq0-3 c = left_stuck (erased_tree c.args.left.now.head) (erased_tree c.args.right.now.head) c.args.left.now.args.items c.args.right.now.args.items c.args.pairs.now.items c.args.pairs.now.items
    c.requires.left c.requires.right
    (let t = c.if-len-eq0.false in let e = c.len.ensures in omega (arith, c.args.left.now.args.ok.0))
    (let t = c.if-len-eq0-3.true in let e = c.len-2.ensures in omega (arith, c.args.right.now.args.ok.0))
