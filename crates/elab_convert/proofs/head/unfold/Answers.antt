use Rattle.std.proofs.Common.{arith}
use Rattle.elab_convert.specs.Bodies.{body_tree, erased_bodies}
use Rattle.elab_convert.proofs.Steps.{body_at, no_body, some_body, constant_still, unfolds_spent, unfolds_to}
use Rattle.elab_convert.proofs.head.unfold.Goals as goal

pub returns-then-item-len : goal.returns-then-item-len
returns-then-item-len c xs =
    constant_still (erased_bodies c.args.env.now) c.args.item xs c.args.left.now.left (no_body c.args.env.now.entries c.args.item (let t = c.if-item-len.true in let e = c.len.ensures in omega arith))

pub returns-then-not-take : goal.returns-then-not-take
returns-then-not-take c xs =
    let t = c.if-item-len.false in let e = c.len.ensures in let b = some_body c.args.env.now.entries c.args.item (omega arith) in
    unfolds_spent (erased_bodies c.args.env.now) c.args.item xs xs b.0 c.args.left.now.left c.take.new.self.left b.1 (c.take.ensures.none c.if-not-take.true)

pub returns : goal.returns
returns c xs =
    unfolds_to (erased_bodies c.args.env.now) c.args.item xs (body_tree c.erased_body.result.now) c.in_ok-body_once_more.field-0 c.args.left.now.left c.take.new.self.left
    (body_at c.args.env.now.entries c.args.item c.erased_body.result.now c.erased_body.ensures) c.in_ok-body_once_more.ensures.is c.in_ok-body_once_more.ensures.bounded (c.take.ensures.taken c.if-not-take.false)
