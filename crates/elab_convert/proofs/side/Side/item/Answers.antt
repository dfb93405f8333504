use Rattle.std.proofs.Common.{arith}
use Rattle.elab_convert.specs.Sides.{erased_tree}
use Rattle.elab_convert.proofs.Comparing.{applied_unnamed, unapplied_named}
use Rattle.elab_convert.proofs.side.Side.item.Goals as goal

pub returns-then-len-gt0 : goal.returns-then-len-gt0
returns-then-len-gt0 c = applied_unnamed (erased_tree c.args.self.now.head) c.args.self.now.args.items (let t = c.if-len-gt0.true in let e = c.len.ensures in omega (arith, c.args.self.now.args.ok.0))

pub returns : goal.returns
returns c = unapplied_named (erased_tree c.args.self.now.head) c.args.self.now.args.items c.item.result (let t = c.if-len-gt0.false in let e = c.len.ensures in omega (arith, c.args.self.now.args.ok.0)) c.item.ensures
