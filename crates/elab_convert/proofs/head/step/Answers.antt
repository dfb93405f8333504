use Rattle.std.proofs.Common.{sym, subst}
use Rattle.elab_convert.specs.Bodies.{erased_bodies}
use Rattle.elab_convert.specs.Heads.{IsMove}
use Rattle.elab_convert.specs.Sides.{erased_tree}
use Rattle.elab_convert.proofs.head.step.Goals as goal

pub returns-in-Kind : goal.returns-in-Kind
returns-in-Kind c =
    subst (λ z. IsMove (erased_bodies c.args.env.now) (erased_tree z) c.args.args.now.items c.args.left.now.left c.args.args.now.items c.args.left.now.left c.kind_step.result)
    (sym c.in-Kind.is) (c.kind_step.ensures (erased_bodies c.args.env.now) c.args.args.now.items c.args.left.now.left)
