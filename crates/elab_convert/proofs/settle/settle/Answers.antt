use Rattle.std.proofs.Common.{subst}
use Rattle.elab_convert.specs.Sides.{IsForm, erased_tree}
use Rattle.elab_convert.proofs.Settling.{former_against_root, root_against_former}
use Rattle.elab_convert.proofs.settle.settle.Goals as goal

pub returns-in-Applied-Former : goal.returns-in-Applied-Former
returns-in-Applied-Former c = rw (c.in-Applied-Former.is-0, c.in-Applied-Former.is-1)
    (root_against_former c.in-Applied-Former.field-0-0 c.in-Applied-Former.field-1-0.items (erased_tree c.in-Applied-Former.field-0-1.head) c.in-Applied-Former.field-0-1.args.items
    c.args.pairs.now.items c.args.pairs.now.items (subst IsForm c.in-Applied-Former.is-1 c.requires.right))

pub returns-in-Former-Applied : goal.returns-in-Former-Applied
returns-in-Former-Applied c = rw (c.in-Former-Applied.is-0, c.in-Former-Applied.is-1)
    (former_against_root (erased_tree c.in-Former-Applied.field-0-0.head) c.in-Former-Applied.field-0-0.args.items c.in-Former-Applied.field-0-1 c.in-Former-Applied.field-1-1.items
    c.args.pairs.now.items c.args.pairs.now.items (subst IsForm c.in-Former-Applied.is-0 c.requires.left))
