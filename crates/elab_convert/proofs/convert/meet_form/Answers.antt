use Rattle.std.proofs.Common.{[]}
use Rattle.elab_convert.specs.Bodies.{erased_bodies}
use Rattle.elab_convert.specs.Sides.{form_tree, side_tree, stack}
use Rattle.elab_convert.proofs.Comparing.{forms_settled, right_ends}
use Rattle.elab_convert.proofs.convert.meet_form.Goals as goal

pub returns-in-Err : goal.returns-in-Err
returns-in-Err c = right_ends (erased_bodies c.args.env.now) c.args.left.now.left (form_tree c.args.a.now) (side_tree c.args.b) (stack [] c.args.pairs.now.items) c.in-Err.stop c.requires.still c.in-Err.ensures

pub returns : goal.returns
returns c = forms_settled (erased_bodies c.args.env.now) (form_tree c.args.a.now) (side_tree c.args.b) c.args.left.now.left c.requires.still
    (form_tree c.in-Ok.form) c.head.new.left.left c.in-Ok.ensures.0 c.args.pairs.now.items c.settle.new.pairs.items c.in_ok-settle.field-0 c.in_ok-settle.ensures
