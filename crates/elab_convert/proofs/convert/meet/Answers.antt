use Rattle.std.proofs.Common.{[]}
use Rattle.elab_convert.specs.Bodies.{erased_bodies}
use Rattle.elab_convert.specs.Sides.{form_tree, side_tree, stack}
use Rattle.elab_convert.proofs.Comparing.{left_ends, left_met, left_still}
use Rattle.elab_convert.proofs.convert.meet.Goals as goal

pub returns-in-Err : goal.returns-in-Err
returns-in-Err c = left_ends (erased_bodies c.args.env.now) c.args.left.now.left (side_tree c.args.pair.left) (side_tree c.args.pair.right) (stack [] c.args.pairs.now.items) c.in-Err.stop c.in-Err.ensures

pub meet_form-requires-clause-still : goal.meet_form-requires-clause-still
meet_form-requires-clause-still c = left_still (erased_bodies c.args.env.now) (side_tree c.args.pair.left) (side_tree c.args.pair.right) (stack [] c.args.pairs.now.items) c.args.left.now.left
    (form_tree c.in-Ok.form) c.head.new.left.left c.in-Ok.ensures.0

pub returns : goal.returns
returns c = left_met (erased_bodies c.args.env.now) (side_tree c.args.pair.left) (side_tree c.args.pair.right) (stack [] c.args.pairs.now.items) c.args.left.now.left
    (form_tree c.in-Ok.form) c.head.new.left.left c.in-Ok.ensures.0 c.meet_form.new.left.left (stack [] c.meet_form.new.pairs.items) c.meet_form.result c.meet_form.ensures
