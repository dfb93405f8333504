use Rattle.std.proofs.Common.{[], sym, ◌∙◌}
use Rattle.elab_convert.specs.Bodies.{erased_bodies}
use Rattle.elab_convert.specs.Sides.{side_tree, stack}
use Rattle.elab_convert.proofs.Comparing.{turn_met}
use Rattle.elab_convert.proofs.convert.turn.Goals as goal

pub returns : goal.returns
returns c = turn_met (erased_bodies c.args.env.now) (side_tree c.args.pair.left) (side_tree c.args.pair.right) (stack [] c.args.pairs.now.items) c.args.left.now.left c.take.new.self.left
    (c.take.ensures.taken c.if-not-take.false) (sym c.same_name.ensures ∙ c.if-same_name.false) c.meet.new.left.left (stack [] c.meet.new.pairs.items) c.meet.result c.meet.ensures
