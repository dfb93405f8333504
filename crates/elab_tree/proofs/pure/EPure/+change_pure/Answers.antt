use Rattle.elab_tree.proofs.Changes.{raised_part}
use Rattle.elab_tree.proofs.pure.EPure.+change_pure.Goals as goal

pub raised-returns : goal.raised-returns
raised-returns t c = raised_part _ _ _ _ c.change.ensures
