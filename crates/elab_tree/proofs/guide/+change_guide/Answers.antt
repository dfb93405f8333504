use Rattle.elab_tree.proofs.Changes.{raised_part}
use Rattle.elab_tree.proofs.guide.+change_guide.Goals as goal

pub EGuide::raised-returns : goal.EGuide::raised-returns
EGuide::raised-returns t c = raised_part _ _ _ _ c.change.ensures
