use Rattle.elab_tree.proofs.Changes.{raised_part}
use Rattle.elab_tree.proofs.term.+change_term.Goals as goal

pub ETerm::raised-returns : goal.ETerm::raised-returns
ETerm::raised-returns t c = raised_part _ _ _ _ c.change.ensures

pub EType::raised-returns : goal.EType::raised-returns
EType::raised-returns t c = raised_part _ _ _ _ c.change.ensures
