use Rattle.core_tree.proofs.Changes.{raised_part}
use Rattle.core_tree.proofs.guide.+change_guide.Goals as goal

pub Guide::raised_part-returns-in_ok-refuse_large-in-Some : goal.Guide::raised_part-returns-in_ok-refuse_large-in-Some
Guide::raised_part-returns-in_ok-refuse_large-in-Some t c = raised_part _ _ _ _ c.in-Some.ensures.is c.change.ensures
