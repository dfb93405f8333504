use Rattle.core_tree.proofs.Changes.{raised_part}
use Rattle.core_tree.proofs.pure.Pure.+change_pure.Goals as goal

pub raised_part-returns-in_ok-refuse_large-in-Some : goal.raised_part-returns-in_ok-refuse_large-in-Some
raised_part-returns-in_ok-refuse_large-in-Some t c = raised_part _ _ _ _ c.in-Some.ensures.is c.change.ensures
