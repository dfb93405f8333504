use Rattle.core_compare_rows.proofs.Sorts.{one_more}
use Rattle.core_compare_rows.proofs.items.add_identity.Goals as goal

pub add-requires-clause-over : goal.add-requires-clause-over
add-requires-clause-over c = c.in_ok-item.ensures.over _

pub returns : goal.returns
returns c = one_more c.add.result _ _ _ _ c.add.ensures c.in_ok-item.ensures.sort
