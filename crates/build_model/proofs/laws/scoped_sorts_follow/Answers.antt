use Rattle.build_model.proofs.Items.{items_sorted, known_sorted}
use Rattle.build_model.proofs.KnownNames.{known_called}
use Rattle.build_model.proofs.laws.scoped_sorts_follow.Goals as goal

pub returns-clause-items : goal.returns-clause-items
returns-clause-items c = items_sorted

pub returns-clause-sorts : goal.returns-clause-sorts
returns-clause-sorts c = known_sorted

pub returns-clause-names : goal.returns-clause-names
returns-clause-names c = known_called
