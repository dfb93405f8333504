use Rattle.cdle_model.proofs.ClassJoined.{joined-within}
use Rattle.cdle_model.proofs.core_laws.joined_trees_stay_in_class.Goals as goal

pub returns : goal.returns
returns c vs xs s i w d e a b h k j = joined-within vs xs s w d e i a b h k j
