use Rattle.cdle_model.proofs.UniqueTypes.{types-unique}
use Rattle.cdle_model.proofs.core_laws.types_are_unique.Goals as goal

pub returns : goal.returns
returns c = types-unique
