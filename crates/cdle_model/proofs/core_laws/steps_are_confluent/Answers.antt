use Rattle.cdle_model.proofs.Confluent.{joined-meets}
use Rattle.cdle_model.proofs.core_laws.steps_are_confluent.Goals as goal

pub returns : goal.returns
returns c s g a b h = joined-meets s g h
