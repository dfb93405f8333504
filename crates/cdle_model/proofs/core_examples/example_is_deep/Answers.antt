use Rattle.cdle_model.proofs.Examples.{deep_growing}
use Rattle.cdle_model.proofs.core_examples.example_is_deep.Goals as goal

pub returns : goal.returns
returns c = deep_growing
