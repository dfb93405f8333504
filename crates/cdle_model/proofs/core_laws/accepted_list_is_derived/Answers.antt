use Rattle.cdle_model.proofs.ItemsChecked.{accepted-derived}
use Rattle.cdle_model.proofs.core_laws.accepted_list_is_derived.Goals as goal

pub returns : goal.returns
returns c = accepted-derived
