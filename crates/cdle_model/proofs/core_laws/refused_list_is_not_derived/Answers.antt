use Rattle.cdle_model.proofs.ItemsChecked.{refused-lost, duplicate-lost}
use Rattle.cdle_model.proofs.core_laws.refused_list_is_not_derived.Goals as goal

pub returns : goal.returns
returns c = record { refused = refused-lost; repeated = duplicate-lost }
