use Rattle.cdle_model.proofs.ApartNotJoined.{compare-apart}
use Rattle.cdle_model.proofs.core_laws.apart_is_not_joined.Goals as goal

pub returns : goal.returns
returns c = compare-apart
