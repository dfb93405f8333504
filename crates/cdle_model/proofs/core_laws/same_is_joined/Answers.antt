use Rattle.cdle_model.proofs.SameJoined.{compare-joined, head-joins}
use Rattle.cdle_model.proofs.core_laws.same_is_joined.Goals as goal

pub returns : goal.returns
returns c = record { comparison = compare-joined; head_form = head-joins }
