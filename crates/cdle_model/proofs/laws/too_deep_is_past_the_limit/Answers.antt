use Rattle.cdle_model.proofs.CoreDeep.{deep_place}
use Rattle.cdle_model.proofs.laws.too_deep_is_past_the_limit.Goals as goal

pub returns : goal.returns
returns c = λ bytes known at h. deep_place _ known _ at h.1
