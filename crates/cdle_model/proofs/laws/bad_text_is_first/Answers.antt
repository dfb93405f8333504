use Rattle.cdle_model.proofs.CorePrefixes.{bad_place}
use Rattle.cdle_model.proofs.laws.bad_text_is_first.Goals as goal

pub returns : goal.returns
returns c = λ bytes known at what h. bad_place _ known _ at what h.1
