use Rattle.cdle_model.proofs.ErasedSubstitution.{erased-shift, erased-put}
use Rattle.cdle_model.proofs.core_laws.erasure_commutes.Goals as goal

pub returns : goal.returns
returns c = record { shifted = erased-shift; put = erased-put }
