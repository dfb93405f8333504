use Rattle.cdle_model.proofs.ClassSubstitution.{fits-put, fits-shift}
use Rattle.cdle_model.proofs.ClassKept.{step-fits}
use Rattle.cdle_model.proofs.core_laws.steps_keep_classes.Goals as goal

pub returns : goal.returns
returns c = record {
  shifted = λ vs xs y d e. fits-shift xs vs y d e;
  put = λ vs xs y d a e i h. fits-put xs vs y a h d e i;
  stepped = λ vs xs s d a b w. step-fits xs s w vs d a b;
}
