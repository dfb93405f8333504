use Rattle.std.proofs.Common.{subst}
use Rattle.cdle_model.specs.Derivation.{bodies}
use Rattle.cdle_model.specs.Fitting.{entry_sorts}
use Rattle.cdle_model.specs.Check.{infer}
use Rattle.cdle_model.proofs.ClassSteps.{HeadFits, head-fits}
use Rattle.cdle_model.proofs.ClassChecked.{FindingSound, answer-sound, IsFound, sound}
use Rattle.cdle_model.proofs.ClassItems.{accepted-erasures}
use Rattle.cdle_model.proofs.core_laws.check_keeps_classes.Goals as goal

pub returns : goal.returns
returns c = record {
  head_form = λ vs xs s w d g n a b left k e. subst (HeadFits xs s w vs d) e (head-fits xs s w n vs d a g k);
  found = λ xs is w n j d t a k f e. subst (FindingSound (IsFound xs is w (entry_sorts d) j t)) e (answer-sound xs (bodies is) w.bodies_fit n (IsFound xs is w (entry_sorts d) j t) (infer is j d t) (sound xs is w j d t k f));
  accepted = accepted-erasures;
}
