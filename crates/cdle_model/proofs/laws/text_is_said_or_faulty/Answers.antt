use Rattle.std.proofs.Common.{◌≡◌, List, Result, Err, length, false, refl, sym, ◌∙◌}
use Rattle.cdle_model.specs.CoreTokens.{Token, tokens}
use Rattle.cdle_model.specs.CoreFaults.{Fault}
use Rattle.cdle_model.specs.CoreWants.{start, rest_or_fault}
use Rattle.cdle_model.proofs.CoreWhole.{said_or_faulty}
use Rattle.cdle_model.proofs.laws.text_is_said_or_faulty.Goals as goal

abbrev fault : Fault → Result (List Token) Fault
fault f = Err f

same_fault : (f g : Fault) → fault f ≡ fault g → f ≡ g
same_fault f g e = cc

pub returns-clause-either : goal.returns-clause-either
returns-clause-either c = λ bytes known utf8. said_or_faulty bytes known utf8 (rest_or_fault (length bytes) (start known) (tokens false 0 bytes)) refl

pub returns-clause-one : goal.returns-clause-one
returns-clause-one c = λ bytes known f g h k. same_fault f g (sym h.1 ∙ k.1)
