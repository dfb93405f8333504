-- From the stages to what the modules come to.
use Rattle.std.proofs.Common.{◌≡◌, ℕ, Option, Some, List, [], Result, Ok, Err, ap, ◌∙◌, subst}
use Rattle.std.specs.Global.{Vec}
use Rattle.cdle_model.specs.Forms.{Written}
use Rattle.modules_model.specs.ModuleTexts.{Stuck, TextsAnswer, by_rules, by_texts, printed_files}
use Rattle.build_modules.specs.Answers.{GivesTexts, IsAnswer}
use Rattle.build_modules.specs.declared.fault.BuildFault.{BuildFault}
use Rattle.build_modules.proofs.Faults.{fault_as}

-- the answer is that to another thing, which is the same
pub answer_as : (a b : Option TextsAnswer) (r : Result (Vec (Vec ℕ)) BuildFault) → a ≡ b → IsAnswer a r → IsAnswer b r
answer_as a b r e h = subst (λ c. IsAnswer c r) e h

pub printed_answer : (wss : List (List Written)) (g : Result (List (List Written)) (ℕ × Stuck)) (r : Result (Vec (Vec ℕ)) BuildFault) → g ≡ Ok wss → GivesTexts wss r → IsAnswer (by_rules g) r
printed_answer wss g (Ok texts) e h = (wss, ap by_rules e ∙ ap (λ t. Some (by_texts wss t)) h)
printed_answer wss g (Err f) e h = fault_as (λ a. by_texts wss (printed_files [] wss) ≡ a) (λ a. by_rules g ≡ Some a) (λ a k. ap by_rules e ∙ ap Some k) f h
