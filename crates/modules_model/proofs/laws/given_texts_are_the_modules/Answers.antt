use Rattle.modules_model.proofs.Stages.{given_texts}
use Rattle.modules_model.proofs.laws.given_texts_are_the_modules.Goals as goal

pub returns : goal.returns
returns c = given_texts
