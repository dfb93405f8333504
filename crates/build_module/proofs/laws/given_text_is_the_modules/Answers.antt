use Rattle.build_module.proofs.GivenText.{given_text}
use Rattle.build_module.proofs.laws.given_text_is_the_modules.Goals as goal

pub returns : goal.returns
returns c = given_text
