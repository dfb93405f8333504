use Rattle.modules_model.proofs.Stages.{modules_answered}
use Rattle.modules_model.proofs.laws.modules_come_to_an_answer.Goals as goal

pub returns : goal.returns
returns c = modules_answered
