use Rattle.build_module.proofs.OneAnswer.{an_answer, one_answer}
use Rattle.build_module.proofs.laws.file_comes_to_one_answer.Goals as goal

pub returns-clause-there : goal.returns-clause-there
returns-clause-there c = an_answer

pub returns-clause-one : goal.returns-clause-one
returns-clause-one c = one_answer
