use Rattle.cdle_model.proofs.CoreAgain.{one_file, one_part}
use Rattle.cdle_model.proofs.laws.one_text_one_tree.Goals as goal

pub returns-clause-part : goal.returns-clause-part
returns-clause-part c = one_part

pub returns-clause-file : goal.returns-clause-file
returns-clause-file c = λ bytes known is js h g. one_file known _ is js h.file g.file
