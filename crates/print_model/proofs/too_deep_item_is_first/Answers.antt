use Rattle.print_model.proofs.FirstDeep.{deep_there, earlier_printed, deep_not_said}
use Rattle.print_model.proofs.too_deep_item_is_first.Goals as goal

pub returns-clause-there : goal.returns-clause-there
returns-clause-there c = deep_there

pub returns-clause-before : goal.returns-clause-before
returns-clause-before c = earlier_printed

pub returns-clause-unsaid : goal.returns-clause-unsaid
returns-clause-unsaid c = deep_not_said
