use Rattle.build_model.proofs.Items.{names_differ}
use Rattle.build_model.proofs.KnownNames.{names_differ_behind}
use Rattle.build_model.proofs.laws.scoped_names_differ.Goals as goal

pub returns-clause-alone : goal.returns-clause-alone
returns-clause-alone c = names_differ

pub returns-clause-behind : goal.returns-clause-behind
returns-clause-behind c = names_differ_behind
