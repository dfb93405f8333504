use Rattle.scope_model.proofs.DifferentNames.{names_differ, written_names_differ}
use Rattle.scope_model.proofs.scope_laws.item_names_differ.Goals as goal

pub returns-clause-text : goal.returns-clause-text
returns-clause-text c = names_differ

pub returns-clause-written : goal.returns-clause-written
returns-clause-written c = written_names_differ
