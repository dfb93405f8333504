use Rattle.scope_model.proofs.WordNames.{text_names, numbered_names, core_names, written_names}
use Rattle.scope_model.proofs.TokenNames.{token_names}
use Rattle.scope_model.proofs.scope_laws.names_are_parts_of_words.Goals as goal

pub returns-clause-tokens : goal.returns-clause-tokens
returns-clause-tokens c = token_names

pub returns-clause-text : goal.returns-clause-text
returns-clause-text c = text_names

pub returns-clause-table : goal.returns-clause-table
returns-clause-table c = numbered_names

pub returns-clause-items : goal.returns-clause-items
returns-clause-items c = core_names

pub returns-clause-written : goal.returns-clause-written
returns-clause-written c = written_names
