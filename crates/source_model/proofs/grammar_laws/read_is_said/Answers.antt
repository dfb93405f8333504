use Rattle.source_model.proofs.Reading.{said_is_parsed}
use Rattle.source_model.proofs.Said.{parsed_is_said}
use Rattle.source_model.proofs.grammar_laws.read_is_said.Goals as goal

pub returns-clause-read : goal.returns-clause-read
returns-clause-read c = said_is_parsed

pub returns-clause-said : goal.returns-clause-said
returns-clause-said c = parsed_is_said
