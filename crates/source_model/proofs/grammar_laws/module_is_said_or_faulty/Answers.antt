use Rattle.source_model.proofs.Whole.{whatever_is_read, either, one_fault}
use Rattle.source_model.proofs.grammar_laws.module_is_said_or_faulty.Goals as goal

pub returns-clause-either : goal.returns-clause-either
returns-clause-either c = either

pub returns-clause-one : goal.returns-clause-one
returns-clause-one c = one_fault

pub returns-clause-whole : goal.returns-clause-whole
returns-clause-whole c = whatever_is_read
