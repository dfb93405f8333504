use Rattle.source_model.proofs.Reading.{said_is_faultless}
use Rattle.source_model.proofs.grammar_laws.said_module_is_faultless.Goals as goal

pub returns : goal.returns
returns c = said_is_faultless
