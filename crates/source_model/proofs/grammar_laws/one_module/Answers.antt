use Rattle.source_model.proofs.Reading.{one_module}
use Rattle.source_model.proofs.grammar_laws.one_module.Goals as goal

pub returns : goal.returns
returns c = one_module
