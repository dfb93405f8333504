use Rattle.std.proofs.Common.{[]}
use Rattle.source_model.proofs.BadPlaces.{first_fault_is_placed}
use Rattle.source_model.proofs.grammar_laws.first_fault_is_placed.Goals as goal

pub returns : goal.returns
returns c = λ g. first_fault_is_placed g []
