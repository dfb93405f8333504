use Rattle.std.specs.Prelude.{length}
use Rattle.build_model.proofs.OneTable.{stays, grows}
use Rattle.build_model.proofs.ReadByText.{said_below}
use Rattle.build_model.proofs.source_laws.spelling_stays.Goals as goal

pub returns-clause-numbers : goal.returns-clause-numbers
returns-clause-numbers c = λ table. said_below (length table)

pub returns-clause-stays : goal.returns-clause-stays
returns-clause-stays c = stays

pub returns-clause-grows : goal.returns-clause-grows
returns-clause-grows c = grows
