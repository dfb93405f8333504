use Rattle.surf_source.proofs.Spelled.{spelling_kept, table_kept}
use Rattle.surf_source.proofs.laws.spelling_stays.Goals as goal

pub returns-clause-spelled : goal.returns-clause-spelled
returns-clause-spelled c = spelling_kept

pub returns-clause-of_table : goal.returns-clause-of_table
returns-clause-of_table c = table_kept
