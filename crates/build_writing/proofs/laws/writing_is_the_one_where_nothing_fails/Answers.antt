use Rattle.build_writing.proofs.Faultless.{faultless}
use Rattle.build_writing.proofs.laws.writing_is_the_one_where_nothing_fails.Goals as goal

pub returns : goal.returns
returns c = faultless
