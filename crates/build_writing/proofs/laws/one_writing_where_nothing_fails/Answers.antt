use Rattle.build_writing.proofs.Faultless.{has_end, one_end}
use Rattle.build_writing.proofs.laws.one_writing_where_nothing_fails.Goals as goal

pub returns-clause-there : goal.returns-clause-there
returns-clause-there c = has_end

pub returns-clause-one : goal.returns-clause-one
returns-clause-one c = one_end
