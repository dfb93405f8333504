use Rattle.build_reading.proofs.OneReading.{only_one, there_is_one}
use Rattle.build_reading.proofs.laws.one_reading_where_nothing_fails.Goals as goal

pub returns-clause-there : goal.returns-clause-there
returns-clause-there c = there_is_one

pub returns-clause-one : goal.returns-clause-one
returns-clause-one c = only_one
