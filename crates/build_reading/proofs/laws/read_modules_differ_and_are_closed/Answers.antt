use Rattle.build_reading.proofs.Closed.{imports_are_read, names_differ}
use Rattle.build_reading.proofs.laws.read_modules_differ_and_are_closed.Goals as goal

pub returns : goal.returns
returns c = record { differ = names_differ; closed = imports_are_read }
