use Rattle.std.proofs.Common.{sym}
use Rattle.surf_reader.specs.View.{other}
use Rattle.surf_reader.proofs.reader.Reader.taken.Goals as goal

pub returns-else-is_same-clause-none : goal.returns-else-is_same-clause-none
returns-else-is_same-clause-none c = λ _. other c.in-Some.token c.in-Some.ensures.next (sym c.if-is_same.ensures)
