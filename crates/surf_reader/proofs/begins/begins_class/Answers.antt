use Rattle.std.proofs.Common.{ap}
use Rattle.surf_reader.specs.View.{begins_row}
use Rattle.surf_reader.proofs.Rules.{class_none}
use Rattle.surf_reader.proofs.begins.begins_class.Goals as goal

pub returns-in_default : goal.returns-in_default
returns-in_default c = λ n count. ap begins_row (class_none n count c.args.kind c.in_default.not-BigPi c.in_default.not-ForAll c.in_default.not-Lambda c.in_default.not-Iota c.in_default.not-Star c.in_default.not-Name c.in_default.not-Open c.in_default.not-OpenBrace)
