use Rattle.std.proofs.Common.{ap}
use Rattle.surf_reader.specs.View.{begins_row}
use Rattle.surf_reader.proofs.Rules.{type_argument_none}
use Rattle.surf_reader.proofs.begins.begins_type_argument.Goals as goal

pub returns-in_default : goal.returns-in_default
returns-in_default c = λ n. ap begins_row (type_argument_none n c.args.kind c.in_default.not-MiddleDot c.in_default.not-Name c.in_default.not-Open c.in_default.not-OpenBracket c.in_default.not-Beta)
