use Rattle.std.proofs.Common.{ap}
use Rattle.surf_reader.specs.View.{begins_row}
use Rattle.surf_reader.proofs.Rules.{term_none}
use Rattle.surf_reader.proofs.begins.begins_term.Goals as goal

pub returns-in_default : goal.returns-in_default
returns-in_default c = λ n. ap begins_row (term_none n c.args.kind c.in_default.not-Lambda c.in_default.not-BigLambda c.in_default.not-Rho c.in_default.not-Phi c.in_default.not-Delta c.in_default.not-Chi c.in_default.not-FinalSigma c.in_default.not-Mu c.in_default.not-Sigma c.in_default.not-Name c.in_default.not-Open c.in_default.not-OpenBracket c.in_default.not-Beta)
