use Rattle.std.proofs.Common.{length, false}
use Rattle.cdle_model.specs.CoreTokens.{tokens}
use Rattle.cdle_model.proofs.CoreRuns.{file_runs}
use Rattle.cdle_model.proofs.laws.said_is_faultless.Goals as goal

pub returns : goal.returns
returns c = λ bytes known is f h g. let ok = file_runs (length bytes) known (tokens false 0 bytes) is h.file in let err = g.1 in absurd cc
