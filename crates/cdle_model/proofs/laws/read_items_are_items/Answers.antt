use Rattle.std.proofs.Common.{false}
use Rattle.cdle_model.specs.CoreTokens.{tokens}
use Rattle.cdle_model.proofs.CoreItems.{file_read}
use Rattle.cdle_model.proofs.laws.read_items_are_items.Goals as goal

pub returns : goal.returns
returns c = λ bytes es ws says. file_read 1023 (tokens false 0 bytes) es ws says.file
