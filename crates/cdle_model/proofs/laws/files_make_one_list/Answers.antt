use Rattle.std.proofs.Common.{[], false}
use Rattle.cdle_model.specs.CoreTokens.{tokens}
use Rattle.cdle_model.proofs.CoreItems.{file_read, names_both, over_both}
use Rattle.cdle_model.proofs.laws.files_make_one_list.Goals as goal

pub returns-clause-items : goal.returns-clause-items
returns-clause-items c = λ bytes es ws items says. over_both [] es ws items (file_read 1023 (tokens false 0 bytes) es ws says.file)

pub returns-clause-names : goal.returns-clause-names
returns-clause-names c = names_both
