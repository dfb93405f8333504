use Rattle.surf_source.proofs.Spelled.{module_same}
use Rattle.surf_source.proofs.laws.spelled_is_renamed.Goals as goal

pub returns : goal.returns
returns c = module_same
