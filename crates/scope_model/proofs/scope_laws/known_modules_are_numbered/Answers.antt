use Rattle.scope_model.proofs.ScopedItems.{modules_numbered}
use Rattle.scope_model.proofs.scope_laws.known_modules_are_numbered.Goals as goal

pub returns : goal.returns
returns c = modules_numbered
