use Rattle.scope_model.proofs.ScopedItems.{module_fits}
use Rattle.scope_model.proofs.scope_laws.scoped_module_fits.Goals as goal

pub returns : goal.returns
returns c = module_fits
