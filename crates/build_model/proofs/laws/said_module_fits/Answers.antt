use Rattle.scope_model.specs.ScopeFits.{known_sorts}
use Rattle.scope_model.proofs.ScopedItems.{module_fits}
use Rattle.build_model.specs.Renamed.{renamed_module}
use Rattle.build_model.proofs.FitsBuilt.{items_built}
use Rattle.build_model.proofs.FormsFit.{items_fit}
use Rattle.build_model.proofs.RenamedForms.{items_renamed}
use Rattle.build_model.proofs.SaidForms.{said_forms}
use Rattle.build_model.proofs.ScopedForms.{module_kept}
use Rattle.build_model.proofs.laws.said_module_fits.Goals as goal

pub returns-clause-text : goal.returns-clause-text
returns-clause-text c = λ g ts m known r s n e u. items_fit (known_sorts known) r.items (module_kept known m r e (said_forms g ts m s)) (module_fits known m r n e) u

pub returns-clause-table : goal.returns-clause-table
returns-clause-table c = λ g ts m text known r s n e u. items_fit (known_sorts known) r.items (module_kept known (renamed_module text m) r e (items_renamed text m.items (said_forms g ts m s))) (module_fits known (renamed_module text m) r n e) u

pub returns-clause-only : goal.returns-clause-only
returns-clause-only c = λ g ts m known r xs s e f. items_built xs r.items (module_kept known m r e (said_forms g ts m s)) f
