use Rattle.std.specs.Prelude.{map}
use Rattle.scope_model.specs.ItemNames.{called}
use Rattle.scope_model.specs.ScopeFits.{known_sorts}
use Rattle.scope_model.proofs.ScopedItems.{module_fits}
use Rattle.build_model.specs.SourceFiles.{of_file}
use Rattle.build_model.proofs.FormsFit.{items_fit}
use Rattle.build_model.proofs.SaidForms.{said_forms}
use Rattle.build_model.proofs.ScopedForms.{module_kept}
use Rattle.build_model.proofs.source_laws.file_fits.Goals as goal

pub returns : goal.returns
returns c = λ bytes name m known r s n e u. items_fit (known_sorts known) r.items (module_kept known m r e (said_forms (of_file bytes name) (map (called bytes) s.tokens) m s.says)) (module_fits known m r n e) u
