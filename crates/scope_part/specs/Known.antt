-- The modules that `Exports` holds.
use Rattle.std.specs.Prelude.{List, map}
use Rattle.scope_model.specs.ScopeNames.{Exported}
use Rattle.scope_part.specs.Index.{names_of}
use Rattle.scope_part.specs.declared.exported.ExportedModule.{ExportedModule}

abbrev pub exported_as : ExportedModule → Exported
exported_as m = record { name = m.name; first = m.first; items = names_of m.items }

abbrev pub exported_all : List ExportedModule → List Exported
exported_all ms = map exported_as ms
