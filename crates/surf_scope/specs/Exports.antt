-- The modules that are known, as the definition of scope has them.
use Rattle.std.specs.Prelude.{List}
use Rattle.scope_model.specs.ScopeNames.{Exported}
use Rattle.scope_part.specs.Known.{exported_all}
use Rattle.surf_scope.specs.declared.exports.Exports as code

-- in the order in which they were added
abbrev pub known : code.Exports → List Exported
known e = exported_all e.modules.items
