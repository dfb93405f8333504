-- What is known at an item.
use Rattle.std.specs.Prelude.{ℕ, ◌+◌, ◌<◌, ◌^◌, List, length, map}
use Rattle.cdle_names.specs.declared.Span as places
use Rattle.cdle_names.specs.declared.table.NameId as table
use Rattle.source_model.specs.Source.{Span}
use Rattle.scope_model.specs.ScopeNames.{Text, Around}
use Rattle.surf_tree.specs.Items.{import_of}
use Rattle.scope_part.specs.Index.{names_of}
use Rattle.scope_part.specs.Known.{exported_all}
use Rattle.scope_part.specs.Names.{text_of}
use Rattle.scope_part.specs.declared.resolver.Resolver as code

abbrev pub spelled_import : List Text → ℕ × Span → Text × Span
spelled_import names i = (text_of names i.0, i.1)

abbrev pub import_texts : List Text → List (table.NameId × places.Span) → List Text
import_texts names xs = map (λ x. x.0) (map (spelled_import names) (map import_of xs))

abbrev pub around_of : List Text → code.Resolver → Around
around_of names r = record { name = text_of names r.name.0; imports = import_texts names r.imports.now; modules = exported_all r.modules.now; first = r.first; own = names_of r.own.now }

-- the numbers of the items before this one fit
abbrev pub IsReady : code.Resolver → Type 0
IsReady r = r.first + length (names_of r.own.now) < 2 ^ 32
