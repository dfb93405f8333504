use Rattle.std.proofs.Common.{◌≡◌, length, map}
use Rattle.std.specs.List.{list_any}
use Rattle.std.specs.Str.{bytes_eq}
use Rattle.surf_tree.specs.Items.{import_of}
use Rattle.surf_reader.specs.View.{given_of}
use Rattle.surf_parse.proofs.module.is_imported.Given as goal

-- those that were looked at have another text
abbrev pub invariant-imports : goal.invariant-imports
invariant-imports l = list_any (λ i. bytes_eq l.text ((given_of l.reader).text i.0)) (map import_of l.rest) ≡ list_any (λ i. bytes_eq l.text ((given_of l.reader).text i.0)) (map import_of l.list.items)

abbrev pub decreases-imports : goal.decreases-imports
decreases-imports l = length l.rest
