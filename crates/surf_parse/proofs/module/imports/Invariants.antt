use Rattle.std.proofs.Common.{◌≡◌, ◌∷◌, [], ◌-◌, ℕ, List, length, map}
use Rattle.source_model.specs.Grammar.{Value, Read, Imports, module_so_far}
use Rattle.source_model.specs.Parsing.{one}
use Rattle.surf_tree.specs.Items.{import_of}
use Rattle.surf_reader.specs.View.{given_of, here}
use Rattle.surf_parse.proofs.module.imports.Given as goal

-- what was read goes on from what stands now
abbrev pub invariant-imports : goal.invariant-imports
invariant-imports l = (x : ℕ) (vs : List (Value ℕ)) → one (given_of l.reader) (Read Imports) (here l.reader l.at (module_so_far (record { name = x; imports = []; items = [] }) ∷ vs))
    ≡ one (given_of l.reader) (Read Imports) (here l.reader l.to (module_so_far (record { name = x; imports = map import_of l.list.items; items = [] }) ∷ vs))

abbrev pub decreases-imports : goal.decreases-imports
decreases-imports l = length l.reader.tokens.now - l.to
