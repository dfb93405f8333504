use Rattle.std.proofs.Common.{◌≡◌, ◌∷◌, [], ◌-◌, ℕ, List, length, map}
use Rattle.source_model.specs.Source.{Span}
use Rattle.source_model.specs.Grammar.{Value, Read, Items, module_so_far}
use Rattle.source_model.specs.Parsing.{one}
use Rattle.surf_tree.specs.Items.{item_of}
use Rattle.surf_reader.specs.View.{given_of, here}
use Rattle.surf_parse.proofs.module.items.Given as goal

-- what was read goes on from what stands now
abbrev pub invariant-items : goal.invariant-items
invariant-items l = (x : ℕ) (is : List (ℕ × Span)) (vs : List (Value ℕ)) → one (given_of l.reader) (Read Items) (here l.reader l.at (module_so_far (record { name = x; imports = is; items = [] }) ∷ vs))
    ≡ one (given_of l.reader) (Read Items) (here l.reader l.to (module_so_far (record { name = x; imports = is; items = map item_of l.list.items }) ∷ vs))

abbrev pub decreases-items : goal.decreases-items
decreases-items l = length l.reader.tokens.now - l.to
