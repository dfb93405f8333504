use Rattle.std.proofs.Common.{◌≡◌, ◌∷◌, [], ℕ, List, map}
use Rattle.source_model.specs.Grammar.{Value, Read, Constructors, constructors}
use Rattle.source_model.specs.Parsing.{one}
use Rattle.surf_tree.specs.Items.{constructor_of}
use Rattle.surf_reader.specs.View.{given_of, here}
use Rattle.surf_parse.proofs.data.constructors.Given as goal

-- what was read goes on from what stands now
abbrev pub invariant-constructors : goal.invariant-constructors
invariant-constructors l = (vs : List (Value ℕ)) → one (given_of l.reader) (Read (Constructors 64)) (here l.reader l.at (constructors [] ∷ vs)) ≡ one (given_of l.reader) (Read (Constructors l.room)) (here l.reader l.to (constructors (map constructor_of l.list.items) ∷ vs))

abbrev pub decreases-constructors : goal.decreases-constructors
decreases-constructors l = l.room
