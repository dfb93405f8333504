use Rattle.std.proofs.Common.{◌≡◌, ◌∷◌, [], ℕ, List, map}
use Rattle.source_model.specs.Grammar.{Value, Read, Parameters, parameters}
use Rattle.source_model.specs.Parsing.{one}
use Rattle.surf_tree.specs.Items.{parameter_of}
use Rattle.surf_reader.specs.View.{given_of, here}
use Rattle.surf_parse.proofs.data.parameters.Given as goal

-- what was read goes on from what stands now
abbrev pub invariant-parameters : goal.invariant-parameters
invariant-parameters l = (vs : List (Value ℕ)) → one (given_of l.reader) (Read (Parameters 16)) (here l.reader l.at (parameters [] ∷ vs)) ≡ one (given_of l.reader) (Read (Parameters l.room)) (here l.reader l.to (parameters (map parameter_of l.list.items) ∷ vs))

abbrev pub decreases-parameters : goal.decreases-parameters
decreases-parameters l = l.room
