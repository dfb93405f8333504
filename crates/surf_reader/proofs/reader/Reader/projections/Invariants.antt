use Rattle.std.proofs.Common.{◌≡◌, ◌∷◌, ◌-◌, ℕ, List, length}
use Rattle.source_model.specs.Grammar.{Value, Read, Projections, part}
use Rattle.source_model.specs.Parsing.{one}
use Rattle.surf_reader.specs.View.{given_of, here}
use Rattle.surf_reader.proofs.reader.Reader.projections.Given as goal

-- what was read goes on from what stands now
abbrev pub invariant-projections : goal.invariant-projections
invariant-projections l = (vs : List (Value ℕ)) → one (given_of l.self) (Read Projections) (here l.self l.at (part l.first l.fn.term ∷ vs)) ≡ one (given_of l.self) (Read Projections) (here l.self l.to (part l.first l.now ∷ vs))

abbrev pub decreases-projections : goal.decreases-projections
decreases-projections l = length l.self.tokens.now - l.to
