use Rattle.std.proofs.Common.{◌≡◌, ◌∷◌, [], ◌-◌, ℕ, List, length, map}
use Rattle.source_model.specs.Grammar.{Value, Read, Patterns, patterns}
use Rattle.source_model.specs.Parsing.{one}
use Rattle.surf_tree.specs.Forms.{pattern_of}
use Rattle.surf_reader.specs.View.{given_of, here}
use Rattle.surf_reader.proofs.reader.Reader.patterns.Given as goal

-- what was read goes on from what stands now
abbrev pub invariant-patterns : goal.invariant-patterns
invariant-patterns l = (vs : List (Value ℕ)) → one (given_of l.self) (Read Patterns) (here l.self l.at (patterns [] ∷ vs)) ≡ one (given_of l.self) (Read Patterns) (here l.self l.to (patterns (map pattern_of l.list.items) ∷ vs))

abbrev pub decreases-patterns : goal.decreases-patterns
decreases-patterns l = length l.self.tokens.now - l.to
