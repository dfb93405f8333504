use Rattle.std.proofs.Common.{◌≡◌, ◌++◌, length, map}
use Rattle.scoped_tree.specs.Trees.{argument}
use Rattle.scope_part.specs.Spelled.{bare_of}
use Rattle.scope_part.proofs.part.arguments.Given as goal

-- what was taken, and the names that are left
abbrev pub invariant-patterns : goal.invariant-patterns
invariant-patterns l = map argument l.args.items ++ map bare_of l.rest ≡ map bare_of l.patterns

abbrev pub decreases-patterns : goal.decreases-patterns
decreases-patterns l = length l.rest
