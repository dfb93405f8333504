use Rattle.std.proofs.Common.{◌≡◌, ◌+◌, ◌*◌, ◌≤◌, [], length, max}
use Rattle.scope_model.specs.Scope.{of_case}
use Rattle.scoped_tree.specs.Trees.{case_form, levels}
use Rattle.surf_tree.specs.Forms.{chain}
use Rattle.scope_part.specs.Around.{around_of}
use Rattle.scope_part.specs.Layers.{bounds}
use Rattle.scope_part.specs.Names.{text_or_none}
use Rattle.scope_part.specs.Shapes.{part_tree}
use Rattle.scope_part.proofs.Branches.{so_far}
use Rattle.scope_part.proofs.resolver.Resolver.+part.Given as goal

abbrev pub decreases-part : goal.decreases-part
decreases-part l = 4 * levels (part_tree l.part)

abbrev pub decreases-one : goal.decreases-one
decreases-one l = 4 * levels (part_tree l.inner) + 1

abbrev pub decreases-two : goal.decreases-two
decreases-two l = 4 * max (levels (part_tree l.left)) (levels (part_tree l.right)) + 1

abbrev pub decreases-bind : goal.decreases-bind
decreases-bind l = 4 * max (levels (part_tree l.domain)) (levels (part_tree l.body)) + 1

abbrev pub decreases-cases : goal.decreases-cases
decreases-cases l = 4 * max (levels (part_tree l.of)) (max (levels (part_tree l.motive)) (levels (chain l.branches.now))) + 3

abbrev pub decreases-branches : goal.decreases-branches
decreases-branches l = 4 * levels (chain l.branches.now) + 2

abbrev pub decreases-branch : goal.decreases-branch
decreases-branch l = 4 * levels l.branch.now.part + 1

-- what is known, and the branches that are left
abbrev pub invariant-branches-branches : goal.invariant-branches-branches
invariant-branches-branches l = record {
  lower : levels (chain l.rest) ≤ levels (chain l.branches);
  same : so_far (around_of l.names l.self) l.names (of_case (case_form l.form) (text_or_none l.names l.var)) (bounds l.names l.binders) l.done.items l.rest ≡ so_far (around_of l.names l.self) l.names (of_case (case_form l.form) (text_or_none l.names l.var)) (bounds l.names l.binders) [] l.branches;
}

abbrev pub decreases-branches-branches : goal.decreases-branches-branches
decreases-branches-branches l = length l.rest
