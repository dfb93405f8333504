use Rattle.std.proofs.Common.{◌≡◌, ◌+◌, ◌*◌, ◌≤◌, length, max}
use Rattle.cdle_model.specs.declared.grammar.Sort.TheVariants.{OfTerm}
use Rattle.scope_model.specs.Scope.{first_use, of_case}
use Rattle.scoped_tree.specs.Trees.{case_form, levels}
use Rattle.surf_tree.specs.Forms.{chain}
use Rattle.scope_part.specs.Names.{text_or_none}
use Rattle.scope_part.specs.Shapes.{part_tree}
use Rattle.scope_part.specs.Spelled.{spelled}
use Rattle.scope_part.proofs.first_use.+first.Given as goal

abbrev pub decreases-first_in : goal.decreases-first_in
decreases-first_in l = 4 * levels (part_tree l.part)

abbrev pub decreases-first_in_two : goal.decreases-first_in_two
decreases-first_in_two l = 4 * max (levels (part_tree l.left)) (levels (part_tree l.right)) + 1

abbrev pub decreases-first_in_bind : goal.decreases-first_in_bind
decreases-first_in_bind l = 4 * max (levels (part_tree l.domain)) (levels (part_tree l.body)) + 1

abbrev pub decreases-first_in_cases : goal.decreases-first_in_cases
decreases-first_in_cases l = 4 * max (levels (part_tree l.of)) (max (levels (part_tree l.motive)) (levels (chain l.branches.now))) + 3

abbrev pub decreases-first_in_branches : goal.decreases-first_in_branches
decreases-first_in_branches l = 4 * levels (chain l.branches.now) + 2

abbrev pub decreases-first_in_branch : goal.decreases-first_in_branch
decreases-first_in_branch l = 4 * levels l.branch.now.part + 1

-- the branches that are left
abbrev pub invariant-first_in_branches-branches : goal.invariant-first_in_branches-branches
invariant-first_in_branches-branches l = record {
  lower : levels (chain l.rest) ≤ levels (chain l.branches);
  same : first_use l.word (of_case (case_form l.form) (text_or_none l.names l.var)) OfTerm (spelled l.names (chain l.rest)) ≡ first_use l.word (of_case (case_form l.form) (text_or_none l.names l.var)) OfTerm (spelled l.names (chain l.branches));
}

abbrev pub decreases-first_in_branches-branches : goal.decreases-first_in_branches-branches
decreases-first_in_branches-branches l = length l.rest
