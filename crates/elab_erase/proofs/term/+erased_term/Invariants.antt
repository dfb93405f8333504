-- Each call falls: a form's parts have fewer levels than it, and the steps within a form have the small numbers.
use Rattle.std.proofs.Common.{◌+◌, ◌*◌, max}
use Rattle.scoped_tree.specs.Trees.{levels}
use Rattle.elab_erase.proofs.term.+erased_term.Given as goal

abbrev pub decreases-erased_term : goal.decreases-erased_term
decreases-erased_term l = 3 * levels l.node.now

abbrev pub decreases-of_one : goal.decreases-of_one
decreases-of_one l = 3 * levels l.part.now + 1

abbrev pub decreases-of_two : goal.decreases-of_two
decreases-of_two l = 3 * max (levels l.left.now) (levels l.right.now) + 2

abbrev pub decreases-application : goal.decreases-application
decreases-application l = 3 * max (levels l.head.now) (levels l.arg.now) + 1

abbrev pub decreases-kept : goal.decreases-kept
decreases-kept l = 3 * max (levels l.group.now) (levels l.part.now) + 1

abbrev pub decreases-guided : goal.decreases-guided
decreases-guided l = 3 * max (levels l.guide.now) (levels l.part.now) + 1

abbrev pub decreases-of_binder : goal.decreases-of_binder
decreases-of_binder l = 3 * levels l.part.now + 2

abbrev pub decreases-abstraction : goal.decreases-abstraction
decreases-abstraction l = 3 * levels l.part.now + 1

abbrev pub decreases-erased_abstraction : goal.decreases-erased_abstraction
decreases-erased_abstraction l = 3 * levels l.part.now + 1
