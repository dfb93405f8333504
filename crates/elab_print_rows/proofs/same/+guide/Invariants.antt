use Rattle.std.proofs.Common.{◌+◌, ◌*◌}
use Rattle.elab_print_rows.proofs.same.+guide.Given as goal

abbrev pub decreases-same_guide : goal.decreases-same_guide
decreases-same_guide l = 2 * l.levels

abbrev pub decreases-same_guide_kind : goal.decreases-same_guide_kind
decreases-same_guide_kind l = 2 * l.levels

abbrev pub decreases-same_guides : goal.decreases-same_guides
decreases-same_guides l = 2 * l.levels + 1
