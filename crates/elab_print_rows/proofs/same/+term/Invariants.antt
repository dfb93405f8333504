use Rattle.std.proofs.Common.{◌+◌, ◌*◌}
use Rattle.elab_print_rows.proofs.same.+term.Given as goal

abbrev pub decreases-same_term : goal.decreases-same_term
decreases-same_term l = 2 * l.levels

abbrev pub decreases-same_type : goal.decreases-same_type
decreases-same_type l = 2 * l.levels

abbrev pub decreases-same_kind : goal.decreases-same_kind
decreases-same_kind l = 2 * l.levels

abbrev pub decreases-same_terms : goal.decreases-same_terms
decreases-same_terms l = 2 * l.levels + 1

abbrev pub decreases-same_typed : goal.decreases-same_typed
decreases-same_typed l = 2 * l.levels + 1

abbrev pub decreases-same_types : goal.decreases-same_types
decreases-same_types l = 2 * l.levels + 1

abbrev pub decreases-same_over_kind : goal.decreases-same_over_kind
decreases-same_over_kind l = 2 * l.levels + 1
