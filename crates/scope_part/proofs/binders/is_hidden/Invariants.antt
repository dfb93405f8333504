use Rattle.std.proofs.Common.{◌≡◌, length, map}
use Rattle.scope_model.specs.Scope.{hides, of_case, with_patterns}
use Rattle.scoped_tree.specs.Trees.{case_form}
use Rattle.surf_tree.specs.Forms.{pattern_of}
use Rattle.scope_part.specs.Names.{text_or_none}
use Rattle.scope_part.specs.Spelled.{spelled_patterns}
use Rattle.scope_part.proofs.binders.is_hidden.Given as goal

abbrev pub invariant-patterns : goal.invariant-patterns
invariant-patterns l = record {
  same : hides l.word (with_patterns (spelled_patterns l.names (map pattern_of l.rest)) (of_case (case_form l.form) (text_or_none l.names l.name))) ≡ hides l.word (with_patterns (spelled_patterns l.names (map pattern_of l.patterns)) (of_case (case_form l.form) (text_or_none l.names l.name)));
}

abbrev pub decreases-patterns : goal.decreases-patterns
decreases-patterns l = length l.rest
