use Rattle.std.proofs.Common.{◌≡◌, ◌+◌, length}
use Rattle.cdle_model.specs.CoreNames.{binder_of}
use Rattle.core_text.specs.Scope.{names}
use Rattle.core_text.proofs.binders.find_binder.Given as goal

abbrev pub invariant-loop-rest : goal.invariant-loop-rest
invariant-loop-rest l = record { counted : l.index + length (names l.rest) ≡ length (names l.binders); same : binder_of l.word l.index (names l.rest) ≡ binder_of l.word 0 (names l.binders) }
