use Rattle.std.proofs.Common.{◌≡◌}
use Rattle.scope_model.specs.ScopeNames.{bound}
use Rattle.scope_part.specs.Layers.{bounds}
use Rattle.scope_part.proofs.binders.find_binder.Given as goal

abbrev pub invariant-loop-rest : goal.invariant-loop-rest
invariant-loop-rest l = record {
  same : bound l.word l.index (bounds l.names l.rest) ≡ bound l.word 0 (bounds l.names l.binders);
}
