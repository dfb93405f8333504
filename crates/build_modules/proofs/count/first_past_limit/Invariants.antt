use Rattle.std.proofs.Common.{◌≡◌, ◌+◌, List, length}
use Rattle.scope_model.specs.ScopeNames.{Text}
use Rattle.build_modules.specs.Ordered.{in_order, spelled_modules}
use Rattle.build_modules.proofs.Counting.{AreCounted}
use Rattle.build_modules.proofs.count.first_past_limit.Given as goal

abbrev pub invariant-modules : goal.invariant-modules
invariant-modules l = record {
  same : (names : List Text) → AreCounted (in_order (spelled_modules names l.modules) l.order) (in_order (spelled_modules names l.modules) l.rest) l.left l.place;
  at : l.place + length l.rest ≡ length l.order;
}

abbrev pub decreases-modules : goal.decreases-modules
decreases-modules l = length l.rest
