use Rattle.std.proofs.Common.{◌≡◌, length}
use Rattle.surf_scope.specs.Exports.{known}
use Rattle.build_modules.specs.Ordered.{in_order, spelled_modules}
use Rattle.build_modules.proofs.Scoping.{AreScoped}
use Rattle.build_modules.proofs.scope.scoped_modules.Given as goal

abbrev pub invariant-modules : goal.invariant-modules
invariant-modules l = record {
  same : AreScoped (in_order (spelled_modules l.fn.names l.modules) l.order) l.scoped.items (known l.exports) (in_order (spelled_modules l.fn.names l.modules) l.rest);
  names : l.names ≡ l.fn.names;
}

abbrev pub decreases-modules : goal.decreases-modules
decreases-modules l = length l.rest
