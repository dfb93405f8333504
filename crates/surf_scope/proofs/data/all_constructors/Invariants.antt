use Rattle.std.proofs.Common.{◌≡◌, ◌++◌, length, map}
use Rattle.scope_model.specs.Scope.{constructor_names, constructors}
use Rattle.scoped_tree.specs.Items as scoped
use Rattle.surf_tree.specs.Items.{constructor_of}
use Rattle.scope_part.specs.Around.{around_of}
use Rattle.surf_scope.specs.Data.{constructors_on, given_names, names_behind}
use Rattle.scope_part.specs.Layers.{bounds}
use Rattle.surf_scope.specs.Modules.{spelled_constructor}
use Rattle.surf_scope.specs.Passed.{taken_of}
use Rattle.surf_scope.proofs.data.all_constructors.Given as goal

abbrev pub invariant-ctors : goal.invariant-ctors
invariant-ctors l = record {
  same : constructors_on (around_of l.names l.resolver) (bounds l.names l.binders) (taken_of l.given (around_of l.names l.resolver)) (map scoped.constructor_of l.done.items) (map (spelled_constructor l.names) (map constructor_of l.rest))
      ≡ constructors (around_of l.names l.resolver) (bounds l.names l.binders) (taken_of l.fn.start (around_of l.names l.resolver)) (map (spelled_constructor l.names) (map constructor_of l.ctors));
  given : given_names l.given ++ constructor_names (map (spelled_constructor l.names) (map constructor_of l.rest)) ≡ given_names l.fn.start ++ constructor_names (map (spelled_constructor l.names) (map constructor_of l.ctors));
  behind : names_behind l.given ≡ names_behind l.fn.start;
}

abbrev pub decreases-ctors : goal.decreases-ctors
decreases-ctors l = length l.rest
