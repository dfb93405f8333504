use Rattle.std.proofs.Common.{◌≡◌}
use Rattle.elab_model.specs.Instances.{outside}
use Rattle.elab_match.proofs.outside.outside.Given as goal

abbrev pub invariant-binders : goal.invariant-binders
invariant-binders l = outside l.left l.outer ≡ outside l.binders l.ty

abbrev pub decreases-binders : goal.decreases-binders
decreases-binders l = l.left
