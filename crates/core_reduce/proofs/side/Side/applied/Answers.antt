use Rattle.std.proofs.Common.{sym, subst, arith}
use Rattle.cdle_model.specs.Classes.{IsOf}
use Rattle.core_reduce.specs.Sides.{class_trees, root_class, root_tree, spine}
use Rattle.core_reduce.proofs.Raising.{pure_spine_of}
use Rattle.core_reduce.proofs.side.Side.applied.Goals as goal

pub invariant_of-result : goal.invariant_of-result
invariant_of-result c =
    (omega arith, subst (λ v. IsOf (class_trees (root_class v.head)) (spine (root_tree v.head) v.args.items)) (sym c.in_ok-new.ensures.ok) (pure_spine_of c.args.head c.args.args.items c.known.ensures.class c.requires))
