use Rattle.std.proofs.Common.{sym, subst, refl, Ok}
use Rattle.cdle_model.specs.Trees.{apply}
use Rattle.core_reduce.specs.Sides.{root_class, root_tree, arg_function, arg_tree}
use Rattle.core_reduce.specs.Heads.{MeetsStep}
use Rattle.core_reduce.proofs.Steps.{app_unwinds}
use Rattle.core_reduce.proofs.reduce.unwind.Goals as goal

pub returns : goal.returns
returns c s units =
    subst (λ ys. MeetsStep s (root_class c.args.head) (apply (arg_function c.args.arg) (root_tree c.args.head) (arg_tree c.args.arg)) c.args.args.now.items units ys units (Ok c.args.head)) (sym c.in_ok-push.ensures.items)
    (app_unwinds s (root_class c.args.head) (arg_function c.args.arg) (root_tree c.args.head) (arg_tree c.args.arg) c.args.args.now.items c.args.arg units c.args.head refl refl refl refl)
