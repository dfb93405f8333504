use Rattle.std.proofs.Common.{Ok, Err, sym, subst, arith}
use Rattle.cdle_model.specs.Classes.{within, item_sorts, IsOf}
use Rattle.cdle_model.specs.Derivation.{bodies, signature}
use Rattle.cdle_model.proofs.ClassItems.{items-fit}
use Rattle.core_reduce.specs.Sides.{class_trees, root_class, root_tree, spine}
use Rattle.core_reduce.specs.Values.{StandsFor}
use Rattle.core_reduce.specs.Heads.{MeetsStep}
use Rattle.cdle_model.proofs.Scopes.{fits_of}
use Rattle.core_reduce.proofs.Steps.{still_none}
use Rattle.core_reduce.proofs.Going.{going_on, going_form, going_err}
use Rattle.core_reduce.proofs.reduce.reduce.Goals as goal

pub steps-preserved : goal.steps-preserved
steps-preserved c =
    let g = c.steps.invariant.so_far in
    let w = (items-fit c.args.items.now c.known.ensures.items c.known.ensures.erasures).bodies_fit in
    record {
      so_far = going_on (item_sorts c.args.items.now) (bodies (signature c.args.items.now)) (root_class c.args.now) w 4250000000 (spine (root_tree c.args.now) c.args.args.items)
          c.args.budget.now.left c.steps.now c.advance.new.now c.steps.args.items c.advance.new.args.items c.steps.budget.left c.advance.new.budget.left g
          (subst (λ k. MeetsStep (bodies (signature c.args.items.now)) k (root_tree c.steps.now) c.steps.args.items c.steps.budget.left c.advance.new.args.items c.advance.new.budget.left (Ok c.advance.new.now)) g.class c.in-Ok.ensures.step);
      less = (let a = c.advance.ensures.less in let b = c.steps.invariant.less in omega arith);
    }

pub returns-in-Err-clause-form : goal.returns-in-Err-clause-form
returns-in-Err-clause-form c =
    let g = c.steps.invariant.so_far in
    going_err (item_sorts c.args.items.now) (bodies (signature c.args.items.now)) (root_class c.args.now) 4250000000 (spine (root_tree c.args.now) c.args.args.items)
    c.args.budget.now.left c.steps.now c.steps.args.items c.advance.new.args.items c.steps.budget.left c.advance.new.budget.left c.in-Err.stop g
    (subst (λ k. MeetsStep (bodies (signature c.args.items.now)) k (root_tree c.steps.now) c.steps.args.items c.steps.budget.left c.advance.new.args.items c.advance.new.budget.left (Err c.in-Err.stop)) g.class c.in-Err.ensures.step)

pub value_with-requires-clause-class : goal.value_with-requires-clause-class
value_with-requires-clause-class c =
    let g = c.steps.invariant.so_far in
    subst (λ k. IsOf (class_trees k) (spine (root_tree c.steps.now) c.steps.args.items)) (sym g.class)
    (fits_of (within g.placed.sorts (item_sorts c.args.items.now)) (class_trees (root_class c.args.now)) (spine (root_tree c.steps.now) c.steps.args.items) g.placed.fits)

pub returns-clause-form : goal.returns-clause-form
returns-clause-form c =
    let g = c.steps.invariant.so_far in
    let s = bodies (signature c.args.items.now) in
    let t = spine (root_tree c.steps.now) c.steps.args.items in
    going_form (item_sorts c.args.items.now) s (root_class c.args.now) 4250000000 (spine (root_tree c.args.now) c.args.args.items)
    c.args.budget.now.left c.steps.now c.steps.args.items c.steps.budget.left c.in_ok-value.value g
    (still_none s (within g.placed.sorts (item_sorts c.args.items.now)) (root_class c.args.now) (root_tree c.steps.now) c.steps.args.items g.placed.fits (c.is_still.ensures.still c.steps-test.false))
    (subst (λ k. StandsFor k c.in_ok-value.value t) g.class c.in_ok-value.ensures)
