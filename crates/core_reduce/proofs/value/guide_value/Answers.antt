use Rattle.std.proofs.Common.{◌≡◌, ◌+◌, ◌<◌, ◌≤◌, suc, length, drop, sym, subst, arith}
use Rattle.cdle_model.specs.Classes.{guides, IsOf}
use Rattle.cdle_model.specs.Comparison.{head_of}
use Rattle.core_reduce.specs.Sides.{class_trees, root_class, root_tree, spine}
use Rattle.core_reduce.specs.Values.{IsOfForm}
use Rattle.core_reduce.specs.Heads.{innermost}
use Rattle.core_reduce.proofs.Values.{no_variable, stuck_form, stuck_head}
use Rattle.core_reduce.proofs.value.guide_value.Goals as goal

pub invariant_of-head : goal.invariant_of-head
invariant_of-head c =
    let xs = c.args.at.now.value.args.items in
    let l : c.args.from < length xs = subst (λ v. c.args.from < length v.args.items) c.deref-2.ensures (c.is_applied.ensures.some c.if-not-is_applied.false) in
    let e : suc c.args.from ≡ c.args.from + 1 = omega arith in
    let h : IsOf guides (spine c.args.now.now (drop (c.args.from + 1) xs)) = subst (λ n. IsOf guides (spine c.args.now.now (drop n xs))) e (stuck_head c.args.now.now xs c.args.from c.requires.class l) in
    subst (λ v. (c.args.from + 1 ≤ length v.args.items) × IsOf (class_trees (root_class v.head)) (spine (root_tree v.head) (drop (c.args.from + 1) v.args.items))) (sym c.in_ok-clone.ensures.cases)
    (omega arith, subst (λ r. IsOf (class_trees (root_class r)) (spine (root_tree r) (drop (c.args.from + 1) xs))) (sym c.requires.head) h)

pub stuck-requires-clause-form : goal.stuck-requires-clause-form
stuck-requires-clause-form c =
    let xs = c.args.at.now.value.args.items in
    let h : IsOfForm (head_of (spine c.args.now.now (drop (c.args.from + 1) xs))) =
    stuck_form c.args.now.now (innermost (drop c.args.from xs)) (drop (c.args.from + 1) xs)
    (λ i e. no_variable c.args.now.now c.top.result c.in_default.not-Var c.top.ensures i e) c.requires.still in
    subst (λ v. IsOfForm (head_of (spine (root_tree v.head) (drop (c.args.from + 1) v.args.items)))) (sym c.in_ok-clone.ensures.cases)
    (subst (λ r. IsOfForm (head_of (spine (root_tree r) (drop (c.args.from + 1) xs)))) (sym c.requires.head) h)
