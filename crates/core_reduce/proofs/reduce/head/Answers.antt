use Rattle.std.proofs.Common.{◌∙◌, ap, drop, subst, Ok}
use Rattle.cdle_model.specs.Classes.{anything}
use Rattle.cdle_model.specs.Derivation.{bodies, signature}
use Rattle.core_reduce.specs.declared.root.Applied.{Applied}
use Rattle.core_reduce.specs.Sides.{root_class, root_tree, spine}
use Rattle.core_reduce.specs.Heads.{IsHeadForm, MeetsHead, IsStill, innermost}
use Rattle.core_reduce.proofs.Steps.{still_none}
use Rattle.core_reduce.proofs.Going.{head_so, still_form}
use Rattle.core_reduce.proofs.reduce.head.Goals as goal

pub returns-then-is_still-clause-form : goal.returns-then-is_still-clause-form
returns-then-is_still-clause-form c =
    let s = bodies (signature c.args.items.now) in
    let n = c.at.inside.node.value in
    let ys = drop c.at.inside.from n.args.items in
    subst (λ z. IsHeadForm s z.class z.tree c.args.budget.now.left c.args.budget.now.left c.in_ok-value_of.field-0) c.at.view_is
    (still_form s (root_class n.head) (spine (root_tree n.head) ys) c.args.budget.now.left c.in_ok-value_of.field-0
    (still_none s anything (root_class n.head) (root_tree n.head) ys c.at.invariant.1
    (subst (λ v. IsStill (root_tree n.head) (innermost (drop c.at.inside.from v.args.items))) c.deref-2.ensures
    (subst (λ v. IsStill (root_tree v.head) (innermost (drop c.at.inside.from c.deref-2.result.now.args.items))) c.deref.ensures
    (c.is_still.ensures.still c.if-is_still.true))))
    c.in_ok-value_of.ensures)

pub returns-then-is_still-clause-so : goal.returns-then-is_still-clause-so
returns-then-is_still-clause-so c =
    head_so (bodies (signature c.args.items.now)) c.args.at.now.class c.args.at.now.tree c.args.budget.now.left c.args.budget.now.left (Ok c.in_ok-value_of.field-0)
    (returns-then-is_still-clause-form c)

pub returns-clause-so : goal.returns-clause-so
returns-clause-so c =
    let s = bodies (signature c.args.items.now) in
    let n = c.at.inside.node.value in
    head_so s c.args.at.now.class c.args.at.now.tree c.args.budget.now.left c.reduce.new.budget.left c.reduce.result
    (subst (λ z. MeetsHead s z.class z.tree c.args.budget.now.left c.reduce.new.budget.left c.reduce.result) c.at.view_is
    (subst (λ ys. MeetsHead s (root_class n.head) (spine (root_tree n.head) ys) c.args.budget.now.left c.reduce.new.budget.left c.reduce.result)
    (c.in_ok-args.ensures ∙ ap (λ (v : Applied). drop c.at.inside.from v.args.items) c.deref-3.ensures)
    (subst (λ r. MeetsHead s (root_class r) (spine (root_tree r) c.in_ok-args.args.items) c.args.budget.now.left c.reduce.new.budget.left c.reduce.result)
    (c.in_ok-now.ensures ∙ ap (λ (v : Applied). v.head) c.deref-4.ensures)
    c.reduce.ensures.form)))
