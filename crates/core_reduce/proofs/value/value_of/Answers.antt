use Rattle.std.proofs.Common.{◌≡◌, [], ◌∙◌, IfOk, ap, sym, subst, drop}
use Rattle.cdle_model.specs.Classes.{anything, IsOf}
use Rattle.core_reduce.specs.declared.root.Applied.{Applied}
use Rattle.core_reduce.specs.declared.root.Root.TheVariants.{Kind}
use Rattle.core_reduce.specs.declared.side.SideClass.TheVariants.{OfKind}
use Rattle.core_reduce.specs.Sides.{class_trees, root_class, root_tree, spine}
use Rattle.core_reduce.specs.Values.{StandsFor}
use Rattle.core_reduce.proofs.Spines.{kind_alone}
use Rattle.core_reduce.proofs.value.value_of.Goals as goal

pub returns-in-Kind : goal.returns-in-Kind
returns-in-Kind c =
    let n = c.args.at.now.value in
    let ys = drop c.args.from n.args.items in
    let e : n.head ≡ Kind c.in-Kind.kind = sym (ap (λ (v : Applied). v.head) c.deref.ensures) ∙ c.in-Kind.is in
    let f : ys ≡ [] = kind_alone anything c.in-Kind.kind ys (subst (λ z. IsOf (class_trees (root_class z)) (spine (root_tree z) ys)) e c.requires.class) in
    subst (λ z. IfOk c.kind_value.result (λ v. StandsFor (root_class z) v (spine (root_tree z) ys))) (sym e)
    (subst (λ z. IfOk c.kind_value.result (λ v. StandsFor OfKind v (spine c.in-Kind.kind z))) (sym f) c.kind_value.ensures)
