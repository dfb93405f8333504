use Rattle.std.proofs.Common.{◌≡◌, length, Some, slice_get, subst, arith}
use Rattle.cdle_model.specs.declared.grammar.Sort.{Sort}
use Rattle.cdle_model.specs.Classes.{item_sorts}
use Rattle.cdle_model.specs.Derivation.{bodies, signature}
use Rattle.cdle_model.specs.Fitting.{class_of}
use Rattle.core_reduce.specs.Sides.{class_trees, root_class, root_tree}
use Rattle.core_reduce.proofs.Bodies.{length_items, body_at, class_at}
use Rattle.core_reduce.proofs.items.CheckedItems.body.Goals as goal

pub index-requires : goal.index-requires
index-requires c =
    let q : length c.args.self.now ≡ length c.self.inside.items.items = subst (λ z. length z ≡ length c.self.inside.items.items) c.self.view_is (length_items c.self.inside.items.items) in
    let r = c.requires in omega (arith, c.self.inside.items.ok.0)

pub returns-clause-is : goal.returns-clause-is
returns-clause-is c =
    let q : length c.args.self.now ≡ length c.self.inside.items.items = subst (λ z. length z ≡ length c.self.inside.items.items) c.self.view_is (length_items c.self.inside.items.items) in
    let r = c.requires in
    subst (λ z. slice_get (bodies (signature z)) c.args.name ≡ Some (root_tree c.index.result.now.body)) c.self.view_is
    (body_at c.self.inside.items.items c.args.name c.index.result.now (omega arith) c.index.ensures c.self.invariant.bodies)

pub returns-clause-class : goal.returns-clause-class
returns-clause-class c =
    let q : length c.args.self.now ≡ length c.self.inside.items.items = subst (λ z. length z ≡ length c.self.inside.items.items) c.self.view_is (length_items c.self.inside.items.items) in
    let r = c.requires in
    subst (λ z. (x : Sort) → slice_get (item_sorts z) c.args.name ≡ Some x → class_trees (root_class c.index.result.now.body) ≡ class_of x) c.self.view_is
    (λ x e. class_at c.self.inside.items.items c.args.name c.index.result.now x (omega arith) c.index.ensures c.self.invariant.bodies e)
