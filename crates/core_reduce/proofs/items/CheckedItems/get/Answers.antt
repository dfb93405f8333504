use Rattle.std.proofs.Common.{◌≡◌, length, Some, slice_get, subst, arith}
use Rattle.core_tree.specs.Items.{written}
use Rattle.core_reduce.proofs.Bodies.{length_items, item_at}
use Rattle.core_reduce.proofs.items.CheckedItems.get.Goals as goal

pub index-requires : goal.index-requires
index-requires c =
    let q : length c.args.self.now ≡ length c.self.inside.items.items = subst (λ z. length z ≡ length c.self.inside.items.items) c.self.view_is (length_items c.self.inside.items.items) in
    let r = c.requires in omega (arith, c.self.inside.items.ok.0)

pub returns : goal.returns
returns c =
    let q : length c.args.self.now ≡ length c.self.inside.items.items = subst (λ z. length z ≡ length c.self.inside.items.items) c.self.view_is (length_items c.self.inside.items.items) in
    let r = c.requires in
    subst (λ z. slice_get z c.args.name ≡ Some (written c.index.result.now.item)) c.self.view_is
    (item_at c.self.inside.items.items c.args.name c.index.result.now (omega arith) c.index.ensures)
