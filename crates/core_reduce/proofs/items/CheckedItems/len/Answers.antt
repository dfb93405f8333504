use Rattle.std.proofs.Common.{◌≡◌, length, subst, arith}
use Rattle.core_reduce.proofs.Bodies.{length_items}
use Rattle.core_reduce.proofs.items.CheckedItems.len.Goals as goal

pub overflow_cast-result : goal.overflow_cast-result
overflow_cast-result c = let e = c.len.ensures in let f = c.self.invariant.few in omega (arith, c.self.inside.items.ok.0)

pub returns : goal.returns
returns c =
    let e = c.len.ensures in
    let q : length c.args.self.now ≡ length c.self.inside.items.items = subst (λ z. length z ≡ length c.self.inside.items.items) c.self.view_is (length_items c.self.inside.items.items) in
    omega (arith, c.self.inside.items.ok.0)
