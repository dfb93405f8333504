use Rattle.std.proofs.Common.{[], ◌∷◌, ◌++◌, sym, ◌∙◌, ap, subst, arith}
use Rattle.cdle_model.specs.Classes.{IsScopedOver}
use Rattle.core_tree.specs.Items.{written}
use Rattle.core_reduce.specs.Checked.{items_of}
use Rattle.core_reduce.proofs.Bodies.{items_push, checked_more}
use Rattle.core_reduce.proofs.items.CheckedItems.add.Goals as goal

pub invariant_of-self-2 : goal.invariant_of-self-2
invariant_of-self-2 c =
    let l = c.if-len-ge4294967295.false in let e = c.len.ensures in
    rw c.in_ok-push.ensures.items
    (checked_more c.self.inside.items.items (record { item = c.in_ok-item.item; body = c.in_ok-body.body }) c.args.item.now c.self.invariant
    (omega (arith, c.self.inside.items.ok.0)) (subst (λ z. IsScopedOver z (written c.args.item.now)) (sym c.self.view_is) c.requires.over) c.requires.erasures
    c.in_ok-item.ensures c.in_ok-body.ensures)

pub returns : goal.returns
returns c =
    ap items_of c.in_ok-push.ensures.items
    ∙ (items_push c.self.inside.items.items (record { item = c.in_ok-item.item; body = c.in_ok-body.body })
    ∙ (ap (λ z. items_of c.self.inside.items.items ++ z ∷ []) c.in_ok-item.ensures ∙ ap (λ z. z ++ written c.args.item.now ∷ []) c.self.view_is))
