use Rattle.std.proofs.Common.{◌∙◌, Ok, ap, map, refl}
use Rattle.std.proofs.lemmas.List.{map_push}
use Rattle.surf_tree.specs.Items.{item_of}
use Rattle.surf_parse.proofs.module.items.Goals as goal

pub items-smaller : goal.items-smaller
items-smaller c = c.in_ok-item.ensures.ahead (c.in-Some.item, c.in-Some.next) (ap (λ o. Ok o) c.in-Some.is)

pub items-preserved : goal.items-preserved
items-preserved c = λ x is vs.
    let p = c.in_ok-item.ensures.repeats (record { name = x; imports = is; items = map item_of c.items.list.items }) vs in
    let q = rw c.in-Some.is at p in
    c.items.invariant x is vs ∙ q ∙ rw (c.in_ok-push.ensures.items, map_push item_of c.items.list.items c.in-Some.item) refl

pub returns : goal.returns
returns c = λ x is vs.
    let p = c.in_ok-item.ensures.repeats (record { name = x; imports = is; items = map item_of c.items.list.items }) vs in
    let q = rw c.in_default.is at p in
    c.items.invariant x is vs ∙ q
