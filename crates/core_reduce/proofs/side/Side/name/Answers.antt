use Rattle.std.proofs.Common.{◌≡◌, ◌<◌, None, length, sym, subst}
use Rattle.core_reduce.specs.Sides.{name_of, root_tree}
use Rattle.core_reduce.proofs.Spines.{applied_no_name}
use Rattle.core_reduce.proofs.side.Side.name.Goals as goal

pub returns-then-is_applied : goal.returns-then-is_applied
returns-then-is_applied c =
    let n = c.self.inside.node.value in
    let l : c.self.inside.from < length n.args.items = subst (λ v. c.self.inside.from < length v.args.items) c.deref.ensures (c.is_applied.ensures.some c.if-is_applied.true) in
    subst (λ z. None ≡ name_of z.tree) c.self.view_is
    (sym (applied_no_name (root_tree n.head) c.self.inside.from n.args.items l))
