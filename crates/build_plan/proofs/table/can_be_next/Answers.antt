use Rattle.std.proofs.Common.{sym, ◌∙◌, arith}
use Rattle.build_plan.specs.Tables.{needs_of}
use Rattle.build_plan.proofs.Named.{needs_at, needs_each}
use Rattle.build_plan.proofs.Taking.{next_by}
use Rattle.build_plan.proofs.table.can_be_next.Goals as goal

pub returns : goal.returns
returns c =
    let m = needs_each c.args.needs.now in
    let r = c.requires in
    next_by (needs_of c.args.needs.now) c.args.taken.now c.args.number c.as_slice.result.now c.first_left.result c.is_none.result
    (needs_at c.args.needs.now c.args.number c.index-needs-number.result c.requires c.index-needs-number.is ∙ sym c.as_slice.ensures.value)
    (omega arith) (λ t. let e = c.is_taken.ensures in let f = c.if-is_taken.false in cc) c.first_left.ensures c.is_none.ensures
