use Rattle.std.proofs.Common.{◌-◌, arith}
use Rattle.core_reduce.specs.declared.side.SideClass.TheVariants.{OfPure, OfType, OfKind}
use Rattle.core_reduce.proofs.Values.{sides_more, sides_end, no_kind_variable}
use Rattle.core_reduce.proofs.value.variable.Goals as goal

pub sides-preserved : goal.sides-preserved
sides-preserved c =
    let t = c.sides-test.true in
    rw c.in_ok-push.ensures.items
    (sides_more c.args.index c.args.args.now.items c.args.from c.sides.k (c.sides.k - 1) c.sides.sides.items c.index.result.now c.in_ok-of_arg.field-0 c.sides.invariant
    (omega arith) (omega arith) c.index.ensures c.in_ok-of_arg.ensures)

pub returns : goal.returns
returns c OfPure h = let e = sides_end c.args.index c.args.args.now.items c.args.from c.sides.k c.sides.sides.items c.sides.invariant c.sides-test.false OfPure h in (e.0, e.1, tt)
returns c OfType h = let e = sides_end c.args.index c.args.args.now.items c.args.from c.sides.k c.sides.sides.items c.sides.invariant c.sides-test.false OfType h in (e.0, e.1, tt)
returns c OfKind h = absurd (no_kind_variable c.args.index _ h)
