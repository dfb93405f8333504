use Rattle.std.proofs.Common.{arith}
use Rattle.cdle_model.specs.Trees.{var}
use Rattle.core_reduce.specs.declared.side.SideClass.TheVariants.{OfPure}
use Rattle.core_reduce.proofs.Variables.{argument_at, too_deep_with}
use Rattle.core_reduce.proofs.reading.pure_variable.Goals as goal

pub pure_applied-requires : goal.pure_applied-requires
pure_applied-requires c =
    let t = c.build-test.true in let e = c.len.ensures in
    argument_at OfPure c.args.args.now.items c.build.k c.index.result.now c.requires (omega (arith, c.args.args.now.ok.0)) c.index.ensures

pub returns-in_default : goal.returns-in_default
returns-in_default c =
    let t = c.build-test.true in let e = c.len.ensures in
    let (a, b, l) = c.build.invariant in
    let h = (rw c.in_default.is at c.in_ok-next.ensures) in
    too_deep_with OfPure (var c.args.index) c.build.tree c.args.args.now.items c.build.k c.index.result.now b (omega (arith, c.args.args.now.ok.0)) c.index.ensures h
