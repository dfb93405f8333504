use Rattle.std.proofs.Common.{◌-◌, arith}
use Rattle.cdle_model.specs.Classes.{anything}
use Rattle.core_reduce.proofs.Spines.{pure_argument}
use Rattle.core_reduce.proofs.spine.flat_spine.Goals as goal

pub unreachable-requires : goal.unreachable-requires
unreachable-requires c =
    let (a, b, i) = c.build.invariant in let t = c.build-test.true in
    pure_argument anything c.args.head.now c.args.args.now.items c.args.from (c.build.k - 1) c.index.result.now c.requires.class (omega arith) (omega arith) c.index.ensures c.in_default.not-Ap
