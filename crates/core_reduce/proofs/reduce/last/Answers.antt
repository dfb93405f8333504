use Rattle.std.proofs.Common.{arith}
use Rattle.core_reduce.proofs.Placing.{innermost_is}
use Rattle.core_reduce.proofs.reduce.last.Goals as goal

pub returns-then-from-len : goal.returns-then-from-len
returns-then-from-len c =
    let t = c.if-from-len.true in let e = c.len.ensures in let f = c.len-then-from-len.ensures in let o = c.args.args.now.ok.0 in
    innermost_is c.args.from c.args.args.now.items _ c.index.result.now (omega arith) (omega arith) c.index.ensures
