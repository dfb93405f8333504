use Rattle.std.proofs.Common.{◌≡◌, arith}
use Rattle.elab_convert.proofs.Putting.{other_lengths}
use Rattle.elab_convert.proofs.settle.put_arguments.Goals as goal

pub returns-then-len : goal.returns-then-len
returns-then-len c = other_lengths c.args.xs.now.items c.args.ys.now.items (λ l.
    let a = c.len.ensures in let b = c.len-2.ensures in
    let d : c.len.result ≡ c.len-2.result = omega (arith, c.args.xs.now.ok.0, c.args.ys.now.ok.0) in
    c.if-len.true d)
