use Rattle.std.proofs.Common.{refl, ◌+◌, arith}
use Rattle.core_compare.proofs.Stacks.{same_length, class_at, classes_more}
use Rattle.core_compare.proofs.settle.same_classes.Goals as goal

pub returns-then-len : goal.returns-then-len
returns-then-len c = (
  λ h. cc,
  λ e. absurd (let n = c.if-len.true in let a = c.len.ensures in let b = c.len-2.ensures in let m = same_length c.args.xs.now.items c.args.ys.now.items e in
      n (omega (arith, c.args.xs.now.ok.0, c.args.ys.now.ok.0))),
)

pub returns-then-not-same_class : goal.returns-then-not-same_class
returns-then-not-same_class c = (
  λ h. cc,
  λ e. c.if-not-same_class.ensures.1
      (let t = c.compared-test.true in let l = c.len-in-compared.ensures in
      class_at c.args.xs.now.items c.args.ys.now.items c.compared.k c.index.result.now c.index-in-compared.result.now e (omega (arith, c.args.xs.now.ok.0)) c.index.ensures c.index-in-compared.ensures),
)

pub compared-preserved : goal.compared-preserved
compared-preserved c =
    let t = c.compared-test.true in let l = c.len-in-compared.ensures in let (b, m, e) = c.compared.invariant in (
      omega (arith, c.args.xs.now.ok.0),
      m,
      classes_more c.args.xs.now.items c.args.ys.now.items c.compared.k (c.compared.k + 1) c.index.result.now c.index-in-compared.result.now (omega arith) m (omega (arith, c.args.xs.now.ok.0))
          c.index.ensures c.index-in-compared.ensures (c.if-not-same_class.ensures.0 refl) e,
    )
