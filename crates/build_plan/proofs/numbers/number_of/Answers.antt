use Rattle.std.proofs.Common.{◌≡◌, Some, slice_get, ap, ◌∙◌, arith}
use Rattle.build_plan.specs.Tables.{names_in}
use Rattle.build_plan.proofs.Places.{below_more, name_below, name_read}
use Rattle.build_plan.proofs.numbers.number_of.Goals as goal

pub returns-then-module-name : goal.returns-then-module-name
returns-then-module-name c = record {
  called = name_read c.args.modules.now c.loop-i.i c.index-modules-i.result c.loop-i-test.true c.index-modules-i.is ∙ ap (λ x. Some x) c.if-module-name.true;
  first = c.loop-i.invariant;
}

pub loop-i-preserved : goal.loop-i-preserved
loop-i-preserved c =
    below_more (λ j. slice_get (names_in c.args.modules.now) j ≡ Some c.args.name.0 → ⊥) c.loop-i.i c.loop-i.invariant (λ e.
    let r = name_read c.args.modules.now c.loop-i.i c.index-modules-i.result c.loop-i-test.true c.index-modules-i.is in
    let h : c.index-modules-i.result.name.0 ≡ c.args.name.0 = cc in c.if-module-name.false h)

pub returns : goal.returns
returns c = λ i e. c.loop-i.invariant i (let l = name_below c.args.modules.now i c.args.name.0 e in omega arith) e
