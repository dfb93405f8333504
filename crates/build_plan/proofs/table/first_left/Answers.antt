use Rattle.std.proofs.Common.{suc, drop, take}
use Rattle.build_plan.proofs.Places.{split_at}
use Rattle.build_plan.proofs.table.first_left.Goals as goal

pub returns-then-not-is_taken : goal.returns-then-not-is_taken
returns-then-not-is_taken c = record {
  before = take c.loop-number.number-index c.args.numbers.now;
  after = drop (suc c.loop-number.number-index) c.args.numbers.now;
  is = split_at c.args.numbers.now c.loop-number.number-index c.loop-number-test.true;
  left = λ t. let e = c.is_taken.ensures in let f = c.if-not-is_taken.true in cc;
  first = c.loop-number.invariant;
}
