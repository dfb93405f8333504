use Rattle.std.proofs.Common.{◌≡◌, [], length, vec_len, arith}
use Rattle.cdle_model.specs.Classes.{item_sorts}
use Rattle.cdle_model.specs.Derivation.{bodies, signature}
use Rattle.core_reduce.proofs.Steps.{none_left}
use Rattle.core_compare.specs.Pairs.{stack}
use Rattle.core_compare.proofs.Comparing.{next_comparable, comparing_spent, comparing_apart, comparing_err, comparing_on, comparing_same, no_pairs, no_more}
use Rattle.core_compare.proofs.comparison.compare_pairs.Goals as goal

pub returns-then-not-take-clause-answer : goal.returns-then-not-take-clause-answer
returns-then-not-take-clause-answer c =
    comparing_spent (item_sorts c.args.items.now) (bodies (signature c.args.items.now)) (stack [] c.args.pairs.items) c.args.budget.now.left c.pairs.pairs.items c.pop.new.self.items c.in-Some.pair
    c.pairs.budget.left c.pairs.invariant.so_far c.in-Some.ensures.items (none_left _ _ c.take.ensures.any.1 c.if-not-take.true)

pub turn-requires : goal.turn-requires
turn-requires c =
    (next_comparable (item_sorts c.args.items.now) (bodies (signature c.args.items.now)) (stack [] c.args.pairs.items) c.args.budget.now.left c.pairs.pairs.items c.pop.new.self.items c.in-Some.pair
    c.pairs.budget.left c.pairs.invariant.so_far c.in-Some.ensures.items).1

pub returns-in-Ok-Apart-clause-answer : goal.returns-in-Ok-Apart-clause-answer
returns-in-Ok-Apart-clause-answer c =
    comparing_apart (item_sorts c.args.items.now) (bodies (signature c.args.items.now)) (stack [] c.args.pairs.items) c.args.budget.now.left c.pairs.pairs.items c.pop.new.self.items c.in-Some.pair
    c.pairs.budget.left c.pairs.invariant.so_far c.in-Some.ensures.items c.in-Ok-Apart.left c.in-Ok-Apart.right
    (let h = (rw c.in-Ok-Apart.field-0-is at c.in-Ok-Apart.ensures.turn) in h)

pub returns-in-Err-clause-answer : goal.returns-in-Err-clause-answer
returns-in-Err-clause-answer c =
    comparing_err (item_sorts c.args.items.now) (bodies (signature c.args.items.now)) (stack [] c.args.pairs.items) c.args.budget.now.left c.pairs.pairs.items c.pop.new.self.items c.in-Some.pair
    c.pairs.budget.left c.pairs.invariant.so_far c.in-Some.ensures.items c.turn.new.pairs.items c.take.new.self.left c.turn.new.budget.left c.in-Err.stop
    (c.take.ensures.taken c.if-not-take.false) c.in-Err.ensures.turn

pub pairs-preserved : goal.pairs-preserved
pairs-preserved c = record {
  so_far = comparing_on (item_sorts c.args.items.now) (bodies (signature c.args.items.now)) (stack [] c.args.pairs.items) c.args.budget.now.left c.pairs.pairs.items c.pop.new.self.items c.in-Some.pair
      c.pairs.budget.left c.pairs.invariant.so_far c.in-Some.ensures.items c.turn.new.pairs.items c.take.new.self.left c.turn.new.budget.left
      (c.take.ensures.taken c.if-not-take.false) (rw c.in-Ok-On.field-0-is at c.in-Ok-On.ensures.turn);
  less = (let t = c.take.ensures.taken c.if-not-take.false in let l = c.pairs.invariant.less in let m = c.turn.ensures.less in omega arith);
}

pub returns-clause-answer : goal.returns-clause-answer
returns-clause-answer c =
    let n : vec_len c.pairs.pairs ≡ 0 = no_more (vec_len c.pairs.pairs) c.pop.result c.pop.ensures.variant.1 c.in_default.not-Some in
    let l : length c.pairs.pairs.items ≡ 0 = omega (arith, c.pairs.pairs.ok.0) in
    comparing_same (item_sorts c.args.items.now) (bodies (signature c.args.items.now)) (stack [] c.args.pairs.items) c.args.budget.now.left c.pairs.pairs.items c.pairs.budget.left
    c.pairs.invariant.so_far (no_pairs c.pairs.pairs.items l)
