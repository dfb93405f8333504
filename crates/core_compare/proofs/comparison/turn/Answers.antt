use Rattle.std.proofs.Common.{sym, subst}
use Rattle.cdle_model.specs.Classes.{item_sorts}
use Rattle.cdle_model.specs.Derivation.{bodies, signature}
use Rattle.cdle_model.proofs.ClassItems.{items-fit}
use Rattle.core_reduce.specs.Heads.{IsHeadForm}
use Rattle.core_compare.proofs.Turning.{left_err, right_err, forms, turn_apart, turn_on}
use Rattle.core_compare.proofs.comparison.turn.Goals as goal

pub returns-in-Err-clause-turn : goal.returns-in-Err-clause-turn
returns-in-Err-clause-turn c =
    left_err (item_sorts c.args.items.now) (bodies (signature c.args.items.now)) c.args.pair.now.left.class c.args.pair.now.left.tree c.args.pair.now.right.tree
    c.args.pairs.now.items c.args.pairs.now.items c.args.budget.now.left c.head.new.budget.left c.in-Err.stop (sym c.if-same_name.ensures) c.in-Err.ensures.form

pub returns-in-Err-head-clause-turn : goal.returns-in-Err-head-clause-turn
returns-in-Err-head-clause-turn c =
    right_err (item_sorts c.args.items.now) (bodies (signature c.args.items.now)) c.args.pair.now.left.class c.args.pair.now.right.class c.args.pair.now.left.tree c.args.pair.now.right.tree
    c.in-Ok.value c.args.pairs.now.items c.args.pairs.now.items c.args.budget.now.left c.head.new.budget.left c.head-2.new.budget.left c.in-Err-head.stop
    (sym c.if-same_name.ensures) c.in-Ok.ensures.form c.in-Err-head.ensures.form

pub settle-requires : goal.settle-requires
settle-requires c =
    let s = bodies (signature c.args.items.now) in
    let k = c.args.pair.now.left.class in
    let j = subst (λ k. IsHeadForm s k c.args.pair.now.right.tree c.head.new.budget.left c.head-2.new.budget.left c.in-Ok-head.value) (sym c.requires.class) c.in-Ok-head.ensures.form in
    forms (item_sorts c.args.items.now) s k c.args.pair.now.left.tree c.args.pair.now.right.tree c.in-Ok.value c.in-Ok-head.value
    c.args.budget.now.left c.head.new.budget.left c.head-2.new.budget.left (sym c.if-same_name.ensures) c.in-Ok.ensures.form j
    (items-fit c.args.items.now c.known.ensures.items c.known.ensures.erasures).bodies_fit c.args.pair.now.binders c.requires.few c.requires.placed

pub returns-then-branch-clause-turn : goal.returns-then-branch-clause-turn
returns-then-branch-clause-turn c =
    let s = bodies (signature c.args.items.now) in
    let k = c.args.pair.now.left.class in
    let j = subst (λ k. IsHeadForm s k c.args.pair.now.right.tree c.head.new.budget.left c.head-2.new.budget.left c.in-Ok-head.value) (sym c.requires.class) c.in-Ok-head.ensures.form in
    turn_on (item_sorts c.args.items.now) s k c.args.pair.now.left.tree c.args.pair.now.right.tree c.in-Ok.value c.in-Ok-head.value
    c.args.budget.now.left c.head.new.budget.left c.head-2.new.budget.left (sym c.if-same_name.ensures) c.in-Ok.ensures.form j
    (items-fit c.args.items.now c.known.ensures.items c.known.ensures.erasures).bodies_fit c.args.pair.now.binders c.args.pairs.now.items c.settle.new.pairs.items c.requires.placed
    (rw c.if-branch.true at c.in_ok-settle.ensures)

pub returns-else-branch-clause-turn : goal.returns-else-branch-clause-turn
returns-else-branch-clause-turn c =
    let s = bodies (signature c.args.items.now) in
    let k = c.args.pair.now.left.class in
    let j = subst (λ k. IsHeadForm s k c.args.pair.now.right.tree c.head.new.budget.left c.head-2.new.budget.left c.in-Ok-head.value) (sym c.requires.class) c.in-Ok-head.ensures.form in
    turn_apart (item_sorts c.args.items.now) s k c.args.pair.now.left.tree c.args.pair.now.right.tree c.in-Ok.value c.in-Ok-head.value
    c.args.budget.now.left c.head.new.budget.left c.head-2.new.budget.left (sym c.if-same_name.ensures) c.in-Ok.ensures.form j c.args.pairs.now.items
    (rw c.if-branch.false at c.in_ok-settle.ensures)
