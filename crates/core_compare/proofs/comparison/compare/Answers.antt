use Rattle.std.proofs.Common.{◌≡◌, [], ◌∷◌, refl, subst}
use Rattle.cdle_model.specs.Derivation.{bodies, signature}
use Rattle.cdle_model.proofs.ClassItems.{items-signature}
use Rattle.core_compare.specs.Answers.{MeetsPairs}
use Rattle.core_compare.specs.Pairs.{stack}
use Rattle.core_compare.proofs.Comparing.{answers_so, decides}
use Rattle.core_compare.proofs.comparison.compare.Goals as goal

pub returns-clause-so : goal.returns-clause-so
returns-clause-so c =
    let s = bodies (signature c.args.items.now) in
    let e : stack [] c.push.new.self.items ≡ (c.args.left.now.tree, c.args.right.now.tree) ∷ [] =
    (rw (c.in_ok-push.ensures.items, c.new-pairs.ensures.items, c.in_ok-copy.ensures, c.in_ok-copy-2.ensures) refl) in
    answers_so s c.args.left.now.tree c.args.right.now.tree c.args.budget.now.left c.compare_pairs.result
    (subst (λ ps. MeetsPairs s ps c.args.budget.now.left c.compare_pairs.result) e c.compare_pairs.ensures.answer)

pub returns-clause-decides : goal.returns-clause-decides
returns-clause-decides c =
    let s = bodies (signature c.args.items.now) in
    let e : stack [] c.push.new.self.items ≡ (c.args.left.now.tree, c.args.right.now.tree) ∷ [] =
    (rw (c.in_ok-push.ensures.items, c.new-pairs.ensures.items, c.in_ok-copy.ensures, c.in_ok-copy-2.ensures) refl) in
    decides s (items-signature c.args.items.now c.known.ensures.items) c.args.left.now.tree c.args.right.now.tree c.args.budget.now.left c.compare_pairs.result
    (subst (λ ps. MeetsPairs s ps c.args.budget.now.left c.compare_pairs.result) e c.compare_pairs.ensures.answer)
