use Rattle.std.proofs.Common.{◌≡◌, ◌∙◌, arith, false, true, sym}
use Rattle.elab_convert.specs.Sides.{root_tree, spine}
use Rattle.elab_convert.specs.Answers.{ArePut, IsSettled}
use Rattle.elab_convert.proofs.Settling.{if_ok, roots_apart, roots_settled}
use Rattle.elab_convert.proofs.settle.settle_roots.Goals as goal

pub returns-then-not-same_root : goal.returns-then-not-same_root
returns-then-not-same_root c = roots_apart c.args.left c.args.right c.args.xs.now.items c.args.ys.now.items c.args.pairs.now.items c.args.pairs.now.items
    (λ e. let f : false ≡ true = sym c.if-not-same_root.true ∙ c.same_root.ensures.1 e in absurd (grind arith))

pub returns : goal.returns
returns c = if_ok
    (ArePut c.args.xs.now.items c.args.ys.now.items c.args.pairs.now.items c.put_arguments.new.pairs.items)
    (IsSettled (spine (root_tree c.args.left) c.args.xs.now.items) (spine (root_tree c.args.right) c.args.ys.now.items) c.args.pairs.now.items c.put_arguments.new.pairs.items)
    c.put_arguments.result
    (λ b h. roots_settled c.args.left c.args.right c.args.xs.now.items c.args.ys.now.items c.args.pairs.now.items c.put_arguments.new.pairs.items b (c.same_root.ensures.0 c.if-not-same_root.false) h)
    c.put_arguments.ensures
