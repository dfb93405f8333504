use Rattle.std.proofs.Common.{◌≡◌, ◌∷◌, [], ◌∙◌, arith, drop, false, true, ap, sym}
use Rattle.elab_convert.specs.Formers.{part_tree}
use Rattle.elab_convert.specs.Sides.{arg_tree, erased_tree, side_tree, spine, stack}
use Rattle.elab_convert.proofs.Settling.{stuck_apart, stuck_settled}
use Rattle.elab_convert.proofs.settle.settle_stuck.Goals as goal

pub returns-then-not-same_class : goal.returns-then-not-same_class
returns-then-not-same_class c = stuck_apart (erased_tree c.args.left.now.head) (erased_tree c.args.right.now.head) c.index.result.now c.index-2.result.now c.args.pairs.now.items c.args.pairs.now.items
    c.requires.left c.requires.right c.args.left.now.args.items c.args.right.now.args.items c.requires.left_applied c.requires.right_applied c.index.ensures c.index-2.ensures
    (λ e. let f : false ≡ true = c.if-not-same_class.ensures.1 (c.class.ensures ∙ e ∙ sym c.class-2.ensures) in absurd (grind arith))

pub returns : goal.returns
returns c = stuck_settled (erased_tree c.args.left.now.head) (erased_tree c.args.right.now.head) c.index.result.now c.index-2.result.now c.args.pairs.now.items c.put_pair.new.pairs.items
    c.requires.left c.requires.right c.args.left.now.args.items c.args.right.now.args.items c.put_parts.new.pairs.items c.requires.left_applied c.requires.right_applied c.index.ensures c.index-2.ensures
    (sym c.class.ensures ∙ c.same_class.ensures.0 c.if-not-same_class.false ∙ c.class-2.ensures)
    (c.in_ok-put_parts.ensures ∙ ap (λ z. (z, part_tree c.part-2.result) ∷ stack [] c.args.pairs.now.items) c.part.ensures ∙ ap (λ z. (arg_tree c.index.result.now, z) ∷ stack [] c.args.pairs.now.items) c.part-2.ensures)
    (c.in_ok-put_pair.ensures ∙ ap (λ z. (z, side_tree c.in_ok-inner.field-0) ∷ stack [] c.put_parts.new.pairs.items) c.in_ok-left.ensures
    ∙ ap (λ z. (spine (erased_tree c.args.left.now.head) (drop 1 c.args.left.now.args.items), z) ∷ stack [] c.put_parts.new.pairs.items) c.in_ok-inner.ensures)
