use Rattle.elab_convert.specs.Formers.{part_tree}
use Rattle.elab_convert.specs.Answers.{ArePartsPut, IsSettled}
use Rattle.elab_convert.proofs.Settling.{formers_settled, if_ok}
use Rattle.elab_convert.proofs.settle.settle_parts.Goals as goal

pub returns-in-Some-Some : goal.returns-in-Some-Some
returns-in-Some-Some c = if_ok
    (ArePartsPut c.in-Some-Some.left c.in-Some-Some.right c.args.pairs.now.items c.put_former.new.pairs.items)
    (IsSettled (part_tree c.args.left) (part_tree c.args.right) c.args.pairs.now.items c.put_former.new.pairs.items)
    c.put_former.result
    (λ b h. formers_settled (part_tree c.args.left) (part_tree c.args.right) c.in-Some-Some.left c.in-Some-Some.right c.args.pairs.now.items c.put_former.new.pairs.items b
    c.requires.left c.requires.right c.in-Some-Some.ensures c.in-Some-Some.ensures' h)
    c.put_former.ensures
