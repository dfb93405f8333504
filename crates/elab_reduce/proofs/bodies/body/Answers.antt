use Rattle.std.proofs.Common.{Some, ap, ◌∙◌, arith}
use Rattle.elab_model.specs.HeadWritten.{type_body}
use Rattle.elab_tree.specs.Items.{written}
use Rattle.elab_reduce.proofs.Items.{past_items, not_kept}
use Rattle.elab_reduce.proofs.bodies.body.Goals as goal

pub returns-then-item-len : goal.returns-then-item-len
returns-then-item-len c = let t = c.if-item-len.true in let e = c.len.ensures in past_items c.args.env.now c.args.stop_at_data c.args.item (omega arith)

pub returns-in-TypeDef : goal.returns-in-TypeDef
returns-in-TypeDef c =
    not_kept c.args.env.now c.args.stop_at_data c.args.item (written c.get.result.now) (c.is_kept.ensures ∙ c.if-is_kept.false) c.get.ensures
    ∙ ap (λ i. type_body (Some (written i))) c.in-TypeDef.is

pub returns-in-Def : goal.returns-in-Def
returns-in-Def c =
    not_kept c.args.env.now c.args.stop_at_data c.args.item (written c.get.result.now) (c.is_kept.ensures ∙ c.if-is_kept.false) c.get.ensures
    ∙ ap (λ i. type_body (Some (written i))) c.in-Def.is
