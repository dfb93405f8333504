use Rattle.std.proofs.Common.{◌∙◌, ap, sym}
use Rattle.elab_tree.specs.Forms.{type_tree}
use Rattle.elab_reduce.specs.Items.{unfolds}
use Rattle.elab_reduce.proofs.Steps.{moving, of_same, of_popped}
use Rattle.elab_reduce.proofs.head.step.Goals as goal

pub unreachable-requires-in_default-pop : goal.unreachable-requires-in_default-pop
unreachable-requires-in_default-pop c =
    moving (unfolds c.args.env.now c.args.stop_at_data) c.pop.new.args.items (sym c.form.ensures.is ∙ ap type_tree c.in-Tlam.is) c.pop.ensures c.in_default-pop.is c.requires tt

pub unreachable-requires-in_default-pop-2 : goal.unreachable-requires-in_default-pop-2
unreachable-requires-in_default-pop-2 c =
    moving (unfolds c.args.env.now c.args.stop_at_data) c.pop-in-Xtlam.new.args.items (sym c.form.ensures.is ∙ ap type_tree c.in-Xtlam.is) c.pop-in-Xtlam.ensures c.in_default-pop-2.is c.requires tt

pub returns-in-Some : goal.returns-in-Some
returns-in-Some c =
    of_same (unfolds c.args.env.now c.args.stop_at_data) c.args.args.now.items c.args.args.now.items c.args.budget.now.left c.unfold.new.budget.left c.unfold.result (sym c.form.ensures.is ∙ ap type_tree c.in-Name.is)
    (c.unfold.ensures (unfolds c.args.env.now c.args.stop_at_data) c.in-Name.item c.args.args.now.items c.in-Some.ensures)

pub returns-in-Term : goal.returns-in-Term
returns-in-Term c =
    of_popped (unfolds c.args.env.now c.args.stop_at_data) c.pop.new.args.items c.args.budget.now.left c.contract_at.new.budget.left c.contract_at.result (sym c.form.ensures.is ∙ ap type_tree c.in-Tlam.is) c.pop.ensures c.in-Term.is
    (c.contract_at.ensures (unfolds c.args.env.now c.args.stop_at_data) c.in-Tlam.field-0 c.pop.new.args.items)

pub returns-in-OfType : goal.returns-in-OfType
returns-in-OfType c =
    of_popped (unfolds c.args.env.now c.args.stop_at_data) c.pop-in-Xtlam.new.args.items c.args.budget.now.left c.contract_on.new.budget.left c.contract_on.result (sym c.form.ensures.is ∙ ap type_tree c.in-Xtlam.is) c.pop-in-Xtlam.ensures c.in-OfType.is
    (c.contract_on.ensures (unfolds c.args.env.now c.args.stop_at_data) c.in-Xtlam.field-0 c.pop-in-Xtlam.new.args.items)

pub returns-in-At : goal.returns-in-At
returns-in-At c =
    of_same (unfolds c.args.env.now c.args.stop_at_data) c.args.args.now.items c.unwind_at.new.args.items c.args.budget.now.left c.args.budget.now.left c.unwind_at.result (sym c.form.ensures.is ∙ ap type_tree c.in-At.is)
    (c.unwind_at.ensures (unfolds c.args.env.now c.args.stop_at_data) c.args.budget.now.left)

pub returns-in-On : goal.returns-in-On
returns-in-On c =
    of_same (unfolds c.args.env.now c.args.stop_at_data) c.args.args.now.items c.unwind_on.new.args.items c.args.budget.now.left c.args.budget.now.left c.unwind_on.result (sym c.form.ensures.is ∙ ap type_tree c.in-On.is)
    (c.unwind_on.ensures (unfolds c.args.env.now c.args.stop_at_data) c.args.budget.now.left)
