use Rattle.std.proofs.Common.{◌∙◌, ap, sym}
use Rattle.cdle_model.specs.Trees.{name}
use Rattle.cdle_model.specs.Forms.{guide_tlam, guide_xtlam, at_, on}
use Rattle.cdle_model.specs.Classes.{item_sorts}
use Rattle.cdle_model.specs.Derivation.{bodies, signature}
use Rattle.core_tree.specs.Forms.{guide_tree}
use Rattle.core_reduce.specs.declared.side.SideClass.TheVariants.{OfType}
use Rattle.core_reduce.specs.Heads.{as_guide}
use Rattle.core_reduce.proofs.Moves.{step_at, step_class}
use Rattle.core_reduce.proofs.Placing.{placed_name, name_below}
use Rattle.core_reduce.proofs.reduce.advance_guide.Goals as goal

pub unfold-next-requires : goal.unfold-next-requires
unfold-next-requires c = name_below OfType 4250000000 c.args.items.now c.args.now.now c.in-Name.item c.args.args.now.items (sym c.in-Some.ensures ∙ (sym c.form.ensures.is ∙ ap guide_tree c.in-Name.is)) c.requires.placed

pub move_guide-requires : goal.move_guide-requires
move_guide-requires c =
    step_class (bodies (signature c.args.items.now)) OfType (name c.in-Name.item) c.args.args.now.items c.args.budget.now.left c.args.args.now.items c.unfold-next.new.budget.left c.unfold-next.result
    (c.unfold-next.ensures.step OfType c.requires.placed.sorts c.args.args.now.items
    (placed_name OfType 4250000000 (item_sorts c.args.items.now) c.args.now.now c.in-Name.item c.args.args.now.items (sym c.in-Some.ensures ∙ (sym c.form.ensures.is ∙ ap guide_tree c.in-Name.is)) c.requires.placed))

pub returns-in-Name-clause-step : goal.returns-in-Name-clause-step
returns-in-Name-clause-step c =
    step_at (bodies (signature c.args.items.now)) OfType (name c.in-Name.item) c.args.now.now c.args.args.now.items c.args.budget.now.left c.args.args.now.items c.unfold-next.new.budget.left _ c.unfold-next.result
    (sym c.in-Some.ensures ∙ (sym c.form.ensures.is ∙ ap guide_tree c.in-Name.is)) c.move_guide.ensures
    (c.unfold-next.ensures.step OfType c.requires.placed.sorts c.args.args.now.items
    (placed_name OfType 4250000000 (item_sorts c.args.items.now) c.args.now.now c.in-Name.item c.args.args.now.items (sym c.in-Some.ensures ∙ (sym c.form.ensures.is ∙ ap guide_tree c.in-Name.is)) c.requires.placed))

pub returns-in_ok-body-in-Tlam-clause-step : goal.returns-in_ok-body-in-Tlam-clause-step
returns-in_ok-body-in-Tlam-clause-step c =
    step_at (bodies (signature c.args.items.now)) OfType (guide_tlam c.in_ok-body-in-Tlam.body) c.args.now.now c.args.args.now.items c.args.budget.now.left c.apply_at.new.args.items c.apply_at.new.budget.left _ (as_guide c.apply_at.result)
    (sym c.in-Some.ensures ∙ (sym c.form.ensures.is ∙ (ap guide_tree c.in-Tlam.is ∙ ap guide_tlam (sym c.in_ok-body-in-Tlam.ensures)))) c.set_guide.ensures
    (c.apply_at.ensures.step (bodies (signature c.args.items.now)))

pub returns-in_ok-body-in-Xtlam-clause-step : goal.returns-in_ok-body-in-Xtlam-clause-step
returns-in_ok-body-in-Xtlam-clause-step c =
    step_at (bodies (signature c.args.items.now)) OfType (guide_xtlam c.in_ok-body-in-Xtlam.body) c.args.now.now c.args.args.now.items c.args.budget.now.left c.apply_on.new.args.items c.apply_on.new.budget.left _ (as_guide c.apply_on.result)
    (sym c.in-Some.ensures ∙ (sym c.form.ensures.is ∙ (ap guide_tree c.in-Xtlam.is ∙ ap guide_xtlam (sym c.in_ok-body-in-Xtlam.ensures)))) c.set_guide-in-Xtlam.ensures
    (c.apply_on.ensures.step (bodies (signature c.args.items.now)))

pub returns-in-At-clause-step : goal.returns-in-At-clause-step
returns-in-At-clause-step c =
    step_at (bodies (signature c.args.items.now)) OfType (at_ c.in-At.head c.in-At.arg) c.args.now.now c.args.args.now.items c.args.budget.now.left c.unwind_at-next.new.args.items c.args.budget.now.left _ (as_guide c.unwind_at-next.result)
    (sym c.in-Some.ensures ∙ (sym c.form.ensures.is ∙ ap guide_tree c.in-At.is)) c.set_guide-in-At.ensures
    (c.unwind_at-next.ensures (bodies (signature c.args.items.now)) c.args.budget.now.left)

pub returns-in-On-clause-step : goal.returns-in-On-clause-step
returns-in-On-clause-step c =
    step_at (bodies (signature c.args.items.now)) OfType (on c.in-On.head c.in-On.arg) c.args.now.now c.args.args.now.items c.args.budget.now.left c.unwind_on-next.new.args.items c.args.budget.now.left _ (as_guide c.unwind_on-next.result)
    (sym c.in-Some.ensures ∙ (sym c.form.ensures.is ∙ ap guide_tree c.in-On.is)) c.set_guide-in-On.ensures
    (c.unwind_on-next.ensures (bodies (signature c.args.items.now)) c.args.budget.now.left)
