use Rattle.std.proofs.Common.{◌∙◌, ap, sym}
use Rattle.cdle_model.specs.Trees.{name}
use Rattle.cdle_model.specs.Forms.{fn, ap as ap_to}
use Rattle.cdle_model.specs.Classes.{item_sorts}
use Rattle.cdle_model.specs.Derivation.{bodies, signature}
use Rattle.core_view.specs.Readings.{pure_view_tree}
use Rattle.core_reduce.specs.declared.side.SideClass.TheVariants.{OfPure}
use Rattle.core_reduce.specs.Heads.{as_pure}
use Rattle.core_reduce.proofs.Moves.{step_at, step_class}
use Rattle.core_reduce.proofs.Placing.{placed_name, name_below}
use Rattle.core_reduce.proofs.reduce.advance_pure_read.Goals as goal

pub unfold-requires : goal.unfold-requires
unfold-requires c = name_below OfPure 4250000000 c.args.items.now c.args.now.now c.in-Name.item c.args.args.now.items (sym c.in_ok-form.ensures ∙ ap pure_view_tree c.in-Name.is) c.requires.placed

pub move_pure-requires : goal.move_pure-requires
move_pure-requires c =
    step_class (bodies (signature c.args.items.now)) OfPure (name c.in-Name.item) c.args.args.now.items c.args.budget.now.left c.args.args.now.items c.unfold.new.budget.left c.unfold.result
    (c.unfold.ensures.step OfPure c.requires.placed.sorts c.args.args.now.items
    (placed_name OfPure 4250000000 (item_sorts c.args.items.now) c.args.now.now c.in-Name.item c.args.args.now.items (sym c.in_ok-form.ensures ∙ ap pure_view_tree c.in-Name.is) c.requires.placed))

pub returns-in-Name-clause-step : goal.returns-in-Name-clause-step
returns-in-Name-clause-step c =
    step_at (bodies (signature c.args.items.now)) OfPure (name c.in-Name.item) c.args.now.now c.args.args.now.items c.args.budget.now.left c.args.args.now.items c.unfold.new.budget.left _ c.unfold.result
    (sym c.in_ok-form.ensures ∙ ap pure_view_tree c.in-Name.is) c.move_pure.ensures
    (c.unfold.ensures.step OfPure c.requires.placed.sorts c.args.args.now.items
    (placed_name OfPure 4250000000 (item_sorts c.args.items.now) c.args.now.now c.in-Name.item c.args.args.now.items (sym c.in_ok-form.ensures ∙ ap pure_view_tree c.in-Name.is) c.requires.placed))

pub returns-in-Function-clause-step : goal.returns-in-Function-clause-step
returns-in-Function-clause-step c =
    step_at (bodies (signature c.args.items.now)) OfPure (fn c.in-Function.body) c.args.now.now c.args.args.now.items c.args.budget.now.left c.apply_ap.new.args.items c.apply_ap.new.budget.left _ (as_pure c.apply_ap.result)
    (sym c.in_ok-form.ensures ∙ ap pure_view_tree c.in-Function.is) c.set_pure.ensures
    (c.apply_ap.ensures.step (bodies (signature c.args.items.now)))

pub move_pure-requires-in-Ap : goal.move_pure-requires-in-Ap
move_pure-requires-in-Ap c =
    step_class (bodies (signature c.args.items.now)) OfPure (ap_to c.in-Ap.head c.in-Ap.arg) c.args.args.now.items c.args.budget.now.left c.unwind.new.args.items c.args.budget.now.left c.unwind.result
    (c.unwind.ensures (bodies (signature c.args.items.now)) c.args.budget.now.left)

pub returns-in-Ap-clause-step : goal.returns-in-Ap-clause-step
returns-in-Ap-clause-step c =
    step_at (bodies (signature c.args.items.now)) OfPure (ap_to c.in-Ap.head c.in-Ap.arg) c.args.now.now c.args.args.now.items c.args.budget.now.left c.unwind.new.args.items c.args.budget.now.left _ c.unwind.result
    (sym c.in_ok-form.ensures ∙ ap pure_view_tree c.in-Ap.is) c.move_pure-in-Ap.ensures
    (c.unwind.ensures (bodies (signature c.args.items.now)) c.args.budget.now.left)
