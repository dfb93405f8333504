use Rattle.std.proofs.Common.{◌≡◌, ◌+◌, ap, ap₂, ◌∙◌, subst, IfOk, arith, rules}
use Rattle.cdle_model.specs.Trees.{Tree}
use Rattle.cdle_model.specs.Forms.{fn, ap as apply_to}
use Rattle.cdle_model.specs.Classes.{anything}
use Rattle.cdle_model.specs.Depth.{depth}
use Rattle.cdle_model.specs.Erasure.{erased}
use Rattle.core_tree.proofs.Erasures.{depth_erased}
use Rattle.core_view.proofs.Numbers.{renumbered_depth}
use Rattle.core_view.proofs.Parts.{function_is, function_fits, apply_is, apply_fits, name_is, identity_is}
use Rattle.core_view.proofs.whole.+whole_written.Goals as goal

pub whole_written-requires : goal.whole_written-requires
whole_written-requires t c =
    let h = function_fits c.args.from c.args.passed.now (erased c.args.term.now) anything (erased c.in-Lam.part.now) c.in-Lam.ensures.erasure c.requires.class in
    search (rules, h)

pub whole_written-requires-in-App : goal.whole_written-requires-in-App
whole_written-requires-in-App t c =
    let h = (apply_fits c.args.from c.args.passed.now (erased c.args.term.now) anything (erased c.in-App.head.now) (erased c.in-App.arg.now) c.in-App.ensures.erasure c.requires.class).0 in
    search (rules, h)

pub whole_written-requires-in-App-2 : goal.whole_written-requires-in-App-2
whole_written-requires-in-App-2 t c =
    let h = (apply_fits c.args.from c.args.passed.now (erased c.args.term.now) anything (erased c.in-App.head.now) (erased c.in-App.arg.now) c.in-App.ensures.erasure c.requires.class).1 in
    search (rules, h)

pub function_of-requires : goal.function_of-requires
function_of-requires t c =
    omega (arith, ap depth c.in_ok-part-in-Lam.ensures, renumbered_depth (c.args.from + 1) c.args.passed.now (erased c.in-Lam.part.now), depth_erased c.in-Lam.part.now, c.in-Lam.ensures.smaller, c.requires.room)

pub ap_of-requires-clause-head_depth : goal.ap_of-requires-clause-head_depth
ap_of-requires-clause-head_depth t c =
    omega (arith, ap depth c.in_ok-head-in-App.ensures, renumbered_depth c.args.from c.args.passed.now (erased c.in-App.head.now), depth_erased c.in-App.head.now, c.in-App.ensures.smaller.0, c.requires.room)

pub ap_of-requires-clause-arg_depth : goal.ap_of-requires-clause-arg_depth
ap_of-requires-clause-arg_depth t c =
    omega (arith, ap depth c.in_ok-arg-in-App.ensures, renumbered_depth c.args.from c.args.passed.now (erased c.in-App.arg.now), depth_erased c.in-App.arg.now, c.in-App.ensures.smaller.1, c.requires.room)

pub returns-in-Name : goal.returns-in-Name
returns-in-Name t c =
    subst (λ z. IfOk c.name.result (λ (y : Tree). y ≡ z)) (name_is c.args.from c.args.passed.now (erased c.args.term.now) c.in-Name.item c.in-Name.ensures.erasure) c.name.ensures

pub returns-in_ok-part-in-Lam : goal.returns-in_ok-part-in-Lam
returns-in_ok-part-in-Lam t c =
    subst (λ z. IfOk c.function_of.result (λ (y : Tree). y ≡ z)) (ap fn c.in_ok-part-in-Lam.ensures ∙ function_is c.args.from c.args.passed.now (erased c.args.term.now) (erased c.in-Lam.part.now) c.in-Lam.ensures.erasure) c.function_of.ensures

pub returns-in_ok-arg-in-App : goal.returns-in_ok-arg-in-App
returns-in_ok-arg-in-App t c =
    subst (λ z. IfOk c.ap_of.result (λ (y : Tree). y ≡ z)) (ap₂ apply_to c.in_ok-head-in-App.ensures c.in_ok-arg-in-App.ensures ∙ apply_is c.args.from c.args.passed.now (erased c.args.term.now) (erased c.in-App.head.now) (erased c.in-App.arg.now) c.in-App.ensures.erasure) c.ap_of.ensures

pub returns-in-Identity : goal.returns-in-Identity
returns-in-Identity t c =
    subst (λ z. IfOk c.identity.result (λ (y : Tree). y ≡ z)) (identity_is c.args.from c.args.passed.now (erased c.args.term.now) c.in-Identity.ensures.erasure) c.identity.ensures
