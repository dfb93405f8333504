use Rattle.std.proofs.Common.{◌≡◌, ◌+◌, sym, ap, ap₂, ◌∙◌, subst, IfOk, arith, rules}
use Rattle.cdle_model.specs.Trees.{Tree, name}
use Rattle.cdle_model.specs.Forms.{fn, ap as apply_to}
use Rattle.cdle_model.specs.Classes.{anything}
use Rattle.cdle_model.specs.Depth.{depth}
use Rattle.core_tree.specs.Forms.{pure_tree}
use Rattle.core_view.proofs.Numbers.{renumbered_depth}
use Rattle.core_view.proofs.Parts.{function_is, function_fits, apply_is, apply_fits, name_is}
use Rattle.core_view.proofs.whole.+whole_built.Goals as goal

pub whole_built-requires : goal.whole_built-requires
whole_built-requires t c =
    let e : fn c.in-Function.part ≡ c.args.term.now = sym (ap pure_tree c.in-Function.is) ∙ c.form.ensures.is in
    let h = function_fits c.args.from c.args.passed.now c.args.term.now anything c.in-Function.part e c.requires.class in
    search (rules, h)

pub whole_built-requires-in-Ap : goal.whole_built-requires-in-Ap
whole_built-requires-in-Ap t c =
    let e : apply_to c.in-Ap.head c.in-Ap.arg ≡ c.args.term.now = sym (ap pure_tree c.in-Ap.is) ∙ c.form.ensures.is in
    let h = (apply_fits c.args.from c.args.passed.now c.args.term.now anything c.in-Ap.head c.in-Ap.arg e c.requires.class).0 in
    search (rules, h)

pub whole_built-requires-in-Ap-2 : goal.whole_built-requires-in-Ap-2
whole_built-requires-in-Ap-2 t c =
    let e : apply_to c.in-Ap.head c.in-Ap.arg ≡ c.args.term.now = sym (ap pure_tree c.in-Ap.is) ∙ c.form.ensures.is in
    let h = (apply_fits c.args.from c.args.passed.now c.args.term.now anything c.in-Ap.head c.in-Ap.arg e c.requires.class).1 in
    search (rules, h)

pub function_of-requires : goal.function_of-requires
function_of-requires t c =
    let e : fn c.in-Function.part ≡ c.args.term.now = sym (ap pure_tree c.in-Function.is) ∙ c.form.ensures.is in
    omega (arith, ap depth c.in_ok-part-in-Function.ensures, renumbered_depth (c.args.from + 1) c.args.passed.now c.in-Function.part, ap depth e, c.requires.room)

pub ap_of-requires-clause-head_depth : goal.ap_of-requires-clause-head_depth
ap_of-requires-clause-head_depth t c =
    let e : apply_to c.in-Ap.head c.in-Ap.arg ≡ c.args.term.now = sym (ap pure_tree c.in-Ap.is) ∙ c.form.ensures.is in
    omega (arith, ap depth c.in_ok-head-in-Ap.ensures, renumbered_depth c.args.from c.args.passed.now c.in-Ap.head, ap depth e, c.requires.room)

pub ap_of-requires-clause-arg_depth : goal.ap_of-requires-clause-arg_depth
ap_of-requires-clause-arg_depth t c =
    let e : apply_to c.in-Ap.head c.in-Ap.arg ≡ c.args.term.now = sym (ap pure_tree c.in-Ap.is) ∙ c.form.ensures.is in
    omega (arith, ap depth c.in_ok-arg-in-Ap.ensures, renumbered_depth c.args.from c.args.passed.now c.in-Ap.arg, ap depth e, c.requires.room)

pub returns-in-Name : goal.returns-in-Name
returns-in-Name t c =
    let e : name c.in-Name.item ≡ c.args.term.now = sym (ap pure_tree c.in-Name.is) ∙ c.form.ensures.is in
    subst (λ z. IfOk c.name.result (λ (y : Tree). y ≡ z)) (name_is c.args.from c.args.passed.now c.args.term.now c.in-Name.item e) c.name.ensures

pub returns-in_ok-part-in-Function : goal.returns-in_ok-part-in-Function
returns-in_ok-part-in-Function t c =
    let e : fn c.in-Function.part ≡ c.args.term.now = sym (ap pure_tree c.in-Function.is) ∙ c.form.ensures.is in
    subst (λ z. IfOk c.function_of.result (λ (y : Tree). y ≡ z)) (ap fn c.in_ok-part-in-Function.ensures ∙ function_is c.args.from c.args.passed.now c.args.term.now c.in-Function.part e) c.function_of.ensures

pub returns-in_ok-arg-in-Ap : goal.returns-in_ok-arg-in-Ap
returns-in_ok-arg-in-Ap t c =
    let e : apply_to c.in-Ap.head c.in-Ap.arg ≡ c.args.term.now = sym (ap pure_tree c.in-Ap.is) ∙ c.form.ensures.is in
    subst (λ z. IfOk c.ap_of.result (λ (y : Tree). y ≡ z)) (ap₂ apply_to c.in_ok-head-in-Ap.ensures c.in_ok-arg-in-Ap.ensures ∙ apply_is c.args.from c.args.passed.now c.args.term.now c.in-Ap.head c.in-Ap.arg e) c.ap_of.ensures
