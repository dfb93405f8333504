use Rattle.std.proofs.Common.{◌≡◌, ◌≤◌, sym, ap, ◌∙◌, arith, rules}
use Rattle.std.proofs.lemmas.Result.{err_from_is_err_and}
use Rattle.cdle_model.specs.Trees.{name}
use Rattle.cdle_model.specs.Forms.{fn, ap as apply_to}
use Rattle.cdle_model.specs.Classes.{with_use}
use Rattle.cdle_model.specs.Depth.{free_bound}
use Rattle.core_tree.specs.Forms.{pure_tree}
use Rattle.core_tree.specs.Parts.{part_sort, part_tree}
use Rattle.core_view.specs.Passed.{renumbered}
use Rattle.core_view.proofs.Parts.{apply_fits, function_used}
use Rattle.core_view.proofs.Puts.{put_function, put_function_stops, put_apply, put_head_stops, put_arg_stops, put_name, put_spared}
use Rattle.core_view.proofs.pure_put.+put_built.Goals as goal

pub returns-then-spares : goal.returns-then-spares
returns-then-spares t c =
    let l : free_bound c.args.term.now ≤ c.args.under = omega arith in
    let e : renumbered c.args.from c.args.passed.now c.args.term.now ≡ c.args.term.now = search rules in
    put_spared c.args.from c.args.passed.now c.args.term.now c.args.under (part_tree c.args.part.now) c.shallow.result l e (c.shallow.ensures c.args.term.now c.again.ensures)

pub put_built-requires : goal.put_built-requires
put_built-requires t c =
    let e : fn c.in-Function.inner ≡ c.args.term.now = sym (ap pure_tree c.in-Function.is) ∙ c.form.ensures.is in
    let h = function_used c.args.from c.args.passed.now c.args.term.now c.args.under (part_sort c.args.part.now) c.in-Function.inner e c.requires.used in
    search (rules, h)

pub put_built-requires-in-Ap : goal.put_built-requires-in-Ap
put_built-requires-in-Ap t c =
    let e : apply_to c.in-Ap.head c.in-Ap.arg ≡ c.args.term.now = sym (ap pure_tree c.in-Ap.is) ∙ c.form.ensures.is in
    let h = (apply_fits c.args.from c.args.passed.now c.args.term.now (with_use (part_sort c.args.part.now) c.args.under) c.in-Ap.head c.in-Ap.arg e c.requires.used).0 in
    search (rules, h)

pub put_built-requires-in-Ap-2 : goal.put_built-requires-in-Ap-2
put_built-requires-in-Ap-2 t c =
    let e : apply_to c.in-Ap.head c.in-Ap.arg ≡ c.args.term.now = sym (ap pure_tree c.in-Ap.is) ∙ c.form.ensures.is in
    let h = (apply_fits c.args.from c.args.passed.now c.args.term.now (with_use (part_sort c.args.part.now) c.args.under) c.in-Ap.head c.in-Ap.arg e c.requires.used).1 in
    search (rules, h)

pub returns-in_err-inner-in-Function : goal.returns-in_err-inner-in-Function
returns-in_err-inner-in-Function t c =
    let e : fn c.in-Function.inner ≡ c.args.term.now = sym (ap pure_tree c.in-Function.is) ∙ c.form.ensures.is in
    let p = err_from_is_err_and c.from_residual.result c.from_residual.ensures.1 in
    rw (p.1, p.2) (put_function_stops c.args.from c.args.passed.now c.args.term.now c.args.under (part_tree c.args.part.now) c.in-Function.inner _ e c.in_err-inner-in-Function.ensures)

pub returns-in_err-head-in-Ap : goal.returns-in_err-head-in-Ap
returns-in_err-head-in-Ap t c =
    let e : apply_to c.in-Ap.head c.in-Ap.arg ≡ c.args.term.now = sym (ap pure_tree c.in-Ap.is) ∙ c.form.ensures.is in
    let p = err_from_is_err_and c.from_residual-in_err-head-in-Ap.result c.from_residual-in_err-head-in-Ap.ensures.1 in
    rw (p.1, p.2) (put_head_stops c.args.from c.args.passed.now c.args.term.now c.args.under (part_tree c.args.part.now) c.in-Ap.head c.in-Ap.arg _ e c.in_err-head-in-Ap.ensures)

pub returns-in_err-arg-in-Ap : goal.returns-in_err-arg-in-Ap
returns-in_err-arg-in-Ap t c =
    let e : apply_to c.in-Ap.head c.in-Ap.arg ≡ c.args.term.now = sym (ap pure_tree c.in-Ap.is) ∙ c.form.ensures.is in
    let p = err_from_is_err_and c.from_residual-in_err-arg-in-Ap.result c.from_residual-in_err-arg-in-Ap.ensures.1 in
    rw (p.1, p.2) (put_arg_stops c.args.from c.args.passed.now c.args.term.now c.args.under (part_tree c.args.part.now) c.in-Ap.head c.in-Ap.arg _ e c.in_err-arg-in-Ap.ensures)

pub returns-in-Name : goal.returns-in-Name
returns-in-Name t c =
    let e : name c.in-Name.item ≡ c.args.term.now = sym (ap pure_tree c.in-Name.is) ∙ c.form.ensures.is in
    put_name c.args.from c.args.passed.now c.args.term.now c.args.under (part_tree c.args.part.now) c.in-Name.item c.shallow-in-Name.result e (c.shallow-in-Name.ensures (name c.in-Name.item) c.name.ensures)

pub returns-in_ok-inner-in-Function : goal.returns-in_ok-inner-in-Function
returns-in_ok-inner-in-Function t c =
    let e : fn c.in-Function.inner ≡ c.args.term.now = sym (ap pure_tree c.in-Function.is) ∙ c.form.ensures.is in
    let y = c.in_ok-inner-in-Function.inner in
    put_function c.args.from c.args.passed.now c.args.term.now c.args.under (part_tree c.args.part.now) c.in-Function.inner y c.function_of.result e c.in_ok-inner-in-Function.ensures c.function_of.ensures

pub returns-in_ok-arg-in-Ap : goal.returns-in_ok-arg-in-Ap
returns-in_ok-arg-in-Ap t c =
    let e : apply_to c.in-Ap.head c.in-Ap.arg ≡ c.args.term.now = sym (ap pure_tree c.in-Ap.is) ∙ c.form.ensures.is in
    let a = c.in_ok-head-in-Ap.head in
    let b = c.in_ok-arg-in-Ap.arg in
    put_apply c.args.from c.args.passed.now c.args.term.now c.args.under (part_tree c.args.part.now) c.in-Ap.head c.in-Ap.arg a b c.ap_of.result e c.in_ok-head-in-Ap.ensures c.in_ok-arg-in-Ap.ensures c.ap_of.ensures
