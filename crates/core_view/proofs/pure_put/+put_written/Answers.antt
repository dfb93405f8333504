use Rattle.std.proofs.Common.{rules}
use Rattle.std.proofs.lemmas.Result.{err_from_is_err_and}
use Rattle.cdle_model.specs.Trees.{name, var}
use Rattle.cdle_model.specs.Forms.{fn}
use Rattle.cdle_model.specs.Classes.{with_use}
use Rattle.cdle_model.specs.Erasure.{erased}
use Rattle.core_tree.specs.Parts.{part_sort, part_tree}
use Rattle.core_view.proofs.Parts.{apply_fits, function_used}
use Rattle.core_view.proofs.Puts.{put_function, put_function_stops, put_apply, put_head_stops, put_arg_stops, put_name, put_identity}
use Rattle.core_view.proofs.pure_put.+put_written.Goals as goal

pub put_written-requires : goal.put_written-requires
put_written-requires t c =
    let h = function_used c.args.from c.args.passed.now (erased c.args.term.now) c.args.under (part_sort c.args.part.now) (erased c.in-Lam.inner.now) c.in-Lam.ensures.erasure c.requires.used in
    search (rules, h)

pub put_written-requires-in-App : goal.put_written-requires-in-App
put_written-requires-in-App t c =
    let h = (apply_fits c.args.from c.args.passed.now (erased c.args.term.now) (with_use (part_sort c.args.part.now) c.args.under) (erased c.in-App.head.now) (erased c.in-App.arg.now) c.in-App.ensures.erasure c.requires.used).0 in
    search (rules, h)

pub put_written-requires-in-App-2 : goal.put_written-requires-in-App-2
put_written-requires-in-App-2 t c =
    let h = (apply_fits c.args.from c.args.passed.now (erased c.args.term.now) (with_use (part_sort c.args.part.now) c.args.under) (erased c.in-App.head.now) (erased c.in-App.arg.now) c.in-App.ensures.erasure c.requires.used).1 in
    search (rules, h)

pub returns-in_err-inner-in-Lam : goal.returns-in_err-inner-in-Lam
returns-in_err-inner-in-Lam t c =
    let p = err_from_is_err_and c.from_residual.result c.from_residual.ensures.1 in
    rw (p.1, p.2) (put_function_stops c.args.from c.args.passed.now (erased c.args.term.now) c.args.under (part_tree c.args.part.now) (erased c.in-Lam.inner.now) _ c.in-Lam.ensures.erasure c.in_err-inner-in-Lam.ensures)

pub returns-in_err-head-in-App : goal.returns-in_err-head-in-App
returns-in_err-head-in-App t c =
    let p = err_from_is_err_and c.from_residual-in_err-head-in-App.result c.from_residual-in_err-head-in-App.ensures.1 in
    rw (p.1, p.2) (put_head_stops c.args.from c.args.passed.now (erased c.args.term.now) c.args.under (part_tree c.args.part.now) (erased c.in-App.head.now) (erased c.in-App.arg.now) _ c.in-App.ensures.erasure c.in_err-head-in-App.ensures)

pub returns-in_err-arg-in-App : goal.returns-in_err-arg-in-App
returns-in_err-arg-in-App t c =
    let p = err_from_is_err_and c.from_residual-in_err-arg-in-App.result c.from_residual-in_err-arg-in-App.ensures.1 in
    rw (p.1, p.2) (put_arg_stops c.args.from c.args.passed.now (erased c.args.term.now) c.args.under (part_tree c.args.part.now) (erased c.in-App.head.now) (erased c.in-App.arg.now) _ c.in-App.ensures.erasure c.in_err-arg-in-App.ensures)

pub returns-in-Name : goal.returns-in-Name
returns-in-Name t c =
    put_name c.args.from c.args.passed.now (erased c.args.term.now) c.args.under (part_tree c.args.part.now) c.in-Name.item c.shallow.result c.in-Name.ensures.erasure (c.shallow.ensures (name c.in-Name.item) c.name.ensures)

pub returns-in_ok-inner-in-Lam : goal.returns-in_ok-inner-in-Lam
returns-in_ok-inner-in-Lam t c =
    let y = c.in_ok-inner-in-Lam.inner in
    put_function c.args.from c.args.passed.now (erased c.args.term.now) c.args.under (part_tree c.args.part.now) (erased c.in-Lam.inner.now) y c.function_of.result c.in-Lam.ensures.erasure c.in_ok-inner-in-Lam.ensures c.function_of.ensures

pub returns-in_ok-arg-in-App : goal.returns-in_ok-arg-in-App
returns-in_ok-arg-in-App t c =
    let a = c.in_ok-head-in-App.head in
    let b = c.in_ok-arg-in-App.arg in
    put_apply c.args.from c.args.passed.now (erased c.args.term.now) c.args.under (part_tree c.args.part.now) (erased c.in-App.head.now) (erased c.in-App.arg.now) a b c.ap_of.result c.in-App.ensures.erasure c.in_ok-head-in-App.ensures c.in_ok-arg-in-App.ensures c.ap_of.ensures

pub returns-in-Identity : goal.returns-in-Identity
returns-in-Identity t c =
    put_identity c.args.from c.args.passed.now (erased c.args.term.now) c.args.under (part_tree c.args.part.now) c.shallow-in-Identity.result c.in-Identity.ensures.erasure (c.shallow-in-Identity.ensures (fn (var 0)) c.identity.ensures)
