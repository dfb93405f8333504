use Rattle.std.proofs.Common.{◌+◌, not, sym, ap, ◌∙◌, arith}
use Rattle.std.proofs.lemmas.List.{drop_all}
use Rattle.elab_model.specs.Instances.{all_found}
use Rattle.elab_match.proofs.Finding.{found_none, found_more}
use Rattle.elab_match.proofs.solution.Solution.is_whole.Goals as goal

pub unknowns-init : goal.unknowns-init
unknowns-init c = ap all_found c.as_slice-ty-items.ensures

pub returns-then-is_none : goal.returns-then-is_none
returns-then-is_none c =
    sym (sym c.unknowns.invariant ∙ found_none c.as_slice-ty-items.result.now c.unknowns.ty-index c.ty-item.result c.unknowns-test.true c.ty-item.is (c.is_none.ensures ∙ ap not c.if-is_none.true))

pub unknowns-preserved : goal.unknowns-preserved
unknowns-preserved c =
    found_more c.as_slice-ty-items.result.now c.unknowns.ty-index (c.unknowns.ty-index + 1) c.ty-item.result (omega arith) c.unknowns-test.true c.ty-item.is (c.is_none.ensures ∙ ap not c.if-is_none.false)
    ∙ c.unknowns.invariant

pub returns : goal.returns
returns c =
    let l = c.unknowns-test.false in
    sym (ap all_found (drop_all c.unknowns.ty-index c.as_slice-ty-items.result.now (omega arith))) ∙ c.unknowns.invariant
