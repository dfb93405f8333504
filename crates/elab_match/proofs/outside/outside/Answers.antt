use Rattle.std.proofs.Common.{◌-◌, sym, ◌∙◌, arith}
use Rattle.elab_match.proofs.Lowered.{outside-next}
use Rattle.elab_match.proofs.outside.outside.Goals as goal

pub binders-preserved : goal.binders-preserved
binders-preserved c =
    let l = c.binders-test.true in
    sym (outside-next c.binders.left (c.binders.left - 1) c.binders.outer c.in-Some.lower (omega arith) (sym c.in_ok-lower.ensures ∙ c.in-Some.is)) ∙ c.binders.invariant
