use Rattle.std.proofs.Common.{arith}
use Rattle.std.proofs.lemmas.Result.{err_from_is_err_and}
use Rattle.elab_reduce.proofs.Steps.{unfolds_spent, unfolds_to}
use Rattle.elab_reduce.proofs.head.unfold.Goals as goal

pub returns-in_err-take : goal.returns-in_err-take
returns-in_err-take c u n xs e =
    let p = err_from_is_err_and c.from_residual.result c.from_residual.ensures.1 in
    rw (p.1, p.2) (unfolds_spent u n xs xs c.args.body.now c.args.budget.now.left c.take.new.self.left c.in_err-take.field-0.0 e c.in_err-take.ensures.0 c.in_err-take.ensures.1)

pub returns : goal.returns
returns c u n xs e =
    unfolds_to u n xs c.args.body.now c.in_ok-clone.field-0 c.args.budget.now.left c.take.new.self.left e c.in_ok-clone.ensures.cases (omega (arith, c.form.ensures.bounded)) c.in_ok-take.ensures
