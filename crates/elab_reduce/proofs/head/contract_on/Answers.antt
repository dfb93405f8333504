use Rattle.std.proofs.Common.{refl}
use Rattle.std.proofs.lemmas.Result.{err_from_is_err_and}
use Rattle.cdle_model.specs.Forms.{xtlam}
use Rattle.cdle_model.specs.Substitution.{put_written}
use Rattle.elab_tree.specs.declared.items.EArg.TheVariants.{OfType}
use Rattle.elab_reduce.proofs.Steps.{contracts_spent, contracts_stopped, contracts_to}
use Rattle.elab_reduce.proofs.head.contract_on.Goals as goal

pub returns-in_err-take : goal.returns-in_err-take
returns-in_err-take c u k xs =
    let p = err_from_is_err_and c.from_residual.result c.from_residual.ensures.1 in
    rw (p.1, p.2) (contracts_spent u (xtlam k c.args.body.now) (put_written 0 c.args.arg.now c.args.body.now) (OfType c.args.arg.now) refl xs xs c.args.budget.now.left c.take.new.self.left c.in_err-take.field-0.0 c.in_err-take.ensures.0 c.in_err-take.ensures.1)

pub returns-in_err-put_type : goal.returns-in_err-put_type
returns-in_err-put_type c u k xs =
    let p = err_from_is_err_and c.from_residual-in_err-put_type.result c.from_residual-in_err-put_type.ensures.1 in
    rw (p.1, p.2) (contracts_stopped u (xtlam k c.args.body.now) (put_written 0 c.args.arg.now c.args.body.now) (OfType c.args.arg.now) refl xs xs c.args.budget.now.left c.take.new.self.left c.in_err-put_type.field-0.0 c.in_ok-take.ensures c.in_err-put_type.ensures)

pub returns : goal.returns
returns c u k xs =
    contracts_to u (xtlam k c.args.body.now) (put_written 0 c.args.arg.now c.args.body.now) (OfType c.args.arg.now) refl xs c.in_ok-put_type.field-0 c.args.budget.now.left c.take.new.self.left c.in_ok-take.ensures c.in_ok-put_type.ensures
