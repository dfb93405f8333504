use Rattle.std.proofs.Common.{refl}
use Rattle.std.proofs.lemmas.Result.{err_from_is_err_and}
use Rattle.cdle_model.specs.Forms.{tlam}
use Rattle.cdle_model.specs.Substitution.{put_written}
use Rattle.elab_tree.specs.declared.items.EArg.TheVariants.{Term}
use Rattle.elab_reduce.proofs.Steps.{contracts_spent, contracts_stopped, contracts_to}
use Rattle.elab_reduce.proofs.head.contract_at.Goals as goal

pub returns-in_err-take : goal.returns-in_err-take
returns-in_err-take c u a xs =
    let p = err_from_is_err_and c.from_residual.result c.from_residual.ensures.1 in
    rw (p.1, p.2) (contracts_spent u (tlam a c.args.body.now) (put_written 0 c.args.arg.now c.args.body.now) (Term c.args.arg.now) refl xs xs c.args.budget.now.left c.take.new.self.left c.in_err-take.field-0.0 c.in_err-take.ensures.0 c.in_err-take.ensures.1)

pub returns-in_err-put_term : goal.returns-in_err-put_term
returns-in_err-put_term c u a xs =
    let p = err_from_is_err_and c.from_residual-in_err-put_term.result c.from_residual-in_err-put_term.ensures.1 in
    rw (p.1, p.2) (contracts_stopped u (tlam a c.args.body.now) (put_written 0 c.args.arg.now c.args.body.now) (Term c.args.arg.now) refl xs xs c.args.budget.now.left c.take.new.self.left c.in_err-put_term.field-0.0 c.in_ok-take.ensures c.in_err-put_term.ensures)

pub returns : goal.returns
returns c u a xs =
    contracts_to u (tlam a c.args.body.now) (put_written 0 c.args.arg.now c.args.body.now) (Term c.args.arg.now) refl xs c.in_ok-put_term.field-0 c.args.budget.now.left c.take.new.self.left c.in_ok-take.ensures c.in_ok-put_term.ensures
