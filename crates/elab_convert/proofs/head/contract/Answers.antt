use Rattle.std.proofs.Common.{Err, [], ◌∷◌, ◌++◌, subst, sym}
use Rattle.cdle_model.specs.Forms.{fn}
use Rattle.elab_convert.specs.declared.side.Arg.TheVariants as a
use Rattle.elab_convert.specs.declared.side.Erased.TheVariants as e
use Rattle.elab_convert.specs.Heads.{IsMove}
use Rattle.elab_convert.proofs.Steps.{contracts_spent, contracts_to, contracts_not}
use Rattle.elab_convert.proofs.head.contract.Goals as goal

pub returns-then-not-take : goal.returns-then-not-take
returns-then-not-take c s xs = contracts_spent s c.args.body.now (a.OfPure c.args.arg.now) xs xs c.args.left.now.left c.take.new.self.left (c.take.ensures.none c.if-not-take.true)

pub returns-in-Ok : goal.returns-in-Ok
returns-in-Ok c s xs = contracts_to s c.args.body.now (a.OfPure c.args.arg.now) xs (e.Term c.in-Ok.term) c.args.left.now.left c.take.new.self.left (c.take.ensures.taken c.if-not-take.false) c.in-Ok.ensures

pub returns-in-Err : goal.returns-in-Err
returns-in-Err c s xs =
    subst (λ k. IsMove s (fn c.args.body.now) (xs ++ a.OfPure c.args.arg.now ∷ []) c.args.left.now.left xs c.take.new.self.left (Err k)) (sym c.from.ensures)
    (contracts_not s c.args.body.now (a.OfPure c.args.arg.now) xs xs c.args.left.now.left c.take.new.self.left c.in-Err.stop (c.take.ensures.taken c.if-not-take.false) c.in-Err.ensures)
