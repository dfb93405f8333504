use Rattle.std.proofs.Common.{refl}
use Rattle.std.proofs.lemmas.Result.{err_from_is_err_and}
use Rattle.cdle_model.specs.Check.{mismatch}
use Rattle.core_rules.proofs.Asked.{has_same, has_fault, has_not}
use Rattle.core_rules.proofs.Results.{no_memory}
use Rattle.core_rules.proofs.ask.Rules.compare_types.Goals as goal

pub returns-in_err-same : goal.returns-in_err-same
returns-in_err-same c = let p = err_from_is_err_and c.from_residual.result c.from_residual.ensures.1 in rw (p.1, p.2) (has_fault _ _ _ (mismatch c.args.found.now.tree c.args.wanted.now.tree) c.args.found.now.tree c.args.wanted.now.tree c.args.found.now c.args.wanted.now refl refl _ c.in_err-same.ensures)

pub returns-in_err-found : goal.returns-in_err-found
returns-in_err-found c = let p = err_from_is_err_and c.from_residual-in_err-found.result c.from_residual-in_err-found.ensures.1 in rw (p.1, p.2) (λ q. no_memory _ _ _)

pub returns-in_err-wanted : goal.returns-in_err-wanted
returns-in_err-wanted c = let p = err_from_is_err_and c.from_residual-in_err-wanted.result c.from_residual-in_err-wanted.ensures.1 in rw (p.1, p.2) (λ q. no_memory _ _ _)

pub returns-then-branch : goal.returns-then-branch
returns-then-branch c = has_same _ _ _ (mismatch c.args.found.now.tree c.args.wanted.now.tree) c.args.found.now.tree c.args.wanted.now.tree c.args.found.now c.args.wanted.now refl refl c.in_ok-same.field-0 c.if-branch.true c.in_ok-same.ensures

pub returns : goal.returns
returns c = has_not _ _ _ (mismatch c.args.found.now.tree c.args.wanted.now.tree) c.args.found.now.tree c.args.wanted.now.tree c.args.found.now c.args.wanted.now refl refl c.in_ok-same.field-0 c.if-branch.false c.in_ok-same.ensures c.refusal.result (c.refusal.ensures (mismatch c.args.found.now.tree c.args.wanted.now.tree) (c.in_ok-found.ensures, c.in_ok-wanted.ensures))
