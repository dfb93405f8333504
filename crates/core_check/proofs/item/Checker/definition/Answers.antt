use Rattle.std.proofs.Common.{◌∷◌, [], ap, subst, arith}
use Rattle.std.proofs.lemmas.Result.{err_from_is_err_and}
use Rattle.cdle_model.specs.Trees.{Tree}
use Rattle.cdle_model.specs.Classes.{guides, item_sorts, types}
use Rattle.cdle_model.specs.Erasure.{erased}
use Rattle.cdle_model.specs.Check.{ask_same, finds, mismatch}
use Rattle.core_reduce.specs.Sides.{Sided}
use Rattle.core_rules.specs.Questions.{Passes}
use Rattle.core_rules.proofs.Results.{finds_meets, no_memory}
use Rattle.core_check.proofs.Placed.{both_placed, erased_fit}
use Rattle.core_check.proofs.Verdicts.{item_meets}
use Rattle.core_check.proofs.item.Checker.definition.Goals as goal

pub returns-in_err-is_type-clause-meets : goal.returns-in_err-is_type-clause-meets
returns-in_err-is_type-clause-meets c x = let p = err_from_is_err_and c.from_residual.result c.from_residual.ensures.1 in rw (p.1, p.2) (c.in_err-is_type.ensures.passes _)

pub returns-in_err-found-clause-meets : goal.returns-in_err-found-clause-meets
returns-in_err-found-clause-meets c x =
    let p = err_from_is_err_and c.from_residual-in_err-found.result c.from_residual-in_err-found.ensures.1 in rw (p.1, p.2) (c.in_ok-is_type.ensures.passes _ _ (c.in_err-found.ensures.finds _))

pub returns-in_err-wanted-clause-meets : goal.returns-in_err-wanted-clause-meets
returns-in_err-wanted-clause-meets c x = let p = err_from_is_err_and c.from_residual-in_err-wanted.result c.from_residual-in_err-wanted.ensures.1 in rw (p.1, p.2) (no_memory _ _ _)

pub type_is_side-requires-clause-placed : goal.type_is_side-requires-clause-placed
type_is_side-requires-clause-placed c =
    both_placed [] (item_sorts c.args.self.now.rules.items.now) (omega arith) guides c.in_ok-found.found c.in_ok-wanted.wanted.tree c.in_ok-found.ensures.fits
    (erased_fit [] (item_sorts c.args.self.now.rules.items.now) types c.args.ty.now c.in_ok-wanted.wanted.tree c.requires.ty_fits c.in_ok-is_type.ensures.erasure (ap (λ (z : Sided). z.tree) c.in_ok-wanted.ensures))

pub returns-clause-meets : goal.returns-clause-meets
returns-clause-meets c x =
    item_meets c.args.self.now.rules.items.now c.args.self.now.rules.budget _ (finds (erased c.args.ty.now)) (ask_same (2 ∷ []) (mismatch c.in_ok-found.found (erased c.args.ty.now)) c.in_ok-found.found (erased c.args.ty.now)) c.type_is_side.result (erased c.args.ty.now)
    (λ r h. c.in_ok-is_type.ensures.passes _ r (c.in_ok-found.ensures.finds _ r h)) (finds_meets _ _ _)
    (subst (λ (z : Tree). Passes c.args.self.now.rules.items.now c.args.self.now.rules.budget (ask_same (2 ∷ []) (mismatch c.in_ok-found.found z) c.in_ok-found.found z) c.type_is_side.result) (ap (λ (z : Sided). z.tree) c.in_ok-wanted.ensures) c.type_is_side.ensures)
