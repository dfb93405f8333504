use Rattle.std.proofs.Common.{◌∷◌, [], Some, ap, subst, arith}
use Rattle.std.proofs.lemmas.Result.{err_from_is_err_and}
use Rattle.cdle_model.specs.Trees.{Tree}
use Rattle.cdle_model.specs.Classes.{guide_kinds, item_sorts, kinds}
use Rattle.cdle_model.specs.Erasure.{erased}
use Rattle.cdle_model.specs.Check.{ask_same, finds, wrong_kind}
use Rattle.core_reduce.specs.Sides.{Sided}
use Rattle.core_rules.specs.Questions.{Passes}
use Rattle.core_rules.proofs.Results.{finds_meets, no_memory}
use Rattle.core_check.proofs.Placed.{both_placed, erased_fit}
use Rattle.core_check.proofs.Verdicts.{item_meets}
use Rattle.core_check.proofs.item.Checker.type_definition.Goals as goal

pub returns-in_err-is_kind-clause-meets : goal.returns-in_err-is_kind-clause-meets
returns-in_err-is_kind-clause-meets c x = let p = err_from_is_err_and c.from_residual.result c.from_residual.ensures.1 in rw (p.1, p.2) (c.in_err-is_kind.ensures.passes _)

pub returns-in_err-found-clause-meets : goal.returns-in_err-found-clause-meets
returns-in_err-found-clause-meets c x =
    let p = err_from_is_err_and c.from_residual-in_err-found.result c.from_residual-in_err-found.ensures.1 in rw (p.1, p.2) (c.in_ok-is_kind.ensures.passes _ _ (c.in_err-found.ensures.finds _))

pub returns-in_err-wanted-clause-meets : goal.returns-in_err-wanted-clause-meets
returns-in_err-wanted-clause-meets c x = let p = err_from_is_err_and c.from_residual-in_err-wanted.result c.from_residual-in_err-wanted.ensures.1 in rw (p.1, p.2) (no_memory _ _ _)

pub kind_is_side-requires-clause-placed : goal.kind_is_side-requires-clause-placed
kind_is_side-requires-clause-placed c =
    both_placed [] (item_sorts c.args.self.now.rules.items.now) (omega arith) guide_kinds c.in_ok-found.found c.in_ok-wanted.wanted.tree c.in_ok-found.ensures.fits
    (erased_fit [] (item_sorts c.args.self.now.rules.items.now) kinds c.args.kind.now c.in_ok-wanted.wanted.tree c.requires.kind_fits c.in_ok-is_kind.ensures.erasure (ap (λ (z : Sided). z.tree) c.in_ok-wanted.ensures))

pub returns-clause-meets : goal.returns-clause-meets
returns-clause-meets c x =
    item_meets c.args.self.now.rules.items.now c.args.self.now.rules.budget _ (finds (erased c.args.kind.now)) (ask_same (2 ∷ []) (wrong_kind c.in_ok-found.found (Some (erased c.args.kind.now))) c.in_ok-found.found (erased c.args.kind.now)) c.kind_is_side.result (erased c.args.kind.now)
    (λ r h. c.in_ok-is_kind.ensures.passes _ r (c.in_ok-found.ensures.finds _ r h)) (finds_meets _ _ _)
    (subst (λ (z : Tree). Passes c.args.self.now.rules.items.now c.args.self.now.rules.budget (ask_same (2 ∷ []) (wrong_kind c.in_ok-found.found (Some z)) c.in_ok-found.found z) c.kind_is_side.result) (ap (λ (z : Sided). z.tree) c.in_ok-wanted.ensures) c.kind_is_side.ensures)
