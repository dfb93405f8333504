use Rattle.std.proofs.Common.{◌≡◌, ap, subst, sym}
use Rattle.std.proofs.lemmas.Result.{err_from_is_err_and}
use Rattle.cdle_model.specs.Trees.{Tree}
use Rattle.cdle_model.specs.Classes.{item_sorts, pure_terms}
use Rattle.cdle_model.specs.Erasure.{erased}
use Rattle.core_compare.specs.Answers.{ArePlaced}
use Rattle.core_reduce.specs.Sides.{Sided}
use Rattle.core_rules.proofs.Results.{no_memory, passes_both}
use Rattle.core_rules.proofs.ask.Rules.are_cast.Goals as goal

pub same_in_phi-requires-clause-placed : goal.same_in_phi-requires-clause-placed
same_in_phi-requires-clause-placed c =
    subst (λ (z : Tree). ArePlaced 4200000000 (item_sorts c.args.self.now.items.now) pure_terms c.args.sides.now.0.tree z) (sym (ap (λ (z : Sided). z.tree) c.in_ok-part.ensures)) c.requires.placed

pub same_in_phi-requires-2-clause-placed : goal.same_in_phi-requires-2-clause-placed
same_in_phi-requires-2-clause-placed c =
    subst (λ (z : Tree). ArePlaced 4200000000 (item_sorts c.args.self.now.items.now) pure_terms c.args.sides.now.1.tree z) (sym (ap (λ (z : Sided). z.tree) c.in_ok-kept.ensures)) c.requires.kept

pub returns-in_err-part : goal.returns-in_err-part
returns-in_err-part c = let p = err_from_is_err_and c.from_residual.result c.from_residual.ensures.1 in rw (p.1, p.2) (λ q. no_memory _ _ _)

pub returns-in_err-kept : goal.returns-in_err-kept
returns-in_err-kept c = let p = err_from_is_err_and c.from_residual-in_err-kept.result c.from_residual-in_err-kept.ensures.1 in rw (p.1, p.2) (λ q. no_memory _ _ _)

pub returns-in_err-same_in_phi : goal.returns-in_err-same_in_phi
returns-in_err-same_in_phi c =
    let p = err_from_is_err_and c.from_residual-in_err-same_in_phi.result c.from_residual-in_err-same_in_phi.ensures.1 in
    let e : c.in_ok-part.part.tree ≡ erased c.args.part.now = ap (λ (z : Sided). z.tree) c.in_ok-part.ensures in
    rw (p.1, p.2) (rw (← e) (λ q. c.in_err-same_in_phi.ensures _))

pub returns : goal.returns
returns c =
    let e : c.in_ok-part.part.tree ≡ erased c.args.part.now = ap (λ (z : Sided). z.tree) c.in_ok-part.ensures in
    let f : c.in_ok-kept.kept.tree ≡ c.args.kept.now = ap (λ (z : Sided). z.tree) c.in_ok-kept.ensures in
    rw (← e, ← f) (passes_both _ _ _ _ c.same_in_phi-2.result c.in_ok-same_in_phi.ensures c.same_in_phi-2.ensures)
