use Rattle.std.proofs.Common.{◌≡◌, sym, subst, ◌∙◌}
use Rattle.std.proofs.lemmas.Result.{err_from_is_err_and}
use Rattle.cdle_model.specs.Trees.{Tree}
use Rattle.elab_model.specs.Spines.{fits_then, refreshed}
use Rattle.scoped_tree.specs.Trees.{place}
use Rattle.elab_rules.specs.Spines.{MeetsSpine, spine_of}
use Rattle.elab_rules.proofs.Steps.{given, no_memory}
use Rattle.elab_rules.proofs.ask.Rules.matched.Goals as goal

pub returns-then-is_whole : goal.returns-then-is_whole
returns-then-is_whole c = rw (sym c.is_whole.ensures ∙ c.if-is_whole.true) (given c.args.self.now.env.now c.args.self.now.budget (spine_of c.args.spine))

pub returns-in_err-pattern : goal.returns-in_err-pattern
returns-in_err-pattern c = let p = err_from_is_err_and c.from_residual.result c.from_residual.ensures.1 in rw (p.1, p.2) (no_memory _ _ _)

pub returns : goal.returns
returns c =
    let e : c.in_ok-pattern.pattern ≡ c.args.spine.ty = c.in_ok-pattern.ensures.cases in
    rw (sym c.is_whole.ensures ∙ c.if-is_whole.false)
    (subst (λ (z : Tree). MeetsSpine c.args.self.now.env.now c.args.self.now.budget (fits_then (place c.args.whole) (place c.args.whole) c.args.spine.found z c.args.goal.now (refreshed (place c.args.whole) (spine_of c.args.spine))) c.refreshed.result) e c.refreshed.ensures)
