use Rattle.std.proofs.lemmas.Result.{err_from_is_err_and}
use Rattle.elab_model.specs.Spines.{applied_at, refreshed}
use Rattle.scoped_tree.specs.Trees.{place}
use Rattle.elab_rules.specs.Spines.{binary_of, binder_of, spine_of}
use Rattle.elab_rules.proofs.Taking.{failed, fits_then_ends, fits_then_goes}
use Rattle.elab_rules.proofs.ask.Rules.takes_inferred.Goals as goal

pub returns-in_err-spine : goal.returns-in_err-spine
returns-in_err-spine c =
    let p = err_from_is_err_and c.from_residual.result c.from_residual.ensures.1 in failed c.args.self.now.env.now c.args.self.now.budget _ spine_of _ _ _ p.1 p.2 (fits_then_ends c.args.self.now.env.now c.args.self.now.budget (place c.args.whole) (place c.args.at)
    c.args.with.spine.found c.args.with.domain c.args.found.now.1 (refreshed (place c.args.whole) (spine_of c.args.with.spine))
    (applied_at (place c.args.whole) (binder_of c.args.argument) (binary_of c.args.argument) c.args.found.now.0) _ c.in_err-spine.ensures)

pub returns : goal.returns
returns c =
    fits_then_goes c.args.self.now.env.now c.args.self.now.budget (place c.args.whole) (place c.args.at) c.args.with.spine.found c.args.with.domain c.args.found.now.1
    (refreshed (place c.args.whole) (spine_of c.args.with.spine)) (applied_at (place c.args.whole) (binder_of c.args.argument) (binary_of c.args.argument) c.args.found.now.0) _ _
    c.in_ok-spine.ensures c.applied_at.ensures
