use Rattle.std.proofs.lemmas.Result.{err_from_is_err_and}
use Rattle.elab_model.specs.Spines.{refreshed}
use Rattle.scoped_tree.specs.Trees.{place}
use Rattle.elab_rules.specs.Spines.{spine_of}
use Rattle.elab_rules.proofs.Taking.{fits_goes, fits_ends}
use Rattle.elab_rules.proofs.ask.Rules.refreshed.Goals as goal

pub returns-in_err-found : goal.returns-in_err-found
returns-in_err-found c =
    let p = err_from_is_err_and c.from_residual.result c.from_residual.ensures.1 in rw (p.1, p.2) (fits_ends c.args.self.now.env.now c.args.self.now.budget (place c.args.whole) (place c.args.at) c.args.spine.found c.args.pattern.now c.args.target.now (refreshed (place c.args.whole) (spine_of c.args.spine)) _ c.in_err-found.ensures)

pub returns : goal.returns
returns c = fits_goes c.args.self.now.env.now c.args.self.now.budget (place c.args.whole) (place c.args.at) c.args.spine.found c.args.pattern.now c.args.target.now _ (refreshed (place c.args.whole) (spine_of c.args.spine)) _ c.in_ok-found.ensures c.solved.ensures
