use Rattle.std.proofs.lemmas.Result.{err_from_is_err_and}
use Rattle.elab_model.specs.Questions.{gives}
use Rattle.scoped_tree.specs.Trees.{place}
use Rattle.elab_rules.proofs.Endings.{low_on, low_ends}
use Rattle.elab_rules.proofs.Steps.{given}
use Rattle.elab_erase.proofs.guide.limited_guide.Goals as goal

pub returns-in_err-low : goal.returns-in_err-low
returns-in_err-low c = let p = err_from_is_err_and c.from_residual.result c.from_residual.ensures.1 in rw (p.1, p.2) (λ e n. low_ends e n (place c.args.form) c.args.guide c.depth.result (gives c.args.guide) _ c.depth.ensures.is c.in_err-low.ensures)

pub returns : goal.returns
returns c = λ e n. low_on e n (place c.args.form) c.args.guide c.depth.result (gives c.args.guide) _ c.depth.ensures.is c.in_ok-low.ensures (given e n c.args.guide)
