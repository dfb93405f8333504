use Rattle.std.proofs.lemmas.Result.{err_from_is_err_and}
use Rattle.cdle_model.specs.Erasure.{erased}
use Rattle.cdle_model.specs.Trees.{put}
use Rattle.elab_model.specs.Questions.{ask_same, gives}
use Rattle.elab_rules.specs.Places.{spot}
use Rattle.scoped_tree.specs.Trees.{place}
use Rattle.elab_rules.proofs.Endings.{deep_on, deep_ends}
use Rattle.elab_rules.proofs.ask.Rules.is_said.Goals as goal

pub returns-in_err-said : goal.returns-in_err-said
returns-in_err-said c = let p = err_from_is_err_and c.from_residual.result c.from_residual.ensures.1 in rw (p.1, p.2) (deep_ends c.args.self.now.env.now c.args.self.now.budget (place c.args.form) (put 0 c.args.side.now c.args.guide.now) (λ y. ask_same (place c.args.form) (spot c.args.at) c.args.code (erased c.args.ty.now) y (gives (tt {0}))) _ c.in_err-said.ensures)

pub returns : goal.returns
returns c = deep_on c.args.self.now.env.now c.args.self.now.budget (place c.args.form) (put 0 c.args.side.now c.args.guide.now) _ (λ y. ask_same (place c.args.form) (spot c.args.at) c.args.code (erased c.args.ty.now) y (gives (tt {0}))) _ c.in_ok-said.ensures c.is_guide.ensures
