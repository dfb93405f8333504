use Rattle.cdle_model.specs.Erasure.{erased}
use Rattle.std.proofs.lemmas.Result.{err_from_is_err_and}
use Rattle.elab_model.specs.Questions.{ask_same, gives}
use Rattle.elab_model.specs.declared.codes.Code.TheVariants.{Mismatch}
use Rattle.scoped_tree.specs.Trees.{place}
use Rattle.elab_rules.specs.Contexts.{entries}
use Rattle.elab_rules.specs.Spines.{spine_of}
use Rattle.elab_rules.proofs.Closing.{closes_on, closes_ends}
use Rattle.elab_rules.proofs.ask.Rules.closed_against.Goals as goal

pub returns-in_err-found : goal.returns-in_err-found
returns-in_err-found c = let p = err_from_is_err_and c.from_residual.result c.from_residual.ensures.1 in rw (p.1, p.2) (closes_ends c.args.self.now.env.now c.args.self.now.budget (place c.args.whole) (entries c.args.context.now) (spine_of c.args.spine) (λ t b. ask_same (place c.args.whole) (place c.args.whole) Mismatch (erased b) (erased c.args.goal.now) (gives t)) _ c.in_err-found.ensures)

pub returns : goal.returns
returns c = closes_on c.args.self.now.env.now c.args.self.now.budget (place c.args.whole) (entries c.args.context.now) (spine_of c.args.spine) (λ t b. ask_same (place c.args.whole) (place c.args.whole) Mismatch (erased b) (erased c.args.goal.now) (gives t)) c.in_ok-found.found c.has_goal.result c.in_ok-found.ensures c.has_goal.ensures
