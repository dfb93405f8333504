use Rattle.std.proofs.lemmas.Result.{err_from_is_err_and}
use Rattle.elab_model.specs.declared.codes.Code.TheVariants.{Mismatch}
use Rattle.scoped_tree.specs.Trees.{place}
use Rattle.elab_rules.proofs.Endings.{said_on, said_ends}
use Rattle.elab_rules.proofs.ask.Rules.rewritten_from.Goals as goal

pub returns-in_err-is_said : goal.returns-in_err-is_said
returns-in_err-is_said c = let p = err_from_is_err_and c.from_residual.result c.from_residual.ensures.1 in rw (p.1, p.2) (said_ends c.args.self.now.env.now c.args.self.now.budget (place c.args.form) (place c.args.at) Mismatch c.args.part.now.1 c.args.guide.now c.args.proof.now.1.1 _ _ c.in_err-is_said.ensures)

pub returns : goal.returns
returns c = said_on c.args.self.now.env.now c.args.self.now.budget (place c.args.form) (place c.args.at) Mismatch c.args.part.now.1 c.args.guide.now c.args.proof.now.1.1 _ _ c.in_ok-is_said.ensures c.rewritten_against.ensures
