use Rattle.std.proofs.Common.{Option, ap, sym}
use Rattle.std.specs.Borrow.{Bor}
use Rattle.cdle_model.specs.Trees.{Tree}
use Rattle.cdle_model.specs.Forms.{rho}
use Rattle.elab_model.specs.Rules.{by_goal, gives_checked, gives_inferred}
use Rattle.scoped_tree.specs.Trees.{place}
use Rattle.elab_check.specs.Forms.{seen_goal}
use Rattle.elab_check.proofs.Chains.{along}
use Rattle.elab_check.proofs.rewrite.rewritten.Goals as goal

pub returns-in-Some : goal.returns-in-Some
returns-in-Some c = along c.args.rules.now.env.now c.args.rules.now.budget _ _ _ (ap (λ (z : Option (Bor Tree)). by_goal (seen_goal z) (gives_inferred (place c.args.form) (rho c.args.proof.now.0 c.args.guide.now c.args.ty.now c.args.part.now) c.args.ty.now) (λ a. gives_checked (place c.args.form) (rho c.args.proof.now.0 c.args.guide.now a c.args.part.now))) (sym c.in-Some.is)) c.rewritten_against.ensures

pub returns-in-None : goal.returns-in-None
returns-in-None c = along c.args.rules.now.env.now c.args.rules.now.budget _ _ _ (ap (λ (z : Option (Bor Tree)). by_goal (seen_goal z) (gives_inferred (place c.args.form) (rho c.args.proof.now.0 c.args.guide.now c.args.ty.now c.args.part.now) c.args.ty.now) (λ a. gives_checked (place c.args.form) (rho c.args.proof.now.0 c.args.guide.now a c.args.part.now))) (sym c.in-None.is)) c.rewritten.ensures
