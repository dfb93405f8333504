use Rattle.std.proofs.Common.{Option, ap, sym}
use Rattle.std.specs.Borrow.{Bor}
use Rattle.cdle_model.specs.Trees.{Tree, put}
use Rattle.elab_model.specs.Rules.{by_goal}
use Rattle.elab_rules.specs.Equations.{said_of}
use Rattle.scoped_tree.specs.Trees.{place}
use Rattle.elab_check.specs.Forms.{seen_goal}
use Rattle.elab_check.proofs.Chains.{along}
use Rattle.elab_check.proofs.rewrite.equation_of.Goals as goal

pub returns-in-Some : goal.returns-in-Some
returns-in-Some c = along c.args.rules.now.env.now c.args.rules.now.budget _ _ _ (ap (λ (z : Option (Bor Tree)). said_of (place c.args.form) (by_goal (seen_goal z) (put 0 c.args.side.now c.args.guide.now) (λ a. a)) c.args.guide.now c.args.side.now) (sym c.in-Some.is)) c.equation_against.ensures

pub returns-in-None : goal.returns-in-None
returns-in-None c = along c.args.rules.now.env.now c.args.rules.now.budget _ _ _ (ap (λ (z : Option (Bor Tree)). said_of (place c.args.form) (by_goal (seen_goal z) (put 0 c.args.side.now c.args.guide.now) (λ a. a)) c.args.guide.now c.args.side.now) (sym c.in-None.is)) c.equation_inferred.ensures
