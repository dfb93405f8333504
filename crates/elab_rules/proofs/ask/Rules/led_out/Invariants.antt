use Rattle.std.proofs.Common.{◌≡◌, suc}
use Rattle.cdle_model.specs.HeadForms.{deepest}
use Rattle.elab_model.specs.Questions.{answer}
use Rattle.elab_model.specs.Spines.{leading_out}
use Rattle.elab_reduce.specs.Items.{env_of}
use Rattle.scoped_tree.specs.Trees.{place}
use Rattle.elab_rules.specs.Spines.{spine_of}
use Rattle.elab_rules.proofs.ask.Rules.led_out.Given as goal

abbrev pub invariant-leading : goal.invariant-leading
invariant-leading l =
    answer (env_of l.self.env.now) l.self.budget (leading_out (env_of l.self.env.now) l.left (place l.whole) (spine_of l.current))
    ≡ answer (env_of l.self.env.now) l.self.budget (leading_out (env_of l.self.env.now) (suc deepest) (place l.whole) (spine_of l.fn.spine))

abbrev pub decreases-leading : goal.decreases-leading
decreases-leading l = l.left
