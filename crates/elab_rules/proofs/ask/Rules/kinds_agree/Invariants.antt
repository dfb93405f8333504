use Rattle.std.proofs.Common.{◌≡◌, ◌-◌, drop, length}
use Rattle.elab_model.specs.Questions.{answer}
use Rattle.elab_reduce.specs.Items.{env_of}
use Rattle.scoped_tree.specs.Trees.{place}
use Rattle.elab_rules.specs.Contexts.{entries}
use Rattle.elab_rules.proofs.Closing.{agreeing}
use Rattle.elab_rules.proofs.ask.Rules.kinds_agree.Given as goal

abbrev pub invariant-unknowns : goal.invariant-unknowns
invariant-unknowns l =
    answer (env_of l.self.env.now) l.self.budget (agreeing l.self.env.now l.self.budget (place l.whole) (entries l.context) l.found (drop l.number l.found) (drop l.number l.kinds.items))
    ≡ answer (env_of l.self.env.now) l.self.budget (agreeing l.self.env.now l.self.budget (place l.whole) (entries l.context) l.found l.found l.kinds.items)

abbrev pub decreases-unknowns : goal.decreases-unknowns
decreases-unknowns l = length l.found - l.number
