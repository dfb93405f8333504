use Rattle.std.proofs.Common.{suc}
use Rattle.cdle_model.specs.HeadForms.{deepest}
use Rattle.scoped_tree.specs.Trees.{place}
use Rattle.elab_rules.specs.Spines.{spine_of}
use Rattle.elab_rules.proofs.Brought.{Toward}
use Rattle.elab_rules.proofs.ask.Rules.brought.Given as goal

abbrev pub invariant-turns : goal.invariant-turns
invariant-turns l = Toward l.self.env.now l.self.budget (place l.whole) l.typed l.left (spine_of l.so_far) (suc deepest) (spine_of l.fn.spine)

abbrev pub decreases-turns : goal.decreases-turns
decreases-turns l = l.left
