use Rattle.cdle_model.specs.Derivation.{entry}
use Rattle.scoped_tree.specs.Trees.{place}
use Rattle.elab_rules.specs.Contexts.{entries}
use Rattle.elab_rules.proofs.KindsRead.{kind_is_known}
use Rattle.elab_rules.proofs.Steps.{no_memory}
use Rattle.elab_rules.proofs.ask.Rules.kind_of_variable.Goals as goal

pub returns-in-Ok : goal.returns-in-Ok
returns-in-Ok c = kind_is_known c.args.self.now.env.now c.args.self.now.budget (place c.args.whole) (entry (entries c.args.context.now) c.args.index) c.in-Ok.kind c.in-Ok.ensures

pub returns-in-Err : goal.returns-in-Err
returns-in-Err c = no_memory _ _ _
