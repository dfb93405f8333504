use Rattle.std.proofs.Common.{slice_get}
use Rattle.elab_model.specs.Spines.{known_of}
use Rattle.elab_reduce.specs.Items.{env_of}
use Rattle.scoped_tree.specs.Trees.{place}
use Rattle.elab_rules.proofs.KindsRead.{kind_is_known}
use Rattle.elab_rules.proofs.Steps.{no_memory}
use Rattle.elab_rules.proofs.ask.Rules.kind_of_item.Goals as goal

pub returns-in-Ok : goal.returns-in-Ok
returns-in-Ok c = kind_is_known c.args.self.now.env.now c.args.self.now.budget (place c.args.whole) (known_of (slice_get (env_of c.args.self.now.env.now).items c.args.item)) c.in-Ok.kind c.in-Ok.ensures

pub returns-in-Err : goal.returns-in-Err
returns-in-Err c = no_memory _ _ _
