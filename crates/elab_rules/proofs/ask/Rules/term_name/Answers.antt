use Rattle.std.proofs.Common.{sym, subst}
use Rattle.elab_model.specs.Rules.{term_name}
use Rattle.elab_reduce.specs.Items.{env_of}
use Rattle.elab_rules.specs.Contexts.{entries}
use Rattle.elab_rules.specs.Spines.{MeetsMade}
use Rattle.scoped_tree.specs.Trees.{place, reference}
use Rattle.elab_rules.proofs.Steps.{no_memory}
use Rattle.elab_rules.proofs.ask.Rules.term_name.Goals as goal

pub returns-in-Variable : goal.returns-in-Variable
returns-in-Variable c f = subst (λ z. MeetsMade c.args.self.now.env.now c.args.self.now.budget (term_name (env_of c.args.self.now.env.now) f (place c.args.form) (entries c.args.context.now) (reference z)) c.variable.result) (sym c.in-Variable.is) c.variable.ensures

pub returns-in-Item : goal.returns-in-Item
returns-in-Item c f = subst (λ z. MeetsMade c.args.self.now.env.now c.args.self.now.budget (term_name (env_of c.args.self.now.env.now) f (place c.args.form) (entries c.args.context.now) (reference z)) c.item.result) (sym c.in-Item.is) c.item.ensures

pub returns-in-Cast : goal.returns-in-Cast
returns-in-Cast c f = no_memory _ _ _
