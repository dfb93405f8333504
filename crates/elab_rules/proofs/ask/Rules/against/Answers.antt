use Rattle.std.proofs.Common.{Ok, subst, sym}
use Rattle.elab_model.specs.Spines.{against as ends_against}
use Rattle.elab_reduce.specs.Items.{env_of}
use Rattle.scoped_tree.specs.Trees.{place}
use Rattle.elab_rules.specs.declared.spine.Made.{Made}
use Rattle.elab_rules.specs.Answers.{Meets}
use Rattle.elab_rules.specs.Contexts.{entries}
use Rattle.elab_rules.specs.Spines.{made_of}
use Rattle.elab_rules.proofs.Steps.{given}
use Rattle.elab_rules.proofs.ask.Rules.against.Goals as goal

pub returns-in-Checked : goal.returns-in-Checked
returns-in-Checked c = subst (λ (z : Made). Meets c.args.self.now.env.now c.args.self.now.budget (ends_against (env_of c.args.self.now.env.now) (place c.args.whole) (entries c.args.context.now) c.args.goal.now (made_of z)) (Ok c.in-Checked.term)) (sym c.in-Checked.is) (given c.args.self.now.env.now c.args.self.now.budget c.in-Checked.term)

pub returns-in-Inferred : goal.returns-in-Inferred
returns-in-Inferred c = subst (λ (z : Made). Meets c.args.self.now.env.now c.args.self.now.budget (ends_against (env_of c.args.self.now.env.now) (place c.args.whole) (entries c.args.context.now) c.args.goal.now (made_of z)) c.has_goal.result) (sym c.in-Inferred.is) c.has_goal.ensures

pub returns-in-Spine : goal.returns-in-Spine
returns-in-Spine c = subst (λ (z : Made). Meets c.args.self.now.env.now c.args.self.now.budget (ends_against (env_of c.args.self.now.env.now) (place c.args.whole) (entries c.args.context.now) c.args.goal.now (made_of z)) c.spine_against.result) (sym c.in-Spine.is) c.spine_against.ensures
