use Rattle.std.proofs.Common.{sym, subst}
use Rattle.elab_rules.specs.Endings.{abstraction}
use Rattle.elab_rules.specs.Spines.{MeetsMade}
use Rattle.scoped_tree.specs.Trees.{place}
use Rattle.elab_rules.proofs.ask.Rules.abstraction.Goals as goal

pub returns-in-Kept : goal.returns-in-Kept
returns-in-Kept c = subst (λ z. MeetsMade c.args.self.now.env.now c.args.self.now.budget (abstraction z (place c.args.form) c.args.domain.now c.args.body.now) c.kept_abstraction.result) (sym c.in-Kept.is) c.kept_abstraction.ensures

pub returns-in-Erased : goal.returns-in-Erased
returns-in-Erased c = subst (λ z. MeetsMade c.args.self.now.env.now c.args.self.now.budget (abstraction z (place c.args.form) c.args.domain.now c.args.body.now) c.erased_abstraction.result) (sym c.in-Erased.is) c.erased_abstraction.ensures
