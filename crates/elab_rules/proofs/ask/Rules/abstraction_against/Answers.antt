use Rattle.std.proofs.Common.{sym, subst}
use Rattle.elab_rules.specs.Endings.{abstraction_against}
use Rattle.elab_rules.specs.Spines.{MeetsMade}
use Rattle.scoped_tree.specs.Trees.{place}
use Rattle.elab_rules.proofs.ask.Rules.abstraction_against.Goals as goal

pub returns-in-Kept : goal.returns-in-Kept
returns-in-Kept c = subst (λ z. MeetsMade c.args.self.now.env.now c.args.self.now.budget (abstraction_against z (place c.args.form) c.args.domain.now c.args.body.now) c.checked_abstraction.result) (sym c.in-Kept.is) c.checked_abstraction.ensures

pub returns-in-Erased : goal.returns-in-Erased
returns-in-Erased c = subst (λ z. MeetsMade c.args.self.now.env.now c.args.self.now.budget (abstraction_against z (place c.args.form) c.args.domain.now c.args.body.now) c.checked_erased_abstraction.result) (sym c.in-Erased.is) c.checked_erased_abstraction.ensures
