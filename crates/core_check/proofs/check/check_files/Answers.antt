use Rattle.std.proofs.Common.{List, map, ap, subst, ◌∙◌}
use Rattle.cdle_model.specs.Forms.{Written}
use Rattle.core_check.specs.Answer.{IsAnswerAtSome}
use Rattle.core_check.specs.Items.{items_of}
use Rattle.core_check.proofs.Lists.{behind}
use Rattle.core_check.proofs.Verdicts.{derived, none, agrees}
use Rattle.core_check.proofs.check.check_files.Goals as goal

pub returns-clause-answer : goal.returns-clause-answer
returns-clause-answer c = subst (λ (ws : List Written). IsAnswerAtSome c.args.budget ws c.check_all.result) (ap (map behind) c.deref.ensures.value ∙ c.in_ok-items.ensures) c.check_all.ensures

pub returns-clause-derived : goal.returns-clause-derived
returns-clause-derived c = derived c.args.budget (items_of c.args.files.now.items) c.check_all.result c.requires.items (returns-clause-answer c)

pub returns-clause-none : goal.returns-clause-none
returns-clause-none c = none c.args.budget (items_of c.args.files.now.items) c.check_all.result c.requires.items (returns-clause-answer c)

pub returns-clause-so : goal.returns-clause-so
returns-clause-so c = agrees c.args.budget (items_of c.args.files.now.items) c.check_all.result (returns-clause-answer c)
