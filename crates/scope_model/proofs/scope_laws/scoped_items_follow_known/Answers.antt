use Rattle.scope_model.proofs.ItemsNamed.{module_named, module_first, module_sorted}
use Rattle.scope_model.proofs.scope_laws.scoped_items_follow_known.Goals as goal

pub returns-clause-names : goal.returns-clause-names
returns-clause-names c = module_named

pub returns-clause-first : goal.returns-clause-first
returns-clause-first c = module_first

pub returns-clause-sorts : goal.returns-clause-sorts
returns-clause-sorts c = module_sorted
