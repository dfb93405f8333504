use Rattle.scope_model.proofs.OneScope.{either, never_both, one_scope, first_fault}
use Rattle.scope_model.proofs.scope_laws.module_is_scoped_or_faulty.Goals as goal

pub returns-clause-either : goal.returns-clause-either
returns-clause-either c = either

pub returns-clause-never_both : goal.returns-clause-never_both
returns-clause-never_both c = never_both

pub returns-clause-one_scope : goal.returns-clause-one_scope
returns-clause-one_scope c = one_scope

pub returns-clause-one_fault : goal.returns-clause-one_fault
returns-clause-one_fault c = first_fault
