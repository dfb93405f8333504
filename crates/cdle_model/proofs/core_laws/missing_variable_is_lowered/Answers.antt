use Rattle.cdle_model.proofs.MissingVariable.{lacks-raised, lacks-lowered, raised-lacks}
use Rattle.cdle_model.proofs.core_laws.missing_variable_is_lowered.Goals as goal

pub returns : goal.returns
returns c = record { lowered = lacks-lowered; raised = lacks-raised; missing = raised-lacks }
