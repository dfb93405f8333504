use Rattle.cdle_model.proofs.Undecided.{undecided-spent, spent-undecided}
use Rattle.cdle_model.proofs.core_laws.undecided_is_spent.Goals as goal

pub returns : goal.returns
returns c = record { undecided = undecided-spent; at_spent = spent-undecided }
