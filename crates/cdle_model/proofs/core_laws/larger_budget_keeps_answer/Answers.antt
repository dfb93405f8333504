use Rattle.cdle_model.proofs.LargerBudget.{head_form_more, compare_more}
use Rattle.cdle_model.proofs.CheckLargerBudget.{list-stays}
use Rattle.cdle_model.proofs.core_laws.larger_budget_keeps_answer.Goals as goal

pub returns : goal.returns
returns c = record { head_form = head_form_more; comparison = compare_more; list = list-stays }
