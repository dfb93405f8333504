use Rattle.plan_model.proofs.Answered.{there, never_both, one_order, one_cycle}
use Rattle.plan_model.proofs.laws.modules_have_an_order_or_a_cycle.Goals as goal

pub returns : goal.returns
returns c = record { there = there; never_both = never_both; one_order = one_order; one_cycle = one_cycle }
