use Rattle.plan_model.proofs.Renamed.{cycle_back, cycle_forth, first_kept, orders_kept}
use Rattle.plan_model.proofs.laws.orders_are_kept_by_names.Goals as goal

pub returns : goal.returns
returns c = record { orders = orders_kept; first = first_kept; cycle = cycle_forth; cycle_back = cycle_back }
