use Rattle.cdle_model.proofs.Examples.{spent_identity, spent_pair_by_eta, spent_argument_never_reached, spent_rho_plain, spent_rho_from_left, spent_doubled_0, spent_doubled_1, spent_doubled_2, spent_doubled_3, spent_rho_from_right, spent_other_type, spent_pair_of_other_parts, spent_delta_of_one_side, spent_growing, spent_endless}
use Rattle.cdle_model.proofs.core_examples.examples_are_spent.Goals as goal

pub returns : goal.returns
returns c = record {
  of_identity = spent_identity;
  of_pair_by_eta = spent_pair_by_eta;
  of_argument_never_reached = spent_argument_never_reached;
  of_rho_plain = spent_rho_plain;
  of_rho_from_left = spent_rho_from_left;
  of_doubled_0 = spent_doubled_0;
  of_doubled_1 = spent_doubled_1;
  of_doubled_2 = spent_doubled_2;
  of_doubled_3 = spent_doubled_3;
  of_rho_from_right = spent_rho_from_right;
  of_other_type = spent_other_type;
  of_pair_of_other_parts = spent_pair_of_other_parts;
  of_delta_of_one_side = spent_delta_of_one_side;
  of_growing = spent_growing;
  of_endless = spent_endless;
}
