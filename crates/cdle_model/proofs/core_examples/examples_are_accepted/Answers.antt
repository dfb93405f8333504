use Rattle.cdle_model.proofs.Examples.{accepted_identity, accepted_pair_by_eta, accepted_argument_never_reached, accepted_rho_plain, accepted_rho_from_left, accepted_doubled_0, accepted_doubled_1, accepted_doubled_2, accepted_doubled_3}
use Rattle.cdle_model.proofs.core_examples.examples_are_accepted.Goals as goal

pub returns : goal.returns
returns c = record {
  of_identity = accepted_identity;
  of_pair_by_eta = accepted_pair_by_eta;
  of_argument_never_reached = accepted_argument_never_reached;
  of_rho_plain = accepted_rho_plain;
  of_rho_from_left = accepted_rho_from_left;
  of_doubled_0 = accepted_doubled_0;
  of_doubled_1 = accepted_doubled_1;
  of_doubled_2 = accepted_doubled_2;
  of_doubled_3 = accepted_doubled_3;
}
