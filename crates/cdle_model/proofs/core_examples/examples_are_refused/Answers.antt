use Rattle.cdle_model.proofs.Examples.{refused_repeated_file, refused_erased_variable_used, refused_erased_variable_in_kept_part, refused_rho_from_right, refused_applied_variable, refused_projected_variable, refused_variable_as_equation, refused_type_of_wrong_kind, refused_other_type, refused_pair_of_other_parts, refused_delta_of_one_side}
use Rattle.cdle_model.proofs.core_examples.examples_are_refused.Goals as goal

pub returns : goal.returns
returns c = record {
  of_repeated_file = refused_repeated_file;
  of_erased_variable_used = refused_erased_variable_used;
  of_erased_variable_in_kept_part = refused_erased_variable_in_kept_part;
  of_rho_from_right = refused_rho_from_right;
  of_applied_variable = refused_applied_variable;
  of_projected_variable = refused_projected_variable;
  of_variable_as_equation = refused_variable_as_equation;
  of_type_of_wrong_kind = refused_type_of_wrong_kind;
  of_other_type = refused_other_type;
  of_pair_of_other_parts = refused_pair_of_other_parts;
  of_delta_of_one_side = refused_delta_of_one_side;
}
