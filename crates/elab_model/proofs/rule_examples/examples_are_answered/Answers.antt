use Rattle.elab_model.proofs.Examples.{of_identity, of_left_out_argument, of_argument_left_open, of_applied_variable, of_projected_variable, of_variable_as_equation, of_type_function_as_type, of_other_type, of_erased_variable_used, of_parts_that_differ, of_no_booleans, of_sides_that_differ, of_function_without_annotation, of_endless, of_doubled, of_doubled_spent}
use Rattle.elab_model.proofs.rule_examples.examples_are_answered.Goals as goal

pub returns : goal.returns
returns c = record { of_identity = of_identity; of_left_out_argument = of_left_out_argument; of_argument_left_open = of_argument_left_open; of_applied_variable = of_applied_variable; of_projected_variable = of_projected_variable; of_variable_as_equation = of_variable_as_equation; of_type_function_as_type = of_type_function_as_type; of_other_type = of_other_type; of_erased_variable_used = of_erased_variable_used; of_parts_that_differ = of_parts_that_differ; of_no_booleans = of_no_booleans; of_sides_that_differ = of_sides_that_differ; of_function_without_annotation = of_function_without_annotation; of_endless = of_endless; of_doubled = of_doubled; of_doubled_spent = of_doubled_spent }
