-- The examples: each answer is computed.
use Rattle.std.proofs.Common.{◌≡◌, codes, [], refl}
use native.Mathlib.Decide.{ℕ_discrete}
use Rattle.cdle_model.specs.Trees.{var, name}
use Rattle.cdle_model.specs.Forms.{star, pi, allt, on, lam, xlam, app, tapp, def_item}
use Rattle.elab_model.specs.declared.codes.Code.TheVariants.{AnnotationWanted, ArgumentLeftOpen, ErasedVariableUsed, Mismatch, NotTheTwoBooleans, PartsDiffer, SidesDiffer, WantedEquation, WantedFunction, WantedIntersection, WantedKind}
use Rattle.elab_model.specs.Questions.{found, rejected, spent_at}
use Rattle.elab_model.specs.Examples.{at_bytes, found_for, applied_variable, argument_left_open, doubled, endless, erased_variable_used, function_without_annotation, identity, left_out_argument, no_booleans, other_type, parts_that_differ, projected_variable, sides_that_differ, type_function_as_type, variable_as_equation, before_argument_left_open, before_doubled, before_left_out_argument}

pub of_identity : found_for [] 200000 identity ≡ found (def_item (codes "m.id") (allt star (pi (var 0) (var 1))) (xlam star (lam (var 0) (var 0))))
unfolding ℕ_discrete
of_identity = refl

pub of_left_out_argument : found_for before_left_out_argument 200000 left_out_argument ≡ found (def_item (codes "m.two") (allt star (pi (var 0) (var 1))) (xlam star (lam (var 0) (app (tapp (name 0) (var 1)) (var 0)))))
unfolding ℕ_discrete
of_left_out_argument = refl

pub of_argument_left_open : found_for before_argument_left_open 200000 argument_left_open ≡ rejected (at_bytes 119 122) ArgumentLeftOpen
unfolding ℕ_discrete
of_argument_left_open = refl

pub of_applied_variable : found_for [] 200000 applied_variable ≡ rejected (at_bytes 52 53) WantedFunction
unfolding ℕ_discrete
of_applied_variable = refl

pub of_projected_variable : found_for [] 200000 projected_variable ≡ rejected (at_bytes 52 53) WantedIntersection
unfolding ℕ_discrete
of_projected_variable = refl

pub of_variable_as_equation : found_for [] 200000 variable_as_equation ≡ rejected (at_bytes 55 56) WantedEquation
unfolding ℕ_discrete
of_variable_as_equation = refl

pub of_type_function_as_type : found_for [] 200000 type_function_as_type ≡ rejected (at_bytes 42 43) WantedKind
unfolding ℕ_discrete
of_type_function_as_type = refl

pub of_other_type : found_for [] 200000 other_type ≡ rejected (at_bytes 73 74) Mismatch
unfolding ℕ_discrete
of_other_type = refl

pub of_erased_variable_used : found_for [] 200000 erased_variable_used ≡ rejected (at_bytes 45 47) ErasedVariableUsed
unfolding ℕ_discrete
of_erased_variable_used = refl

pub of_parts_that_differ : found_for [] 200000 parts_that_differ ≡ rejected (at_bytes 77 78) PartsDiffer
unfolding ℕ_discrete
of_parts_that_differ = refl

pub of_no_booleans : found_for [] 200000 no_booleans ≡ rejected (at_bytes 39 41) NotTheTwoBooleans
unfolding ℕ_discrete
of_no_booleans = refl

pub of_sides_that_differ : found_for [] 200000 sides_that_differ ≡ rejected (at_bytes 49 51) SidesDiffer
unfolding ℕ_discrete
of_sides_that_differ = refl

pub of_function_without_annotation : found_for [] 200000 function_without_annotation ≡ rejected (at_bytes 53 55) AnnotationWanted
unfolding ℕ_discrete
of_function_without_annotation = refl

pub of_endless : found_for [] 50 endless ≡ spent_at (at_bytes 59 61)
unfolding ℕ_discrete
of_endless = refl

pub of_doubled : found_for before_doubled 13 doubled ≡ found (def_item (codes "m.a") (allt star (pi (on (name 0) (on (name 0) (var 0))) (pi (pi (var 1) (var 2)) (pi (var 2) (var 3))))) (xlam star (lam (on (name 0) (on (name 0) (var 0))) (var 0))))
unfolding ℕ_discrete
of_doubled = refl

pub of_doubled_spent : found_for before_doubled 12 doubled ≡ spent_at (at_bytes 123 124)
unfolding ℕ_discrete
of_doubled_spent = refl
