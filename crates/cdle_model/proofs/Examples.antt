-- The plain check on the examples: each answer is computed.
use Rattle.std.proofs.Common.{◌≡◌, ℕ, zero, suc, [], ◌∷◌, Some, refl}
use native.Mathlib.Decide.{ℕ_discrete}
use Rattle.cdle_model.specs.Trees.{var}
use Rattle.cdle_model.specs.Forms.{star, kpit, pi, allt, eq, fn, app, fst, phi}
use Rattle.cdle_model.specs.HeadForms.{deep}
use Rattle.cdle_model.specs.Machine.{spent, run}
use Rattle.cdle_model.specs.Comparison.{taken, move}
use Rattle.cdle_model.specs.Check.{not_a_function, not_an_intersection, not_an_equation, wrong_kind, mismatch, erased_use, parts_differ, not_booleans, sides_differ, accepts, refuses, spends, ends, duplicate, check_items}
use Rattle.cdle_model.specs.Examples.{identity_pure, omega_pure, identity, repeated_file, erased_variable_used, erased_variable_in_kept_part, pair_by_eta, argument_never_reached, endless, growing, rho_plain, rho_from_right, rho_from_left, of_variable, type_of_wrong_kind, other_type, pair_of_other_parts, delta_of_one_side, doubled_type}

pub accepted_identity : check_items 5 identity ≡ accepts
unfolding ℕ_discrete
accepted_identity = refl

pub accepted_pair_by_eta : check_items 17 pair_by_eta ≡ accepts
unfolding ℕ_discrete
accepted_pair_by_eta = refl

pub accepted_argument_never_reached : check_items 9 argument_never_reached ≡ accepts
unfolding ℕ_discrete
accepted_argument_never_reached = refl

pub accepted_rho_plain : check_items 11 rho_plain ≡ accepts
unfolding ℕ_discrete
accepted_rho_plain = refl

pub accepted_rho_from_left : check_items 13 rho_from_left ≡ accepts
unfolding ℕ_discrete
accepted_rho_from_left = refl

pub accepted_doubled_0 : check_items 5 (doubled_type 0) ≡ accepts
unfolding ℕ_discrete
accepted_doubled_0 = refl

pub accepted_doubled_1 : check_items 17 (doubled_type 1) ≡ accepts
unfolding ℕ_discrete
accepted_doubled_1 = refl

pub accepted_doubled_2 : check_items 41 (doubled_type 2) ≡ accepts
unfolding ℕ_discrete
accepted_doubled_2 = refl

pub accepted_doubled_3 : check_items 89 (doubled_type 3) ≡ accepts
unfolding ℕ_discrete
accepted_doubled_3 = refl

pub refused_repeated_file : check_items 1 repeated_file ≡ duplicate 1 0
unfolding ℕ_discrete
refused_repeated_file = refl

pub refused_erased_variable_used : check_items 1 erased_variable_used ≡ refuses 0 (2 ∷ 2 ∷ []) erased_use
unfolding ℕ_discrete
refused_erased_variable_used = refl

pub refused_erased_variable_in_kept_part : check_items 1 erased_variable_in_kept_part ≡ refuses 0 (2 ∷ 2 ∷ []) erased_use
unfolding ℕ_discrete
refused_erased_variable_in_kept_part = refl

pub refused_rho_from_right : check_items 2 rho_from_right ≡ refuses 0 (2 ∷ 2 ∷ 2 ∷ 2 ∷ 2 ∷ []) (sides_differ (eq (var 1) (var 2)) (eq (var 2) (var 2)))
unfolding ℕ_discrete
refused_rho_from_right = refl

pub refused_applied_variable : check_items 1 (of_variable (app (var 0) (var 0))) ≡ refuses 0 (2 ∷ 2 ∷ 2 ∷ 1 ∷ []) (not_a_function (var 1))
unfolding ℕ_discrete
refused_applied_variable = refl

pub refused_projected_variable : check_items 1 (of_variable (fst (var 0))) ≡ refuses 0 (2 ∷ 2 ∷ 2 ∷ 1 ∷ []) (not_an_intersection (var 1))
unfolding ℕ_discrete
refused_projected_variable = refl

pub refused_variable_as_equation : check_items 1 (of_variable (phi (var 0) (var 0) (var 0))) ≡ refuses 0 (2 ∷ 2 ∷ 2 ∷ 1 ∷ []) (not_an_equation (var 1))
unfolding ℕ_discrete
refused_variable_as_equation = refl

pub refused_type_of_wrong_kind : check_items 1 type_of_wrong_kind ≡ refuses 0 (2 ∷ 2 ∷ []) (wrong_kind (kpit star star) (Some star))
unfolding ℕ_discrete
refused_type_of_wrong_kind = refl

pub refused_other_type : check_items 7 other_type ≡ refuses 0 (2 ∷ []) (mismatch (allt star (allt star (pi (var 1) (var 2)))) (allt star (allt star (pi (var 1) (var 1)))))
unfolding ℕ_discrete
refused_other_type = refl

pub refused_pair_of_other_parts : check_items 5 pair_of_other_parts ≡ refuses 0 (2 ∷ 2 ∷ []) (parts_differ (fn (var 0)) (fn (fn (var 0))))
unfolding ℕ_discrete
refused_pair_of_other_parts = refl

pub refused_delta_of_one_side : check_items 3 delta_of_one_side ≡ refuses 0 (2 ∷ 2 ∷ 2 ∷ 2 ∷ []) (not_booleans (var 1) (var 1))
unfolding ℕ_discrete
refused_delta_of_one_side = refl

pub spent_identity : check_items 4 identity ≡ spends 0 (2 ∷ [])
unfolding ℕ_discrete
spent_identity = refl

pub spent_pair_by_eta : check_items 16 pair_by_eta ≡ spends 0 (2 ∷ [])
unfolding ℕ_discrete
spent_pair_by_eta = refl

pub spent_argument_never_reached : check_items 8 argument_never_reached ≡ spends 0 (2 ∷ [])
unfolding ℕ_discrete
spent_argument_never_reached = refl

pub spent_rho_plain : check_items 10 rho_plain ≡ spends 0 (2 ∷ [])
unfolding ℕ_discrete
spent_rho_plain = refl

pub spent_rho_from_left : check_items 12 rho_from_left ≡ spends 0 (2 ∷ [])
unfolding ℕ_discrete
spent_rho_from_left = refl

pub spent_doubled_0 : check_items 4 (doubled_type 0) ≡ spends 1 (2 ∷ [])
unfolding ℕ_discrete
spent_doubled_0 = refl

pub spent_doubled_1 : check_items 16 (doubled_type 1) ≡ spends 1 (2 ∷ [])
unfolding ℕ_discrete
spent_doubled_1 = refl

pub spent_doubled_2 : check_items 40 (doubled_type 2) ≡ spends 1 (2 ∷ [])
unfolding ℕ_discrete
spent_doubled_2 = refl

pub spent_doubled_3 : check_items 88 (doubled_type 3) ≡ spends 1 (2 ∷ [])
unfolding ℕ_discrete
spent_doubled_3 = refl

pub spent_rho_from_right : check_items 1 rho_from_right ≡ spends 0 (2 ∷ 2 ∷ 2 ∷ 2 ∷ 2 ∷ [])
unfolding ℕ_discrete
spent_rho_from_right = refl

pub spent_other_type : check_items 6 other_type ≡ spends 0 (2 ∷ [])
unfolding ℕ_discrete
spent_other_type = refl

pub spent_pair_of_other_parts : check_items 4 pair_of_other_parts ≡ spends 0 (2 ∷ 2 ∷ 2 ∷ [])
unfolding ℕ_discrete
spent_pair_of_other_parts = refl

pub spent_delta_of_one_side : check_items 2 delta_of_one_side ≡ spends 0 (2 ∷ 2 ∷ 2 ∷ 2 ∷ [])
unfolding ℕ_discrete
spent_delta_of_one_side = refl

pub spent_growing : check_items 11 (growing 1000) ≡ spends 0 (2 ∷ [])
unfolding ℕ_discrete
spent_growing = refl

pub deep_growing : check_items 12 (growing 1000) ≡ ends 0 deep
unfolding ℕ_discrete
deep_growing = refl

-- a contraction gives the same tree again
loops : (n : ℕ) → run (move []) n (taken identity_pure omega_pure ((identity_pure, identity_pure) ∷ [])) ≡ spent
loops zero = refl
loops (suc n) = loops n

pub spent_endless : (n : ℕ) → check_items (suc n) endless ≡ spends 0 (2 ∷ [])
unfolding ℕ_discrete
spent_endless zero = refl
spent_endless (suc n) = rw (loops n) refl
