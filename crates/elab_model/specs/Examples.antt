-- Definitions of a text, each with the text of its module, from which its places are.
use Rattle.std.specs.Prelude.{ℕ, false, codes, List, [], ◌∷◌}
use Rattle.cdle_model.specs.Trees.{var}
use Rattle.cdle_model.specs.Forms.{star, kpit, pi, allt, lam, xlam, xtlam, Written, def_item, type_item}
use Rattle.source_model.specs.Source.{Span, nowhere}
use Rattle.scope_model.specs.Scoped.{item, variable, ScopedItem}
use Rattle.elab_model.specs.ScopedForms.{left_out, s_all, s_allt, s_app, s_beta, s_def, s_delta, s_elam, s_eq, s_fst, s_iota, s_kpit, s_lam, s_name, s_on, s_pair, s_phi, s_pi, s_star, s_type, s_unclassed}
use Rattle.elab_model.specs.Questions.{Env, Finding, answer}
use Rattle.elab_model.specs.Soundness.{no_encodings}
use Rattle.elab_model.specs.Items.{item_of_source}

abbrev pub at_bytes : ℕ → ℕ → Span
at_bytes i j = record { from = i; to = j }

-- the items so far, among them no datatype
abbrev pub over : List Written → Env
over ws = record { items = ws; is_data = λ n. false }

-- what is found for the definition over these items, with so many units a question
abbrev pub found_for : List Written → ℕ → ScopedItem → Finding Written
found_for ws n i = answer (over ws) n (item_of_source (over ws) no_encodings i)

-- module m.
-- id : ∀ X : ★ . X ➔ X = Λ X . λ x . x .
-- the identity
abbrev pub identity : ScopedItem
identity = s_def (at_bytes 10 12) (codes "m.id") (s_allt (at_bytes 15 36) tt (s_star (at_bytes 23 26)) (s_pi (at_bytes 29 36) tt (s_name (at_bytes 29 30) (variable 0)) (s_name (at_bytes 35 36) (variable 1)))) (s_unclassed (at_bytes 39 54) tt (left_out nowhere) (s_lam (at_bytes 46 54) tt (left_out nowhere) (s_name (at_bytes 53 54) (variable 0))))

-- module m.
-- id : ∀ X : ★ . X ➔ X = Λ X . λ x . x .
-- two : ∀ A : ★ . A ➔ A = Λ A . λ a . id a .
-- a type argument that is left out
abbrev pub left_out_argument : ScopedItem
left_out_argument = s_def (at_bytes 57 60) (codes "m.two") (s_allt (at_bytes 63 84) tt (s_star (at_bytes 71 74)) (s_pi (at_bytes 77 84) tt (s_name (at_bytes 77 78) (variable 0)) (s_name (at_bytes 83 84) (variable 1)))) (s_unclassed (at_bytes 87 105) tt (left_out nowhere) (s_lam (at_bytes 94 105) tt (left_out nowhere) (s_app (at_bytes 101 105) (s_name (at_bytes 101 103) (item 0)) (s_name (at_bytes 104 105) (variable 0)))))

abbrev pub before_left_out_argument : List Written
before_left_out_argument = (def_item (codes "m.id") (allt star (pi (var 0) (var 1))) (xlam star (lam (var 0) (var 0)))) ∷ []

-- module m.
-- k : ∀ X : ★ . ∀ Y : ★ . X ➔ X = Λ X . Λ Y . λ x . x .
-- l : ∀ A : ★ . A ➔ A = Λ A . λ a . k a .
-- no argument tells the second type
abbrev pub argument_left_open : ScopedItem
argument_left_open = s_def (at_bytes 77 78) (codes "m.l") (s_allt (at_bytes 81 102) tt (s_star (at_bytes 89 92)) (s_pi (at_bytes 95 102) tt (s_name (at_bytes 95 96) (variable 0)) (s_name (at_bytes 101 102) (variable 1)))) (s_unclassed (at_bytes 105 122) tt (left_out nowhere) (s_lam (at_bytes 112 122) tt (left_out nowhere) (s_app (at_bytes 119 122) (s_name (at_bytes 119 120) (item 0)) (s_name (at_bytes 121 122) (variable 0)))))

abbrev pub before_argument_left_open : List Written
before_argument_left_open = (def_item (codes "m.k") (allt star (allt star (pi (var 1) (var 2)))) (xlam star (xlam star (lam (var 1) (var 0))))) ∷ []

-- module m.
-- a : ∀ X : ★ . X ➔ X = Λ X . λ x . x x .
-- what is applied is no function
abbrev pub applied_variable : ScopedItem
applied_variable = s_def (at_bytes 10 11) (codes "m.a") (s_allt (at_bytes 14 35) tt (s_star (at_bytes 22 25)) (s_pi (at_bytes 28 35) tt (s_name (at_bytes 28 29) (variable 0)) (s_name (at_bytes 34 35) (variable 1)))) (s_unclassed (at_bytes 38 55) tt (left_out nowhere) (s_lam (at_bytes 45 55) tt (left_out nowhere) (s_app (at_bytes 52 55) (s_name (at_bytes 52 53) (variable 0)) (s_name (at_bytes 54 55) (variable 0)))))

-- module m.
-- a : ∀ X : ★ . X ➔ X = Λ X . λ x . x.1 .
-- what is projected is no pair
abbrev pub projected_variable : ScopedItem
projected_variable = s_def (at_bytes 10 11) (codes "m.a") (s_allt (at_bytes 14 35) tt (s_star (at_bytes 22 25)) (s_pi (at_bytes 28 35) tt (s_name (at_bytes 28 29) (variable 0)) (s_name (at_bytes 34 35) (variable 1)))) (s_unclassed (at_bytes 38 55) tt (left_out nowhere) (s_lam (at_bytes 45 55) tt (left_out nowhere) (s_fst (at_bytes 52 55) (s_name (at_bytes 52 53) (variable 0)))))

-- module m.
-- a : ∀ X : ★ . X ➔ X = Λ X . λ x . φ x - x { x } .
-- what is taken for a proof proves no equation
abbrev pub variable_as_equation : ScopedItem
variable_as_equation = s_def (at_bytes 10 11) (codes "m.a") (s_allt (at_bytes 14 35) tt (s_star (at_bytes 22 25)) (s_pi (at_bytes 28 35) tt (s_name (at_bytes 28 29) (variable 0)) (s_name (at_bytes 34 35) (variable 1)))) (s_unclassed (at_bytes 38 66) tt (left_out nowhere) (s_lam (at_bytes 45 66) tt (left_out nowhere) (s_phi (at_bytes 52 66) (at_bytes 52 66) (s_name (at_bytes 55 56) (variable 0)) (s_name (at_bytes 59 60) (variable 0)) (s_name (at_bytes 63 64) (variable 0)))))

-- module m.
-- a : ★ = ∀ F : ★ ➔ ★ . F .
-- a type function stands where a type with `★` is wanted
abbrev pub type_function_as_type : ScopedItem
type_function_as_type = s_type (at_bytes 10 11) (codes "m.a") (s_star (at_bytes 14 17)) (s_allt (at_bytes 20 43) tt (s_kpit (at_bytes 28 39) tt (s_star (at_bytes 28 31)) (s_star (at_bytes 36 39))) (s_name (at_bytes 42 43) (variable 0)))

-- module m.
-- a : ∀ X : ★ . ∀ Y : ★ . X ➔ Y = Λ X . Λ Y . λ x . x .
-- a variable of another type
abbrev pub other_type : ScopedItem
other_type = s_def (at_bytes 10 11) (codes "m.a") (s_allt (at_bytes 14 49) tt (s_star (at_bytes 22 25)) (s_allt (at_bytes 28 49) tt (s_star (at_bytes 36 39)) (s_pi (at_bytes 42 49) tt (s_name (at_bytes 42 43) (variable 1)) (s_name (at_bytes 48 49) (variable 1))))) (s_unclassed (at_bytes 52 74) tt (left_out nowhere) (s_unclassed (at_bytes 59 74) tt (left_out nowhere) (s_lam (at_bytes 66 74) tt (left_out nowhere) (s_name (at_bytes 73 74) (variable 0)))))

-- module m.
-- a : ∀ X : ★ . X ➾ X = Λ X . Λ x . x .
-- an erased variable stands in the erasure
abbrev pub erased_variable_used : ScopedItem
erased_variable_used = s_def (at_bytes 10 11) (codes "m.a") (s_allt (at_bytes 14 35) tt (s_star (at_bytes 22 25)) (s_all (at_bytes 28 35) tt (s_name (at_bytes 28 29) (variable 0)) (s_name (at_bytes 34 35) (variable 1)))) (s_unclassed (at_bytes 38 53) tt (left_out nowhere) (s_elam (at_bytes 45 53) tt (left_out nowhere) (s_name (at_bytes 52 53) (variable 0))))

-- module m.
-- a : ι w : { λ x . x ≃ λ x . x } . { λ x . x ≃ λ x . x } = [ β , β { λ x . λ y . y } ] .
-- the parts of a pair erase to what differs
abbrev pub parts_that_differ : ScopedItem
parts_that_differ = s_def (at_bytes 10 11) (codes "m.a") (s_iota (at_bytes 14 74) tt (s_eq (at_bytes 21 46) (s_lam (at_bytes 23 31) tt (left_out nowhere) (s_name (at_bytes 30 31) (variable 0))) (s_lam (at_bytes 36 44) tt (left_out nowhere) (s_name (at_bytes 43 44) (variable 0)))) (s_eq (at_bytes 49 74) (s_lam (at_bytes 51 59) tt (left_out nowhere) (s_name (at_bytes 58 59) (variable 0))) (s_lam (at_bytes 64 72) tt (left_out nowhere) (s_name (at_bytes 71 72) (variable 0))))) (s_pair (at_bytes 77 108) (s_beta (at_bytes 79 81) (left_out nowhere) (left_out nowhere)) (s_beta (at_bytes 84 106) (left_out nowhere) (s_lam (at_bytes 89 104) tt (left_out nowhere) (s_lam (at_bytes 96 104) tt (left_out nowhere) (s_name (at_bytes 103 104) (variable 0))))))

-- module m.
-- a : ∀ X : ★ . X = Λ X . δ - β<λ x . x> .
-- the sides are not the two booleans
abbrev pub no_booleans : ScopedItem
no_booleans = s_def (at_bytes 10 11) (codes "m.a") (s_allt (at_bytes 14 29) tt (s_star (at_bytes 22 25)) (s_name (at_bytes 28 29) (variable 0))) (s_unclassed (at_bytes 32 56) tt (left_out nowhere) (s_delta (at_bytes 39 56) (left_out nowhere) (s_beta (at_bytes 44 56) (s_lam (at_bytes 47 55) tt (left_out nowhere) (s_name (at_bytes 54 55) (variable 0))) (left_out nowhere))))

-- module m.
-- a : { λ x . x ≃ λ x . λ y . x } = β .
-- the sides of an equation differ
abbrev pub sides_that_differ : ScopedItem
sides_that_differ = s_def (at_bytes 10 11) (codes "m.a") (s_eq (at_bytes 14 46) (s_lam (at_bytes 16 24) tt (left_out nowhere) (s_name (at_bytes 23 24) (variable 0))) (s_lam (at_bytes 29 44) tt (left_out nowhere) (s_lam (at_bytes 36 44) tt (left_out nowhere) (s_name (at_bytes 43 44) (variable 1))))) (s_beta (at_bytes 49 51) (left_out nowhere) (left_out nowhere))

-- module m.
-- a : ∀ X : ★ . X ➔ X = Λ X . λ x . (λ y . y).1 .
-- a function whose type is not asked for
abbrev pub function_without_annotation : ScopedItem
function_without_annotation = s_def (at_bytes 10 11) (codes "m.a") (s_allt (at_bytes 14 35) tt (s_star (at_bytes 22 25)) (s_pi (at_bytes 28 35) tt (s_name (at_bytes 28 29) (variable 0)) (s_name (at_bytes 34 35) (variable 1)))) (s_unclassed (at_bytes 38 64) tt (left_out nowhere) (s_lam (at_bytes 45 64) tt (left_out nowhere) (s_fst (at_bytes 53 64) (s_lam (at_bytes 53 61) tt (left_out nowhere) (s_name (at_bytes 60 61) (variable 0))))))

-- module m.
-- a : { (λ x . x x) (λ x . x x) ≃ λ x . x } = β .
-- a side without a head form, with so many units as are given
abbrev pub endless : ScopedItem
endless = s_def (at_bytes 10 11) (codes "m.a") (s_eq (at_bytes 14 56) (s_app (at_bytes 17 40) (s_lam (at_bytes 17 27) tt (left_out nowhere) (s_app (at_bytes 24 27) (s_name (at_bytes 24 25) (variable 0)) (s_name (at_bytes 26 27) (variable 0)))) (s_lam (at_bytes 30 40) tt (left_out nowhere) (s_app (at_bytes 37 40) (s_name (at_bytes 37 38) (variable 0)) (s_name (at_bytes 39 40) (variable 0))))) (s_lam (at_bytes 46 54) tt (left_out nowhere) (s_name (at_bytes 53 54) (variable 0)))) (s_beta (at_bytes 59 61) (left_out nowhere) (left_out nowhere))

-- module m.
-- d : ★ ➔ ★ = λ A : ★ . A ➔ A .
-- a : ∀ X : ★ . d ·(d ·X) ➔ (X ➔ X) ➔ X ➔ X = Λ X . λ f . f .
-- a type that a type function doubles twice, against what it comes to: thirteen units are needed
abbrev pub doubled : ScopedItem
doubled = s_def (at_bytes 51 52) (codes "m.a") (s_allt (at_bytes 55 106) tt (s_star (at_bytes 63 66)) (s_pi (at_bytes 69 106) tt (s_on (at_bytes 69 79) (s_name (at_bytes 69 70) (item 0)) (s_on (at_bytes 74 79) (s_name (at_bytes 74 75) (item 0)) (s_name (at_bytes 78 79) (variable 0)))) (s_pi (at_bytes 86 106) tt (s_pi (at_bytes 86 93) tt (s_name (at_bytes 86 87) (variable 1)) (s_name (at_bytes 92 93) (variable 2))) (s_pi (at_bytes 99 106) tt (s_name (at_bytes 99 100) (variable 2)) (s_name (at_bytes 105 106) (variable 3)))))) (s_unclassed (at_bytes 109 124) tt (left_out nowhere) (s_lam (at_bytes 116 124) tt (left_out nowhere) (s_name (at_bytes 123 124) (variable 0))))

abbrev pub before_doubled : List Written
before_doubled = (type_item (codes "m.d") (kpit star star) (xtlam star (pi (var 0) (var 1)))) ∷ []
