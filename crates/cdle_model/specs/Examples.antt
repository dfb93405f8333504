-- Items to check, each written out in Core text above its trees.
use Rattle.std.specs.Prelude.{ℕ, zero, suc, List, [], ◌∷◌}
use Rattle.cdle_model.specs.Trees.{Tree, var, name}
use Rattle.cdle_model.specs.Forms.{star, kpit, pi, all, allt, xtlam, on, iota, eq, fn, ap, lam, elam, xlam, app, pair, beta, rho, delta, Written, def_item, type_item}

-- the name `a`
abbrev named : Tree → Tree → Written
named = def_item (97 ∷ [])

-- `λx.x`, and `(λw. w w) (λw. w w)`
abbrev pub identity_pure : Tree
identity_pure = fn (var 0)

abbrev pub omega_pure : Tree
omega_pure = ap (fn (ap (var 0) (var 0))) (fn (ap (var 0) (var 0)))

-- (def a (allt X * (pi x X X)) (xlam X * (lam x X x)))
abbrev identity_type : Tree
identity_type = allt star (pi (var 0) (var 1))

abbrev pub identity : List Written
identity = named identity_type (xlam star (lam (var 0) (var 0))) ∷ []

-- (type T * (allt X * (pi x X X))), twice
abbrev pub repeated_file : List Written
repeated_file = type_item (84 ∷ []) star identity_type ∷ type_item (84 ∷ []) star identity_type ∷ []

-- (def a (allt X * (all x X X)) (xlam X * (elam x X x)))
abbrev pub erased_variable_used : List Written
erased_variable_used = named (allt star (all (var 0) (var 1))) (xlam star (elam (var 0) (var 0))) ∷ []

-- (def a (allt X * (all x X (eq (fn y y) (fn y y)))) (xlam X * (elam x X (beta (fn y y) x))))
abbrev pub erased_variable_in_kept_part : List Written
erased_variable_in_kept_part = named (allt star (all (var 0) (eq identity_pure identity_pure))) (xlam star (elam (var 0) (beta identity_pure (var 0)))) ∷ []

-- (def a (allt A * (iota z (pi x (pi y A A) (pi y A A)) (pi x (pi y A A) (pi y A A))))
--   (xlam A * (pair (lam x (pi y A A) x) (lam x (pi y A A) (lam y A (app x y))) z (pi x (pi y A A) (pi y A A)))))
abbrev maps_of_maps : Tree
maps_of_maps = pi (pi (var 1) (var 2)) (pi (var 2) (var 3))

abbrev pub pair_by_eta : List Written
pair_by_eta = named (allt star (iota (pi (pi (var 0) (var 1)) (pi (var 1) (var 2))) maps_of_maps))
    (xlam star (pair (lam (pi (var 0) (var 1)) (var 0)) (lam (pi (var 0) (var 1)) (lam (var 1) (app (var 1) (var 0)))) maps_of_maps)) ∷ []

-- (def a (allt X * (pi a X (eq (ap (ap (fn u (fn v u)) a) (ap (fn w (ap w w)) (fn w (ap w w)))) a))) (xlam X * (lam a X (beta a (fn y y)))))
abbrev pub argument_never_reached : List Written
argument_never_reached = named (allt star (pi (var 0) (eq (ap (ap (fn (fn (var 1))) (var 0)) omega_pure) (var 0)))) (xlam star (lam (var 0) (beta (var 0) identity_pure))) ∷ []

-- (def a (eq (ap (fn w (ap w w)) (fn w (ap w w))) (fn x x)) (beta (fn x x) (fn x x)))
abbrev pub endless : List Written
endless = named (eq omega_pure identity_pure) (beta identity_pure identity_pure) ∷ []

-- (def a (allt X * (pi a X (pi b X (pi q (eq a b) T)))) (xlam X * (lam a X (lam b X (lam q (eq a b) t)))))
abbrev with_equation_of_two : Tree → Tree → List Written
with_equation_of_two a t = named (allt star (pi (var 0) (pi (var 1) (pi (eq (var 1) (var 0)) a)))) (xlam star (lam (var 0) (lam (var 1) (lam (eq (var 1) (var 0)) t)))) ∷ []

-- of T = X and t = (rho q x X X a)
abbrev pub rho_plain : List Written
rho_plain = with_equation_of_two (var 3) (rho (var 0) (var 4) (var 3) (var 2))

-- of T = (eq b a) and t = (rho q x (eq x a) (eq b a) (beta a q)): the guide of `a` is `(eq a a)`
abbrev pub rho_from_right : List Written
rho_from_right = with_equation_of_two (eq (var 1) (var 2)) (rho (var 0) (eq (var 0) (var 3)) (eq (var 1) (var 2)) (beta (var 2) (var 0)))

-- of T = (eq b a) and t = (rho q x (eq b x) (eq b a) (beta b q))
abbrev pub rho_from_left : List Written
rho_from_left = with_equation_of_two (eq (var 1) (var 2)) (rho (var 0) (eq (var 2) (var 0)) (eq (var 1) (var 2)) (beta (var 1) (var 0)))

-- (def a (allt X * (pi x X X)) (xlam X * (lam x X t))), where x is the variable 0 of t
abbrev pub of_variable : Tree → List Written
of_variable t = named identity_type (xlam star (lam (var 0) t)) ∷ []

-- (type a * (allt F (kpit X * *) F))
abbrev pub type_of_wrong_kind : List Written
type_of_wrong_kind = type_item (97 ∷ []) star (allt (kpit star star) (var 0)) ∷ []

-- (def a (allt X * (allt Y * (pi x X Y))) (xlam X * (xlam Y * (lam x X x))))
abbrev pub other_type : List Written
other_type = named (allt star (allt star (pi (var 1) (var 1)))) (xlam star (xlam star (lam (var 1) (var 0)))) ∷ []

-- (def a (allt X * (iota w (pi x X X) (eq (fn y y) (fn y y))))
--   (xlam X * (pair (lam x X x) (beta (fn y y) (fn y (fn z z))) w (eq (fn y y) (fn y y)))))
abbrev pub pair_of_other_parts : List Written
pair_of_other_parts = named (allt star (iota (pi (var 0) (var 1)) (eq identity_pure identity_pure)))
    (xlam star (pair (lam (var 0) (var 0)) (beta identity_pure (fn identity_pure)) (eq identity_pure identity_pure))) ∷ []

-- (def a (allt X * (pi x X (allt Y * Y))) (xlam X * (lam x X (xlam Y * (delta Y (beta x x))))))
abbrev pub delta_of_one_side : List Written
delta_of_one_side = named (allt star (pi (var 0) (allt star (var 0)))) (xlam star (lam (var 0) (xlam star (delta (var 0) (beta (var 1) (var 1)))))) ∷ []

-- E0 is X and E(k+1) is (on D Ek), k times D: (type D (kpit A * *) (xtlam A * (pi x A A)))  (def a (allt X * (pi x Ek Ek)) (xlam X * (lam x Ek x)))
abbrev doubled : ℕ → Tree → Tree
doubled zero x = x
doubled (suc k) x = on (name 0) (doubled k x)

abbrev pub doubled_type : ℕ → List Written
doubled_type k = type_item (68 ∷ []) (kpit star star) (xtlam star (pi (var 0) (var 1)))
    ∷ named (allt star (pi (doubled k (var 0)) (doubled k (var 1)))) (xlam star (lam (doubled k (var 0)) (var 0))) ∷ []

-- Ik x is (ap (fn y y) .. (ap (fn y y) x) ..), k times. W is (fn x (fn a (ap (ap x x) Ik a))):
-- (def a (eq (ap (ap W W) (fn z z)) (fn x x)) (beta (fn x x) (fn x x)))
abbrev under_identities : ℕ → Tree → Tree
under_identities zero p = p
under_identities (suc k) p = ap identity_pure (under_identities k p)

abbrev growing_pure : ℕ → Tree
growing_pure k = fn (fn (ap (ap (var 1) (var 1)) (under_identities k (var 0))))

abbrev pub growing : ℕ → List Written
growing k = named (eq (ap (ap (growing_pure k) (growing_pure k)) identity_pure) identity_pure) (beta identity_pure identity_pure) ∷ []
