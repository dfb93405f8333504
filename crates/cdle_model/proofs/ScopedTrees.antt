-- A tree that fits a scope has its free variables and names there, and so has its erasure.
use Rattle.std.proofs.Common.{◌≡◌, ℕ, suc, ◌≤◌, ◌<◌, Bool, true, false, cond, ltb, eqb, pred, List, ◌∷◌, length, refl, arith}
use Rattle.std.proofs.lemmas.Option.{slice_get_within}
use Rattle.cdle_model.specs.Trees.{group_of, rho_of, phi_of, pair_of, guide_of, Tree, var, name, leaf, unary, fun, apply, binary, bind, put_var, put, IsBelow, NamesBelow}
use Rattle.cdle_model.specs.Forms.{star, kpi, kpit, pi, all, allt, at_, on, iota, tlam, xtlam, lam, elam, xlam, app, eapp, tapp, fst, snd, beta, delta}
use Rattle.cdle_model.specs.declared.grammar.Sort.{Sort}
use Rattle.cdle_model.specs.Classes.{TreeClass, within, unary_places, fun_places, apply_places, binary_places, bind_places, Fits}
use Rattle.cdle_model.proofs.Placed.{sort_to, part_to, body_to, parts_to, domain_to}
use Rattle.cdle_model.specs.Erasure.{erased}

-- the variables are below k and the names below n
abbrev pub Inner : ℕ → ℕ → Tree → Type 0
Inner k n t = IsBelow k t × NamesBelow n t

both : {A B C D : Type 0} → A × B → C × D → (A × C) × (B × D)
both h g = ((h.0, g.0), (h.1, g.1))

pub fits-inner : (vs is : List Sort) (c : TreeClass) (t : Tree) → Fits (within vs is) c t → Inner (length vs) (length is) t
fits-inner vs is c (var i) h = (sort_to c _ (λ x k. slice_get_within vs i x k) h, tt)
fits-inner vs is c (name n) h = (tt, sort_to c _ (λ x k. slice_get_within is n x k) h)
fits-inner vs is c (leaf l) h = (tt, tt)
fits-inner vs is c (unary j p) h = part_to (unary_places c j) _ (λ x. fits-inner vs is x p) h
fits-inner vs is c (fun f p) h = body_to (fun_places c f) _ (λ v x. fits-inner (v ∷ vs) is x p) h
fits-inner vs is c (apply f p q) h = let (k, l) = parts_to (apply_places c f) _ _ (λ x. fits-inner vs is x p) (λ x. fits-inner vs is x q) h in both k l
fits-inner vs is c (binary j p q) h = let (k, l) = parts_to (binary_places c j) _ _ (λ x. fits-inner vs is x p) (λ x. fits-inner vs is x q) h in both k l
fits-inner vs is c (bind f p q) h = let (k, l) = domain_to (bind_places c f) _ _ (λ x. fits-inner vs is x p) (λ v x. fits-inner (v ∷ vs) is x q) h in both k l

-- an erased binder's variable goes
lowered-var : (j k n i : ℕ) → j ≤ k → i < suc k → Inner k n (put_var j star i)
lowered-var j k n i h l = by_test (ltb i j) refl (eqb i j) refl
  where
    by_test : (b : Bool) → ltb i j ≡ b → (c : Bool) → eqb i j ≡ c → Inner k n (cond b (var i) (cond c star (var (pred i))))
    by_test true e c f = (grind arith, tt)
    by_test false e true f = (tt, tt)
    by_test false e false f = (grind arith, tt)

lowered-inner : (j k n : ℕ) (e : Tree) → j ≤ k → Inner (suc k) n e → Inner k n (put j star e)
lowered-inner j k n (var i) h g = lowered-var j k n i h g.0
lowered-inner j k n (name m) h g = g
lowered-inner j k n (leaf l) h g = g
lowered-inner j k n (unary m p) h g = lowered-inner j k n p h g
lowered-inner j k n (fun c p) h g = lowered-inner (suc j) (suc k) n p (omega arith) g
lowered-inner j k n (apply c p q) h g = both (lowered-inner j k n p h (g.0.0, g.1.0)) (lowered-inner j k n q h (g.0.1, g.1.1))
lowered-inner j k n (binary m p q) h g = both (lowered-inner j k n p h (g.0.0, g.1.0)) (lowered-inner j k n q h (g.0.1, g.1.1))
lowered-inner j k n (bind f p q) h g = both (lowered-inner j k n p h (g.0.0, g.1.0)) (lowered-inner (suc j) (suc k) n q (omega arith) (g.0.1, g.1.1))

-- what erasure leaves is inside
pub erased-inner : (k n : ℕ) (t : Tree) → Inner k n t → Inner k n (erased t)
erased-inner k n (lam a t) g = erased-inner (suc k) n t (g.0.1, g.1.1)
erased-inner k n (elam a t) g = lowered-inner 0 k n (erased t) (omega arith) (erased-inner (suc k) n t (g.0.1, g.1.1))
erased-inner k n (xlam a t) g = lowered-inner 0 k n (erased t) (omega arith) (erased-inner (suc k) n t (g.0.1, g.1.1))
erased-inner k n (app t u) g = both (erased-inner k n t (g.0.0, g.1.0)) (erased-inner k n u (g.0.1, g.1.1))
erased-inner k n (eapp t u) g = erased-inner k n t (g.0.0, g.1.0)
erased-inner k n (tapp t a) g = erased-inner k n t (g.0.0, g.1.0)
erased-inner k n (bind pair_of p a) g = erased-inner k n p (g.0.0, g.1.0)
erased-inner k n (fst t) g = erased-inner k n t g
erased-inner k n (snd t) g = erased-inner k n t g
erased-inner k n (beta p q) g = (g.0.1, g.1.1)
erased-inner k n (binary rho_of p q) g = erased-inner k n q (g.0.1, g.1.1)
erased-inner k n (binary phi_of p q) g = (g.0.1, g.1.1)
erased-inner k n (delta a q) g = (omega arith, tt)
erased-inner k n (tlam a b) g = erased-inner (suc k) n b (g.0.1, g.1.1)
erased-inner k n (xtlam a b) g = erased-inner (suc k) n b (g.0.1, g.1.1)
erased-inner k n (at_ a t) g = both (erased-inner k n a (g.0.0, g.1.0)) (erased-inner k n t (g.0.1, g.1.1))
erased-inner k n (on a b) g = both (erased-inner k n a (g.0.0, g.1.0)) (erased-inner k n b (g.0.1, g.1.1))
erased-inner k n (pi a b) g = both (erased-inner k n a (g.0.0, g.1.0)) (erased-inner (suc k) n b (g.0.1, g.1.1))
erased-inner k n (all a b) g = both (erased-inner k n a (g.0.0, g.1.0)) (erased-inner (suc k) n b (g.0.1, g.1.1))
erased-inner k n (allt a b) g = both (erased-inner k n a (g.0.0, g.1.0)) (erased-inner (suc k) n b (g.0.1, g.1.1))
erased-inner k n (iota a b) g = both (erased-inner k n a (g.0.0, g.1.0)) (erased-inner (suc k) n b (g.0.1, g.1.1))
erased-inner k n (kpi a b) g = both (erased-inner k n a (g.0.0, g.1.0)) (erased-inner (suc k) n b (g.0.1, g.1.1))
erased-inner k n (kpit a b) g = both (erased-inner k n a (g.0.0, g.1.0)) (erased-inner (suc k) n b (g.0.1, g.1.1))
erased-inner k n (bind guide_of p a) g = erased-inner k n p (g.0.0, g.1.0)
erased-inner k n (binary group_of p q) g = erased-inner k n q (g.0.1, g.1.1)
erased-inner k n t g = g
