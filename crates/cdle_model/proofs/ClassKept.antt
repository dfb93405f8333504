-- A step keeps the class of an erased tree, and where its variables and names are used.
use Rattle.std.proofs.Common.{inl, inr, List, ◌∷◌, subst}
use Rattle.cdle_model.specs.declared.grammar.Sort.{Sort}
use Rattle.cdle_model.specs.declared.grammar.Sort.TheVariants.{OfTerm, OfType}
use Rattle.cdle_model.specs.Trees.{Function, of_pure, of_term, of_type, Tree, fun, apply, put, shift, var}
use Rattle.cdle_model.specs.Classes.{TreeClass, types, pure_terms, guides, within, fun_places, apply_places, binary_places, bind_places, Fits}
use Rattle.cdle_model.specs.Steps.{contract, unfold_name, eta, here, in_fun, in_head, in_arg, in_domain, in_body, in_unary, in_left, in_right, Root, Step}
use Rattle.cdle_model.specs.Fitting.{IsErased, BodiesFit}
use Rattle.cdle_model.proofs.Placed.{map_body, map_parts, map_domain, sort_erased, no_unary, fun_erased, apply_erased, binary_erased, bind_erased}
use Rattle.cdle_model.proofs.ClassSubstitution.{fits-put, fits-closed, fits-unshift}

contract-fits : (zs vs : List Sort) (c : TreeClass) (f : Function) (p q : Tree) → IsErased c → Fits (within vs zs) c (apply f (fun f p) q) → Fits (within vs zs) c (put 0 q p)
contract-fits zs vs pure_terms of_pure p q g h = fits-put zs vs OfTerm q h.1 pure_terms p tt h.0
contract-fits zs vs guides of_term p q g h = fits-put zs vs OfTerm q h.1 guides p tt h.0
contract-fits zs vs guides of_type p q g h = fits-put zs vs OfType q h.1 guides p tt h.0
contract-fits zs vs types f p q g h = absurd g
contract-fits zs vs c f p q g h = absurd h

eta-fits : (zs vs : List Sort) (c : TreeClass) (p : Tree) → IsErased c → Fits (within vs zs) c (fun of_pure (apply of_pure (shift 0 1 p) (var 0))) → Fits (within vs zs) c p
eta-fits zs vs pure_terms p g h = fits-unshift zs vs OfTerm pure_terms p h.0
eta-fits zs vs c p g h = absurd h

module _ (zs : List Sort) (s : List Tree) (w : BodiesFit zs s) where
  root-fits : (vs : List Sort) (c : TreeClass) (a b : Tree) → IsErased c → Root s a b → Fits (within vs zs) c a → Fits (within vs zs) c b
  root-fits vs c _ _ g (inl (contract {c = f} {p = p} {q = q})) h = contract-fits zs vs c f p q g h
  root-fits vs c _ _ g (inl (unfold_name {n = n} {p = p} e)) h =
      let (x, k, l) = sort_erased c _ g h in subst (λ z. Fits (within vs zs) z p) l (fits-closed zs zs vs (λ m y i. i) _ p (w n p x e k))
  root-fits vs c _ _ g (inr (eta {p = p})) h = eta-fits zs vs c p g h

  pub step-fits : (vs : List Sort) (c : TreeClass) (a b : Tree) → IsErased c → Step s a b → Fits (within vs zs) c a → Fits (within vs zs) c b
  step-fits vs c a b g (here r) h = root-fits vs c a b g r h
  step-fits vs c _ _ g (in_fun {c = f} {p = p} {q = q} r) h = map_body (fun_places c f) _ _ (λ v x k. step-fits (v ∷ vs) x p q k.0 r k.1) (fun_erased c f _ g h)
  step-fits vs c _ _ g (in_head {c = f} {p = p} {q = q} r) h = map_parts (apply_places c f) _ _ _ _ (λ x k. step-fits vs x p q k.0 r k.1) (λ x k. k.1) (apply_erased c f _ _ g h)
  step-fits vs c _ _ g (in_arg {c = f} {a = p} {b = q} r) h = map_parts (apply_places c f) _ _ _ _ (λ x k. k.1) (λ x k. step-fits vs x p q k.0 r k.1) (apply_erased c f _ _ g h)
  step-fits vs c _ _ g (in_domain {f = f} {p = p} {q = q} r) h = map_domain (bind_places c f) _ _ _ _ (λ x k. step-fits vs x p q k.0 r k.1) (λ v x k. k.1) (bind_erased c f _ _ g h)
  step-fits vs c _ _ g (in_body {f = f} {a = p} {b = q} r) h = map_domain (bind_places c f) _ _ _ _ (λ x k. k.1) (λ v x k. step-fits (v ∷ vs) x p q k.0 r k.1) (bind_erased c f _ _ g h)
  step-fits vs c _ _ g (in_unary {j = j} r) h = absurd (no_unary c j _ g h)
  step-fits vs c _ _ g (in_left {j = j} {p = p} {q = q} r) h = map_parts (binary_places c j) _ _ _ _ (λ x k. step-fits vs x p q k.0 r k.1) (λ x k. k.1) (binary_erased c j _ _ g h)
  step-fits vs c _ _ g (in_right {j = j} {a = p} {b = q} r) h = map_parts (binary_places c j) _ _ _ _ (λ x k. k.1) (λ x k. step-fits vs x p q k.0 r k.1) (binary_erased c j _ _ g h)
