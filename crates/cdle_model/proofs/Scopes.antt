-- Trees that fit a scope.
use Rattle.std.proofs.Common.{ℕ, suc, ◌≤◌, List, length, arith}
use Rattle.cdle_model.specs.declared.grammar.Sort.{Sort}
use Rattle.cdle_model.specs.Trees.{Tree, var, name, leaf, unary, fun, apply, binary, bind, IsBelow}
use Rattle.cdle_model.specs.Classes.{TreeClass, Scope, under, unary_places, fun_places, apply_places, binary_places, bind_places, within, Fits, IsOf}
use Rattle.cdle_model.proofs.Placed.{map_sort, map_part, map_body, map_parts, map_domain}
use Rattle.cdle_model.proofs.ScopedTrees.{fits-inner}

-- what fits a scope is of its class
pub fits_of : (s : Scope) (c : TreeClass) (t : Tree) → Fits s c t → IsOf c t
fits_of s c (var i) h = map_sort c (λ y k. tt) h
fits_of s c (name n) h = map_sort c (λ y k. tt) h
fits_of s c (leaf l) h = h
fits_of s c (unary j p) h = map_part (unary_places c j) _ _ (λ y. fits_of s y p) h
fits_of s c (fun f p) h = map_body (fun_places c f) _ _ (λ v y. fits_of (under v s) y p) h
fits_of s c (apply f p q) h = map_parts (apply_places c f) _ _ _ _ (λ y. fits_of s y p) (λ y. fits_of s y q) h
fits_of s c (binary j p q) h = map_parts (binary_places c j) _ _ _ _ (λ y. fits_of s y p) (λ y. fits_of s y q) h
fits_of s c (bind f p q) h = map_domain (bind_places c f) _ _ _ _ (λ y. fits_of s y p) (λ v y. fits_of (under v s) y q) h

below_more : (k m : ℕ) (t : Tree) → k ≤ m → IsBelow k t → IsBelow m t
below_more k m (var i) l h = omega arith
below_more k m (name n) l h = tt
below_more k m (leaf j) l h = tt
below_more k m (unary j p) l h = below_more k m p l h
below_more k m (fun c p) l h = below_more (suc k) (suc m) p (omega arith) h
below_more k m (apply c p q) l h = (below_more k m p l h.0, below_more k m q l h.1)
below_more k m (binary j p q) l h = (below_more k m p l h.0, below_more k m q l h.1)
below_more k m (bind f p q) l h = (below_more k m p l h.0, below_more (suc k) (suc m) q (omega arith) h.1)

-- over few variables all are below the bound
pub fits_below_bound : (m : ℕ) (vs xs : List Sort) (c : TreeClass) (t : Tree) → length vs ≤ m → Fits (within vs xs) c t → IsBelow m t
fits_below_bound m vs xs c t l h = below_more (length vs) m t l (fits-inner vs xs c t h).0
