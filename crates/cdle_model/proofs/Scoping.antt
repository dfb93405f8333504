-- How a caller of a put knows in which class a variable is used.
use Rattle.std.proofs.Common.{◌≡◌, ℕ, suc, List, ◌∷◌, Some, slice_get}
use Rattle.cdle_model.specs.declared.grammar.Sort.{Sort}
use Rattle.cdle_model.specs.Trees.{Tree, var, name, leaf, unary, fun, apply, binary, bind}
use Rattle.cdle_model.specs.Classes.{TreeClass, within, unary_places, fun_places, apply_places, binary_places, bind_places, Fits, UsedAs}
use Rattle.cdle_model.proofs.Placed.{map_sort, map_part, map_body, map_parts, map_domain}

-- in its scope each variable has one sort
pub scoped_used : (vs is : List Sort) (x : Sort) (at : ℕ) (c : TreeClass) (t : Tree) → slice_get vs at ≡ Some x → Fits (within vs is) c t → UsedAs x at c t
scoped_used vs is x at c (var i) g h = map_sort c (λ y k. λ e. cc (k, g, e)) h
scoped_used vs is x at c (name n) g h = map_sort c (λ y k. tt) h
scoped_used vs is x at c (leaf l) g h = h
scoped_used vs is x at c (unary j p) g h = map_part (unary_places c j) _ _ (λ y. scoped_used vs is x at y p g) h
scoped_used vs is x at c (fun f p) g h = map_body (fun_places c f) _ _ (λ v y. scoped_used (v ∷ vs) is x (suc at) y p g) h
scoped_used vs is x at c (apply f p q) g h = map_parts (apply_places c f) _ _ _ _ (λ y. scoped_used vs is x at y p g) (λ y. scoped_used vs is x at y q g) h
scoped_used vs is x at c (binary j p q) g h = map_parts (binary_places c j) _ _ _ _ (λ y. scoped_used vs is x at y p g) (λ y. scoped_used vs is x at y q g) h
scoped_used vs is x at c (bind f p q) g h = map_domain (bind_places c f) _ _ _ _ (λ y. scoped_used vs is x at y p g) (λ v y. scoped_used (v ∷ vs) is x (suc at) y q g) h
