-- Trees under renaming, and erased trees under substitution, stay in their class, where each variable is replaced by one, or by a tree, of its sort.
use Rattle.std.proofs.Common.{◌≡◌, ℕ, zero, suc, true, List, [], ◌∷◌, Some, slice_get, subst, arith}
use Rattle.cdle_model.specs.declared.grammar.Sort.{Sort}
use Rattle.cdle_model.specs.declared.grammar.Sort.TheVariants.{OfTerm, OfType}
use Rattle.cdle_model.specs.Trees.{star_of, Tree, var, name, leaf, unary, fun, apply, binary, bind, shift, put, lacks}
use Rattle.cdle_model.specs.Classes.{TreeClass, within, unary_places, fun_places, apply_places, binary_places, bind_places, Fits}
use Rattle.cdle_model.specs.Fitting.{IsErased, class_of}
use Rattle.cdle_model.proofs.Placed.{map_sort, map_part, map_body, map_parts, map_domain, sort_erased, no_unary, fun_erased, apply_erased, binary_erased, bind_erased}
use Rattle.cdle_model.proofs.Renaming.{up, ren, lift, sub, one}
use Rattle.cdle_model.proofs.Shifts.{shift-one, put-one}
use Rattle.cdle_model.proofs.MissingVariable.{lacks-raised}
use Rattle.cdle_model.proofs.Closed.{ren-closed}
use Rattle.cdle_model.proofs.ScopedTrees.{fits-inner}

-- each variable or name leads to one of its sort
abbrev pub Leads : (ℕ → ℕ) → List Sort → List Sort → Type 0
Leads r vs us = (i : ℕ) (x : Sort) → slice_get vs i ≡ Some x → slice_get us (r i) ≡ Some x

pub leads-up : (r : ℕ → ℕ) (vs us : List Sort) (y : Sort) → Leads r vs us → Leads (up r) (y ∷ vs) (y ∷ us)
leads-up r vs us y w zero x e = e
leads-up r vs us y w (suc i) x e = w i x e

pub fits-ren : (zs ys : List Sort) → Leads (λ n. n) zs ys → (r : ℕ → ℕ) (vs us : List Sort) → Leads r vs us → (c : TreeClass) (e : Tree) → Fits (within vs zs) c e → Fits (within us ys) c (ren r e)
fits-ren zs ys m r vs us w c (var i) h = map_sort c (λ x. w i x) h
fits-ren zs ys m r vs us w c (name n) h = map_sort c (λ x. m n x) h
fits-ren zs ys m r vs us w c (leaf l) h = h
fits-ren zs ys m r vs us w c (unary j p) h = map_part (unary_places c j) _ _ (λ x. fits-ren zs ys m r vs us w x p) h
fits-ren zs ys m r vs us w c (fun f p) h = map_body (fun_places c f) _ _ (λ v x. fits-ren zs ys m (up r) (v ∷ vs) (v ∷ us) (leads-up r vs us v w) x p) h
fits-ren zs ys m r vs us w c (apply f p q) h = map_parts (apply_places c f) _ _ _ _ (λ x. fits-ren zs ys m r vs us w x p) (λ x. fits-ren zs ys m r vs us w x q) h
fits-ren zs ys m r vs us w c (binary j p q) h = map_parts (binary_places c j) _ _ _ _ (λ x. fits-ren zs ys m r vs us w x p) (λ x. fits-ren zs ys m r vs us w x q) h
fits-ren zs ys m r vs us w c (bind f p q) h = map_domain (bind_places c f) _ _ _ _ (λ x. fits-ren zs ys m r vs us w x p) (λ v x. fits-ren zs ys m (up r) (v ∷ vs) (v ∷ us) (leads-up r vs us v w) x q) h

pub fits-shift : (zs vs : List Sort) (y : Sort) (c : TreeClass) (e : Tree) → Fits (within vs zs) c e → Fits (within (y ∷ vs) zs) c (shift 0 1 e)
fits-shift zs vs y c e h = rw (shift-one e) (fits-ren zs zs (λ n z k. k) suc vs (y ∷ vs) (λ j z k. k) c e h)

-- a closed tree fits every context, and more items
pub fits-closed : (zs ys vs : List Sort) → Leads (λ n. n) zs ys → (c : TreeClass) (e : Tree) → Fits (within [] zs) c e → Fits (within vs ys) c e
fits-closed zs ys vs m c e h =
    let k : Fits (within vs ys) c (ren (λ i. i) e) = fits-ren zs ys m (λ i. i) [] vs (λ i x g. absurd (grind arith)) c e h in
    rw (ren-closed (λ i. i) e (fits-inner [] zs c e h).0) at k

-- each variable is replaced by a tree of its sort
abbrev pub Gives : List Sort → (ℕ → Tree) → List Sort → List Sort → Type 0
Gives zs t vs us = (i : ℕ) (x : Sort) → slice_get vs i ≡ Some x → Fits (within us zs) (class_of x) (t i)

gives_new : (zs us : List Sort) (y x : Sort) → Some y ≡ Some x → Fits (within (y ∷ us) zs) (class_of x) (var 0)
gives_new zs us y OfTerm e = e
gives_new zs us y OfType e = e

pub gives-lift : (zs : List Sort) (t : ℕ → Tree) (vs us : List Sort) (y : Sort) → Gives zs t vs us → Gives zs (lift t) (y ∷ vs) (y ∷ us)
gives-lift zs t vs us y w zero x e = gives_new zs us y x e
gives-lift zs t vs us y w (suc i) x e = fits-ren zs zs (λ n z k. k) suc us (y ∷ us) (λ j z k. k) (class_of x) (t i) (w i x e)

pub fits-sub : (zs : List Sort) (t : ℕ → Tree) (vs us : List Sort) → Gives zs t vs us → (c : TreeClass) (e : Tree) → IsErased c → Fits (within vs zs) c e → Fits (within us zs) c (sub t e)
fits-sub zs t vs us w c (var i) e h = let (x, k, l) = sort_erased c _ e h in subst (λ z. Fits (within us zs) z (t i)) l (w i x k)
fits-sub zs t vs us w c (name n) e h = h
fits-sub zs t vs us w c (leaf l) e h = h
fits-sub zs t vs us w c (unary j p) e h = absurd (no_unary c j _ e h)
fits-sub zs t vs us w c (fun f p) e h = map_body (fun_places c f) _ _ (λ v x k. fits-sub zs (lift t) (v ∷ vs) (v ∷ us) (gives-lift zs t vs us v w) x p k.0 k.1) (fun_erased c f _ e h)
fits-sub zs t vs us w c (apply f p q) e h = map_parts (apply_places c f) _ _ _ _ (λ x k. fits-sub zs t vs us w x p k.0 k.1) (λ x k. fits-sub zs t vs us w x q k.0 k.1) (apply_erased c f _ _ e h)
fits-sub zs t vs us w c (binary j p q) e h = map_parts (binary_places c j) _ _ _ _ (λ x k. fits-sub zs t vs us w x p k.0 k.1) (λ x k. fits-sub zs t vs us w x q k.0 k.1) (binary_erased c j _ _ e h)
fits-sub zs t vs us w c (bind f p q) e h =
    map_domain (bind_places c f) _ _ _ _ (λ x k. fits-sub zs t vs us w x p k.0 k.1) (λ v x k. fits-sub zs (lift t) (v ∷ vs) (v ∷ us) (gives-lift zs t vs us v w) x q k.0 k.1) (bind_erased c f _ _ e h)

pub gives-one : (zs vs : List Sort) (y : Sort) (a : Tree) → Fits (within vs zs) (class_of y) a → Gives zs (one a) (y ∷ vs) vs
gives-one zs vs y a h zero x e = let k : y ≡ x = grind arith in rw (← k) h
gives-one zs vs y a h (suc i) OfTerm e = e
gives-one zs vs y a h (suc i) OfType e = e

pub fits-put : (zs vs : List Sort) (y : Sort) (a : Tree) → Fits (within vs zs) (class_of y) a → (c : TreeClass) (e : Tree) → IsErased c → Fits (within (y ∷ vs) zs) c e → Fits (within vs zs) c (put 0 a e)
fits-put zs vs y a k c e i h = rw (put-one a e) (fits-sub zs (one a) (y ∷ vs) vs (gives-one zs vs y a k) c e i h)

-- a tree without its innermost variable
abbrev Leaves : (ℕ → ℕ) → List Sort → List Sort → Type 0
Leaves r vs us = (i : ℕ) (x : Sort) → slice_get us (r i) ≡ Some x → slice_get vs i ≡ Some x

leaves-up : (r : ℕ → ℕ) (vs us : List Sort) (y : Sort) → Leaves r vs us → Leaves (up r) (y ∷ vs) (y ∷ us)
leaves-up r vs us y w zero x e = e
leaves-up r vs us y w (suc i) x e = w i x e

fits-unren : (zs : List Sort) (r : ℕ → ℕ) (vs us : List Sort) → Leaves r vs us → (c : TreeClass) (e : Tree) → Fits (within us zs) c (ren r e) → Fits (within vs zs) c e
fits-unren zs r vs us w c (var i) h = map_sort c (λ x. w i x) h
fits-unren zs r vs us w c (name n) h = h
fits-unren zs r vs us w c (leaf l) h = h
fits-unren zs r vs us w c (unary j p) h = map_part (unary_places c j) _ _ (λ x. fits-unren zs r vs us w x p) h
fits-unren zs r vs us w c (fun f p) h = map_body (fun_places c f) _ _ (λ v x. fits-unren zs (up r) (v ∷ vs) (v ∷ us) (leaves-up r vs us v w) x p) h
fits-unren zs r vs us w c (apply f p q) h = map_parts (apply_places c f) _ _ _ _ (λ x. fits-unren zs r vs us w x p) (λ x. fits-unren zs r vs us w x q) h
fits-unren zs r vs us w c (binary j p q) h = map_parts (binary_places c j) _ _ _ _ (λ x. fits-unren zs r vs us w x p) (λ x. fits-unren zs r vs us w x q) h
fits-unren zs r vs us w c (bind f p q) h = map_domain (bind_places c f) _ _ _ _ (λ x. fits-unren zs r vs us w x p) (λ v x. fits-unren zs (up r) (v ∷ vs) (v ∷ us) (leaves-up r vs us v w) x q) h

pub fits-unshift : (zs vs : List Sort) (y : Sort) (c : TreeClass) (e : Tree) → Fits (within (y ∷ vs) zs) c (shift 0 1 e) → Fits (within vs zs) c e
fits-unshift zs vs y c e h = fits-unren zs suc vs (y ∷ vs) (λ j x g. g) c e (subst (Fits (within (y ∷ vs) zs) c) (shift-one e) h)

pub fits-lowered : (zs vs : List Sort) (y : Sort) (c : TreeClass) (e : Tree) → lacks 0 e ≡ true → Fits (within (y ∷ vs) zs) c e → Fits (within vs zs) c (put 0 (leaf star_of) e)
fits-lowered zs vs y c e i h = fits-unshift zs vs y c (put 0 (leaf star_of) e) (subst (Fits (within (y ∷ vs) zs) c) (lacks-raised 0 (leaf star_of) e i) h)
