-- The erasure of a term is a pure term, that of a type a guide, and that of a kind a guide kind, where it is defined.
use Rattle.std.proofs.Common.{◌≡◌, ℕ, suc, Bool, true, false, cond, eqb, List, ◌∷◌, refl, ap₂, arith}
use Rattle.cdle_model.specs.declared.grammar.Sort.{Sort}
use Rattle.cdle_model.specs.declared.grammar.Sort.TheVariants.{OfTerm, OfType}
use Rattle.cdle_model.specs.Trees.{of_pure, of_term, of_type, group_of, rho_of, phi_of, pi_of, all_of, allt_of, iota_of, kpi_of, kpit_of, pair_of, guide_of, Tree, var, name, leaf, unary, fun, apply, binary, bind, lacks}
use Rattle.cdle_model.specs.Forms.{star, kpi, kpit, pi, all, allt, at_, on, iota, eq, tlam, xtlam, fn, lam, elam, xlam, app, eapp, tapp, fst, snd, beta, delta}
use Rattle.cdle_model.specs.Classes.{TreeClass, terms, types, kinds, pure_terms, guides, guide_kinds, term_pairs, guided_proofs, typed_terms, Scope, within, under, fun_places, apply_places, binary_places, Fits, UsedAs}
use Rattle.cdle_model.specs.Erasure.{erased, HasErasure}
use Rattle.cdle_model.specs.Fitting.{IsErased, erased_class}
use Rattle.cdle_model.proofs.Placed.{body_to, parts_to, no_unary, fun_erased, apply_erased, binary_erased}
use Rattle.cdle_model.proofs.Scoping.{scoped_used}
use Rattle.cdle_model.proofs.ClassSubstitution.{fits-lowered}

-- an erased tree has an erasure, and is it
pub has-erasure : (s : Scope) (c : TreeClass) (e : Tree) → IsErased c → Fits s c e → HasErasure e
has-erasure s c (var i) g h = tt
has-erasure s c (name n) g h = tt
has-erasure s c (leaf l) g h = tt
has-erasure s c (unary j p) g h = absurd (no_unary c j _ g h)
has-erasure s c (fun f p) g h = body_to (fun_places c f) _ (λ v x k. has-erasure (under v s) x p k.0 k.1) (fun_erased c f _ g h)
has-erasure s c (apply f p q) g h = parts_to (apply_places c f) _ _ (λ x k. has-erasure s x p k.0 k.1) (λ x k. has-erasure s x q k.0 k.1) (apply_erased c f _ _ g h)
has-erasure s c (binary j p q) g h = parts_to (binary_places c j) _ _ (λ x k. has-erasure s x p k.0 k.1) (λ x k. has-erasure s x q k.0 k.1) (binary_erased c j _ _ g h)
has-erasure s guides (pi p q) g h = (has-erasure s guides p tt h.0, has-erasure (under OfTerm s) guides q tt h.1)
has-erasure s guides (all p q) g h = (has-erasure s guides p tt h.0, has-erasure (under OfTerm s) guides q tt h.1)
has-erasure s guides (allt p q) g h = (has-erasure s guide_kinds p tt h.0, has-erasure (under OfType s) guides q tt h.1)
has-erasure s guides (iota p q) g h = (has-erasure s guides p tt h.0, has-erasure (under OfTerm s) guides q tt h.1)
has-erasure s guide_kinds (kpi p q) g h = (has-erasure s guides p tt h.0, has-erasure (under OfTerm s) guide_kinds q tt h.1)
has-erasure s guide_kinds (kpit p q) g h = (has-erasure s guide_kinds p tt h.0, has-erasure (under OfType s) guide_kinds q tt h.1)
has-erasure s pure_terms (bind f p q) g h = absurd h
has-erasure s guides (bind f p q) g h = absurd h
has-erasure s guide_kinds (bind f p q) g h = absurd h
has-erasure s c (bind f p q) g h = absurd g

pub erased-itself : (s : Scope) (c : TreeClass) (e : Tree) → IsErased c → Fits s c e → erased e ≡ e
erased-itself s terms e g h = absurd g
erased-itself s types e g h = absurd g
erased-itself s kinds e g h = absurd g
erased-itself s term_pairs e g h = absurd g
erased-itself s guided_proofs e g h = absurd g
erased-itself s typed_terms e g h = absurd g
erased-itself s pure_terms (fun of_pure p) g h = refl
erased-itself s pure_terms (apply of_pure p q) g h = refl
erased-itself s guides (pi p q) g h = ap₂ (bind pi_of) (erased-itself s guides p tt h.0) (erased-itself (under OfTerm s) guides q tt h.1)
erased-itself s guides (all p q) g h = ap₂ (bind all_of) (erased-itself s guides p tt h.0) (erased-itself (under OfTerm s) guides q tt h.1)
erased-itself s guides (allt p q) g h = ap₂ (bind allt_of) (erased-itself s guide_kinds p tt h.0) (erased-itself (under OfType s) guides q tt h.1)
erased-itself s guides (fun of_term p) g h = refl
erased-itself s guides (fun of_type p) g h = refl
erased-itself s guides (apply of_term p q) g h = ap₂ (apply of_term) (erased-itself s guides p tt h.0) (erased-itself s pure_terms q tt h.1)
erased-itself s guides (apply of_type p q) g h = ap₂ (apply of_type) (erased-itself s guides p tt h.0) (erased-itself s guides q tt h.1)
erased-itself s guides (iota p q) g h = ap₂ (bind iota_of) (erased-itself s guides p tt h.0) (erased-itself (under OfTerm s) guides q tt h.1)
erased-itself s guides (eq p q) g h = refl
erased-itself s guide_kinds star g h = refl
erased-itself s guide_kinds (kpi p q) g h = ap₂ (bind kpi_of) (erased-itself s guides p tt h.0) (erased-itself (under OfTerm s) guide_kinds q tt h.1)
erased-itself s guide_kinds (kpit p q) g h = ap₂ (bind kpit_of) (erased-itself s guide_kinds p tt h.0) (erased-itself (under OfType s) guide_kinds q tt h.1)
erased-itself s pure_terms (var i) g h = refl
erased-itself s pure_terms (name n) g h = refl
erased-itself s guides (var i) g h = refl
erased-itself s guides (name n) g h = refl
erased-itself s c e g h = absurd h

-- a pure term does not use a type's variable
lacks-var : (at i : ℕ) → (i ≡ at → OfTerm ≡ OfType) → cond (eqb i at) false true ≡ true
lacks-var at i h = by_test (eqb i at) refl
  where
    by_test : (b : Bool) → eqb i at ≡ b → cond b false true ≡ true
    by_test true e = let k : i ≡ at = grind arith in let l : OfTerm ≡ OfType = h k in absurd cc
    by_test false e = refl

lacks-used : (at : ℕ) (e : Tree) → UsedAs OfType at pure_terms e → lacks at e ≡ true
lacks-used at (var i) h = lacks-var at i h
lacks-used at (name n) h = refl
lacks-used at (fn p) h = lacks-used (suc at) p h
lacks-used at (apply of_pure p q) h = rw (lacks-used at p h.0) (lacks-used at q h.1)
lacks-used at e h = absurd h

pub lacks-type : (zs vs : List Sort) (e : Tree) → Fits (within (OfType ∷ vs) zs) pure_terms e → lacks 0 e ≡ true
lacks-type zs vs e h = lacks-used 0 e (scoped_used (OfType ∷ vs) zs OfType 0 pure_terms e refl h)

pub erased-fits : (zs vs : List Sort) (c : TreeClass) (t : Tree) → Fits (within vs zs) c t → HasErasure t → Fits (within vs zs) (erased_class c) (erased t)
erased-fits zs vs terms (var i) h k = h
erased-fits zs vs terms (name n) h k = h
erased-fits zs vs types (var i) h k = h
erased-fits zs vs types (name n) h k = h
erased-fits zs vs terms (lam a t) h k = erased-fits zs (OfTerm ∷ vs) terms t h.1 k.1
erased-fits zs vs terms (elam a t) h k = fits-lowered zs vs OfTerm pure_terms (erased t) k.2 (erased-fits zs (OfTerm ∷ vs) terms t h.1 k.1)
erased-fits zs vs terms (xlam a t) h k = fits-lowered zs vs OfType pure_terms (erased t) k.2 (erased-fits zs (OfType ∷ vs) terms t h.1 k.1)
erased-fits zs vs terms (app t u) h k = (erased-fits zs vs terms t h.0 k.0, erased-fits zs vs terms u h.1 k.1)
erased-fits zs vs terms (eapp t u) h k = erased-fits zs vs terms t h.0 k.0
erased-fits zs vs terms (tapp t a) h k = erased-fits zs vs terms t h.0 k.0
erased-fits zs vs terms (bind pair_of p a) h k = erased-fits zs vs term_pairs p h.0 k.0
erased-fits zs vs terms (fst t) h k = erased-fits zs vs terms t h k
erased-fits zs vs terms (snd t) h k = erased-fits zs vs terms t h k
erased-fits zs vs terms (beta p q) h k = h.1
erased-fits zs vs terms (binary rho_of p q) h k = erased-fits zs vs typed_terms q h.1 k.1
erased-fits zs vs terms (binary phi_of p q) h k = h.1
erased-fits zs vs terms (delta a q) h k = refl
erased-fits zs vs types (pi a b) h k = (erased-fits zs vs types a h.0 k.0, erased-fits zs (OfTerm ∷ vs) types b h.1 k.1)
erased-fits zs vs types (all a b) h k = (erased-fits zs vs types a h.0 k.0, erased-fits zs (OfTerm ∷ vs) types b h.1 k.1)
erased-fits zs vs types (iota a b) h k = (erased-fits zs vs types a h.0 k.0, erased-fits zs (OfTerm ∷ vs) types b h.1 k.1)
erased-fits zs vs types (allt a b) h k = (erased-fits zs vs kinds a h.0 k.0, erased-fits zs (OfType ∷ vs) types b h.1 k.1)
erased-fits zs vs types (tlam a b) h k = erased-fits zs (OfTerm ∷ vs) types b h.1 k.1
erased-fits zs vs types (xtlam a b) h k = erased-fits zs (OfType ∷ vs) types b h.1 k.1
erased-fits zs vs types (at_ a t) h k = (erased-fits zs vs types a h.0 k.0, erased-fits zs vs terms t h.1 k.1)
erased-fits zs vs types (on a b) h k = (erased-fits zs vs types a h.0 k.0, erased-fits zs vs types b h.1 k.1)
erased-fits zs vs types (eq p q) h k = h
erased-fits zs vs kinds star h k = tt
erased-fits zs vs kinds (kpi a b) h k = (erased-fits zs vs types a h.0 k.0, erased-fits zs (OfTerm ∷ vs) kinds b h.1 k.1)
erased-fits zs vs kinds (kpit a b) h k = (erased-fits zs vs kinds a h.0 k.0, erased-fits zs (OfType ∷ vs) kinds b h.1 k.1)
erased-fits zs vs term_pairs (binary group_of p q) h k = erased-fits zs vs terms q h.1 k.1
erased-fits zs vs typed_terms (binary group_of p q) h k = erased-fits zs vs terms q h.1 k.1
erased-fits zs vs guided_proofs (bind guide_of p q) h k = erased-fits zs vs terms p h.0 k.0
erased-fits zs vs pure_terms e h k = rw (erased-itself (within vs zs) pure_terms e tt h) h
erased-fits zs vs guides e h k = rw (erased-itself (within vs zs) guides e tt h) h
erased-fits zs vs guide_kinds e h k = rw (erased-itself (within vs zs) guide_kinds e tt h) h
erased-fits zs vs c e h k = absurd h
