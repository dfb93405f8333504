-- A part of its class by its form, in which each name is of its sort by its scope and nothing is unbuilt, is what the surface rules are asked of.
use Rattle.std.proofs.Common.{◌≡◌, ℕ, zero, suc, List, [], ◌∷◌, ◌++◌, ◌⊎◌, inl, inr, Option, Some, None, slice_get, refl}
use Rattle.cdle_model.specs.declared.grammar.Sort.{Sort}
use Rattle.cdle_model.specs.declared.grammar.Sort.TheVariants.{OfTerm, OfType}
use Rattle.cdle_model.specs.Classes.{terms, types, kinds}
use Rattle.source_model.specs.Source.{Span, two, bind, cases, group_of, guide_of, rho_of, phi_of, def_item, type_item, data_item}
use Rattle.scope_model.specs.Scoped.{Reference, variable, item, cast, Scoped, ScopedItem}
use Rattle.scope_model.specs.ScopeNames.{Variable, Proof}
use Rattle.scope_model.specs.ScopeFits.{Binders, IsOfSort, FitsScope, ItemFits, ItemsFit}
use Rattle.elab_model.specs.ScopedForms.{s_name, s_lam, s_elam, s_xlam, s_unclassed, s_app, s_eapp, s_tapp, s_pair, s_fst, s_snd, s_beta, s_rho, s_phi, s_delta, s_chi, s_flip, s_pi, s_all, s_allt, s_tlam, s_xtlam, s_iota, s_at, s_on, s_eq, s_star, s_kpi, s_kpit}
use Rattle.elab_model.specs.SourceClasses.{IsUse, SourceFits}
use Rattle.elab_model.specs.Items.{SourceItemFits, SourceItemsFit}
use Rattle.build_model.specs.Unbuilt.{first_place, unbuilt, unbuilt_item, unbuilt_items}
use Rattle.build_model.proofs.Forms.{HasForm, ItemHasForm, HaveForms}

-- each binder binds a variable, of the sort that stands in its place or of none
abbrev Agree : Binders → List Sort → Type 0
Agree [] [] = Unit {0}
Agree (Some (Variable s) ∷ vs) (x ∷ ws) = (s ≡ x) × Agree vs ws
Agree (None ∷ vs) (x ∷ ws) = Agree vs ws
Agree vs ws = ⊥

variable_used : (vs : Binders) (ws : List Sort) (i : ℕ) (s : Sort) → Agree vs ws → slice_get vs i ≡ Some (Some (Variable s)) → slice_get ws i ≡ Some s
variable_used [] [] i s a e = absurd cc
variable_used (Some (Variable r) ∷ vs) (x ∷ ws) zero s a e = let k : r ≡ s = cc in let q = a.0 in cc
variable_used (None ∷ vs) (x ∷ ws) zero s a e = absurd cc
variable_used (Some (Variable r) ∷ vs) (x ∷ ws) (suc i) s a e = variable_used vs ws i s a.1 e
variable_used (None ∷ vs) (x ∷ ws) (suc i) s a e = variable_used vs ws i s a e
variable_used vs ws i s a e = absurd a

-- no binder is that of a proof
no_proof : (vs : Binders) (ws : List Sort) (i : ℕ) → Agree vs ws → slice_get vs i ≡ Some (Some Proof) → ⊥
no_proof [] [] i a e = absurd cc
no_proof (Some (Variable r) ∷ vs) (x ∷ ws) zero a e = absurd cc
no_proof (None ∷ vs) (x ∷ ws) zero a e = absurd cc
no_proof (Some (Variable r) ∷ vs) (x ∷ ws) (suc i) a e = no_proof vs ws i a.1 e
no_proof (None ∷ vs) (x ∷ ws) (suc i) a e = no_proof vs ws i a e
no_proof vs ws i a e = absurd a

name_used : (vs : Binders) (ws xs : List Sort) (s : Sort) (r : Reference) → Agree vs ws → IsOfSort vs xs s r → IsUse ws xs s r
name_used vs ws xs s (variable i) a h = variable_used vs ws i s a h
name_used vs ws xs s (item n) a h = h
name_used vs ws xs s (cast i) a h = no_proof vs ws i a h.1

optional : {P Q R : Type 0} → P ⊎ Q → (Q → R) → P ⊎ R
optional (inl p) f = inl p
optional (inr q) f = inr (f q)

pub none_before : (o p : Option Span) → first_place o p ≡ None → o ≡ None
none_before None p e = refl
none_before (Some s) p e = absurd cc

pub none_behind : (o p : Option Span) → first_place o p ≡ None → p ≡ None
none_behind None p e = e
none_behind (Some s) p e = absurd cc

-- nothing is unbuilt in the first of two parts, nor in the second
fst_built : (t u : Scoped) → first_place (unbuilt t) (unbuilt u) ≡ None → unbuilt t ≡ None
fst_built t u e = none_before (unbuilt t) (unbuilt u) e

snd_built : (t u : Scoped) → first_place (unbuilt t) (unbuilt u) ≡ None → unbuilt u ≡ None
snd_built t u e = none_behind (unbuilt t) (unbuilt u) e

-- by the form, under binders that agree with these sorts
mutual
  terms_fit : (xs : List Sort) (t : Scoped) (ob vs : Binders) (ws : List Sort) → Agree vs ws → HasForm terms t → FitsScope ob vs xs OfTerm t → unbuilt t ≡ None → SourceFits ws xs terms t
  terms_fit xs (s_name p r) ob vs ws a h s e = name_used vs ws xs OfTerm r a s
  terms_fit xs (s_lam p x t u) ob vs ws a h s e = (optional h.0 (λ k. types_fit xs t [] vs ws a k s.0 (fst_built t u e)), terms_fit xs u [] (Some (Variable OfTerm) ∷ vs) (OfTerm ∷ ws) (refl, a) h.1 s.1 (snd_built t u e))
  terms_fit xs (s_elam p x t u) ob vs ws a h s e = (optional h.0 (λ k. types_fit xs t [] vs ws a k s.0 (fst_built t u e)), terms_fit xs u [] (Some (Variable OfTerm) ∷ vs) (OfTerm ∷ ws) (refl, a) h.1 s.1 (snd_built t u e))
  terms_fit xs (s_xlam p x t u) ob vs ws a h s e = (optional h.0 (λ k. kinds_fit xs t [] vs ws a k s.0 (fst_built t u e)), terms_fit xs u [] (Some (Variable OfType) ∷ vs) (OfType ∷ ws) (refl, a) h.1 s.1 (snd_built t u e))
  terms_fit xs (s_unclassed p x t u) ob vs ws a h s e = (terms_fit xs u [] (None ∷ vs) (OfTerm ∷ ws) a h.1 s.1 (snd_built t u e), terms_fit xs u [] (None ∷ vs) (OfType ∷ ws) a h.1 s.1 (snd_built t u e))
  terms_fit xs (s_app p t u) ob vs ws a h s e = (terms_fit xs t [] vs ws a h.0 s.0 (fst_built t u e), terms_fit xs u [] vs ws a h.1 s.1 (snd_built t u e))
  terms_fit xs (s_eapp p t u) ob vs ws a h s e = (terms_fit xs t [] vs ws a h.0 s.0 (fst_built t u e), terms_fit xs u [] vs ws a h.1 s.1 (snd_built t u e))
  terms_fit xs (s_tapp p t u) ob vs ws a h s e = (terms_fit xs t [] vs ws a h.0 s.0 (fst_built t u e), types_fit xs u [] vs ws a h.1 s.1 (snd_built t u e))
  terms_fit xs (s_pair p t u) ob vs ws a h s e = (terms_fit xs t [] vs ws a h.0 s.0 (fst_built t u e), terms_fit xs u [] vs ws a h.1 s.1 (snd_built t u e))
  terms_fit xs (s_fst p t) ob vs ws a h s e = terms_fit xs t [] vs ws a h s e
  terms_fit xs (s_snd p t) ob vs ws a h s e = terms_fit xs t [] vs ws a h s e
  terms_fit xs (s_beta p t u) ob vs ws a h s e = (optional h.0 (λ k. terms_fit xs t [] vs ws a k s.0 (fst_built t u e)), optional h.1 (λ k. terms_fit xs u [] vs ws a k s.1 (snd_built t u e)))
  terms_fit xs (s_rho p r x q g t) ob vs ws a h s e = let b = fst_built (bind r guide_of x q g) t e in (terms_fit xs q [] vs ws a h.0.0 s.0.0 (fst_built q g b), types_fit xs g [] (Some (Variable OfTerm) ∷ vs) (OfTerm ∷ ws) (refl, a) h.0.1 s.0.1 (snd_built q g b), terms_fit xs t [] vs ws a h.1 s.1 (snd_built (bind r guide_of x q g) t e))
  terms_fit xs (s_phi p r q t u) ob vs ws a h s e = let b = fst_built (two r group_of q t) u e in (terms_fit xs q [] vs ws a h.0.0 s.0.0 (fst_built q t b), terms_fit xs t [] vs ws a h.0.1 s.0.1 (snd_built q t b), terms_fit xs u [] vs ws a h.1 s.1 (snd_built (two r group_of q t) u e))
  terms_fit xs (s_delta p t u) ob vs ws a h s e = (optional h.0 (λ k. types_fit xs t [] vs ws a k s.0 (fst_built t u e)), terms_fit xs u [] vs ws a h.1 s.1 (snd_built t u e))
  terms_fit xs (s_chi p t u) ob vs ws a h s e = (types_fit xs t [] vs ws a h.0 s.0 (fst_built t u e), terms_fit xs u [] vs ws a h.1 s.1 (snd_built t u e))
  terms_fit xs (s_flip p t) ob vs ws a h s e = terms_fit xs t [] vs ws a h s e
  terms_fit xs (cases p f x t m us) ob vs ws a h s e = absurd cc
  terms_fit xs (two p rho_of t u) ob vs ws a h s e = absurd h.0
  terms_fit xs (two p phi_of t u) ob vs ws a h s e = absurd h.0
  terms_fit xs t ob vs ws a h s e = absurd h

  types_fit : (xs : List Sort) (t : Scoped) (ob vs : Binders) (ws : List Sort) → Agree vs ws → HasForm types t → FitsScope ob vs xs OfType t → unbuilt t ≡ None → SourceFits ws xs types t
  types_fit xs (s_name p r) ob vs ws a h s e = name_used vs ws xs OfType r a s
  types_fit xs (s_pi p x t u) ob vs ws a h s e = (types_fit xs t [] vs ws a h.0 s.0 (fst_built t u e), types_fit xs u [] (Some (Variable OfTerm) ∷ vs) (OfTerm ∷ ws) (refl, a) h.1 s.1 (snd_built t u e))
  types_fit xs (s_all p x t u) ob vs ws a h s e = (types_fit xs t [] vs ws a h.0 s.0 (fst_built t u e), types_fit xs u [] (Some (Variable OfTerm) ∷ vs) (OfTerm ∷ ws) (refl, a) h.1 s.1 (snd_built t u e))
  types_fit xs (s_iota p x t u) ob vs ws a h s e = (types_fit xs t [] vs ws a h.0 s.0 (fst_built t u e), types_fit xs u [] (Some (Variable OfTerm) ∷ vs) (OfTerm ∷ ws) (refl, a) h.1 s.1 (snd_built t u e))
  types_fit xs (s_allt p x t u) ob vs ws a h s e = (kinds_fit xs t [] vs ws a h.0 s.0 (fst_built t u e), types_fit xs u [] (Some (Variable OfType) ∷ vs) (OfType ∷ ws) (refl, a) h.1 s.1 (snd_built t u e))
  types_fit xs (s_tlam p x t u) ob vs ws a h s e = (types_fit xs t [] vs ws a h.0 s.0 (fst_built t u e), types_fit xs u [] (Some (Variable OfTerm) ∷ vs) (OfTerm ∷ ws) (refl, a) h.1 s.1 (snd_built t u e))
  types_fit xs (s_xtlam p x t u) ob vs ws a h s e = (kinds_fit xs t [] vs ws a h.0 s.0 (fst_built t u e), types_fit xs u [] (Some (Variable OfType) ∷ vs) (OfType ∷ ws) (refl, a) h.1 s.1 (snd_built t u e))
  types_fit xs (s_at p t u) ob vs ws a h s e = (types_fit xs t [] vs ws a h.0 s.0 (fst_built t u e), terms_fit xs u [] vs ws a h.1 s.1 (snd_built t u e))
  types_fit xs (s_on p t u) ob vs ws a h s e = (types_fit xs t [] vs ws a h.0 s.0 (fst_built t u e), types_fit xs u [] vs ws a h.1 s.1 (snd_built t u e))
  types_fit xs (s_eq p t u) ob vs ws a h s e = (terms_fit xs t [] vs ws a h.0 s.0 (fst_built t u e), terms_fit xs u [] vs ws a h.1 s.1 (snd_built t u e))
  types_fit xs t ob vs ws a h s e = absurd h

  kinds_fit : (xs : List Sort) (t : Scoped) (ob vs : Binders) (ws : List Sort) → Agree vs ws → HasForm kinds t → FitsScope ob vs xs OfType t → unbuilt t ≡ None → SourceFits ws xs kinds t
  kinds_fit xs (s_star p) ob vs ws a h s e = tt
  kinds_fit xs (s_kpi p x t u) ob vs ws a h s e = (types_fit xs t [] vs ws a h.0 s.0 (fst_built t u e), kinds_fit xs u [] (Some (Variable OfTerm) ∷ vs) (OfTerm ∷ ws) (refl, a) h.1 s.1 (snd_built t u e))
  kinds_fit xs (s_kpit p x t u) ob vs ws a h s e = (kinds_fit xs t [] vs ws a h.0 s.0 (fst_built t u e), kinds_fit xs u [] (Some (Variable OfType) ∷ vs) (OfType ∷ ws) (refl, a) h.1 s.1 (snd_built t u e))
  kinds_fit xs t ob vs ws a h s e = absurd h

item_fits : (xs : List Sort) (i : ScopedItem) → ItemHasForm i → ItemFits xs i → unbuilt_item i ≡ None → SourceItemFits xs i
item_fits xs (def_item p x t u) h s e = (types_fit xs t [] [] [] tt h.0 s.0 (fst_built t u e), terms_fit xs u [] [] [] tt h.1 s.1 (snd_built t u e))
item_fits xs (type_item p x t u) h s e = (kinds_fit xs t [] [] [] tt h.0 s.0 (fst_built t u e), types_fit xs u [] [] [] tt h.1 s.1 (snd_built t u e))
item_fits xs (data_item p d ps cs) h s e = absurd cc

pub items_fit : (xs : List Sort) (is : List ScopedItem) → HaveForms is → ItemsFit xs is → unbuilt_items is ≡ None → SourceItemsFit xs is
items_fit xs [] h s e = tt
items_fit xs (def_item p x t u ∷ is) h s e = (item_fits xs (def_item p x t u) h.0 s.0 (none_before (unbuilt_item (def_item p x t u)) (unbuilt_items is) e), items_fit (xs ++ OfTerm ∷ []) is h.1 s.1 (none_behind (unbuilt_item (def_item p x t u)) (unbuilt_items is) e))
items_fit xs (type_item p x t u ∷ is) h s e = (item_fits xs (type_item p x t u) h.0 s.0 (none_before (unbuilt_item (type_item p x t u)) (unbuilt_items is) e), items_fit (xs ++ OfType ∷ []) is h.1 s.1 (none_behind (unbuilt_item (type_item p x t u)) (unbuilt_items is) e))
items_fit xs (data_item p d ps cs ∷ is) h s e = absurd cc
