-- Where the surface rules may be asked of a part, nothing is unbuilt in it.
use Rattle.std.proofs.Common.{◌≡◌, true, List, [], ◌∷◌, ◌⊎◌, inl, inr, Option, Some, None, refl}
use Rattle.cdle_model.specs.declared.grammar.Sort.{Sort}
use Rattle.cdle_model.specs.declared.grammar.Sort.TheVariants.{OfTerm, OfType}
use Rattle.cdle_model.specs.Classes.{terms, types, kinds}
use Rattle.source_model.specs.Source.{Span, use_of, leaf, two, bind, group_of, guide_of, def_item, type_item, data_item}
use Rattle.source_model.specs.Heights.{is_none}
use Rattle.scope_model.specs.Scoped.{Scoped, ScopedItem}
use Rattle.elab_model.specs.ScopedForms.{s_name, s_lam, s_elam, s_xlam, s_unclassed, s_app, s_eapp, s_tapp, s_pair, s_fst, s_snd, s_beta, s_rho, s_phi, s_delta, s_chi, s_flip, s_pi, s_all, s_allt, s_tlam, s_xtlam, s_iota, s_at, s_on, s_eq, s_star, s_kpi, s_kpit}
use Rattle.elab_model.specs.SourceClasses.{SourceFits}
use Rattle.elab_model.specs.Items.{SourceItemFits, SourceItemsFit}
use Rattle.build_model.specs.Unbuilt.{first_place, unbuilt, unbuilt_item, unbuilt_items}
use Rattle.build_model.proofs.Forms.{HasForm, ItemHasForm, HaveForms}

none_at_all : (o p : Option Span) → o ≡ None → p ≡ None → first_place o p ≡ None
none_at_all None p d e = e
none_at_all (Some s) p d e = absurd cc

both_built : (t u : Scoped) → unbuilt t ≡ None → unbuilt u ≡ None → first_place (unbuilt t) (unbuilt u) ≡ None
both_built t u d e = none_at_all (unbuilt t) (unbuilt u) d e

none_built : (t : Scoped) → is_none t ≡ true → unbuilt t ≡ None
none_built (use_of p r) e = refl
none_built (leaf p l) e = refl
none_built t e = absurd cc

-- by its form the part is left out or of a class, and by its names
maybe_built : {P Q : Type 0} (t : Scoped) → (is_none t ≡ true) ⊎ P → (is_none t ≡ true) ⊎ Q → (P → Q → unbuilt t ≡ None) → unbuilt t ≡ None
maybe_built t (inl e) k f = none_built t e
maybe_built t (inr p) (inl e) f = none_built t e
maybe_built t (inr p) (inr q) f = f p q

mutual
  terms_built : (xs ws : List Sort) (t : Scoped) → HasForm terms t → SourceFits ws xs terms t → unbuilt t ≡ None
  terms_built xs ws (s_name p r) h s = refl
  terms_built xs ws (s_lam p x t u) h s = both_built t u (maybe_built t h.0 s.0 (types_built xs ws t)) (terms_built xs (OfTerm ∷ ws) u h.1 s.1)
  terms_built xs ws (s_elam p x t u) h s = both_built t u (maybe_built t h.0 s.0 (types_built xs ws t)) (terms_built xs (OfTerm ∷ ws) u h.1 s.1)
  terms_built xs ws (s_xlam p x t u) h s = both_built t u (maybe_built t h.0 s.0 (kinds_built xs ws t)) (terms_built xs (OfType ∷ ws) u h.1 s.1)
  terms_built xs ws (s_unclassed p x t u) h s = both_built t u (none_built t h.0) (terms_built xs (OfTerm ∷ ws) u h.1 s.0)
  terms_built xs ws (s_app p t u) h s = both_built t u (terms_built xs ws t h.0 s.0) (terms_built xs ws u h.1 s.1)
  terms_built xs ws (s_eapp p t u) h s = both_built t u (terms_built xs ws t h.0 s.0) (terms_built xs ws u h.1 s.1)
  terms_built xs ws (s_tapp p t u) h s = both_built t u (terms_built xs ws t h.0 s.0) (types_built xs ws u h.1 s.1)
  terms_built xs ws (s_pair p t u) h s = both_built t u (terms_built xs ws t h.0 s.0) (terms_built xs ws u h.1 s.1)
  terms_built xs ws (s_fst p t) h s = terms_built xs ws t h s
  terms_built xs ws (s_snd p t) h s = terms_built xs ws t h s
  terms_built xs ws (s_flip p t) h s = terms_built xs ws t h s
  terms_built xs ws (s_beta p t u) h s = both_built t u (maybe_built t h.0 s.0 (terms_built xs ws t)) (maybe_built u h.1 s.1 (terms_built xs ws u))
  terms_built xs ws (s_rho p r x q g t) h s = both_built (bind r guide_of x q g) t (both_built q g (terms_built xs ws q h.0.0 s.0) (types_built xs (OfTerm ∷ ws) g h.0.1 s.1)) (terms_built xs ws t h.1 s.2)
  terms_built xs ws (s_phi p r q t u) h s = both_built (two r group_of q t) u (both_built q t (terms_built xs ws q h.0.0 s.0) (terms_built xs ws t h.0.1 s.1)) (terms_built xs ws u h.1 s.2)
  terms_built xs ws (s_delta p t u) h s = both_built t u (maybe_built t h.0 s.0 (types_built xs ws t)) (terms_built xs ws u h.1 s.1)
  terms_built xs ws (s_chi p t u) h s = both_built t u (types_built xs ws t h.0 s.0) (terms_built xs ws u h.1 s.1)
  terms_built xs ws t h s = absurd s

  types_built : (xs ws : List Sort) (t : Scoped) → HasForm types t → SourceFits ws xs types t → unbuilt t ≡ None
  types_built xs ws (s_name p r) h s = refl
  types_built xs ws (s_pi p x t u) h s = both_built t u (types_built xs ws t h.0 s.0) (types_built xs (OfTerm ∷ ws) u h.1 s.1)
  types_built xs ws (s_all p x t u) h s = both_built t u (types_built xs ws t h.0 s.0) (types_built xs (OfTerm ∷ ws) u h.1 s.1)
  types_built xs ws (s_iota p x t u) h s = both_built t u (types_built xs ws t h.0 s.0) (types_built xs (OfTerm ∷ ws) u h.1 s.1)
  types_built xs ws (s_allt p x t u) h s = both_built t u (kinds_built xs ws t h.0 s.0) (types_built xs (OfType ∷ ws) u h.1 s.1)
  types_built xs ws (s_tlam p x t u) h s = both_built t u (types_built xs ws t h.0 s.0) (types_built xs (OfTerm ∷ ws) u h.1 s.1)
  types_built xs ws (s_xtlam p x t u) h s = both_built t u (kinds_built xs ws t h.0 s.0) (types_built xs (OfType ∷ ws) u h.1 s.1)
  types_built xs ws (s_at p t u) h s = both_built t u (types_built xs ws t h.0 s.0) (terms_built xs ws u h.1 s.1)
  types_built xs ws (s_on p t u) h s = both_built t u (types_built xs ws t h.0 s.0) (types_built xs ws u h.1 s.1)
  types_built xs ws (s_eq p t u) h s = both_built t u (terms_built xs ws t h.0 s.0) (terms_built xs ws u h.1 s.1)
  types_built xs ws t h s = absurd s

  kinds_built : (xs ws : List Sort) (t : Scoped) → HasForm kinds t → SourceFits ws xs kinds t → unbuilt t ≡ None
  kinds_built xs ws (s_star p) h s = refl
  kinds_built xs ws (s_kpi p x t u) h s = both_built t u (types_built xs ws t h.0 s.0) (kinds_built xs (OfTerm ∷ ws) u h.1 s.1)
  kinds_built xs ws (s_kpit p x t u) h s = both_built t u (kinds_built xs ws t h.0 s.0) (kinds_built xs (OfType ∷ ws) u h.1 s.1)
  kinds_built xs ws t h s = absurd s

item_built : (xs : List Sort) (i : ScopedItem) → ItemHasForm i → SourceItemFits xs i → unbuilt_item i ≡ None
item_built xs (def_item p x t u) h s = both_built t u (types_built xs [] t h.0 s.0) (terms_built xs [] u h.1 s.1)
item_built xs (type_item p x t u) h s = both_built t u (kinds_built xs [] t h.0 s.0) (types_built xs [] u h.1 s.1)
item_built xs (data_item p d ps cs) h s = absurd s

pub items_built : (xs : List Sort) (is : List ScopedItem) → HaveForms is → SourceItemsFit xs is → unbuilt_items is ≡ None
items_built xs [] h s = refl
items_built xs (i ∷ is) h s = none_at_all (unbuilt_item i) (unbuilt_items is) (item_built xs i h.0 s.0) (items_built _ is h.1 s.1)
