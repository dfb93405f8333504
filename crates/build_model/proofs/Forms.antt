-- Which parts are terms, types and kinds by their forms, whatever their names are.
use Rattle.std.proofs.Common.{◌≡◌, Bool, true, List, ◌⊎◌}
use Rattle.std.specs.List.{AllByRecursion}
use Rattle.cdle_model.specs.Classes.{TreeClass, terms, types, kinds, guided_proofs, term_pairs}
use Rattle.source_model.specs.Source.{Source, use_of, leaf, one, two, bind, cases, branch, SourceLeaf, star_of, SourceTwo, app_of, eapp_of, tapp_of, at_of, on_of, pair_of, eq_of, beta_of, delta_of, chi_of, phi_of, rho_of, group_of, SourceBinder, pi_of, all_of, allt_of, tlam_of, xtlam_of, iota_of, kpi_of, kpit_of, lam_of, elam_of, xlam_of, unclassed_of, guide_of, SourceItem, def_item, type_item, data_item}
use Rattle.source_model.specs.Heights.{is_none}

-- what a place takes: a part of the class, one that may be left out, nothing
pub data Place : Type 0 where
  must may : TreeClass → Place
  empty : Place

-- the places of a form of two parts, where the class has it
pub data Places : Type 0 where
  nowhere : Places
  both : Place → Place → Places

abbrev pub two_places : TreeClass → SourceTwo → Places
two_places terms app_of = both (must terms) (must terms)
two_places terms eapp_of = both (must terms) (must terms)
two_places terms tapp_of = both (must terms) (must types)
two_places terms pair_of = both (must terms) (must terms)
two_places terms beta_of = both (may terms) (may terms)
two_places terms delta_of = both (may types) (must terms)
two_places terms chi_of = both (must types) (must terms)
two_places terms phi_of = both (must term_pairs) (must terms)
two_places terms rho_of = both (must guided_proofs) (must terms)
two_places term_pairs group_of = both (must terms) (must terms)
two_places types at_of = both (must types) (must terms)
two_places types on_of = both (must types) (must types)
two_places types eq_of = both (must terms) (must terms)
two_places c j = nowhere

abbrev pub bind_places : TreeClass → SourceBinder → Places
bind_places terms lam_of = both (may types) (must terms)
bind_places terms elam_of = both (may types) (must terms)
bind_places terms xlam_of = both (may kinds) (must terms)
bind_places terms unclassed_of = both empty (must terms)
bind_places guided_proofs guide_of = both (must terms) (must types)
bind_places types pi_of = both (must types) (must types)
bind_places types all_of = both (must types) (must types)
bind_places types iota_of = both (must types) (must types)
bind_places types allt_of = both (must kinds) (must types)
bind_places types tlam_of = both (must types) (must types)
bind_places types xtlam_of = both (must kinds) (must types)
bind_places kinds kpi_of = both (must types) (must kinds)
bind_places kinds kpit_of = both (must kinds) (must kinds)
bind_places c f = nowhere

-- a part stands there which is left out or not, and is of some classes
abbrev pub AtPlace : Place → Bool → (TreeClass → Type 0) → Type 0
AtPlace (must c) b P = P c
AtPlace (may c) b P = (b ≡ true) ⊎ P c
AtPlace empty b P = b ≡ true

abbrev pub AtPlaces : Places → Bool → (TreeClass → Type 0) → Bool → (TreeClass → Type 0) → Type 0
AtPlaces nowhere b P c Q = ⊥
AtPlaces (both x y) b P c Q = AtPlace x b P × AtPlace y c Q

abbrev pub HasName : TreeClass → Type 0
HasName terms = Unit {0}
HasName types = Unit {0}
HasName c = ⊥

abbrev pub HasLeaf : TreeClass → SourceLeaf → Type 0
HasLeaf kinds star_of = Unit {0}
HasLeaf c l = ⊥

abbrev pub IfTerm : TreeClass → Type 0 → Type 0
IfTerm terms P = P
IfTerm c P = ⊥

-- the part is of the class; what stands in a case is not looked at
abbrev pub HasForm : {B N : Type 0} → TreeClass → Source B N → Type 0
HasForm c (use_of s n) = HasName c
HasForm c (leaf s l) = HasLeaf c l
HasForm c (one s j t) = IfTerm c (HasForm terms t)
HasForm c (two s j t u) = AtPlaces (two_places c j) (is_none t) (λ d. HasForm d t) (is_none u) (λ d. HasForm d u)
HasForm c (bind s f x t u) = AtPlaces (bind_places c f) (is_none t) (λ d. HasForm d t) (is_none u) (λ d. HasForm d u)
HasForm c (cases s f x t m us) = IfTerm c (Unit {0})
HasForm c (branch s n ps t us) = ⊥

-- the parts of a definition are of their classes; what stands in a datatype is not looked at
abbrev pub ItemHasForm : {X B N : Type 0} → SourceItem X B N → Type 0
ItemHasForm (def_item s x a t) = HasForm types a × HasForm terms t
ItemHasForm (type_item s x k a) = HasForm kinds k × HasForm types a
ItemHasForm (data_item s x ps cs) = Unit {0}

abbrev pub HaveForms : {X B N : Type 0} → List (SourceItem X B N) → Type 0
HaveForms is = AllByRecursion (λ i. ItemHasForm i) is
