-- A module has the same forms, whatever its names are.
use Rattle.std.proofs.Common.{List, [], ◌∷◌, map, refl}
use Rattle.cdle_model.specs.Classes.{terms, types, kinds}
use Rattle.source_model.specs.Source.{use_of, leaf, one, two, bind, cases, branch, star_of, none_of, def_item, type_item, data_item, Tree, Item}
use Rattle.build_model.specs.Renamed.{renamed, renamed_item}
use Rattle.build_model.proofs.Forms.{two_places, bind_places, HasForm, ItemHasForm, HaveForms}
use Rattle.build_model.proofs.KeptForms.{IsKept, if_term, both_kept}

module _ {A B : Type 0} (f : A → B) where
  form_renamed : (t : Tree A) → IsKept t (renamed f t)
  form_renamed (use_of s u) = (refl, λ c h. h)
  form_renamed (leaf s star_of) = (refl, λ c h. h)
  form_renamed (leaf s none_of) = (refl, λ c h. h)
  form_renamed (one s j t) = (refl, λ c h. if_term c (HasForm terms t) (HasForm terms (renamed f t)) ((form_renamed t).1 terms) h)
  form_renamed (two s j t u) = (refl, λ c h. both_kept (two_places c j) t (renamed f t) u (renamed f u) (form_renamed t) (form_renamed u) h)
  form_renamed (bind s j x t u) = (refl, λ c h. both_kept (bind_places c j) t (renamed f t) u (renamed f u) (form_renamed t) (form_renamed u) h)
  form_renamed (cases s j x t m us) = (refl, λ c h. h)
  form_renamed (branch s u ps t us) = (refl, λ c h. absurd h)

  item_renamed : (i : Item A) → ItemHasForm i → ItemHasForm (renamed_item f i)
  item_renamed (def_item s x a t) h = ((form_renamed a).1 types h.0, (form_renamed t).1 terms h.1)
  item_renamed (type_item s x k a) h = ((form_renamed k).1 kinds h.0, (form_renamed a).1 types h.1)
  item_renamed (data_item s x ps cs) h = tt

  pub items_renamed : (is : List (Item A)) → HaveForms is → HaveForms (map (renamed_item f) is)
  items_renamed [] h = tt
  items_renamed (i ∷ is) h = (item_renamed i h.0, items_renamed is h.1)
