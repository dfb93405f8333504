-- Where nothing is unbuilt each item is one Core item, with its name and its sort.
use Rattle.std.proofs.Common.{◌≡◌, Bool, true, false, List, [], ◌∷◌, ◌++◌, map, None, Ok, refl, sym, ap, ◌∙◌}
use Rattle.std.specs.List.{AllByRecursion, IsDistinct}
use Rattle.std.specs.Str.{bytes_eq}
use Rattle.std.proofs.lemmas.Slice.Eq.{bytes_eq-Decides}
use Rattle.cdle_model.specs.declared.grammar.Sort.{Sort}
use Rattle.cdle_model.specs.declared.grammar.Sort.TheVariants.{OfTerm, OfType}
use Rattle.source_model.specs.Source.{def_item, type_item, data_item, Module}
use Rattle.scope_model.specs.Scoped.{ScopedItem, ScopedModule}
use Rattle.scope_model.specs.ScopeNames.{Text, Exported}
use Rattle.scope_model.specs.Scope.{all_names, texts, scoped_module, with_module}
use Rattle.scope_model.specs.ScopeFits.{sorts, known_sorts}
use Rattle.scope_model.proofs.DifferentNames.{written_names_differ}
use Rattle.scope_model.proofs.ItemsNamed.{module_sorted}
use Rattle.elab_model.specs.Items.{IsFresh, NamesDiffer, source_sort}
use Rattle.build_model.specs.Unbuilt.{unbuilt_item, unbuilt_items}
use Rattle.build_model.proofs.FormsFit.{none_behind}

-- ---- names

-- each of these names is none of those
abbrev pub AreFresh : List Text → List Text → Type 0
AreFresh xs zs = AllByRecursion (λ z. IsFresh z xs) zs

pub differs : (b : Bool) → b ≡ false → b ≡ true → ⊥
differs b e f = absurd cc

fresh_more : (x z : Text) (xs : List Text) → IsFresh z xs → bytes_eq x z ≡ false → IsFresh z (xs ++ x ∷ [])
fresh_more x z [] h e = (λ p. differs (bytes_eq x z) e ((bytes_eq-Decides x z).1 p), tt)
fresh_more x z (y ∷ xs) h e = (h.0, fresh_more x z xs h.1 e)

all_fresh : (x : Text) (xs zs : List Text) → AreFresh xs zs → AllByRecursion (λ z. bytes_eq x z ≡ false) zs → AreFresh (xs ++ x ∷ []) zs
all_fresh x xs [] h e = tt
all_fresh x xs (z ∷ zs) h e = (fresh_more x z xs h.0 e.0, all_fresh x xs zs h.1 e.1)

pub differ_behind : (xs : List Text) (is : List ScopedItem) → unbuilt_items is ≡ None → AreFresh xs (texts (all_names is)) → IsDistinct bytes_eq (texts (all_names is)) → NamesDiffer xs is
unfolding IsDistinct
differ_behind xs [] u h d = tt
differ_behind xs (def_item p x t a ∷ is) u h d = (h.0, differ_behind (xs ++ x ∷ []) is (none_behind (unbuilt_item (def_item p x t a)) (unbuilt_items is) u) (all_fresh x xs (texts (all_names is)) h.1 d.0) d.1)
differ_behind xs (type_item p x t a ∷ is) u h d = (h.0, differ_behind (xs ++ x ∷ []) is (none_behind (unbuilt_item (type_item p x t a)) (unbuilt_items is) u) (all_fresh x xs (texts (all_names is)) h.1 d.0) d.1)
differ_behind xs (data_item p x ps cs ∷ is) u h d = absurd cc

fresh_of_none : (zs : List Text) → AreFresh [] zs
fresh_of_none [] = tt
fresh_of_none (z ∷ zs) = (tt, fresh_of_none zs)

pub names_differ : (known : List Exported) (m : Module Text) (r : ScopedModule) → scoped_module known m ≡ Ok r → unbuilt_items r.items ≡ None → NamesDiffer [] r.items
names_differ known m r e u = differ_behind [] r.items u (fresh_of_none (texts (all_names r.items))) (written_names_differ known m r e)

-- ---- sorts

pub items_sorted : (is : List ScopedItem) → unbuilt_items is ≡ None → map source_sort is ≡ sorts (all_names is)
items_sorted [] u = refl
items_sorted (def_item p x t a ∷ is) u = ap (λ (l : List Sort). OfTerm ∷ l) (items_sorted is (none_behind (unbuilt_item (def_item p x t a)) (unbuilt_items is) u))
items_sorted (type_item p x t a ∷ is) u = ap (λ (l : List Sort). OfType ∷ l) (items_sorted is (none_behind (unbuilt_item (type_item p x t a)) (unbuilt_items is) u))
items_sorted (data_item p x ps cs ∷ is) u = absurd cc

pub known_sorted : (known : List Exported) (m : Module Text) (r : ScopedModule) → scoped_module known m ≡ Ok r → unbuilt_items r.items ≡ None → known_sorts (with_module known m) ≡ known_sorts known ++ map source_sort r.items
known_sorted known m r e u = module_sorted known m r e ∙ ap (λ (l : List Sort). known_sorts known ++ l) (sym (items_sorted r.items u))
