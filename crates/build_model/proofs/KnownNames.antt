-- The items of a module have other names than those of the modules before it.
use Rattle.std.proofs.Common.{◌≡◌, ◌==◌, ℕ, Bool, true, false, ◌||◌, List, [], ◌∷◌, ◌++◌, codes, map, None, Ok, refl, sym, ap, subst, ◌∙◌, append_assoc}
use Rattle.std.specs.List.{AllByRecursion}
use Rattle.std.specs.Str.{bytes_eq}
use Rattle.std.proofs.lemmas.List.{append-nil}
use Rattle.std.proofs.lemmas.Slice.Eq.{bytes_eq-Decides}
use Rattle.cdle_model.specs.CoreNames.{Name}
use Rattle.source_model.specs.Source.{def_item, type_item, data_item, Module}
use Rattle.scope_model.specs.Scoped.{ScopedItem, ScopedModule}
use Rattle.scope_model.specs.ScopeNames.{Text, Exported, Around}
use Rattle.scope_model.specs.Scope.{all_names, around, count, texts, scoped_module, with_module}
use Rattle.scope_model.specs.ItemNames.{as_written}
use Rattle.scope_model.proofs.DifferentNames.{written_names_differ}
use Rattle.scope_model.proofs.ItemsNamed.{module_named}
use Rattle.elab_model.specs.Items.{IsFresh, NamesDiffer, source_name}
use Rattle.build_model.specs.Unbuilt.{unbuilt_item, unbuilt_items}
use Rattle.build_model.specs.ModuleNames.{has_dot, known_names}
use Rattle.build_model.proofs.FormsFit.{none_behind}
use Rattle.build_model.proofs.Items.{AreFresh, differ_behind, differs}

-- ---- written names

or_false : (b c : Bool) → (b || c) ≡ false → (b ≡ false) × (c ≡ false)
or_false true c e = absurd cc
or_false false c e = (refl, e)

-- what stands before the first dot is told by the whole
before_dot : (ns ms xs ys : Text) → has_dot ns ≡ false → has_dot ms ≡ false → ns ++ (codes "." ++ xs) ≡ ms ++ (codes "." ++ ys) → ns ≡ ms
before_dot [] [] xs ys d e p = refl
before_dot [] (m ∷ ms) xs ys d e p = let k : 46 ≡ m = cc in absurd (differs (46 == 46) (subst (λ (b : ℕ). (b == 46) ≡ false) (sym k) (or_false (m == 46) (has_dot ms) e).0) refl)
before_dot (n ∷ ns) [] xs ys d e p = let k : n ≡ 46 = cc in absurd (differs (46 == 46) (subst (λ (b : ℕ). (b == 46) ≡ false) k (or_false (n == 46) (has_dot ns) d).0) refl)
before_dot (n ∷ ns) (m ∷ ms) xs ys d e p =
    let k : n ≡ m = cc in
    let q : ns ++ (codes "." ++ xs) ≡ ms ++ (codes "." ++ ys) = cc in
    let rest = before_dot ns ms xs ys (or_false (n == 46) (has_dot ns) d).1 (or_false (m == 46) (has_dot ms) e).1 q in
    λ i. k i ∷ rest i

fresh_append : (z : Text) (xs ys : List Text) → IsFresh z xs → IsFresh z ys → IsFresh z (xs ++ ys)
fresh_append z [] ys h k = k
fresh_append z (x ∷ xs) ys h k = (h.0, fresh_append z xs ys h.1 k)

fresh_in : (w y n : Text) (ys : List Name) → bytes_eq n w ≡ false → has_dot n ≡ false → has_dot w ≡ false → IsFresh (w ++ (codes "." ++ y)) (map (λ x. n ++ (codes "." ++ x.text)) ys)
fresh_in w y n [] e d f = tt
fresh_in w y n (x ∷ ys) e d f = (λ p. differs (bytes_eq n w) e ((bytes_eq-Decides n w).1 (before_dot n w x.text y d f p)), fresh_in w y n ys e d f)

fresh_known : (w y : Text) (known : List Exported) → AllByRecursion (λ x. bytes_eq x.name w ≡ false) known → AllByRecursion (λ x. has_dot x.name ≡ false) known → has_dot w ≡ false → IsFresh (w ++ (codes "." ++ y)) (known_names known)
fresh_known w y [] n d f = tt
fresh_known w y (x ∷ xs) n d f = fresh_append _ (map (λ z. x.name ++ (codes "." ++ z.text)) x.items) (known_names xs) (fresh_in w y x.name x.items n.0 d.0 f) (fresh_known w y xs n.1 d.1 f)

all_fresh : (a : Around) (known : List Exported) → AllByRecursion (λ x. bytes_eq x.name a.name ≡ false) known → AllByRecursion (λ x. has_dot x.name ≡ false) known → has_dot a.name ≡ false
    → (ys : List Name) → AreFresh (known_names known) (texts (map (as_written a) ys))
all_fresh a known n d f [] = tt
all_fresh a known n d f (y ∷ ys) = (fresh_known a.name y.text known n d f, all_fresh a known n d f ys)

pub names_differ_behind : (known : List Exported) (m : Module Text) (r : ScopedModule) → AllByRecursion (λ x. bytes_eq x.name m.name ≡ false) known → AllByRecursion (λ x. has_dot x.name ≡ false) known → has_dot m.name ≡ false
    → scoped_module known m ≡ Ok r → unbuilt_items r.items ≡ None → NamesDiffer (known_names known) r.items
names_differ_behind known m r n d f e u = differ_behind (known_names known) r.items u
    (subst (λ (l : List Name). AreFresh (known_names known) (texts l)) (sym (module_named known m r e)) (all_fresh (around known m) known n d f (all_names m.items))) (written_names_differ known m r e)

-- ---- the names that are known behind a module

items_called : (is : List ScopedItem) → unbuilt_items is ≡ None → map source_name is ≡ texts (all_names is)
items_called [] u = refl
items_called (def_item p x t a ∷ is) u = ap (λ (l : List Text). x ∷ l) (items_called is (none_behind (unbuilt_item (def_item p x t a)) (unbuilt_items is) u))
items_called (type_item p x t a ∷ is) u = ap (λ (l : List Text). x ∷ l) (items_called is (none_behind (unbuilt_item (type_item p x t a)) (unbuilt_items is) u))
items_called (data_item p x ps cs ∷ is) u = absurd cc

written_texts : (a : Around) (ys : List Name) → map (λ y. a.name ++ (codes "." ++ y.text)) ys ≡ texts (map (as_written a) ys)
written_texts a [] = refl
written_texts a (y ∷ ys) = ap (λ (l : List Text). (a.name ++ (codes "." ++ y.text)) ∷ l) (written_texts a ys)

known_append : (xs : List Exported) (y : Exported) → known_names (xs ++ y ∷ []) ≡ known_names xs ++ map (λ z. y.name ++ (codes "." ++ z.text)) y.items
known_append [] y = append-nil _
known_append (x ∷ xs) y =
    let own : List Text = map (λ z. x.name ++ (codes "." ++ z.text)) x.items in
    let more : List Text = map (λ z. y.name ++ (codes "." ++ z.text)) y.items in
    ap (λ (l : List Text). own ++ l) (known_append xs y) ∙ sym (append_assoc own (known_names xs) more)

pub known_called : (known : List Exported) (m : Module Text) (r : ScopedModule) → scoped_module known m ≡ Ok r → unbuilt_items r.items ≡ None → known_names (with_module known m) ≡ known_names known ++ map source_name r.items
known_called known m r e u =
    known_append known (record { name = m.name; first = count known; items = all_names m.items })
    ∙ ap (λ (l : List Text). known_names known ++ l) (written_texts (around known m) (all_names m.items) ∙ sym (ap texts (module_named known m r e)) ∙ sym (items_called r.items u))
