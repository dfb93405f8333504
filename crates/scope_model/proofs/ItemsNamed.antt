-- The items of a module whose scope is known are called as written, in the same order.
use Rattle.std.proofs.Common.{◌≡◌, ℕ, suc, List, [], ◌∷◌, ◌++◌, Option, Some, Ok, length, map, refl, sym, ap, subst, ◌∙◌, arith, append_assoc, length-append, codes}
use Rattle.std.proofs.lemmas.List.{append-nil}
use Rattle.cdle_model.specs.declared.grammar.Sort.{Sort}
use Rattle.cdle_model.specs.declared.grammar.Sort.TheVariants.{OfTerm, OfType}
use Rattle.cdle_model.specs.CoreNames.{Name}
use Rattle.source_model.specs.Source.{Constructor, def_item, type_item, data_item, NameUse, Item, Module}
use Rattle.scope_model.specs.Scoped.{Reference, ScopedItem, ScopedModule}
use Rattle.scope_model.specs.ScopeNames.{Text, Variable, Bound, Exported, Around}
use Rattle.scope_model.specs.Scope.{◌>>=◌, with_parameters, scoped, generated, of_sort, constructor_names, item_names, all_names, texts, written, parameters, constructors, scoped_item, scoped_items, scoped_module, count, around, with_module}
use Rattle.scope_model.specs.ScopeFits.{sorts, known_sorts}
use Rattle.scope_model.specs.ItemNames.{as_written}
use Rattle.scope_model.proofs.Results.{and_then, not_taken, one_module}

map-append : (f : Name → Name) (xs ys : List Name) → map f (xs ++ ys) ≡ map f xs ++ map f ys
map-append f [] ys = refl
map-append f (x ∷ xs) ys = ap (λ (l : List Name). f x ∷ l) (map-append f xs ys)

-- as written, a generated name is that of the datatype as written
written-append : (a : Around) (x y : Text) → written a x ++ y ≡ written a (x ++ y)
written-append a x y = append_assoc a.name (codes "." ++ x) y

abbrev Constructors : Type 0 → Type 0 → Type 0
Constructors B N = List (Constructor Text B N)

constructors_named : (a : Around) (bs : List Bound) (taken : List Text) (cs : Constructors (Option Text) (NameUse Text)) (ds : Constructors (Unit {0}) Reference)
    → constructors a bs taken cs ≡ Ok ds → constructor_names ds ≡ map (as_written a) (constructor_names cs)
constructors_named a bs taken [] ds e = let same : [] ≡ ds = cc in subst (λ (l : Constructors (Unit {0}) Reference). constructor_names l ≡ []) same refl
constructors_named a bs taken (c ∷ cs) ds e =
    let f = not_taken c.span (c.name ∷ []) taken _ ds e in
    let k = and_then (scoped a [] bs OfType c.type) _ ds f in
    let r = and_then (constructors a bs (c.name ∷ taken) cs) (λ rs. Ok (record { span = c.span; name = written a c.name; type = k.0 } ∷ rs)) ds k.2 in
    let same : (record { span = c.span; name = written a c.name; type = k.0 }) ∷ r.0 ≡ ds = cc in
    subst (λ (l : Constructors (Unit {0}) Reference). constructor_names l ≡ map (as_written a) (constructor_names (c ∷ cs))) same
    (ap (λ (l : List Name). of_sort OfTerm (written a c.name) ∷ l) (constructors_named a bs (c.name ∷ taken) cs r.0 r.1))

-- an item is called as written, and so is all that it gives
abbrev IsNamed : Around → Item Text → ScopedItem → Type 0
IsNamed a i j = item_names j ≡ map (as_written a) (item_names i)

pub item_named : (a : Around) (i : Item Text) (j : ScopedItem) → scoped_item a i ≡ Ok j → IsNamed a i j
item_named a (def_item p x t u) j e =
    let f = not_taken p (x ∷ []) (texts a.own) _ j e in
    let k = and_then (scoped a [] [] OfType t) (λ v. scoped a [] [] OfTerm u >>= λ w. Ok (def_item p (written a x) v w)) j f in
    let r = and_then (scoped a [] [] OfTerm u) (λ w. Ok (def_item p (written a x) k.0 w)) j k.2 in
    let same : def_item p (written a x) k.0 r.0 ≡ j = cc in
    subst (IsNamed a (def_item p x t u)) same refl
item_named a (type_item p x t u) j e =
    let f = not_taken p (x ∷ []) (texts a.own) _ j e in
    let k = and_then (scoped a [] [] OfType t) (λ v. scoped a [] [] OfType u >>= λ w. Ok (type_item p (written a x) v w)) j f in
    let r = and_then (scoped a [] [] OfType u) (λ w. Ok (type_item p (written a x) k.0 w)) j k.2 in
    let same : type_item p (written a x) k.0 r.0 ≡ j = cc in
    subst (IsNamed a (type_item p x t u)) same refl
item_named a (data_item p d ps cs) j e =
    let b : Bound = record { name = Some d; binding = Variable OfType } in
    let taken : List Text = generated d ++ texts a.own in
    let f = not_taken p (generated d) (texts a.own) _ j e in
    let k = and_then (parameters a [] ps) (λ qs. constructors a (b ∷ with_parameters ps []) taken cs >>= λ ds. Ok (data_item p (written a d) qs ds)) j f in
    let r = and_then (constructors a (b ∷ with_parameters ps []) taken cs) (λ ds. Ok (data_item p (written a d) k.0 ds)) j k.2 in
    let same : data_item p (written a d) k.0 r.0 ≡ j = cc in
    let own = constructors_named a (b ∷ with_parameters ps []) taken cs r.0 r.1 in
    let ending : (y : Text) → written a d ++ y ≡ written a (d ++ y) = written-append a d in
    let behind : List Name = of_sort OfTerm (d ++ codes "/mu") ∷ of_sort OfTerm (d ++ codes "/sigma") ∷ [] in
    let named : IsNamed a (data_item p d ps cs) (data_item p (written a d) k.0 r.0) =
    (λ i. of_sort OfType (ending (codes "/F") i) ∷ of_sort OfTerm (ending (codes "/mono") i) ∷ of_sort OfType (written a d) ∷ (own i ++ (of_sort OfTerm (ending (codes "/mu") i) ∷ of_sort OfTerm (ending (codes "/sigma") i) ∷ [])))
    ∙ ap (λ (l : List Name). of_sort OfType (written a (d ++ codes "/F")) ∷ of_sort OfTerm (written a (d ++ codes "/mono")) ∷ of_sort OfType (written a d) ∷ l) (sym (map-append (as_written a) (constructor_names cs) behind)) in
    subst (IsNamed a (data_item p d ps cs)) same named

items_named : (a : Around) (is : List (Item Text)) (js : List ScopedItem) → scoped_items a is ≡ Ok js → all_names js ≡ map (as_written a) (all_names is)
unfolding scoped_items
items_named a [] js e = let same : [] ≡ js = cc in subst (λ (l : List ScopedItem). all_names l ≡ []) same refl
items_named a (i ∷ is) js e =
    let b : Around = record a { own = a.own ++ item_names i } in
    let j = and_then (scoped_item a i) (λ j. scoped_items b is >>= λ ks. Ok (j ∷ ks)) js e in
    let ks = and_then (scoped_items b is) (λ ks. Ok (j.0 ∷ ks)) js j.2 in
    let same : j.0 ∷ ks.0 ≡ js = cc in
    let one = item_named a i j.0 j.1 in
    let more = items_named b is ks.0 ks.1 in
    subst (λ (l : List ScopedItem). all_names l ≡ map (as_written a) (all_names (i ∷ is))) same ((λ k. one k ++ more k) ∙ sym (map-append (as_written a) (item_names i) (all_names is)))

-- ---- sorts and numbers

sorts-written : (a : Around) (xs : List Name) → sorts (map (as_written a) xs) ≡ sorts xs
sorts-written a [] = refl
sorts-written a (x ∷ xs) = ap (λ (l : List Sort). x.sort ∷ l) (sorts-written a xs)

pub item_sorted : (a : Around) (i : Item Text) (j : ScopedItem) → scoped_item a i ≡ Ok j → sorts (item_names j) ≡ sorts (item_names i)
item_sorted a i j e = ap sorts (item_named a i j e) ∙ sorts-written a (item_names i)

pub sorts-append : (xs ys : List Name) → sorts (xs ++ ys) ≡ sorts xs ++ sorts ys
sorts-append [] ys = refl
sorts-append (x ∷ xs) ys = ap (λ (l : List Sort). x.sort ∷ l) (sorts-append xs ys)

pub length-sorts : (ys : List Name) → length (sorts ys) ≡ length ys
length-sorts [] = refl
length-sorts (y ∷ ys) = ap (λ (n : ℕ). suc n) (length-sorts ys)

pub count-known : (ys : List Exported) → count ys ≡ length (known_sorts ys)
count-known [] = refl
count-known (y ∷ ys) = omega (arith, count-known ys, length-sorts y.items, length-append (sorts y.items) (known_sorts ys))

known-append : (xs : List Exported) (y : Exported) → known_sorts (xs ++ y ∷ []) ≡ known_sorts xs ++ sorts y.items
known-append [] y = append-nil (sorts y.items)
known-append (x ∷ xs) y = ap (λ (l : List Sort). sorts x.items ++ l) (known-append xs y) ∙ sym (append_assoc (sorts x.items) (known_sorts xs) (sorts y.items))

-- ---- modules

-- a module whose scope is known has its items
pub module_items : (known : List Exported) (m : Module Text) (r : ScopedModule) → scoped_module known m ≡ Ok r → (r.first ≡ count known) × (scoped_items (around known m) m.items ≡ Ok r.items)
module_items known m r e =
    let is = and_then (scoped_items (around known m) m.items) (λ is. Ok (record { first = count known; items = is })) r e in
    let same = one_module (record { first = count known; items = is.0 }) r is.2 in
    (sym (ap (λ (x : ScopedModule). x.first) same), is.1 ∙ ap (λ (x : ScopedModule). Ok x.items) same)

pub module_named : (known : List Exported) (m : Module Text) (r : ScopedModule) → scoped_module known m ≡ Ok r → all_names r.items ≡ map (as_written (around known m)) (all_names m.items)
module_named known m r e = items_named (around known m) m.items r.items (module_items known m r e).1

pub module_first : (known : List Exported) (m : Module Text) (r : ScopedModule) → scoped_module known m ≡ Ok r → r.first ≡ length (known_sorts known)
module_first known m r e = (module_items known m r e).0 ∙ count-known known

pub module_sorted : (known : List Exported) (m : Module Text) (r : ScopedModule) → scoped_module known m ≡ Ok r → known_sorts (with_module known m) ≡ known_sorts known ++ sorts (all_names r.items)
module_sorted known m r e = known-append known (record { name = m.name; first = count known; items = all_names m.items })
    ∙ ap (λ (l : List Sort). known_sorts known ++ l) (sym (ap sorts (module_named known m r e) ∙ sorts-written (around known m) (all_names m.items)))
