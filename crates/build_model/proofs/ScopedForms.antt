-- The scope of a part keeps its form.
use Rattle.std.proofs.Common.{◌≡◌, Bool, List, [], ◌∷◌, ◌++◌, inl, Option, Some, None, Ok, refl, subst}
use Rattle.cdle_model.specs.declared.grammar.Sort.{Sort}
use Rattle.cdle_model.specs.declared.grammar.Sort.TheVariants.{OfTerm, OfType}
use Rattle.cdle_model.specs.Classes.{TreeClass, terms, types, kinds}
use Rattle.source_model.specs.Source.{use_of, leaf, one, two, bind, cases, branch, star_of, none_of, SourceBinder, unclassed_of, def_item, type_item, data_item, Tree, Item, Module}
use Rattle.source_model.specs.Heights.{is_none}
use Rattle.scope_model.specs.Scoped.{Scoped, ScopedItem, ScopedModule}
use Rattle.scope_model.specs.ScopeNames.{Text, Variable, Bound, Exported, Around, stands}
use Rattle.scope_model.specs.Scope.{◌>>=◌, left_sort, right_sort, domain_sort, body_sort, binder_sort, of_case, with_patterns, with_parameters, classed, with_class, wanted_as, bare, scoped, generated, item_names, texts, parameters, constructors, written, scoped_item, scoped_items, scoped_module, around}
use Rattle.scope_model.proofs.Results.{and_then, not_taken}
use Rattle.scope_model.proofs.ItemsNamed.{module_items}
use Rattle.build_model.proofs.Forms.{two_places, bind_places, AtPlaces, HasForm, ItemHasForm, HaveForms}
use Rattle.build_model.proofs.KeptForms.{IsKept, if_term, both_kept}

-- a `Λ` whose class is found has none written
by_use : (c : TreeClass) (o : Option Sort) (a b : Bool) (P Q : TreeClass → Type 0) → AtPlaces (bind_places c unclassed_of) a P b Q → AtPlaces (bind_places c (classed o)) a P b Q
by_use c None a b P Q h = h
by_use terms (Some OfTerm) a b P Q h = (inl h.0, h.1)
by_use terms (Some OfType) a b P Q h = (inl h.0, h.1)
by_use c (Some OfTerm) a b P Q h = absurd h
by_use c (Some OfType) a b P Q h = absurd h

by_class : (c : TreeClass) (f : SourceBinder) (x : Option Text) (u : Tree Text) (a b : Bool) (P Q : TreeClass → Type 0) → AtPlaces (bind_places c f) a P b Q → AtPlaces (bind_places c (with_class f x u)) a P b Q
by_class c unclassed_of (Some x) u a b P Q h = by_use c _ a b P Q h
by_class c f x u a b P Q h = h

-- ---- parts

abbrev HasForms : Tree Text → Scoped → Type 0
HasForms t v = IsKept t v

form_kept : (a : Around) (ob bs : List Bound) (s : Sort) (t : Tree Text) (v : Scoped) → scoped a ob bs s t ≡ Ok v → HasForms t v
unfolding scoped
form_kept a ob bs s (use_of p u) v e =
    let r = and_then (wanted_as p s (stands a bs u)) (λ r. Ok (use_of p r)) v e in
    let same : use_of p r.0 ≡ v = cc in subst (HasForms (use_of p u)) same (refl, λ c h. h)
form_kept a ob bs s (leaf p star_of) v e = let same : leaf p star_of ≡ v = cc in subst (HasForms (leaf p star_of)) same (refl, λ c h. h)
form_kept a ob bs s (leaf p none_of) v e = let same : leaf p none_of ≡ v = cc in subst (HasForms (leaf p none_of)) same (refl, λ c h. h)
form_kept a ob bs s (one p j t) v e =
    let r = and_then (scoped a [] bs OfTerm t) (λ w. Ok (one p j w)) v e in
    let same : one p j r.0 ≡ v = cc in
    subst (HasForms (one p j t)) same (refl, λ c h. if_term c (HasForm terms t) (HasForm terms r.0) ((form_kept a [] bs OfTerm t r.0 r.1).1 terms) h)
form_kept a ob bs s (two p j t u) v e =
    let r = and_then (scoped a [] bs (left_sort j) t) (λ w. scoped a [] bs (right_sort j) u >>= λ z. Ok (two p j w z)) v e in
    let q = and_then (scoped a [] bs (right_sort j) u) (λ z. Ok (two p j r.0 z)) v r.2 in
    let same : two p j r.0 q.0 ≡ v = cc in
    let left = form_kept a [] bs (left_sort j) t r.0 r.1 in
    let right = form_kept a [] bs (right_sort j) u q.0 q.1 in
    subst (HasForms (two p j t u)) same (refl, λ c h. both_kept (two_places c j) t r.0 u q.0 left right h)
form_kept a ob bs s (bind p f x t u) v e =
    let g = with_class f x u in
    let b : Bound = record { name = x; binding = Variable (binder_sort g) } in
    let r = and_then (scoped a [] bs (domain_sort f) t) (λ w. scoped a [] (b ∷ bs) (body_sort f) u >>= λ z. Ok (bind p g tt w z)) v e in
    let q = and_then (scoped a [] (b ∷ bs) (body_sort f) u) (λ z. Ok (bind p g tt r.0 z)) v r.2 in
    let same : bind p g tt r.0 q.0 ≡ v = cc in
    let left = form_kept a [] bs (domain_sort f) t r.0 r.1 in
    let right = form_kept a [] (b ∷ bs) (body_sort f) u q.0 q.1 in
    subst (HasForms (bind p f x t u)) same (refl, λ c h. both_kept (bind_places c g) t r.0 u q.0 left right (by_class c f x u (is_none t) (is_none u) (λ d. HasForm d t) (λ d. HasForm d u) h))
form_kept a ob bs s (cases p f x t m us) v e =
    let r = and_then (scoped a [] bs OfTerm t) (λ w. scoped a [] bs OfType m >>= λ n. scoped a (of_case f x) bs OfTerm us >>= λ ws. Ok (cases p f tt w n ws)) v e in
    let q = and_then (scoped a [] bs OfType m) (λ n. scoped a (of_case f x) bs OfTerm us >>= λ ws. Ok (cases p f tt r.0 n ws)) v r.2 in
    let k = and_then (scoped a (of_case f x) bs OfTerm us) (λ ws. Ok (cases p f tt r.0 q.0 ws)) v q.2 in
    let same : cases p f tt r.0 q.0 k.0 ≡ v = cc in subst (HasForms (cases p f x t m us)) same (refl, λ c h. h)
form_kept a ob bs s (branch p n ps t us) v e =
    let w = and_then (wanted_as p OfTerm (stands a bs n)) (λ r. scoped a [] (with_patterns ps (ob ++ bs)) OfTerm t >>= λ w. scoped a ob bs OfTerm us >>= λ ws. Ok (branch p r (bare ps) w ws)) v e in
    let r = and_then (scoped a [] (with_patterns ps (ob ++ bs)) OfTerm t) (λ w'. scoped a ob bs OfTerm us >>= λ ws. Ok (branch p w.0 (bare ps) w' ws)) v w.2 in
    let k = and_then (scoped a ob bs OfTerm us) (λ ws. Ok (branch p w.0 (bare ps) r.0 ws)) v r.2 in
    let same : branch p w.0 (bare ps) r.0 k.0 ≡ v = cc in subst (HasForms (branch p n ps t us)) same (refl, λ c h. absurd h)

-- ---- items

item_kept : (a : Around) (i : Item Text) (j : ScopedItem) → scoped_item a i ≡ Ok j → ItemHasForm i → ItemHasForm j
item_kept a (def_item p x t u) j e h =
    let f = not_taken p (x ∷ []) (texts a.own) _ j e in
    let k = and_then (scoped a [] [] OfType t) (λ v. scoped a [] [] OfTerm u >>= λ w. Ok (def_item p (written a x) v w)) j f in
    let r = and_then (scoped a [] [] OfTerm u) (λ w. Ok (def_item p (written a x) k.0 w)) j k.2 in
    let same : def_item p (written a x) k.0 r.0 ≡ j = cc in
    subst (λ (i : ScopedItem). ItemHasForm i) same ((form_kept a [] [] OfType t k.0 k.1).1 types h.0, (form_kept a [] [] OfTerm u r.0 r.1).1 terms h.1)
item_kept a (type_item p x t u) j e h =
    let f = not_taken p (x ∷ []) (texts a.own) _ j e in
    let k = and_then (scoped a [] [] OfType t) (λ v. scoped a [] [] OfType u >>= λ w. Ok (type_item p (written a x) v w)) j f in
    let r = and_then (scoped a [] [] OfType u) (λ w. Ok (type_item p (written a x) k.0 w)) j k.2 in
    let same : type_item p (written a x) k.0 r.0 ≡ j = cc in
    subst (λ (i : ScopedItem). ItemHasForm i) same ((form_kept a [] [] OfType t k.0 k.1).1 kinds h.0, (form_kept a [] [] OfType u r.0 r.1).1 types h.1)
item_kept a (data_item p d ps cs) j e h =
    let b : Bound = record { name = Some d; binding = Variable OfType } in
    let taken : List Text = generated d ++ texts a.own in
    let f = not_taken p (generated d) (texts a.own) _ j e in
    let k = and_then (parameters a [] ps) (λ qs. constructors a (b ∷ with_parameters ps []) taken cs >>= λ ds. Ok (data_item p (written a d) qs ds)) j f in
    let r = and_then (constructors a (b ∷ with_parameters ps []) taken cs) (λ ds. Ok (data_item p (written a d) k.0 ds)) j k.2 in
    let same : data_item p (written a d) k.0 r.0 ≡ j = cc in
    subst (λ (i : ScopedItem). ItemHasForm i) same tt

items_kept : (a : Around) (is : List (Item Text)) (js : List ScopedItem) → scoped_items a is ≡ Ok js → HaveForms is → HaveForms js
unfolding scoped_items
items_kept a [] js e h = let same : [] ≡ js = cc in subst (λ (l : List ScopedItem). HaveForms l) same tt
items_kept a (i ∷ is) js e h =
    let b : Around = record a { own = a.own ++ item_names i } in
    let j = and_then (scoped_item a i) (λ j. scoped_items b is >>= λ ks. Ok (j ∷ ks)) js e in
    let ks = and_then (scoped_items b is) (λ ks. Ok (j.0 ∷ ks)) js j.2 in
    let same : j.0 ∷ ks.0 ≡ js = cc in
    subst (λ (l : List ScopedItem). HaveForms l) same (item_kept a i j.0 j.1 h.0, items_kept b is ks.0 ks.1 h.1)

pub module_kept : (known : List Exported) (m : Module Text) (r : ScopedModule) → scoped_module known m ≡ Ok r → HaveForms m.items → HaveForms r.items
module_kept known m r e h = items_kept (around known m) m.items r.items (module_items known m r e).1 h
