-- Items and modules whose scope is known fit it.
use Rattle.std.proofs.Common.{◌≡◌, ℕ, ◌+◌, List, [], ◌∷◌, ◌++◌, Option, Some, Ok, length, refl, sym, ap, subst, ◌∙◌, arith, append_assoc}
use Rattle.std.proofs.lemmas.List.{append-nil}
use Rattle.cdle_model.specs.declared.grammar.Sort.{Sort}
use Rattle.cdle_model.specs.declared.grammar.Sort.TheVariants.{OfTerm, OfType}
use Rattle.source_model.specs.Source.{Parameter, Constructor, def_item, type_item, data_item, NameUse, Item, Module}
use Rattle.scope_model.specs.Scoped.{Reference, ScopedItem, ScopedModule}
use Rattle.scope_model.specs.ScopeNames.{Text, Variable, Bound, Exported, Around}
use Rattle.scope_model.specs.Scope.{◌>>=◌, with_parameters, scoped, generated, item_names, texts, parameters, constructors, written, scoped_item, scoped_items, scoped_module, around, count, all_names, with_module}
use Rattle.scope_model.specs.ScopeFits.{Binders, under_parameters, ParametersFit, ConstructorsFit, ItemFits, ItemsFit, AreNumbered, sorts, known_sorts}
use Rattle.scope_model.proofs.Results.{and_then, not_taken}
use Rattle.scope_model.proofs.ItemsNamed.{sorts-append, item_sorted, count-known, module_items}
use Rattle.scope_model.proofs.ScopedFits.{open_fits}
use Rattle.scope_model.proofs.Standings.{binders, IsAround}

parameters_fit : (a : Around) (xs : List Sort) → IsAround a xs → (bs : List Bound) (ps : List (Parameter (Option Text) (NameUse Text))) (qs : List (Parameter (Unit {0}) Reference)) → parameters a bs ps ≡ Ok qs → ParametersFit (binders bs) xs qs
parameters_fit a xs h bs [] qs e = let same : [] ≡ qs = cc in subst (ParametersFit (binders bs) xs) same tt
parameters_fit a xs h bs (p ∷ ps) qs e =
    let b : Bound = record { name = p.binder; binding = Variable p.sort } in
    let k = and_then (scoped a [] bs OfType p.class) _ qs e in
    let r = and_then (parameters a (b ∷ bs) ps) (λ rs. Ok (record { span = p.span; binder = tt; sort = p.sort; class = k.0 } ∷ rs)) qs k.2 in
    let same : (record { span = p.span; binder = tt; sort = p.sort; class = k.0 }) ∷ r.0 ≡ qs = cc in
    subst (ParametersFit (binders bs) xs) same (open_fits a xs h bs OfType p.class k.0 k.1, parameters_fit a xs h (b ∷ bs) ps r.0 r.1)

constructors_fit : (a : Around) (xs : List Sort) → IsAround a xs → (bs : List Bound) (taken : List Text) (cs : List (Constructor Text (Option Text) (NameUse Text))) (ds : List (Constructor Text (Unit {0}) Reference)) → constructors a bs taken cs ≡ Ok ds → ConstructorsFit (binders bs) xs ds
constructors_fit a xs h bs taken [] ds e = let same : [] ≡ ds = cc in subst (ConstructorsFit (binders bs) xs) same tt
constructors_fit a xs h bs taken (c ∷ cs) ds e =
    let f = not_taken c.span (c.name ∷ []) taken _ ds e in
    let k = and_then (scoped a [] bs OfType c.type) _ ds f in
    let r = and_then (constructors a bs (c.name ∷ taken) cs) (λ rs. Ok (record { span = c.span; name = written a c.name; type = k.0 } ∷ rs)) ds k.2 in
    let same : (record { span = c.span; name = written a c.name; type = k.0 }) ∷ r.0 ≡ ds = cc in
    subst (ConstructorsFit (binders bs) xs) same (open_fits a xs h bs OfType c.type k.0 k.1, constructors_fit a xs h bs (c.name ∷ taken) cs r.0 r.1)

binders-parameters : (a : Around) (ps : List (Parameter (Option Text) (NameUse Text))) (bs : List Bound) (qs : List (Parameter (Unit {0}) Reference)) → parameters a bs ps ≡ Ok qs → (cs : List Bound) → binders (with_parameters ps cs) ≡ under_parameters qs (binders cs)
binders-parameters a [] bs qs e cs = let same : [] ≡ qs = cc in subst (λ (l : List (Parameter (Unit {0}) Reference)). binders cs ≡ under_parameters l (binders cs)) same refl
binders-parameters a (p ∷ ps) bs qs e cs =
    let b : Bound = record { name = p.binder; binding = Variable p.sort } in
    let k = and_then (scoped a [] bs OfType p.class) _ qs e in
    let r = and_then (parameters a (b ∷ bs) ps) (λ rs. Ok (record { span = p.span; binder = tt; sort = p.sort; class = k.0 } ∷ rs)) qs k.2 in
    let same : (record { span = p.span; binder = tt; sort = p.sort; class = k.0 }) ∷ r.0 ≡ qs = cc in
    subst (λ (l : List (Parameter (Unit {0}) Reference)). binders (with_parameters (p ∷ ps) cs) ≡ under_parameters l (binders cs)) same (binders-parameters a ps (b ∷ bs) r.0 r.1 (b ∷ cs))

item_fits : (a : Around) (xs : List Sort) → IsAround a xs → (i : Item Text) (j : ScopedItem) → scoped_item a i ≡ Ok j → ItemFits xs j
item_fits a xs h (def_item p x t u) j e =
    let f = not_taken p (x ∷ []) (texts a.own) _ j e in
    let k = and_then (scoped a [] [] OfType t) (λ v. scoped a [] [] OfTerm u >>= λ w. Ok (def_item p (written a x) v w)) j f in
    let r = and_then (scoped a [] [] OfTerm u) (λ w. Ok (def_item p (written a x) k.0 w)) j k.2 in
    let same : def_item p (written a x) k.0 r.0 ≡ j = cc in
    subst (ItemFits xs) same (open_fits a xs h [] OfType t k.0 k.1, open_fits a xs h [] OfTerm u r.0 r.1)
item_fits a xs h (type_item p x t u) j e =
    let f = not_taken p (x ∷ []) (texts a.own) _ j e in
    let k = and_then (scoped a [] [] OfType t) (λ v. scoped a [] [] OfType u >>= λ w. Ok (type_item p (written a x) v w)) j f in
    let r = and_then (scoped a [] [] OfType u) (λ w. Ok (type_item p (written a x) k.0 w)) j k.2 in
    let same : type_item p (written a x) k.0 r.0 ≡ j = cc in
    subst (ItemFits xs) same (open_fits a xs h [] OfType t k.0 k.1, open_fits a xs h [] OfType u r.0 r.1)
item_fits a xs h (data_item p d ps cs) j e =
    let b : Bound = record { name = Some d; binding = Variable OfType } in
    let taken : List Text = generated d ++ texts a.own in
    let f = not_taken p (generated d) (texts a.own) _ j e in
    let k = and_then (parameters a [] ps) (λ qs. constructors a (b ∷ with_parameters ps []) taken cs >>= λ ds. Ok (data_item p (written a d) qs ds)) j f in
    let r = and_then (constructors a (b ∷ with_parameters ps []) taken cs) (λ ds. Ok (data_item p (written a d) k.0 ds)) j k.2 in
    let same : data_item p (written a d) k.0 r.0 ≡ j = cc in
    let fit = constructors_fit a xs h (b ∷ with_parameters ps []) taken cs r.0 r.1 in
    subst (ItemFits xs) same (parameters_fit a xs h [] ps k.0 k.1, subst (λ (l : Binders). ConstructorsFit (Some (Variable OfType) ∷ l) xs r.0) (binders-parameters a ps [] k.0 k.1 []) fit)

items_fit : (a : Around) (xs : List Sort) → IsAround a xs → (is : List (Item Text)) (js : List ScopedItem) → scoped_items a is ≡ Ok js → ItemsFit xs js
unfolding scoped_items
items_fit a xs h [] js e = let same : [] ≡ js = cc in subst (ItemsFit xs) same tt
items_fit a xs h (i ∷ is) js e =
    let b : Around = record a { own = a.own ++ item_names i } in
    let j = and_then (scoped_item a i) (λ j. scoped_items b is >>= λ ks. Ok (j ∷ ks)) js e in
    let ks = and_then (scoped_items b is) (λ ks. Ok (j.0 ∷ ks)) js j.2 in
    let same : j.0 ∷ ks.0 ≡ js = cc in
    let all : xs ++ sorts (item_names j.0) ≡ known_sorts a.modules ++ sorts (a.own ++ item_names i) =
    (λ k. h.all k ++ item_sorted a i j.0 j.1 k) ∙ append_assoc (known_sorts a.modules) (sorts a.own) (sorts (item_names i)) ∙ ap (λ (l : List Sort). known_sorts a.modules ++ l) (sym (sorts-append a.own (item_names i))) in
    subst (ItemsFit xs) same (item_fits a xs h i j.0 j.1, items_fit b (xs ++ sorts (item_names j.0)) (record { numbered = h.numbered; first = h.first; all = all }) is ks.0 ks.1)

-- ---- modules

pub module_fits : (known : List Exported) (m : Module Text) (r : ScopedModule) → AreNumbered 0 known → scoped_module known m ≡ Ok r → ItemsFit (known_sorts known) r.items
module_fits known m r n e =
    let all : known_sorts known ≡ known_sorts known ++ [] = sym (append-nil (known_sorts known)) in
    items_fit (around known m) (known_sorts known) (record { numbered = n; first = count-known known; all = all }) m.items r.items (module_items known m r e).1

numbered_more : (n : ℕ) (known : List Exported) (y : Exported) → AreNumbered n known → y.first ≡ n + count known → AreNumbered n (known ++ (y ∷ []))
numbered_more n [] y a e = (omega (arith, e), tt)
numbered_more n (x ∷ xs) y a e = (a.0, numbered_more (n + length x.items) xs y a.1 (omega (arith, e)))

pub modules_numbered : (known : List Exported) (m : Module Text) → AreNumbered 0 known → AreNumbered 0 (with_module known m)
modules_numbered known m a = numbered_more 0 known (record { name = m.name; first = count known; items = all_names m.items }) a (omega arith)
