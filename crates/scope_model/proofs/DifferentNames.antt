-- The names of a module's items differ from one another.
use Rattle.std.proofs.Common.{◌≡◌, Bool, true, false, ◌||◌, if◌then◌else◌, List, [], ◌∷◌, ◌++◌, Option, Some, Ok, map, ◌⊎◌, inl, inr, refl, sym, ap, subst, ◌∙◌, codes, eq-eqb}
use Rattle.std.specs.List.{AllByRecursion, IsDistinct}
use Rattle.std.specs.Str.{bytes_eq}
use Rattle.std.proofs.lemmas.List.{append-nil}
use Rattle.std.proofs.lemmas.Slice.Eq.{bytes_eq-Decides}
use Rattle.cdle_model.specs.declared.grammar.Sort.TheVariants.{OfTerm, OfType}
use Rattle.cdle_model.specs.CoreNames.{Name}
use Rattle.source_model.specs.Source.{Constructor, def_item, type_item, data_item, NameUse, Item, Module}
use Rattle.scope_model.specs.Scoped.{Reference, ScopedItem, ScopedModule}
use Rattle.scope_model.specs.ScopeNames.{Text, Variable, Bound, Exported, Around, is_one_of}
use Rattle.scope_model.specs.Scope.{◌>>=◌, with_parameters, scoped, generated, constructor_names, item_names, all_names, meets, texts, written, parameters, constructors, scoped_item, scoped_items, scoped_module, around}
use Rattle.scope_model.specs.ItemNames.{as_written}
use Rattle.scope_model.proofs.Results.{and_then, not_taken, none_taken}
use Rattle.scope_model.proofs.ItemsNamed.{module_items, module_named}

-- ---- lists of names

-- each is none of those behind it
abbrev AreDifferent : List Text → Type 0
AreDifferent [] = Unit {0}
AreDifferent (x ∷ xs) = (is_one_of x xs ≡ false) × AreDifferent xs

-- no text is one of both
abbrev AreApart : List Text → List Text → Type 0
AreApart xs ys = (x : Text) → is_one_of x xs ≡ true → is_one_of x ys ≡ true → ⊥

never_true : (b : Bool) → (b ≡ true → ⊥) → b ≡ false
never_true true f = absurd (f refl)
never_true false f = refl

not_true : (b : Bool) → b ≡ false → b ≡ true → ⊥
not_true b d e = absurd cc

or_case : (b c : Bool) → (b || c) ≡ true → (b ≡ true) ⊎ (c ≡ true)
or_case true c e = inl refl
or_case false c e = inr e

or_right : (b c : Bool) → c ≡ true → (b || c) ≡ true
or_right true c e = refl
or_right false c e = e

or_assoc : (b c d : Bool) → ((b || c) || d) ≡ (b || (c || d))
or_assoc true c d = refl
or_assoc false c d = refl

one-append : (x : Text) (xs ys : List Text) → is_one_of x (xs ++ ys) ≡ (is_one_of x xs || is_one_of x ys)
one-append x [] ys = refl
one-append x (y ∷ xs) ys = ap (λ (b : Bool). bytes_eq x y || b) (one-append x xs ys) ∙ sym (or_assoc (bytes_eq x y) (is_one_of x xs) (is_one_of x ys))

one_left : (x : Text) (xs ys : List Text) → is_one_of x xs ≡ true → is_one_of x (xs ++ ys) ≡ true
one_left x xs ys e = one-append x xs ys ∙ ap (λ (b : Bool). b || is_one_of x ys) e

one_right : (x : Text) (xs ys : List Text) → is_one_of x ys ≡ true → is_one_of x (xs ++ ys) ≡ true
one_right x xs ys e = one-append x xs ys ∙ or_right (is_one_of x xs) (is_one_of x ys) e

one_case : (x : Text) (xs ys : List Text) → is_one_of x (xs ++ ys) ≡ true → (is_one_of x xs ≡ true) ⊎ (is_one_of x ys ≡ true)
one_case x xs ys e = or_case (is_one_of x xs) (is_one_of x ys) (sym (one-append x xs ys) ∙ e)

one_first : (x : Text) (xs : List Text) → is_one_of x (x ∷ xs) ≡ true
one_first x xs = ap (λ (b : Bool). b || is_one_of x xs) ((bytes_eq-Decides x x).1 refl)

either_way : {A B P : Type 0} → (A → P) → (B → P) → A ⊎ B → P
either_way f g (inl a) = f a
either_way f g (inr b) = g b

one_head : (x y : Text) (xs : List Text) {P : Type 0} → (x ≡ y → P) → (is_one_of x xs ≡ true → P) → is_one_of x (y ∷ xs) ≡ true → P
one_head x y xs f g e = either_way (λ d. f ((bytes_eq-Decides x y).0 d)) g (or_case (bytes_eq x y) (is_one_of x xs) e)

if_met : (b c : Bool) → (if b then true else c) ≡ false → (b ≡ false) × (c ≡ false)
if_met true c e = absurd cc
if_met false c e = (refl, e)

meets_apart : (xs taken : List Text) → meets xs taken ≡ false → AreApart xs taken
meets_apart [] taken e = λ x d f. not_true false refl d
meets_apart (y ∷ xs) taken e =
    let b = if_met (is_one_of y taken) (meets xs taken) e in
    λ x d f. one_head x y xs (λ (q : x ≡ y). not_true (is_one_of y taken) b.0 (subst (λ (z : Text). is_one_of z taken ≡ true) q f)) (λ g. meets_apart xs taken b.1 x g f) d

different-append : (xs ys : List Text) → AreDifferent xs → AreDifferent ys → AreApart xs ys → AreDifferent (xs ++ ys)
different-append [] ys d e f = e
different-append (x ∷ xs) ys d e f =
    let new : is_one_of x ys ≡ false = never_true (is_one_of x ys) (f x (one_first x xs)) in
    (one-append x xs ys ∙ (λ i. d.0 i || new i), different-append xs ys d.1 e (λ y g. f y (or_right (bytes_eq y x) (is_one_of y xs) g)))

or_false : (b c : Bool) → (b || c) ≡ false → (b ≡ false) × (c ≡ false)
or_false true c e = absurd cc
or_false false c e = (refl, e)

-- of names that differ, those before are none of those behind
different_apart : (xs ys : List Text) → AreDifferent (xs ++ ys) → AreApart xs ys
different_apart [] ys d = λ x e f. not_true false refl e
different_apart (y ∷ xs) ys d =
    let b = or_false (is_one_of y xs) (is_one_of y ys) (sym (one-append y xs ys) ∙ d.0) in
    λ x e f. one_head x y xs (λ (q : x ≡ y). not_true (is_one_of y ys) b.1 (subst (λ (z : Text). is_one_of z ys ≡ true) q f)) (λ g. different_apart xs ys d.1 x g f) e

different_front : (xs ys : List Text) → AreDifferent (xs ++ ys) → AreDifferent xs
different_front [] ys d = tt
different_front (x ∷ xs) ys d = ((or_false (is_one_of x xs) (is_one_of x ys) (sym (one-append x xs ys) ∙ d.0)).0, different_front xs ys d.1)

different_behind : (xs ys : List Text) → AreDifferent (xs ++ ys) → AreDifferent ys
different_behind [] ys d = d
different_behind (x ∷ xs) ys d = different_behind xs ys d.1

-- ---- generated names

endings : (d a b : Text) → bytes_eq (d ++ a) (d ++ b) ≡ bytes_eq a b
endings [] a b = refl
endings (x ∷ d) a b = rw (eq-eqb x x refl, endings d a b) refl

ends_longer : (d a : Text) → bytes_eq (d ++ a) d ≡ bytes_eq a []
ends_longer d a = ap (λ (z : Text). bytes_eq (d ++ a) z) (sym (append-nil d)) ∙ endings d a []

ends_shorter : (d a : Text) → bytes_eq d (d ++ a) ≡ bytes_eq [] a
ends_shorter d a = ap (λ (z : Text). bytes_eq z (d ++ a)) (sym (append-nil d)) ∙ endings d [] a

generated_differ : (d : Text) → AreDifferent (generated d)
generated_differ d = (
  (λ i. endings d (codes "/F") (codes "/mono") i || (ends_longer d (codes "/F") i || (endings d (codes "/F") (codes "/mu") i || (endings d (codes "/F") (codes "/sigma") i || false)))),
  (
    (λ i. ends_longer d (codes "/mono") i || (endings d (codes "/mono") (codes "/mu") i || (endings d (codes "/mono") (codes "/sigma") i || false))),
    (
      (λ i. ends_shorter d (codes "/mu") i || (ends_shorter d (codes "/sigma") i || false)),
      ((λ i. endings d (codes "/mu") (codes "/sigma") i || false), (refl, tt)),
    ),
  ),
)

-- ---- constructors

constructors_differ : (a : Around) (bs : List Bound) (taken : List Text) (cs : List (Constructor Text (Option Text) (NameUse Text))) (ds : List (Constructor Text (Unit {0}) Reference))
    → constructors a bs taken cs ≡ Ok ds → AreApart (texts (constructor_names cs)) taken × AreDifferent (texts (constructor_names cs))
constructors_differ a bs taken [] ds e = (λ x d f. not_true false refl d, tt)
constructors_differ a bs taken (c ∷ cs) ds e =
    let new = meets_apart (c.name ∷ []) taken (none_taken c.span (c.name ∷ []) taken _ ds e) in
    let f = not_taken c.span (c.name ∷ []) taken _ ds e in
    let k = and_then (scoped a [] bs OfType c.type) _ ds f in
    let r = and_then (constructors a bs (c.name ∷ taken) cs) (λ rs. Ok (record { span = c.span; name = written a c.name; type = k.0 } ∷ rs)) ds k.2 in
    let more = constructors_differ a bs (c.name ∷ taken) cs r.0 r.1 in
    let own : List Text = texts (constructor_names cs) in (
      λ x d t. one_head x c.name own (λ (q : x ≡ c.name). new c.name (one_first c.name []) (subst (λ (z : Text). is_one_of z taken ≡ true) q t)) (λ g. more.0 x g (or_right (bytes_eq x c.name) (is_one_of x taken) t)) d,
      (never_true (is_one_of c.name own) (λ g. more.0 c.name g (one_first c.name taken)), more.1),
    )

-- ---- items

texts-append : (xs ys : List Name) → texts (xs ++ ys) ≡ texts xs ++ texts ys
texts-append [] ys = refl
texts-append (x ∷ xs) ys = ap (λ (l : List Text). x.text ∷ l) (texts-append xs ys)

-- names that are new behind these, and differ from one another
abbrev AreNew : List Text → List Text → Type 0
AreNew own xs = AreApart xs own × AreDifferent xs

-- the names of a datatype's constructors stand among those that it generates
among_differ : (own front behind made : List Text) → AreNew own (front ++ behind) → AreNew ((front ++ behind) ++ own) made → AreNew own (front ++ (made ++ behind))
among_differ own front behind made g c =
    let split = different_apart front behind g.1 in (
      λ x d t. either_way (λ f. g.0 x (one_left x front behind f) t)
          (λ f. either_way (λ k. c.0 x k (one_right x (front ++ behind) own t)) (λ k. g.0 x (one_right x front behind k) t) (one_case x made behind f)) (one_case x front (made ++ behind) d),
      different-append front (made ++ behind) (different_front front behind g.1)
          (different-append made behind c.1 (different_behind front behind g.1) (λ x d t. c.0 x d (one_left x (front ++ behind) own (one_right x front behind t))))
          (λ x d t. either_way (λ k. c.0 x k (one_left x (front ++ behind) own (one_left x front behind d))) (λ k. split x d k) (one_case x made behind t)),
    )

item_new : (a : Around) (i : Item Text) (j : ScopedItem) → scoped_item a i ≡ Ok j → AreNew (texts a.own) (texts (item_names i))
item_new a (def_item p x t u) j e = (meets_apart (x ∷ []) (texts a.own) (none_taken p (x ∷ []) (texts a.own) _ j e), (refl, tt))
item_new a (type_item p x t u) j e = (meets_apart (x ∷ []) (texts a.own) (none_taken p (x ∷ []) (texts a.own) _ j e), (refl, tt))
item_new a (data_item p d ps cs) j e =
    let b : Bound = record { name = Some d; binding = Variable OfType } in
    let taken : List Text = generated d ++ texts a.own in
    let new = meets_apart (generated d) (texts a.own) (none_taken p (generated d) (texts a.own) _ j e) in
    let f = not_taken p (generated d) (texts a.own) _ j e in
    let k = and_then (parameters a [] ps) (λ qs. constructors a (b ∷ with_parameters ps []) taken cs >>= λ ds. Ok (data_item p (written a d) qs ds)) j f in
    let r = and_then (constructors a (b ∷ with_parameters ps []) taken cs) (λ ds. Ok (data_item p (written a d) k.0 ds)) j k.2 in
    let own = constructors_differ a (b ∷ with_parameters ps []) taken cs r.0 r.1 in
    let front : List Text = (d ++ codes "/F") ∷ (d ++ codes "/mono") ∷ d ∷ [] in
    let behind : List Text = (d ++ codes "/mu") ∷ (d ++ codes "/sigma") ∷ [] in
    let last : List Name = record { text = d ++ codes "/mu"; sort = OfTerm } ∷ record { text = d ++ codes "/sigma"; sort = OfTerm } ∷ [] in
    subst (λ (l : List Text). AreNew (texts a.own) (front ++ l)) (sym (texts-append (constructor_names cs) last)) (among_differ (texts a.own) front behind (texts (constructor_names cs)) (new, generated_differ d) own)

items_new : (a : Around) (is : List (Item Text)) (js : List ScopedItem) → scoped_items a is ≡ Ok js → AreNew (texts a.own) (texts (all_names is))
unfolding scoped_items
items_new a [] js e = (λ x d t. not_true false refl d, tt)
items_new a (i ∷ is) js e =
    let b : Around = record a { own = a.own ++ item_names i } in
    let j = and_then (scoped_item a i) (λ j. scoped_items b is >>= λ ks. Ok (j ∷ ks)) js e in
    let ks = and_then (scoped_items b is) (λ ks. Ok (j.0 ∷ ks)) js j.2 in
    let one = item_new a i j.0 j.1 in
    let own : List Text = texts a.own in
    let first : List Text = texts (item_names i) in
    let rest : List Text = texts (all_names is) in
    let more : AreNew (own ++ first) rest = subst (λ (l : List Text). AreNew l rest) (texts-append a.own (item_names i)) (items_new b is ks.0 ks.1) in
    subst (λ (l : List Text). AreNew own l) (sym (texts-append (item_names i) (all_names is))) (
      λ x d t. either_way (λ k. one.0 x k t) (λ k. more.0 x k (one_left x own first t)) (one_case x first rest d),
      different-append first rest one.1 more.1 (λ x d t. more.0 x t (one_right x own first d)),
    )

-- ---- as written

written_one : (a : Around) (x : Text) (xs : List Name) → is_one_of (written a x) (texts (map (as_written a) xs)) ≡ is_one_of x (texts xs)
written_one a x [] = refl
written_one a x (y ∷ xs) = λ i. (endings a.name (codes "." ++ x) (codes "." ++ y.text) ∙ endings (codes ".") x y.text) i || written_one a x xs i

written_differ : (a : Around) (xs : List Name) → AreDifferent (texts xs) → AreDifferent (texts (map (as_written a) xs))
written_differ a [] d = tt
written_differ a (x ∷ xs) d = (written_one a x.text xs ∙ d.0, written_differ a xs d.1)

none_of : (x : Text) (xs : List Text) → is_one_of x xs ≡ false → AllByRecursion (λ y. bytes_eq x y ≡ false) xs
none_of x [] e = tt
none_of x (y ∷ xs) e = let b = or_false (bytes_eq x y) (is_one_of x xs) e in (b.0, none_of x xs b.1)

distinct : (xs : List Text) → AreDifferent xs → IsDistinct bytes_eq xs
unfolding IsDistinct
distinct [] d = tt
distinct (x ∷ xs) d = (none_of x xs d.0, distinct xs d.1)

differ : (known : List Exported) (m : Module Text) (r : ScopedModule) → scoped_module known m ≡ Ok r → AreDifferent (texts (all_names m.items))
differ known m r e = (items_new (around known m) m.items r.items (module_items known m r e).1).1

pub names_differ : (known : List Exported) (m : Module Text) (r : ScopedModule) → scoped_module known m ≡ Ok r → IsDistinct bytes_eq (texts (all_names m.items))
names_differ known m r e = distinct (texts (all_names m.items)) (differ known m r e)

pub written_names_differ : (known : List Exported) (m : Module Text) (r : ScopedModule) → scoped_module known m ≡ Ok r → IsDistinct bytes_eq (texts (all_names r.items))
written_names_differ known m r e = subst (λ (l : List Name). IsDistinct bytes_eq (texts l)) (sym (module_named known m r e))
    (distinct (texts (map (as_written (around known m)) (all_names m.items))) (written_differ (around known m) (all_names m.items) (differ known m r e)))
