-- The steps of the pass over items keep what the definitions give.
use Rattle.std.proofs.Common.{◌≡◌, ℕ, ◌+◌, true, false, List, [], ◌∷◌, ◌++◌, length, map, Some, Result, Ok, Err, refl, sym, ap, ◌∙◌, subst, arith}
use Rattle.std.proofs.lemmas.List.{append-nil, append_assoc, length-append, map_push}
use Rattle.std.specs.Prelude.{codes}
use Rattle.cdle_model.specs.declared.grammar.Sort.TheVariants.{OfTerm, OfType}
use Rattle.cdle_model.specs.CoreNames.{Name}
use Rattle.source_model.specs.Source.{Item}
use Rattle.scope_model.specs.Scope.{ScopeFault, Twice, all_names, constructor_names, item_names, meets, scoped, scoped_item, written}
use Rattle.scope_model.specs.ScopeNames.{Text, Around, Bound, Variable}
use Rattle.scope_model.specs.Scoped.{Scoped, ScopedItem}
use Rattle.scoped_tree.specs.Items.{AreNumbered, BeginsAt, constructor_of, core_items, item_of, parameter_of}
use Rattle.scoped_tree.specs.declared.items.ItemName.{ItemName}
use Rattle.scoped_tree.specs.declared.items.ScopedCtor.{ScopedCtor}
use Rattle.scoped_tree.specs.declared.items.ScopedParam.{ScopedParam}
use Rattle.scoped_tree.specs.declared.items.ScopedItem as tree
use Rattle.cdle_model.specs.declared.grammar.Sort.{Sort}
use Rattle.surf_tree.specs.Items as source
use Rattle.surf_tree.specs.declared.items.SrcParam.{SrcParam}
use Rattle.surf_scope.specs.Data.{ScopedConstructor, ScopedParameter, SourceConstructor, SourceParameter, constructors_on, parts_on, scoped_constructor, scoped_parameter, taken}
use Rattle.surf_scope.specs.Modules.{spelled_parameter}
use Rattle.scope_part.specs.Entries.{listed_names}
use Rattle.scope_part.specs.Names.{text_of, text_or_none}
use Rattle.surf_scope.specs.Passed.{GivesParts, taken_of}
use Rattle.scope_part.specs.Results.{Fails}
use Rattle.surf_scope.specs.declared.data.DataParts.{DataParts}
use Rattle.surf_scope.specs.declared.data_names.DataNames.{DataNames}
use Rattle.scope_part.specs.declared.fault.ScopeFault as code
use Rattle.scope_part.proofs.Scoping.{passes_on}
use Rattle.surf_scope.proofs.ItemScope.{as_many, constructor_step, numbered_push, parameter_step, total, total_push}
use Rattle.surf_scope.proofs.ModuleScope.{item_fails, item_step, items_none, items_on}

pub fails_as : {A : Type 0} (e : code.ScopeFault) (r s : Result A ScopeFault) → r ≡ s → Fails e r → Fails e s
fails_as e r s h = subst (λ x. Fails e x) h

-- ---- a constructor

module _ (a : Around) (bs : List Bound) (t : List Text) (c : SourceConstructor) where
  pub constructor_twice : meets (c.name ∷ []) t ≡ true → scoped_constructor a bs t c ≡ Err (Twice c.span)
  constructor_twice h = rw h refl

  pub type_fails : (e : code.ScopeFault) → meets (c.name ∷ []) t ≡ false → Fails e (scoped a [] bs OfType c.type) → Fails e (scoped_constructor a bs t c)
  type_fails e h g = rw h (passes_on e (scoped a [] bs OfType c.type) (λ t. Ok (record { span = c.span; name = written a c.name; type = t })) g)

  pub constructor_is : (v : Scoped) (x : ScopedConstructor) → meets (c.name ∷ []) t ≡ false → scoped a [] bs OfType c.type ≡ Ok v → x ≡ record { span = c.span; name = written a c.name; type = v } → scoped_constructor a bs t c ≡ Ok x
  constructor_is v x h g e = rw (h, g, e) refl

-- ---- constructors one after the other

module _ (a : Around) (bs : List Bound) where
  pub ctors_next : (given now behind after : List Name) (done : List ScopedCtor) (more : List ScopedCtor) (x : ScopedCtor) (c : SourceConstructor) (cs : List SourceConstructor) (w : Text) (all : Result (List ScopedConstructor) ScopeFault)
      → constructors_on a bs (taken given behind a.own) (map constructor_of done) (c ∷ cs) ≡ all → scoped_constructor a bs (taken given behind a.own) c ≡ Ok (constructor_of x)
      → more ≡ done ++ x ∷ [] → now ≡ given ++ record { text = w; sort = OfTerm } ∷ [] → c.name ≡ w → after ≡ behind → constructors_on a bs (taken now after a.own) (map constructor_of more) cs ≡ all
  ctors_next given now behind after done more x c cs w all h g p q r s =
      let step = constructor_step a bs given behind (map constructor_of done) c cs (constructor_of x) g in
      let last : map constructor_of more ≡ map constructor_of done ++ constructor_of x ∷ [] = ap (map constructor_of) p ∙ map_push constructor_of done x in
      (rw (last, q, s, ← r) refl) ∙ sym step ∙ h

pub names_next : (given now : List Name) (c : SourceConstructor) (cs : List SourceConstructor) (w : Text) (all : List Name) → given ++ constructor_names (c ∷ cs) ≡ all → now ≡ given ++ record { text = w; sort = OfTerm } ∷ [] → c.name ≡ w → now ++ constructor_names cs ≡ all
names_next given now c cs w all h q r =
    ap (λ (l : List Name). l ++ constructor_names cs) (q ∙ ap (λ (t : Text). given ++ record { text = t; sort = OfTerm } ∷ []) (sym r)) ∙ append_assoc given (record { text = c.name; sort = OfTerm } ∷ []) (constructor_names cs) ∙ h

-- ---- parts of a datatype

pub parts_as : (a : Around) (d : Text) (bs under : List Bound) (given : DataNames) (done more : List ScopedParameter) (ps others : List SourceParameter) (cs : List SourceConstructor) (r : Result DataParts code.ScopeFault)
    → parts_on a d bs (taken_of given a) done ps cs ≡ parts_on a d under (taken_of given a) more others cs → GivesParts a d under given more others cs r → GivesParts a d bs given done ps cs r
parts_as a d bs under given done more ps others cs (Ok r) h g = (h ∙ g.0, g.1)
parts_as a d bs under given done more ps others cs (Err e) h g = fails_as e (parts_on a d under (taken_of given a) more others cs) (parts_on a d bs (taken_of given a) done ps cs) (sym h) g

-- ---- items one after the other

module _ (a : Around) where
  pub items_next : (done more : List tree.ScopedItem) (x : tree.ScopedItem) (i : Item Text) (is : List (Item Text)) (now : List Name) (all : Result (List ScopedItem) ScopeFault)
      → items_on a (map item_of done) (i ∷ is) ≡ all → scoped_item a i ≡ Ok (item_of x) → more ≡ done ++ x ∷ [] → now ≡ a.own ++ item_names i → items_on (record a { own = now }) (map item_of more) is ≡ all
  items_next done more x i is now all h g p q =
      let last : map item_of more ≡ map item_of done ++ item_of x ∷ [] = ap (map item_of) p ∙ map_push item_of done x in
      (rw (last, q) refl) ∙ sym (item_step a (map item_of done) i is (item_of x) g) ∙ h

  pub items_fail : (e : code.ScopeFault) (done : List ScopedItem) (i : Item Text) (is : List (Item Text)) (all : Result (List ScopedItem) ScopeFault) → items_on a done (i ∷ is) ≡ all → Fails e (scoped_item a i) → Fails e all
  items_fail e done i is all h g = fails_as e (items_on a done (i ∷ is)) all h (item_fails a e done i is g)

  pub items_end : {X : Type 0} (f : List X → List (Item Text)) → f [] ≡ [] → (rest : List X) (done : List ScopedItem) (all : Result (List ScopedItem) ScopeFault) → length rest ≡ 0 → items_on a done (f rest) ≡ all → all ≡ Ok done
  items_end f z [] done all n h = sym h ∙ ap (items_on a done) z ∙ items_none a done
  items_end f z (x ∷ xs) done all n h = absurd (omega arith)

  -- the numbers of datatypes
  pub numbers_next : (n : ℕ) (done more : List tree.ScopedItem) (x : tree.ScopedItem) → AreNumbered n done → BeginsAt (n + length a.own) x → total done ≡ length a.own → more ≡ done ++ x ∷ [] → AreNumbered n more
  numbers_next n done more x h g t p = subst (λ l. AreNumbered n l) (sym p) (numbered_push n done x h (subst (λ (k : ℕ). BeginsAt (n + k) x) (sym t) g))

  pub total_next : (done more : List tree.ScopedItem) (x : tree.ScopedItem) (i : Item Text) (now : List Name) → scoped_item a i ≡ Ok (item_of x) → total done ≡ length a.own → more ≡ done ++ x ∷ [] → now ≡ a.own ++ item_names i → total more ≡ length now
  total_next done more x i now g t p q =
      let n = as_many a i x g in
      let m : total more ≡ total done + core_items x = ap total p ∙ total_push done x in
      let k : length now ≡ length a.own + length (item_names i) = ap length q ∙ length-append a.own (item_names i) in
      omega (arith, n, m, k, t)

pub all_next : (own now : List Name) (i : Item Text) (is : List (Item Text)) (all : List Name) → own ++ all_names (i ∷ is) ≡ all → now ≡ own ++ item_names i → now ++ all_names is ≡ all
all_next own now i is all h q = ap (λ (l : List Name). l ++ all_names is) q ∙ append_assoc own (item_names i) (all_names is) ∙ h

pub all_end : {X : Type 0} (f : List X → List (Item Text)) → f [] ≡ [] → (rest : List X) (own all : List Name) → length rest ≡ 0 → own ++ all_names (f rest) ≡ all → own ≡ all
all_end f z [] own all n h = sym (append-nil own) ∙ ap (λ (is : List (Item Text)). own ++ all_names is) (sym z) ∙ h
all_end f z (x ∷ xs) own all n h = absurd (omega arith)

-- ---- names one after the other

pub nothing_left : {X : Type 0} (l : List X) → length l ≡ 0 → l ≡ []
nothing_left [] h = refl
nothing_left (x ∷ xs) h = absurd (omega arith)

pub push_all : (xs : List Name) (rest : List ItemName) (old : List Name) (start names : List ItemName) → xs ++ listed_names rest ≡ old ++ listed_names start → rest ≡ [] → start ≡ names → xs ≡ old ++ listed_names names
push_all xs rest old start names h e g = sym (append-nil xs) ∙ (rw (e, g) at h)

-- ---- over the code's lists

pub written_is : (names : List Text) (m n : ℕ) (owner own x : Text) → text_of names m ≡ owner → text_of names n ≡ own → x ≡ owner ++ (codes "." ++ own) → x ≡ text_of names m ++ (codes "." ++ text_of names n)
written_is names m n owner own x p q h = h ∙ ap (λ (w : Text). w ++ (codes "." ++ own)) (sym p) ∙ ap (λ (w : Text). text_of names m ++ (codes "." ++ w)) (sym q)

abbrev pub under_named : List Text → SrcParam → Sort → List Bound → List Bound
under_named names p s bs = record { name = text_or_none names (Some p.name); binding = Variable s } ∷ bs

pub params_next : (a : Around) (d : Text) (t : List Text) (cs : List SourceConstructor) (bs : List Bound) (names : List Text) (done more : List ScopedParam) (x : ScopedParam) (rest : List SrcParam) (p : SrcParam) (others : List SrcParam) (s : Sort)
    → rest ≡ p ∷ others → scoped_parameter a bs (spelled_parameter names (source.parameter_of p)) ≡ Ok (parameter_of x) → more ≡ done ++ x ∷ [] → s ≡ source.sort_of p.class
    → parts_on a d bs t (map parameter_of done) (map (spelled_parameter names) (map source.parameter_of rest)) cs ≡ parts_on a d (under_named names p s bs) t (map parameter_of more) (map (spelled_parameter names) (map source.parameter_of others)) cs
params_next a d t cs bs names done more x rest p others s e h q r =
    let last : map parameter_of more ≡ map parameter_of done ++ parameter_of x ∷ [] = ap (map parameter_of) q ∙ map_push parameter_of done x in
    ap (λ (l : List SrcParam). parts_on a d bs t (map parameter_of done) (map (spelled_parameter names) (map source.parameter_of l)) cs) e
    ∙ parameter_step a d t cs bs (map parameter_of done) (spelled_parameter names (source.parameter_of p)) (map (spelled_parameter names) (map source.parameter_of others)) (parameter_of x) h
    ∙ ap (λ (l : List ScopedParameter). parts_on a d (under_named names p (source.sort_of p.class) bs) t l (map (spelled_parameter names) (map source.parameter_of others)) cs) (sym last)
    ∙ ap (λ (z : Sort). parts_on a d (under_named names p z bs) t (map parameter_of more) (map (spelled_parameter names) (map source.parameter_of others)) cs) (sym r)
