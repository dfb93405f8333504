-- The scope of an item from that of its parts.
use Rattle.std.proofs.Common.{◌≡◌, ℕ, suc, ◌+◌, Bool, true, false, if◌then◌else◌, ◌||◌, List, [], ◌∷◌, ◌++◌, length, Result, Ok, Err, refl, sym, ap, ◌∙◌, subst, arith}
use Rattle.std.proofs.lemmas.List.{append_assoc, length-append, length-map}
use Rattle.std.specs.Prelude.{codes}
use Rattle.std.specs.Str.{bytes_eq}
use Rattle.cdle_model.specs.declared.grammar.Sort.TheVariants.{OfTerm, OfType}
use Rattle.cdle_model.specs.CoreNames.{Name}
use Rattle.source_model.specs.Source.{Span, Item, def_item, type_item, data_item}
use Rattle.scope_model.specs.Scope.{ScopeFault, Twice, ◌>>=◌, constructor_names, constructors, generated, item_names, meets, parameters, scoped, scoped_item, texts, unless_taken, with_parameters, written}
use Rattle.scope_model.specs.ScopeNames.{Text, Around, Bound, Variable, is_one_of}
use Rattle.scope_model.specs.Scoped.{Scoped, ScopedItem}
use Rattle.scoped_tree.specs.Items.{AreNumbered, BeginsAt, core_items, item_of}
use Rattle.scoped_tree.specs.declared.items.ScopedItem as tree
use Rattle.scoped_tree.specs.declared.items.ScopedItem.TheVariants.{Def, TypeDef, Data}
use Rattle.scoped_tree.specs.Items as trees
use Rattle.surf_scope.specs.Data.{ScopedConstructor, ScopedParameter, SourceConstructor, SourceParameter, constructors_on, parts_on, scoped_constructor, scoped_parameter, taken, under_datatype}

-- ---- texts that are taken

or_cons : (b p q r : Bool) → p ≡ (q || r) → (b || p) ≡ ((b || q) || r)
or_cons true p q r h = refl
or_cons false p q r h = h

if_cons : (b p q r : Bool) → p ≡ (q || r) → (if b then true else p) ≡ ((if b then true else q) || r)
if_cons true p q r h = refl
if_cons false p q r h = h

pub among_both : (w : Text) (xs ys : List Name) → is_one_of w (texts (xs ++ ys)) ≡ (is_one_of w (texts xs) || is_one_of w (texts ys))
among_both w [] ys = refl
among_both w (x ∷ xs) ys = or_cons (bytes_eq w x.text) (is_one_of w (texts (xs ++ ys))) (is_one_of w (texts xs)) (is_one_of w (texts ys)) (among_both w xs ys)

pub among_appended : (w : Text) (xs ys : List Text) → is_one_of w (xs ++ ys) ≡ (is_one_of w xs || is_one_of w ys)
among_appended w [] ys = refl
among_appended w (x ∷ xs) ys = or_cons (bytes_eq w x) (is_one_of w (xs ++ ys)) (is_one_of w xs) (is_one_of w ys) (among_appended w xs ys)

pub meets_both : (xs ys : List Name) (t : List Text) → meets (texts (xs ++ ys)) t ≡ (meets (texts xs) t || meets (texts ys) t)
meets_both [] ys t = refl
meets_both (x ∷ xs) ys t = if_cons (is_one_of x.text t) (meets (texts (xs ++ ys)) t) (meets (texts xs) t) (meets (texts ys) t) (meets_both xs ys t)

-- a constructor's text is taken where it is among those of the datatype, or is an item's
pub is_taken : (w : Text) (given behind own : List Name) → meets (w ∷ []) (taken given behind own) ≡ (is_one_of w (texts (given ++ behind)) || is_one_of w (texts own))
is_taken w given behind own = alone (is_one_of w (taken given behind own)) ∙ among_appended w (texts (given ++ behind)) (texts own)
  where
    alone : (b : Bool) → (if b then true else false) ≡ b
    alone true = refl
    alone false = refl

-- the same texts are among them
abbrev pub SameTexts : List Text → List Text → Type 0
SameTexts xs ys = (w : Text) → is_one_of w xs ≡ is_one_of w ys

-- one name more, before all or behind those so far
pub taken_more : (given behind own : List Name) (x : Name) → SameTexts (x.text ∷ taken given behind own) (taken (given ++ x ∷ []) behind own)
taken_more given behind own x w =
    ap (λ (b : Bool). bytes_eq w x.text || b) (among_appended w (texts (given ++ behind)) (texts own) ∙ ap (λ (b : Bool). b || is_one_of w (texts own)) (among_both w given behind))
    ∙ moved (bytes_eq w x.text) (is_one_of w (texts given)) (is_one_of w (texts behind)) (is_one_of w (texts own))
    ∙ sym (among_appended w (texts ((given ++ x ∷ []) ++ behind)) (texts own) ∙ ap (λ (b : Bool). b || is_one_of w (texts own)) (among_both w (given ++ x ∷ []) behind ∙ ap (λ (b : Bool). b || is_one_of w (texts behind)) (among_both w given (x ∷ []))))
  where
    moved : (b g h o : Bool) → (b || ((g || h) || o)) ≡ (((g || (b || false)) || h) || o)
    moved true true h o = refl
    moved true false h o = refl
    moved false true h o = refl
    moved false false h o = refl

-- ---- constructors

module _ (a : Around) (bs : List Bound) where
  split : (b : Bool) (p : Span) (r : Result Scoped ScopeFault) (g : Scoped → ScopedConstructor) (k : ScopedConstructor → Result (List ScopedConstructor) ScopeFault)
      → (if b then Err (Twice p) else (r >>= λ t. k (g t))) ≡ ((if b then Err (Twice p) else (r >>= λ t. Ok (g t))) >>= k)
  split true p r g k = refl
  split false p (Ok t) g k = refl
  split false p (Err e) g k = refl

  first_of : (taken : List Text) (c : SourceConstructor) (cs : List SourceConstructor)
      → constructors a bs taken (c ∷ cs) ≡ (scoped_constructor a bs taken c >>= λ x. constructors a bs (c.name ∷ taken) cs >>= λ ds. Ok (x ∷ ds))
  first_of taken c cs = split (meets (c.name ∷ []) taken) c.span (scoped a [] bs OfType c.type) (λ t. record { span = c.span; name = written a c.name; type = t }) (λ x. constructors a bs (c.name ∷ taken) cs >>= λ ds. Ok (x ∷ ds))

  behind_one : (done : List ScopedConstructor) (x : ScopedConstructor) (r : Result (List ScopedConstructor) ScopeFault) → ((r >>= λ ds. Ok (x ∷ ds)) >>= λ ds. Ok (done ++ ds)) ≡ (r >>= λ ds. Ok ((done ++ x ∷ []) ++ ds))
  behind_one done x (Ok ds) = ap Ok (sym (append_assoc done (x ∷ []) ds))
  behind_one done x (Err e) = refl

  same_constructors : (cs : List SourceConstructor) (xs ys : List Text) → SameTexts xs ys → constructors a bs xs cs ≡ constructors a bs ys cs
  same_constructors [] xs ys h = refl
  same_constructors (c ∷ cs) xs ys h =
      ap (λ (b : Bool). if (if b then true else false) then Err (Twice c.span) else (scoped a [] bs OfType c.type >>= λ t. constructors a bs (c.name ∷ xs) cs >>= λ ds. Ok (record { span = c.span; name = written a c.name; type = t } ∷ ds))) (h c.name)
      ∙ ap (λ (k : Result (List ScopedConstructor) ScopeFault). unless_taken c.span (c.name ∷ []) ys (scoped a [] bs OfType c.type >>= λ t. k >>= λ ds. Ok (record { span = c.span; name = written a c.name; type = t } ∷ ds)))
      (same_constructors cs (c.name ∷ xs) (c.name ∷ ys) (λ w. ap (λ (b : Bool). bytes_eq w c.name || b) (h w)))

  pub constructor_step : (given behind : List Name) (done : List ScopedConstructor) (c : SourceConstructor) (cs : List SourceConstructor) (x : ScopedConstructor) → scoped_constructor a bs (taken given behind a.own) c ≡ Ok x
      → constructors_on a bs (taken given behind a.own) done (c ∷ cs) ≡ constructors_on a bs (taken (given ++ record { text = c.name; sort = OfTerm } ∷ []) behind a.own) (done ++ x ∷ []) cs
  constructor_step given behind done c cs x h =
      (rw (first_of (taken given behind a.own) c cs, h) (behind_one done x (constructors a bs (c.name ∷ taken given behind a.own) cs)))
      ∙ ap (λ (r : Result (List ScopedConstructor) ScopeFault). r >>= λ ds. Ok ((done ++ x ∷ []) ++ ds)) (same_constructors cs (c.name ∷ taken given behind a.own) (taken (given ++ record { text = c.name; sort = OfTerm } ∷ []) behind a.own) (taken_more given behind a.own (record { text = c.name; sort = OfTerm })))

  -- as many come out
  pub constructors_many : (cs : List SourceConstructor) (taken : List Text) (ds : List ScopedConstructor) → constructors a bs taken cs ≡ Ok ds → length cs ≡ length ds
  constructors_many [] taken ds h = let e : [] ≡ ds = cc in ap length e
  constructors_many (c ∷ cs) taken ds h = tests (scoped_constructor a bs taken c) (constructors a bs (c.name ∷ taken) cs) (λ es. constructors_many cs (c.name ∷ taken) es) (sym (first_of taken c cs) ∙ h)
    where
      tests : (r : Result ScopedConstructor ScopeFault) (k : Result (List ScopedConstructor) ScopeFault) → ((es : List ScopedConstructor) → k ≡ Ok es → length cs ≡ length es) → (r >>= λ x. k >>= λ es. Ok (x ∷ es)) ≡ Ok ds → suc (length cs) ≡ length ds
      tests (Ok x) (Ok es) ih g = let e : x ∷ es ≡ ds = cc in ap suc (ih es refl) ∙ ap length e
      tests (Ok x) (Err e) ih g = absurd cc
      tests (Err e) k ih g = absurd cc

-- ---- parameters

abbrev pub pair_of : List ScopedParameter → List ScopedConstructor → Result (List ScopedParameter × List ScopedConstructor) ScopeFault
pair_of qs ds = Ok (qs, ds)

module _ (a : Around) (d : Text) (taken : List Text) (cs : List SourceConstructor) where
  first_parameter : (r : Result Scoped ScopeFault) (g : Scoped → ScopedParameter) (k : Result (List ScopedParameter) ScopeFault) → (r >>= λ t. k >>= λ qs. Ok (g t ∷ qs)) ≡ ((r >>= λ t. Ok (g t)) >>= λ q. k >>= λ qs. Ok (q ∷ qs))
  first_parameter (Ok t) g k = refl
  first_parameter (Err e) g k = refl

  parameters_of : (bs : List Bound) (p : SourceParameter) (ps : List SourceParameter) → parameters a bs (p ∷ ps) ≡ (scoped_parameter a bs p >>= λ q. parameters a (record { name = p.binder; binding = Variable p.sort } ∷ bs) ps >>= λ qs. Ok (q ∷ qs))
  parameters_of bs p ps = first_parameter (scoped a [] bs OfType p.class) (λ k. record { span = p.span; binder = tt; sort = p.sort; class = k }) (parameters a (record { name = p.binder; binding = Variable p.sort } ∷ bs) ps)

  shifted : (r : Result (List ScopedParameter) ScopeFault) (c : Result (List ScopedConstructor) ScopeFault) (done : List ScopedParameter) (q : ScopedParameter)
      → ((r >>= λ qs. Ok (q ∷ qs)) >>= λ qs. c >>= λ ds. pair_of (done ++ qs) ds) ≡ (r >>= λ qs. c >>= λ ds. pair_of ((done ++ q ∷ []) ++ qs) ds)
  shifted (Ok qs) (Ok ds) done q = ap (λ (l : List ScopedParameter). pair_of l ds) (sym (append_assoc done (q ∷ []) qs))
  shifted (Ok qs) (Err e) done q = refl
  shifted (Err e) c done q = refl

  module _ (bs : List Bound) (done : List ScopedParameter) where
    pub parameter_step : (p : SourceParameter) (ps : List SourceParameter) (q : ScopedParameter) → scoped_parameter a bs p ≡ Ok q → parts_on a d bs taken done (p ∷ ps) cs ≡ parts_on a d (record { name = p.binder; binding = Variable p.sort } ∷ bs) taken (done ++ q ∷ []) ps cs
    parameter_step p ps q h = rw (parameters_of bs p ps, h) (shifted (parameters a (record { name = p.binder; binding = Variable p.sort } ∷ bs) ps) (constructors a (under_datatype d (with_parameters (p ∷ ps) bs)) taken cs) done q)

-- ---- how many Core items an item gives

abbrev many : ScopedItem → ℕ
many (def_item p x t u) = 1
many (type_item p x t u) = 1
many (data_item p x ps cs) = 5 + length cs

only : (P : ScopedItem → Type 0) (b : Bool) (p : Span) (r k : Result Scoped ScopeFault) (f : Scoped → Scoped → ScopedItem) (j : ScopedItem) → ((v w : Scoped) → P (f v w)) → (if (if b then true else false) then Err (Twice p) else (r >>= λ v. k >>= λ w. Ok (f v w))) ≡ Ok j → P j
only P true p r k f j all h = absurd cc
only P false p (Ok v) (Ok w) f j all h = let e : f v w ≡ j = cc in subst P e (all v w)
only P false p (Ok v) (Err e) f j all h = absurd cc
only P false p (Err e) k f j all h = absurd cc

data_many : (b : Bool) (p : Span) (x : Text) (r : Result (List ScopedParameter) ScopeFault) (k : Result (List ScopedConstructor) ScopeFault) (n : ℕ) (j : ScopedItem) → ((ds : List ScopedConstructor) → k ≡ Ok ds → n ≡ length ds)
    → (if b then Err (Twice p) else (r >>= λ qs. k >>= λ ds. Ok (data_item p x qs ds))) ≡ Ok j → 5 + n ≡ many j
data_many true p x r k n j ih h = absurd cc
data_many false p x (Ok qs) (Ok ds) n j ih h = let e : data_item p x qs ds ≡ j = cc in let m = ih ds refl in omega (arith, m) ∙ ap many e
data_many false p x (Ok qs) (Err e) n j ih h = absurd cc
data_many false p x (Err e) k n j ih h = absurd cc

names_many : (cs : List SourceConstructor) → length (constructor_names cs) ≡ length cs
names_many [] = refl
names_many (c ∷ cs) = ap suc (names_many cs)

item_many : (a : Around) (i : Item Text) (j : ScopedItem) → scoped_item a i ≡ Ok j → length (item_names i) ≡ many j
item_many a (def_item p x t u) j h = only (λ j. 1 ≡ many j) (is_one_of x (texts a.own)) p (scoped a [] [] OfType t) (scoped a [] [] OfTerm u) (λ v w. def_item p (written a x) v w) j (λ v w. refl) h
item_many a (type_item p x t u) j h = only (λ j. 1 ≡ many j) (is_one_of x (texts a.own)) p (scoped a [] [] OfType t) (scoped a [] [] OfType u) (λ v w. type_item p (written a x) v w) j (λ v w. refl) h
item_many a (data_item p d ps cs) j h =
    let names = length-append (constructor_names cs) (record { text = d ++ codes "/mu"; sort = OfTerm } ∷ record { text = d ++ codes "/sigma"; sort = OfTerm } ∷ []) in
    let each : length (constructor_names cs) ≡ length cs = names_many cs in
    (omega (arith, names, each)) ∙ data_many (meets (generated d) (texts a.own)) p (written a d) (parameters a [] ps) (constructors a (under_datatype d (with_parameters ps [])) (generated d ++ texts a.own) cs) (length cs) j (λ ds. constructors_many a (under_datatype d (with_parameters ps [])) cs (generated d ++ texts a.own) ds) h

of_tree : (x : tree.ScopedItem) → many (item_of x) ≡ core_items x
of_tree (Def x s t u) = refl
of_tree (TypeDef x s t u) = refl
of_tree (Data d) = let m = length-map d.ctors.items trees.constructor_of in omega (arith, m)

pub as_many : (a : Around) (i : Item Text) (x : tree.ScopedItem) → scoped_item a i ≡ Ok (item_of x) → length (item_names i) ≡ core_items x
as_many a i x h = item_many a i (item_of x) h ∙ of_tree x

-- ---- numbers

abbrev pub total : List tree.ScopedItem → ℕ
total [] = 0
total (x ∷ xs) = core_items x + total xs

pub total_push : (xs : List tree.ScopedItem) (x : tree.ScopedItem) → total (xs ++ x ∷ []) ≡ total xs + core_items x
total_push [] x = omega arith
total_push (y ∷ xs) x = let ih = total_push xs x in omega (arith, ih)

pub numbered_push : (n : ℕ) (xs : List tree.ScopedItem) (x : tree.ScopedItem) → AreNumbered n xs → BeginsAt (n + total xs) x → AreNumbered n (xs ++ x ∷ [])
numbered_push n [] x h g = let e : n + 0 ≡ n = omega arith in (subst (λ m. BeginsAt m x) e g, tt)
numbered_push n (y ∷ xs) x h g = let e : n + (core_items y + total xs) ≡ n + core_items y + total xs = omega arith in (h.0, numbered_push (n + core_items y) xs x h.1 (subst (λ m. BeginsAt m x) e g))
