-- The scope of a module: each name replaced by what it stands for, or the first fault in the text.
use Rattle.std.specs.Prelude.{ℕ, ◌+◌, Bool, true, false, if◌then◌else◌, codes, List, [], ◌∷◌, ◌++◌, map, length, Option, Some, None, Result, Ok, Err}
use Rattle.std.specs.Str.{bytes_eq}
use Rattle.cdle_model.specs.declared.grammar.Sort.{Sort}
use Rattle.cdle_model.specs.declared.grammar.Sort.TheVariants.{OfTerm, OfType}
use Rattle.cdle_model.specs.CoreNames.{Name, same_sort}
use Rattle.cdle_model.specs.declared.grammar.Mode.{Mode}
use Rattle.cdle_model.specs.declared.grammar.Mode.TheVariants as modes
use Rattle.source_model.specs.Source.{Span, use_of, leaf, one, two, bind, cases, branch, SourceTwo, tapp_of, at_of, on_of, delta_of, chi_of, SourceBinder, allt_of, xtlam_of, kpit_of, lam_of, elam_of, xlam_of, unclassed_of, guide_of, CaseForm, mu_of, sigma_of, Pattern, Parameter, Constructor, SourceItem, def_item, type_item, data_item, NameUse, Tree, Item, Module}
use Rattle.scope_model.specs.Scoped.{Reference, Scoped, ScopedItem, ScopedModule}
use Rattle.scope_model.specs.ScopeNames.{Text, Bound, Variable, Proof, Exported, Around, Standing, is_called, is_one_of, stands}

-- the first fault, with the place of the name: it stands for nothing, it is of the other class, or an item has it already
pub data ScopeFault : Type 0 where
  Unbound : Span → ScopeFault
  WrongClass : Span → ScopeFault
  Twice : Span → ScopeFault

-- the first fault ends it
infixl 20 ◌>>=◌
abbrev pub ◌>>=◌ : {A B : Type 0} → Result A ScopeFault → (A → Result B ScopeFault) → Result B ScopeFault
(Ok x) >>= f = f x
(Err fault) >>= f = Err fault

-- ---- which parts are terms, and which are types or kinds

-- the first of two parts
abbrev pub left_sort : SourceTwo → Sort
left_sort at_of = OfType
left_sort on_of = OfType
left_sort delta_of = OfType
left_sort chi_of = OfType
left_sort j = OfTerm

-- the second of two parts
abbrev pub right_sort : SourceTwo → Sort
right_sort tapp_of = OfType
right_sort on_of = OfType
right_sort j = OfTerm

-- the part before the one under the binder; that of the guide is the proof
abbrev pub domain_sort : SourceBinder → Sort
domain_sort guide_of = OfTerm
domain_sort f = OfType

-- the part under the binder
abbrev pub body_sort : SourceBinder → Sort
body_sort lam_of = OfTerm
body_sort elam_of = OfTerm
body_sort xlam_of = OfTerm
body_sort unclassed_of = OfTerm
body_sort f = OfType

-- what the binder binds; of a `Λ` without a class no name stands for it
abbrev pub binder_sort : SourceBinder → Sort
binder_sort allt_of = OfType
binder_sort xtlam_of = OfType
binder_sort kpit_of = OfType
binder_sort xlam_of = OfType
binder_sort f = OfTerm

-- what a name of a pattern binds
abbrev pub mode_sort : Mode → Sort
mode_sort modes.Kept = OfTerm
mode_sort modes.Erased = OfTerm
mode_sort modes.OfType = OfType

-- ---- binders

-- the name with a word before it
abbrev pub prefixed : Text → Option Text → Option Text
prefixed w None = None
prefixed w (Some x) = Some (w ++ x)

-- what each branch of `μ r` binds before its pattern, the innermost first
abbrev pub of_case : CaseForm → Option Text → List Bound
of_case mu_of r = record { name = r; binding = Variable OfTerm } ∷ record { name = prefixed (codes "to/") r; binding = Proof } ∷ record { name = prefixed (codes "Type/") r; binding = Variable OfType } ∷ []
of_case sigma_of r = []

-- the binders under a pattern, whose last name is innermost
abbrev pub with_patterns : List (Pattern (Option Text)) → List Bound → List Bound
with_patterns [] bs = bs
with_patterns (p ∷ ps) bs = with_patterns ps (record { name = p.binder; binding = Variable (mode_sort p.mode) } ∷ bs)

-- the binders behind a datatype's parameters
abbrev pub with_parameters : List (Parameter (Option Text) (NameUse Text)) → List Bound → List Bound
with_parameters [] bs = bs
with_parameters (p ∷ ps) bs = with_parameters ps (record { name = p.binder; binding = Variable p.sort } ∷ bs)

-- ---- a `Λ` without annotation

-- only where no module's name stands before it
abbrev pub if_alone : Option Text → Bool → Bool
if_alone None b = b
if_alone (Some m) b = false

-- the use is of this name, by itself
abbrev pub is_use : Text → NameUse Text → Bool
is_use x u = if_alone u.owner (bytes_eq x u.name)

-- the use in the first of two parts, else that in the second
abbrev pub first_of_two : Option Sort → Option Sort → Option Sort
first_of_two (Some s) other = Some s
first_of_two None other = other

-- no use where a binder of that name hides it
abbrev pub unless_hidden : Bool → Option Sort → Option Sort
unless_hidden true s = None
unless_hidden false s = s

-- one of these binders is called so
abbrev pub hides : Text → List Bound → Bool
hides x [] = false
hides x (b ∷ bs) = if is_called x b.name then true else hides x bs

-- Whether the first use of a name from outside of the part, in the text's order, is as a term or as a type; none: there is no use. Each branch binds
-- these before its pattern.
unfoldable pub first_use : Text → List Bound → Sort → Tree Text → Option Sort
first_use x of_mu s (use_of p u) = if is_use x u then Some s else None
first_use x of_mu s (leaf p l) = None
first_use x of_mu s (one p j t) = first_use x [] OfTerm t
first_use x of_mu s (two p j t u) = first_of_two (first_use x [] (left_sort j) t) (first_use x [] (right_sort j) u)
first_use x of_mu s (bind p f y t u) = first_of_two (first_use x [] (domain_sort f) t) (unless_hidden (is_called x y) (first_use x [] (body_sort f) u))
first_use x of_mu s (cases p f r t m us) = first_of_two (first_use x [] OfTerm t) (first_of_two (first_use x [] OfType m) (first_use x (of_case f r) OfTerm us))
first_use x of_mu s (branch p c ps t us) = first_of_two (if is_use x c then Some OfTerm else None)
    (first_of_two (unless_hidden (hides x (with_patterns ps of_mu)) (first_use x [] OfTerm t)) (first_use x of_mu OfTerm us))

-- the `Λ` over what its variable is first used as
abbrev pub classed : Option Sort → SourceBinder
classed None = unclassed_of
classed (Some OfTerm) = elam_of
classed (Some OfType) = xlam_of

-- a `Λ` without annotation has the class of its variable's first use; without a use it fits both
abbrev pub with_class : SourceBinder → Option Text → Tree Text → SourceBinder
with_class unclassed_of (Some x) t = classed (first_use x [] OfTerm t)
with_class f x t = f

-- ---- trees

-- what stands for a name, where it is of the sort
abbrev pub if_of : Span → Sort → Standing → Result Reference ScopeFault
if_of p s x = if same_sort s x.0 then Ok x.1 else Err (WrongClass p)

-- what stands for a name where a term, or a type, is wanted
abbrev pub wanted_as : Span → Sort → Option Standing → Result Reference ScopeFault
wanted_as p s None = Err (Unbound p)
wanted_as p s (Some x) = if_of p s x

-- a pattern without its names
abbrev pub bare : List (Pattern (Option Text)) → List (Pattern (Unit {0}))
bare ps = map (λ p. record { mode = p.mode; span = p.span; binder = tt }) ps

-- A part under binders, which is a term or not, with what each name stands for. Each branch binds the first binders before its pattern.
unfoldable pub scoped : Around → List Bound → List Bound → Sort → Tree Text → Result Scoped ScopeFault
scoped a of_mu bs s (use_of p u) = wanted_as p s (stands a bs u) >>= λ r. Ok (use_of p r)
scoped a of_mu bs s (leaf p l) = Ok (leaf p l)
scoped a of_mu bs s (one p j t) = scoped a [] bs OfTerm t >>= λ v. Ok (one p j v)
scoped a of_mu bs s (two p j t u) = scoped a [] bs (left_sort j) t >>= λ v. scoped a [] bs (right_sort j) u >>= λ w. Ok (two p j v w)
scoped a of_mu bs s (bind p f x t u) = scoped a [] bs (domain_sort f) t >>= λ v.
    scoped a [] (record { name = x; binding = Variable (binder_sort (with_class f x u)) } ∷ bs) (body_sort f) u >>= λ w. Ok (bind p (with_class f x u) tt v w)
scoped a of_mu bs s (cases p f r t m us) = scoped a [] bs OfTerm t >>= λ v. scoped a [] bs OfType m >>= λ n. scoped a (of_case f r) bs OfTerm us >>= λ ws. Ok (cases p f tt v n ws)
scoped a of_mu bs s (branch p c ps t us) = wanted_as p OfTerm (stands a bs c) >>= λ r.
    scoped a [] (with_patterns ps (of_mu ++ bs)) OfTerm t >>= λ v. scoped a of_mu bs OfTerm us >>= λ ws. Ok (branch p r (bare ps) v ws)

-- ---- items

-- the names of the items of a datatype, without the constructors: those whose place is the datatype's name
abbrev pub generated : Text → List Text
generated d = (d ++ codes "/F") ∷ (d ++ codes "/mono") ∷ d ∷ (d ++ codes "/mu") ∷ (d ++ codes "/sigma") ∷ []

-- a name of that sort
abbrev pub of_sort : Sort → Text → Name
of_sort s x = record { text = x; sort = s }

-- constructors are terms
abbrev pub constructor_names : {B N : Type 0} → List (Constructor Text B N) → List Name
constructor_names cs = map (λ c. of_sort OfTerm c.name) cs

-- the names that an item gives, in the order of its Core items
abbrev pub item_names : {B N : Type 0} → SourceItem Text B N → List Name
item_names (def_item p x t u) = of_sort OfTerm x ∷ []
item_names (type_item p x t u) = of_sort OfType x ∷ []
item_names (data_item p d ps cs) = of_sort OfType (d ++ codes "/F") ∷ of_sort OfTerm (d ++ codes "/mono") ∷ of_sort OfType d ∷ (constructor_names cs ++ (of_sort OfTerm (d ++ codes "/mu") ∷ of_sort OfTerm (d ++ codes "/sigma") ∷ []))

-- one of these is among those
abbrev pub meets : List Text → List Text → Bool
meets [] taken = false
meets (x ∷ xs) taken = if is_one_of x taken then true else meets xs taken

-- where these names come at a place, and the module has those already
abbrev pub unless_taken : {A : Type 0} → Span → List Text → List Text → Result A ScopeFault → Result A ScopeFault
unless_taken p xs taken rest = if meets xs taken then Err (Twice p) else rest

-- names without their sorts
abbrev pub texts : List Name → List Text
texts xs = map (λ x. x.text) xs

-- the item x of the module M, as Core files have it: `M.x`
abbrev pub written : Around → Text → Text
written a x = a.name ++ (codes "." ++ x)

-- each parameter under those before it
abbrev pub parameters : Around → List Bound → List (Parameter (Option Text) (NameUse Text)) → Result (List (Parameter (Unit {0}) Reference)) ScopeFault
parameters a bs [] = Ok []
parameters a bs (p ∷ ps) = scoped a [] bs OfType p.class >>= λ k. parameters a (record { name = p.binder; binding = Variable p.sort } ∷ bs) ps >>= λ qs.
    Ok (record { span = p.span; binder = tt; sort = p.sort; class = k } ∷ qs)

-- under the parameters and the datatype; the constructors are not in scope, but each takes its name
abbrev pub constructors : Around → List Bound → List Text → List (Constructor Text (Option Text) (NameUse Text)) → Result (List (Constructor Text (Unit {0}) Reference)) ScopeFault
constructors a bs taken [] = Ok []
constructors a bs taken (c ∷ cs) = unless_taken c.span (c.name ∷ []) taken (scoped a [] bs OfType c.type >>= λ t. constructors a bs (c.name ∷ taken) cs >>= λ ds.
    Ok (record { span = c.span; name = written a c.name; type = t } ∷ ds))

-- an item, of which the name comes first, and then its parts in the text's order; a datatype hides a parameter of its name
abbrev pub scoped_item : Around → Item Text → Result ScopedItem ScopeFault
scoped_item a (def_item p x t u) = unless_taken p (x ∷ []) (texts a.own) (scoped a [] [] OfType t >>= λ v. scoped a [] [] OfTerm u >>= λ w. Ok (def_item p (written a x) v w))
scoped_item a (type_item p x t u) = unless_taken p (x ∷ []) (texts a.own) (scoped a [] [] OfType t >>= λ v. scoped a [] [] OfType u >>= λ w. Ok (type_item p (written a x) v w))
scoped_item a (data_item p d ps cs) = unless_taken p (generated d) (texts a.own) (parameters a [] ps >>= λ qs.
    constructors a (record { name = Some d; binding = Variable OfType } ∷ with_parameters ps []) (generated d ++ texts a.own) cs >>= λ ds. Ok (data_item p (written a d) qs ds))

-- items, each with those before it in scope, and without itself
unfoldable pub scoped_items : Around → List (Item Text) → Result (List ScopedItem) ScopeFault
scoped_items a [] = Ok []
scoped_items a (i ∷ is) = scoped_item a i >>= λ j. scoped_items (record a { own = a.own ++ item_names i }) is >>= λ js. Ok (j ∷ js)

-- ---- modules

-- how many Core items there are
abbrev pub count : List Exported → ℕ
count [] = 0
count (x ∷ xs) = length x.items + count xs

-- the names of all Core items that these items give
abbrev pub all_names : {B N : Type 0} → List (SourceItem Text B N) → List Name
all_names [] = []
all_names (i ∷ is) = item_names i ++ all_names is

-- what is known at a module's first item
abbrev pub around : List Exported → Module Text → Around
around known m = record { name = m.name; imports = map (λ x. x.0) m.imports; modules = known; first = count known; own = [] }

-- the scope of a module behind others, of which those that it imports are some, or its first fault
abbrev pub scoped_module : List Exported → Module Text → Result ScopedModule ScopeFault
scoped_module known m = scoped_items (around known m) m.items >>= λ is. Ok (record { first = count known; items = is })

-- the modules that are known behind it
abbrev pub with_module : List Exported → Module Text → List Exported
with_module known m = known ++ (record { name = m.name; first = count known; items = all_names m.items } ∷ [])
