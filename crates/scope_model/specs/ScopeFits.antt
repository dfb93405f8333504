-- In a module whose scope is known each variable and each item is used in its class.
use Rattle.std.specs.Prelude.{◌≡◌, ℕ, ◌+◌, List, [], ◌∷◌, ◌++◌, length, map, slice_get, Option, Some, None}
use Rattle.cdle_model.specs.declared.grammar.Sort.{Sort}
use Rattle.cdle_model.specs.declared.grammar.Sort.TheVariants.{OfTerm, OfType}
use Rattle.cdle_model.specs.CoreNames.{Name}
use Rattle.source_model.specs.Source.{use_of, leaf, one, two, bind, cases, branch, SourceBinder, unclassed_of, CaseForm, mu_of, sigma_of, Pattern, Parameter, Constructor, def_item, type_item, data_item}
use Rattle.scope_model.specs.Scoped.{Reference, variable, item, cast, Scoped, ScopedItem}
use Rattle.scope_model.specs.ScopeNames.{Binding, Variable, Proof, Exported}
use Rattle.scope_model.specs.Scope.{left_sort, right_sort, domain_sort, body_sort, binder_sort, mode_sort, item_names}

-- the binders around a place, the innermost first: what each binds, or none where no name may stand for it
abbrev pub Binders : Type 0
Binders = List (Option Binding)

-- the variable of a binder, which is of a sort; that of a `Λ` without a class is of none
abbrev pub binding_of : SourceBinder → Option Binding
binding_of unclassed_of = None
binding_of f = Some (Variable (binder_sort f))

-- under these binders, behind items of these sorts, what a name stands for is of the sort
abbrev pub IsOfSort : Binders → List Sort → Sort → Reference → Type 0
IsOfSort vs xs s (variable i) = slice_get vs i ≡ Some (Some (Variable s))
IsOfSort vs xs s (item n) = slice_get xs n ≡ Some s
IsOfSort vs xs s (cast i) = (s ≡ OfTerm) × (slice_get vs i ≡ Some (Some Proof))

-- what each branch of a case binds before its pattern
abbrev pub case_bindings : CaseForm → Binders
case_bindings mu_of = Some (Variable OfTerm) ∷ Some Proof ∷ Some (Variable OfType) ∷ []
case_bindings sigma_of = []

-- the binders in a branch's part: those of its pattern stand innermost
abbrev pub under_patterns : List (Pattern (Unit {0})) → Binders → Binders
under_patterns [] vs = vs
under_patterns (p ∷ ps) vs = under_patterns ps (Some (Variable (mode_sort p.mode)) ∷ vs)

-- In a part which is a term, or else a type or a kind, each name stands for what is of the sort that is wanted there; each branch binds these before its pattern.
abbrev pub FitsScope : Binders → Binders → List Sort → Sort → Scoped → Type 0
FitsScope of_mu vs xs s (use_of p r) = IsOfSort vs xs s r
FitsScope of_mu vs xs s (leaf p l) = Unit {0}
FitsScope of_mu vs xs s (one p j t) = FitsScope [] vs xs OfTerm t
FitsScope of_mu vs xs s (two p j t u) = FitsScope [] vs xs (left_sort j) t × FitsScope [] vs xs (right_sort j) u
FitsScope of_mu vs xs s (bind p f x t u) = FitsScope [] vs xs (domain_sort f) t × FitsScope [] (binding_of f ∷ vs) xs (body_sort f) u
FitsScope of_mu vs xs s (cases p f x t m us) = FitsScope [] vs xs OfTerm t × FitsScope [] vs xs OfType m × FitsScope (case_bindings f) vs xs OfTerm us
FitsScope of_mu vs xs s (branch p r ps t us) = IsOfSort vs xs OfTerm r × FitsScope [] (under_patterns ps (of_mu ++ vs)) xs OfTerm t × FitsScope of_mu vs xs OfTerm us

-- ---- items

-- each parameter's class fits under the parameters before it
abbrev pub ParametersFit : Binders → List Sort → List (Parameter (Unit {0}) Reference) → Type 0
ParametersFit vs xs [] = Unit {0}
ParametersFit vs xs (p ∷ ps) = FitsScope [] vs xs OfType p.class × ParametersFit (Some (Variable p.sort) ∷ vs) xs ps

-- the binders behind the parameters
abbrev pub under_parameters : List (Parameter (Unit {0}) Reference) → Binders → Binders
under_parameters [] vs = vs
under_parameters (p ∷ ps) vs = under_parameters ps (Some (Variable p.sort) ∷ vs)

-- each constructor's type fits
abbrev pub ConstructorsFit : Binders → List Sort → List (Constructor (List ℕ) (Unit {0}) Reference) → Type 0
ConstructorsFit vs xs [] = Unit {0}
ConstructorsFit vs xs (c ∷ cs) = FitsScope [] vs xs OfType c.type × ConstructorsFit vs xs cs

-- an item behind items of these sorts; the constructors' types stand under the parameters and the datatype, which is innermost
abbrev pub ItemFits : List Sort → ScopedItem → Type 0
ItemFits xs (def_item p x t u) = FitsScope [] [] xs OfType t × FitsScope [] [] xs OfTerm u
ItemFits xs (type_item p x t u) = FitsScope [] [] xs OfType t × FitsScope [] [] xs OfType u
ItemFits xs (data_item p d ps cs) = ParametersFit [] xs ps × ConstructorsFit (Some (Variable OfType) ∷ under_parameters ps []) xs cs

-- whether each name is a term's or a type's
abbrev pub sorts : List Name → List Sort
sorts xs = map (λ x. x.sort) xs

-- each item behind those before it
abbrev pub ItemsFit : List Sort → List ScopedItem → Type 0
ItemsFit xs [] = Unit {0}
ItemsFit xs (i ∷ is) = ItemFits xs i × ItemsFit (xs ++ sorts (item_names i)) is

-- ---- modules

-- the first of them begins with this number, and each other one where the one before it ends
abbrev pub AreNumbered : ℕ → List Exported → Type 0
AreNumbered n [] = Unit {0}
AreNumbered n (x ∷ xs) = (x.first ≡ n) × AreNumbered (n + length x.items) xs

-- the sorts of the Core items of all modules that are known
abbrev pub known_sorts : List Exported → List Sort
known_sorts [] = []
known_sorts (x ∷ xs) = sorts x.items ++ known_sorts xs
