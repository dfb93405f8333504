-- The classes of trees: which trees are terms, types, kinds, pure terms, guides and guide kinds, and where each variable and name is used in its class.
use Rattle.std.specs.Prelude.{◌≡◌, ℕ, suc, List, [], ◌∷◌, ◌++◌, Some, slice_get}
use Rattle.cdle_model.specs.declared.grammar.Sort.{Sort}
use Rattle.cdle_model.specs.declared.grammar.Sort.TheVariants.{OfTerm, OfType}
use Rattle.cdle_model.specs.Forms.{Written, def_item, type_item}
use Rattle.cdle_model.specs.Trees.{of_pure, of_term, of_type, star_of, fst_of, snd_of, eq_of, app_of, eapp_of, tapp_of, group_of, beta_of, rho_of, phi_of, delta_of, pi_of, all_of, allt_of, iota_of, kpi_of, kpit_of, tlam_of, xtlam_of, lam_of, elam_of, xlam_of, pair_of, guide_of, Leaf, Unary, Binary, Function, Binder, Tree, var, name, leaf, unary, fun, apply, binary, bind}

-- the classes of whole trees, and of the groups of parts: those of `pair` and of `phi`, the left one of `rho` and its right one
pub data TreeClass : Type 0 where
  terms types kinds pure_terms guides guide_kinds : TreeClass
  term_pairs guided_proofs typed_terms : TreeClass

-- what the parts of a form are: nothing where the class has no such form, one part, one under a binder, two, two of which the second is under a binder
pub data Places : Type 0 where
  nowhere : Places
  part : TreeClass → Places
  body : Sort → TreeClass → Places
  parts : TreeClass → TreeClass → Places
  domain : TreeClass → Sort → TreeClass → Places

-- the variables and names of the class are of this sort
abbrev pub AsSort : TreeClass → (Sort → Type 0) → Type 0
AsSort terms P = P OfTerm
AsSort pure_terms P = P OfTerm
AsSort types P = P OfType
AsSort guides P = P OfType
AsSort c P = ⊥

abbrev pub IsLeaf : TreeClass → Leaf → Type 0
IsLeaf kinds star_of = Unit {0}
IsLeaf guide_kinds star_of = Unit {0}
IsLeaf c l = ⊥

abbrev pub unary_places : TreeClass → Unary → Places
unary_places terms fst_of = part terms
unary_places terms snd_of = part terms
unary_places c j = nowhere

abbrev pub fun_places : TreeClass → Function → Places
fun_places pure_terms of_pure = body OfTerm pure_terms
fun_places guides of_term = body OfTerm guides
fun_places guides of_type = body OfType guides
fun_places c f = nowhere

abbrev pub apply_places : TreeClass → Function → Places
apply_places pure_terms of_pure = parts pure_terms pure_terms
apply_places types of_term = parts types terms
apply_places types of_type = parts types types
apply_places guides of_term = parts guides pure_terms
apply_places guides of_type = parts guides guides
apply_places c f = nowhere

abbrev pub binary_places : TreeClass → Binary → Places
binary_places terms app_of = parts terms terms
binary_places terms eapp_of = parts terms terms
binary_places terms tapp_of = parts terms types
binary_places terms beta_of = parts pure_terms pure_terms
binary_places terms rho_of = parts guided_proofs typed_terms
binary_places terms phi_of = parts term_pairs pure_terms
binary_places terms delta_of = parts types terms
binary_places types eq_of = parts pure_terms pure_terms
binary_places guides eq_of = parts pure_terms pure_terms
binary_places term_pairs group_of = parts terms terms
binary_places typed_terms group_of = parts types terms
binary_places c j = nowhere

abbrev pub bind_places : TreeClass → Binder → Places
bind_places terms lam_of = domain types OfTerm terms
bind_places terms elam_of = domain types OfTerm terms
bind_places terms xlam_of = domain kinds OfType terms
bind_places terms pair_of = domain term_pairs OfTerm types
bind_places guided_proofs guide_of = domain terms OfTerm guides
bind_places types pi_of = domain types OfTerm types
bind_places types all_of = domain types OfTerm types
bind_places types allt_of = domain kinds OfType types
bind_places types tlam_of = domain types OfTerm types
bind_places types xtlam_of = domain kinds OfType types
bind_places types iota_of = domain types OfTerm types
bind_places kinds kpi_of = domain types OfTerm kinds
bind_places kinds kpit_of = domain kinds OfType kinds
bind_places guides pi_of = domain guides OfTerm guides
bind_places guides all_of = domain guides OfTerm guides
bind_places guides allt_of = domain guide_kinds OfType guides
bind_places guides iota_of = domain guides OfTerm guides
bind_places guide_kinds kpi_of = domain guides OfTerm guide_kinds
bind_places guide_kinds kpit_of = domain guide_kinds OfType guide_kinds
bind_places c f = nowhere

-- what may stand free in a tree: anything; the variables of a context (the innermost first) and the items of a list, each by its sort;
-- or the variable `at` of one sort alone, and any other
pub data Scope : Type 0 where
  anything : Scope
  within : List Sort → List Sort → Scope
  with_use : Sort → ℕ → Scope

-- the scope under one more binder
abbrev pub under : Sort → Scope → Scope
under x anything = anything
under x (within vs is) = within (x ∷ vs) is
under x (with_use y at) = with_use y (suc at)

abbrev pub HasVariable : Scope → ℕ → Sort → Type 0
HasVariable anything i x = Unit {0}
HasVariable (within vs is) i x = slice_get vs i ≡ Some x
HasVariable (with_use y at) i x = i ≡ at → x ≡ y

abbrev pub HasName : Scope → ℕ → Sort → Type 0
HasName anything n x = Unit {0}
HasName (within vs is) n x = slice_get is n ≡ Some x
HasName (with_use y at) n x = Unit {0}

-- the parts are as the places say
abbrev pub AsPart : Places → (TreeClass → Type 0) → Type 0
AsPart (part x) P = P x
AsPart ps P = ⊥

abbrev pub AsBody : Places → (Sort → TreeClass → Type 0) → Type 0
AsBody (body v x) P = P v x
AsBody ps P = ⊥

abbrev pub AsParts : Places → (TreeClass → Type 0) → (TreeClass → Type 0) → Type 0
AsParts (parts x y) P Q = P x × Q y
AsParts ps P Q = ⊥

abbrev pub AsDomain : Places → (TreeClass → Type 0) → (Sort → TreeClass → Type 0) → Type 0
AsDomain (domain x v y) P Q = P x × Q v y
AsDomain ps P Q = ⊥

-- the tree is of this class, and its free variables and names are as the scope says
abbrev pub Fits : Scope → TreeClass → Tree → Type 0
Fits s c (var i) = AsSort c (λ x. HasVariable s i x)
Fits s c (name n) = AsSort c (λ x. HasName s n x)
Fits s c (leaf l) = IsLeaf c l
Fits s c (unary j p) = AsPart (unary_places c j) (λ x. Fits s x p)
Fits s c (fun f p) = AsBody (fun_places c f) (λ v x. Fits (under v s) x p)
Fits s c (apply f p q) = AsParts (apply_places c f) (λ x. Fits s x p) (λ x. Fits s x q)
Fits s c (binary j p q) = AsParts (binary_places c j) (λ x. Fits s x p) (λ x. Fits s x q)
Fits s c (bind f p q) = AsDomain (bind_places c f) (λ x. Fits s x p) (λ v x. Fits (under v s) x q)

-- the tree is of this class
abbrev pub IsOf : TreeClass → Tree → Type 0
IsOf = Fits anything

-- each use of the variable `at` in the tree of this class is of the sort
abbrev pub UsedAs : Sort → ℕ → TreeClass → Tree → Type 0
UsedAs x at = Fits (with_use x at)

-- ---- items

-- what an item's name stands for
abbrev pub item_sort : Written → Sort
item_sort (def_item x a t) = OfTerm
item_sort (type_item x k a) = OfType

abbrev pub item_sorts : List Written → List Sort
item_sorts [] = []
item_sorts (w ∷ ws) = item_sort w ∷ item_sorts ws

-- an item is closed, over the earlier items alone, with each variable and name used in its class
abbrev pub IsScopedOver : List Written → Written → Type 0
IsScopedOver es (def_item x a t) = Fits (within [] (item_sorts es)) types a × Fits (within [] (item_sorts es)) terms t
IsScopedOver es (type_item x k a) = Fits (within [] (item_sorts es)) kinds k × Fits (within [] (item_sorts es)) types a

-- each item of the second list is over those of the first and those before it
abbrev pub AreScopedOver : List Written → List Written → Type 0
AreScopedOver es [] = Unit {0}
AreScopedOver es (w ∷ ws) = IsScopedOver es w × AreScopedOver (es ++ (w ∷ [])) ws

-- a list of items as a reader gives it
abbrev pub AreScoped : List Written → Type 0
AreScoped = AreScopedOver []
