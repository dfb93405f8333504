-- Signatures and contexts of which each entry and each body is in its class, and which class a judgement speaks of.
use Rattle.std.specs.Prelude.{◌≡◌, ℕ, List, [], ◌∷◌, Option, Some, slice_get}
use Rattle.cdle_model.specs.declared.grammar.Sort.{Sort}
use Rattle.cdle_model.specs.declared.grammar.Sort.TheVariants.{OfTerm, OfType}
use Rattle.cdle_model.specs.Trees.{Tree}
use Rattle.cdle_model.specs.Forms.{Written, def_item, type_item}
use Rattle.cdle_model.specs.Classes.{TreeClass, terms, types, kinds, pure_terms, guides, guide_kinds, within, Fits}
use Rattle.cdle_model.specs.Erasure.{HasErasure}
use Rattle.cdle_model.specs.Steps.{Step, Linked}
use Rattle.cdle_model.specs.Derivation.{Entry, term_of, type_of, Item, bodies, item, Judgement, a_term, a_type, a_kind}

-- the classes of erased trees
abbrev pub IsErased : TreeClass → Type 0
IsErased pure_terms = Unit {0}
IsErased guides = Unit {0}
IsErased guide_kinds = Unit {0}
IsErased c = ⊥

-- the class of the erasure of a tree of this class
abbrev pub erased_class : TreeClass → TreeClass
erased_class types = guides
erased_class guides = guides
erased_class kinds = guide_kinds
erased_class guide_kinds = guide_kinds
erased_class c = pure_terms

-- the class of what may stand in an erased tree for a variable or a name
abbrev pub class_of : Sort → TreeClass
class_of OfTerm = pure_terms
class_of OfType = guides

-- the class of what is judged, and of the type or kind that it has
abbrev pub subject_class : Judgement → TreeClass
subject_class a_term = terms
subject_class a_type = types
subject_class a_kind = kinds

abbrev pub given_class : Judgement → TreeClass
given_class a_term = guides
given_class j = guide_kinds

-- the erasures of the items' parts are defined
abbrev pub ItemHasErasures : Written → Type 0
ItemHasErasures (def_item x a t) = HasErasure a × HasErasure t
ItemHasErasures (type_item x k a) = HasErasure k × HasErasure a

abbrev pub HaveErasures : List Written → Type 0
HaveErasures [] = Unit {0}
HaveErasures (w ∷ ws) = ItemHasErasures w × HaveErasures ws

-- the sorts of a context's variables
abbrev pub entry_sort : Entry → Sort
entry_sort (term_of a) = OfTerm
entry_sort (type_of k) = OfType

abbrev pub entry_sorts : List Entry → List Sort
entry_sorts [] = []
entry_sorts (e ∷ c) = entry_sort e ∷ entry_sorts c

-- what is known of a variable or a name of this sort is there, and is a guide or a guide kind over the sorts of variables and of items
abbrev pub EntryFits : List Sort → List Sort → Sort → Option Entry → Type 0
EntryFits vs xs OfTerm (Some (term_of a)) = Fits (within vs xs) guides a
EntryFits vs xs OfType (Some (type_of k)) = Fits (within vs xs) guide_kinds k
EntryFits vs xs x o = ⊥

-- each entry of a context fits those after it
abbrev pub ContextFits : List Sort → List Entry → Type 0
ContextFits xs [] = Unit {0}
ContextFits xs (e ∷ c) = EntryFits (entry_sorts c) xs (entry_sort e) (Some e) × ContextFits xs c

-- the bodies are closed, each of the class of its name
abbrev pub BodiesFit : List Sort → List Tree → Type 0
BodiesFit xs s = (n : ℕ) (p : Tree) (x : Sort) → slice_get s n ≡ Some p → slice_get xs n ≡ Some x → Fits (within [] xs) (class_of x) p

-- so are the types and kinds of a signature
pub record SignatureFits (xs : List Sort) (is : List Item) : Type 0 where
  pub bodies_fit : BodiesFit xs (bodies is)
  pub known_fit : (n : ℕ) (x : Sort) → slice_get xs n ≡ Some x → EntryFits [] xs x (item is n)

-- a step from one tree of the class to another, over the sorts of variables and of items
abbrev pub StepWithin : List Sort → List Sort → TreeClass → List Tree → Tree → Tree → Type 0
StepWithin vs xs c s a b = Step s a b × Fits (within vs xs) c a × Fits (within vs xs) c b

-- equality by a list of trees of the class alone
abbrev pub JoinedWithin : List Sort → List Sort → TreeClass → List Tree → Tree → Tree → Type 0
JoinedWithin vs xs c s = Linked (StepWithin vs xs c s)
