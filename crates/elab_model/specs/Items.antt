-- The items of modules: a definition with its type or its kind, by the surface rules over the items so far. The rules of a datatype's items are not among them.
use Rattle.std.specs.Prelude.{◌≡◌, ℕ, List, [], ◌∷◌, ◌++◌}
use Rattle.cdle_model.specs.declared.grammar.Sort.{Sort}
use Rattle.cdle_model.specs.declared.grammar.Sort.TheVariants.{OfTerm, OfType}
use Rattle.cdle_model.specs.Classes.{terms, types, kinds, item_sort, IsScopedOver}
use Rattle.cdle_model.specs.Fitting.{ItemHasErasures}
use Rattle.cdle_model.specs.Derivation.{HasItem, signature}
use Rattle.cdle_model.specs.Trees.{Tree}
use Rattle.cdle_model.specs.Erasure.{erased}
use Rattle.cdle_model.specs.Forms.{Written, def_item, type_item, name_of}
use Rattle.source_model.specs.Source.{data_item}
use Rattle.source_model.specs.Heights.{span_of}
use Rattle.scope_model.specs.Scoped.{ScopedItem, ScopedModule}
use Rattle.elab_model.specs.declared.codes.Code.TheVariants.{WantedKind}
use Rattle.elab_model.specs.ScopedForms.{s_def, s_type}
use Rattle.elab_model.specs.SourceClasses.{SourceFits}
use Rattle.elab_model.specs.SourceErasure.{Encodings, source_erased}
use Rattle.elab_model.specs.Questions.{Questions, gives, astray, ask_same, then, Env, Finding, found, rejected, spent_at, too_deep, out_of_scope, answer}
use Rattle.elab_model.specs.Rules.{star_then, check, term, type, kind}

-- the parts of a definition are of their classes, over the items of these sorts
abbrev pub SourceItemFits : List Sort → ScopedItem → Type 0
SourceItemFits xs (s_def s x a t) = SourceFits [] xs types a × SourceFits [] xs terms t
SourceItemFits xs (s_type s x k a) = SourceFits [] xs kinds k × SourceFits [] xs types a
SourceItemFits xs (data_item s x ps cs) = ⊥

abbrev pub source_sort : ScopedItem → Sort
source_sort (s_def s x a t) = OfTerm
source_sort i = OfType

-- the written name
abbrev pub source_name : ScopedItem → List ℕ
source_name (s_def s x a t) = x
source_name (s_type s x k a) = x
source_name (data_item s x ps cs) = x

-- the written type has `★` and the body has it, or the written kind is one and the body has it
abbrev pub item_of_source : Env → Encodings → ScopedItem → Questions Written
item_of_source e f (s_def s x a t) = star_then (span_of a) a (type e f [] a) (λ a. then (check e f [] t (term e f [] t) a) (λ t. gives (def_item x a t)))
item_of_source e f (s_type s x k a) = then (kind e f [] k) (λ k. then (type e f [] a) (λ y. ask_same (span_of a) (span_of a) WantedKind (erased y.1) (erased k) (gives (type_item x k y.0))))
item_of_source e f (data_item s x ps cs) = astray

-- the items so far, with more behind them, none of them a datatype's name
abbrev pub with_items : Env → List Written → Env
with_items e ws = record { items = e.items ++ ws; is_data = e.is_data }

-- what is found, and then the rest with it
abbrev pub found_then : {A B : Type 0} → Finding A → (A → Finding B) → Finding B
found_then (found x) k = k x
found_then (rejected p c) k = rejected p c
found_then (spent_at p) k = spent_at p
found_then (too_deep p) k = too_deep p
found_then out_of_scope k = out_of_scope

-- what is found stands behind these
abbrev pub behind : List Written → Finding (List Written) → Finding (List Written)
behind ws (found us) = found (ws ++ us)
behind ws r = r

-- the items of a list in order, each over those before it
abbrev pub items_of_source : ℕ → Env → Encodings → List ScopedItem → Finding (List Written)
items_of_source n e f [] = found []
items_of_source n e f (i ∷ is) = found_then (answer e n (item_of_source e f i)) (λ w. behind (w ∷ []) (items_of_source n (with_items e (w ∷ [])) f is))

-- the items of modules one after the other
abbrev pub items_of_modules : ℕ → Env → Encodings → List ScopedModule → Finding (List Written)
items_of_modules n e f [] = found []
items_of_modules n e f (m ∷ ms) = found_then (items_of_source n e f m.items) (λ ws. behind ws (items_of_modules n (with_items e ws) f ms))

-- the definitions of modules as one list
abbrev pub items_in : List ScopedModule → List ScopedItem
items_in [] = []
items_in (m ∷ ms) = m.items ++ items_in ms

-- ---- what the laws ask of the source, and what they say of the items

-- each item's parts are of their classes, over the items before it
abbrev pub SourceItemsFit : List Sort → List ScopedItem → Type 0
SourceItemsFit xs [] = Unit {0}
SourceItemsFit xs (i ∷ is) = SourceItemFits xs i × SourceItemsFit (xs ++ (source_sort i ∷ [])) is

-- the name is none of these
abbrev pub IsFresh : List ℕ → List (List ℕ) → Type 0
IsFresh x [] = Unit {0}
IsFresh x (y ∷ ys) = (y ≡ x → ⊥) × IsFresh x ys

abbrev pub names_of : List Written → List (List ℕ)
names_of [] = []
names_of (w ∷ ws) = name_of w ∷ names_of ws

-- no name is an earlier item's
abbrev pub NamesDiffer : List (List ℕ) → List ScopedItem → Type 0
NamesDiffer xs [] = Unit {0}
NamesDiffer xs (i ∷ is) = IsFresh (source_name i) xs × NamesDiffer (xs ++ (source_name i ∷ [])) is

-- the item erases to the source item: its class to the source's class and its body to the source's body, by equality or by being joined
abbrev pub ErasesTo : (Tree → Tree → Type 0) → Encodings → ScopedItem → Written → Type 0
ErasesTo R f (s_def s x a t) (def_item y b u) = R (erased b) (source_erased f a) × R (erased u) (source_erased f t)
ErasesTo R f (s_type s x k a) (type_item y l b) = R (erased l) (source_erased f k) × R (erased b) (source_erased f a)
ErasesTo R f i w = ⊥

abbrev pub EraseTo : (Tree → Tree → Type 0) → Encodings → List ScopedItem → List Written → Type 0
EraseTo R f [] [] = Unit {0}
EraseTo R f (i ∷ is) (w ∷ ws) = ErasesTo R f i w × EraseTo R f is ws
EraseTo R f is ws = ⊥

-- the item is one that may stand behind the items so far: it has the source's name and sort, is over them, has erasures and a derivation, and erases to the source
pub record IsItemOf (R : Tree → Tree → Type 0) (e : Env) (f : Encodings) (i : ScopedItem) (w : Written) : Type 0 where
  pub sort : item_sort w ≡ source_sort i
  pub name : name_of w ≡ source_name i
  pub scoped : IsScopedOver e.items w
  pub erasures : ItemHasErasures w
  pub derived : HasItem (signature e.items) w
  pub erases : ErasesTo R f i w
