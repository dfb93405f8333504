-- The names of a module's items, as Core files have them.
use Rattle.std.specs.Prelude.{◌≡◌, ℕ, false, map, slice_range, List, [], ◌∷◌}
use Rattle.std.specs.List.{AllByRecursion, list_any}
use Rattle.std.specs.Str.{IsUtf8}
use Rattle.cdle_model.specs.CoreNames.{Name}
use Rattle.cdle_model.specs.CoreTokens.{ends_word}
use Rattle.source_model.specs.Source.{Item, Module, def_item, type_item, data_item}
use Rattle.source_model.specs.Grammar.{Token}
use Rattle.source_model.specs.SurfaceTokens.{TextToken}
use Rattle.source_model.specs.declared.token.TokenKind.TheVariants as k
use Rattle.scope_model.specs.ScopeNames.{Text, Around}
use Rattle.scope_model.specs.Scope.{written}

-- the item x of the module M as `M.x`
abbrev pub as_written : Around → Name → Name
as_written a x = record x { text = written a x.text }

-- ---- what names are made of

-- UTF-8 in which no byte ends a word of Core text
pub record IsPartOfWord (w : Text) : Type 0 where
  pub utf8 : IsUtf8 w
  pub goes_on : list_any ends_word w ≡ false

-- a token is called by its bytes
abbrev pub called : List ℕ → TextToken → Token Text
called text t = record { kind = t.kind; span = t.span; name = slice_range text t.span.from t.span.to }

-- each token that is a name is called so
abbrev pub AreCalled : {A : Type 0} → (A → Type 0) → List (Token A) → Type 0
AreCalled P ts = AllByRecursion (λ t. t.kind ≡ k.Name → P t.name) ts

-- the names that an item writes: its own, and its constructors'
abbrev pub declared_by : {A : Type 0} → Item A → List A
declared_by (def_item p x t u) = x ∷ []
declared_by (type_item p x t u) = x ∷ []
declared_by (data_item p d ps cs) = d ∷ map (λ c. c.name) cs

-- each name that these items write
abbrev pub AllDeclared : {A : Type 0} → (A → Type 0) → List (Item A) → Type 0
AllDeclared P is = AllByRecursion (λ i. AllByRecursion P (declared_by i)) is

-- the module's name, and each that its items write
abbrev pub AllNames : {A : Type 0} → (A → Type 0) → Module A → Type 0
AllNames P m = P m.name × AllDeclared P m.items
