-- Tokens that are called otherwise: a name by its text where it was called by a number, what is no name by anything.
use Rattle.std.specs.Prelude.{◌≡◌, ℕ, ◌<◌, List, [], ◌∷◌, length}
use Rattle.scope_model.specs.ScopeNames.{Text}
use Rattle.source_model.specs.Grammar.{Token}
use Rattle.source_model.specs.Parsing.{Given}
use Rattle.source_model.specs.Source.{Module}
use Rattle.source_model.specs.declared.token.TokenKind.TheVariants as k
use Rattle.build_model.specs.Renamed.{renamed_module}

-- the same tokens in the same places; each name of the second is what the first's stands for, and nothing is said of what other tokens are called
abbrev pub AreCalledBy : {A B : Type 0} → (A → B) → List (Token A) → List (Token B) → Type 0
AreCalledBy f [] [] = Unit {0}
AreCalledBy f (t ∷ ts) (u ∷ us) = (t.kind ≡ u.kind) × (t.span ≡ u.span) × (t.kind ≡ k.Name → f t.name ≡ u.name) × AreCalledBy f ts us
AreCalledBy f ts us = ⊥

-- what reading goes by, where names are their own texts
abbrev pub by_text : {A : Type 0} → Given A → Given Text
by_text g = record { text = λ w. w; module_name = g.module_name; end = g.end }

-- a number below a bound
abbrev pub Below : ℕ → Type 0
Below n = (x : ℕ) × (x < n)

-- each name of the module is a number of the table
abbrev pub IsOfTable : List Text → Module ℕ → Type 0
IsOfTable table m = (b : Module (Below (length table))) × (m ≡ renamed_module (λ x. x.0) b)
