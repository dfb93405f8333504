-- What the laws of the surface rules ask of the items so far and of a context, and what they say of what is given.
use Rattle.std.specs.Prelude.{◌≡◌, ℕ, List, [], ◌∷◌, Some, None, slice_get}
use Rattle.cdle_model.specs.declared.grammar.Sort.{Sort}
use Rattle.cdle_model.specs.declared.grammar.Sort.TheVariants.{OfTerm}
use Rattle.cdle_model.specs.Trees.{Tree, name}
use Rattle.cdle_model.specs.Forms.{Written, def_item, type_item}
use Rattle.cdle_model.specs.Classes.{terms, types, kinds, pure_terms, within, Fits, AreScoped}
use Rattle.cdle_model.specs.Fitting.{HaveErasures, entry_sorts}
use Rattle.cdle_model.specs.Steps.{Joined}
use Rattle.cdle_model.specs.Derivation.{Entry, term_of, type_of, bodies, signature}
use Rattle.elab_model.specs.SourceErasure.{Encodings}
use Rattle.elab_model.specs.SoundTrees.{Sound}
use Rattle.elab_model.specs.Questions.{Env}

-- both parts of an item
abbrev pub ItemSound : List Sort → List Sort → Written → Type 0
ItemSound xs vs (def_item x a t) = Sound xs vs types a × Sound xs vs terms t
ItemSound xs vs (type_item x k a) = Sound xs vs kinds k × Sound xs vs types a

-- the items so far are items, and have erasures
pub record EnvSound (e : Env) : Type 0 where
  pub items : AreScoped e.items
  pub erasures : HaveErasures e.items

-- each entry of a context is over those after it
abbrev pub EntrySound : List Sort → List Sort → Entry → Type 0
EntrySound xs vs (term_of a) = Sound xs vs types a
EntrySound xs vs (type_of k) = Sound xs vs kinds k

abbrev pub ContextSound : List Sort → List Entry → Type 0
ContextSound xs [] = Unit {0}
ContextSound xs (e ∷ c) = EntrySound xs (entry_sorts c) e × ContextSound xs c

-- the encodings of constructors, which are terms, are closed pure terms
abbrev pub EncodingsFit : List Sort → Encodings → Type 0
EncodingsFit xs f = (n : ℕ) (p : Tree) → f n ≡ Some p → (slice_get xs n ≡ Some OfTerm) × ((vs : List Sort) → Fits (within vs xs) pure_terms p)

-- a constructor's name is joined with its encoding
abbrev pub AreEncodings : Env → Encodings → Type 0
AreEncodings e f = (n : ℕ) (p : Tree) → f n ≡ Some p → Joined (bodies (signature e.items)) (name n) p

-- there are no constructors
abbrev pub no_encodings : Encodings
no_encodings n = None
