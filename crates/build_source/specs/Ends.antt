-- The outcomes where a module's file comes to no Core text, each with its cause.
use Rattle.std.specs.Prelude.{◌≡◌, ◌++◌, ◌&&◌, ℕ, List, [], ◌∷◌, Ok, if◌then◌else◌, nat_le, slice_range}
use Rattle.cdle_folder.specs.Files.{Bytes}
use Rattle.cdle_model.specs.Forms.{Written}
use Rattle.cdle_model.specs.declared.grammar.Count.TheVariants.{Nesting, Depth, Items}
use Rattle.source_model.specs.Parsing.{Fault, Unexpected, TooDeep, TooMany}
use Rattle.source_model.specs.Source.{Span}
use Rattle.source_model.specs.SurfaceTokens.{TextToken, TokenFault, BadCharacter, OpenComment, lexed}
use Rattle.scope_model.specs.Scope.{ScopeFault, Unbound, WrongClass, Twice}
use Rattle.build_model.specs.SourceFiles.{SourceFault, NotUtf8, InTokens, InTree}
use Rattle.build_module.specs.ModuleAnswers.{ModuleAnswer, IsModuleAnswer, gives, no_module, many_items, unscoped, not_built, refuses, spends, deepens}
use Rattle.build_outcome.specs.Words.{surface_word}
use Rattle.build_outcome.specs.declared.outcome.Badness.{Badness}
use Rattle.build_outcome.specs.declared.outcome.Badness.TheVariants as bad
use Rattle.build_outcome.specs.declared.outcome.Outcome.{Outcome}
use Rattle.build_outcome.specs.declared.outcome.Outcome.TheVariants as outcome
use Rattle.build_outcome.specs.declared.outcome.Reason.TheVariants.{Surface, NotBuilt}
use Rattle.build_outcome.specs.declared.outcome.Spot.{Spot}
use Rattle.build_outcome.specs.declared.outcome.Spot.TheVariants.{FileSpot}

-- ---- where and what

-- the tokens of a text that stand in a place, one behind the other: a name, or two with `#` between them
abbrev pub spelled_in : Bytes → Span → List TextToken → Bytes
spelled_in text p [] = []
spelled_in text p (t ∷ ts) = if nat_le p.from t.span.from && nat_le t.span.to p.to then slice_range text t.span.from t.span.to ++ spelled_in text p ts else spelled_in text p ts

abbrev pub IsNameIn : Bytes → Span → Bytes → Type 0
IsNameIn text p name = (ts : List TextToken) × (lexed text ≡ Ok ts) × (name ≡ spelled_in text p ts)

-- that byte of the file
abbrev pub IsSpotOf : Bytes → ℕ → Spot → Type 0
IsSpotOf file at (FileSpot name place) = (name ≡ file) × (place ≡ at)
IsSpotOf file at s = ⊥

-- ---- the module's file

-- the first fault of the bytes, as an outcome
abbrev pub IsTokenEnd : TokenFault → ℕ → Badness → Type 0
IsTokenEnd (BadCharacter p) at bad.BadCharacter = at ≡ p
IsTokenEnd (OpenComment p) at bad.OpenComment = at ≡ p
IsTokenEnd f at what = ⊥

abbrev pub IsTreeEnd : Bytes → Fault → Outcome → Type 0
IsTreeEnd file (Unexpected p w) (outcome.Malformed name at (bad.Wanted word)) = (name ≡ file) × (at ≡ p) × (word ≡ surface_word w)
IsTreeEnd file (TooDeep p) (outcome.Limit name Nesting) = name ≡ file
IsTreeEnd file (TooMany p what) (outcome.Limit name w) = (name ≡ file) × (w ≡ what)
IsTreeEnd file f o = ⊥

abbrev pub IsSourceEnd : Bytes → SourceFault → Outcome → Type 0
IsSourceEnd file (NotUtf8 p) (outcome.Malformed name at bad.NotUtf8) = (name ≡ file) × (at ≡ p)
IsSourceEnd file (InTokens f) (outcome.Malformed name at what) = (name ≡ file) × IsTokenEnd f at what
IsSourceEnd file (InTree f) o = IsTreeEnd file f o
IsSourceEnd file f o = ⊥

-- the first fault of the scope: the name that stands there
abbrev pub IsScopeEnd : Bytes → ScopeFault → ℕ → Badness → Type 0
IsScopeEnd text (Unbound p) at (bad.Unbound name) = (at ≡ p.from) × IsNameIn text p name
IsScopeEnd text (WrongClass p) at (bad.WrongClass name) = (at ≡ p.from) × IsNameIn text p name
IsScopeEnd text (Twice p) at (bad.Twice name) = (at ≡ p.from) × IsNameIn text p name
IsScopeEnd text f at what = ⊥

-- The outcome where the bytes of the module's file come to no Core text, with n units for each comparison and each head form. Places are those where what is
-- at fault begins.
abbrev pub IsEndOf : ℕ → Bytes → Bytes → ModuleAnswer → Outcome → Type 0
IsEndOf n file text (no_module f) o = IsSourceEnd file f o
IsEndOf n file text many_items (outcome.Limit name Items) = name ≡ file
IsEndOf n file text (unscoped f) (outcome.Malformed name at what) = (name ≡ file) × IsScopeEnd text f at what
IsEndOf n file text (not_built p) (outcome.Refused spot NotBuilt) = IsSpotOf file p.from spot
IsEndOf n file text (refuses p c) (outcome.Refused spot (Surface d)) = IsSpotOf file p.from spot × (d ≡ c)
IsEndOf n file text (spends p) (outcome.Undecided spot budget) = IsSpotOf file p.from spot × (budget ≡ n)
IsEndOf n file text (deepens item) (outcome.Limit name Depth) = name ≡ item
IsEndOf n file text a o = ⊥

-- the bytes of the module's file give this text of its Core file
abbrev pub Gives : ℕ → Bytes → Bytes → Bytes → Type 0
Gives n name source text = (ws : List Written) × IsModuleAnswer n source name (gives ws text)
