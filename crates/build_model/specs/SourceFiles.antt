-- What the bytes of a module's file say.
use Rattle.std.specs.Prelude.{◌≡◌, ℕ, List, length, map, Ok, Err}
use Rattle.std.specs.Str.{IsUtf8, IsValidUpTo}
use Rattle.scope_model.specs.ItemNames.{called}
use Rattle.scope_model.specs.ScopeNames.{Text}
use Rattle.source_model.specs.Parsing.{Fault, Given, IsFirstFault}
use Rattle.source_model.specs.Source.{Module}
use Rattle.source_model.specs.SurfaceText.{Says}
use Rattle.source_model.specs.SurfaceTokens.{TextToken, TokenFault, lexed}

-- what the tokens of a file are read by: names are their own texts, the module has the file's name, and the file ends behind its last byte
abbrev pub of_file : List ℕ → Text → Given Text
of_file bytes name = record { text = λ w. w; module_name = name; end = length bytes }

-- the bytes are the module of that name
pub record IsSource (bytes : List ℕ) (name : Text) (m : Module Text) : Type 0 where
  pub utf8 : IsUtf8 bytes
  pub tokens : List TextToken
  pub cut : lexed bytes ≡ Ok tokens
  pub says : Says (of_file bytes name) (map (called bytes) tokens) m

-- why bytes are no module of that name: they are no text, the text has no tokens, or these are no module
pub data SourceFault : Type 0 where
  NotUtf8 : ℕ → SourceFault
  InTokens : TokenFault → SourceFault
  InTree : Fault → SourceFault

-- The first fault of a file. Bytes are UTF-8 before the place of the first; that the tree has a fault is told only of bytes that are a text with tokens.
abbrev pub IsFirstSourceFault : List ℕ → Text → SourceFault → Type 0
IsFirstSourceFault bytes name (NotUtf8 at) = IsValidUpTo bytes at
IsFirstSourceFault bytes name (InTokens f) = IsUtf8 bytes × (lexed bytes ≡ Err f)
IsFirstSourceFault bytes name (InTree f) = IsUtf8 bytes × (ts : List TextToken) × (lexed bytes ≡ Ok ts) × IsFirstFault (of_file bytes name) (map (called bytes) ts) f
