-- What the parser answers: which module its tokens are, or their first fault.
use Rattle.std.specs.Prelude.{◌≡◌, ℕ, List, [], ◌∷◌, ◌++◌, cond, get_or, length, slice_get, slice_range, Some, Result, Ok, Err}
use Rattle.cdle_names.specs.Texts.{number_of}
use Rattle.source_model.specs.Grammar.{Token}
use Rattle.source_model.specs.Rows.{same_kind}
use Rattle.source_model.specs.Parsing.{Given, Unexpected, TooDeep, TooMany, IsFirstFault}
use Rattle.source_model.specs.SurfaceText.{Says}
use Rattle.source_model.specs.declared.token.TokenKind.TheVariants as k
use Rattle.surf_lex.specs.declared.tokens.Token as lexer
use Rattle.surf_tree.specs.Forms.{place}
use Rattle.surf_tree.specs.Items.{module_of}
use Rattle.surf_tree.specs.declared.items.SrcModule.{SrcModule}
use Rattle.surf_reader.specs.declared.error.ParseFault.{ParseFault}
use Rattle.surf_reader.specs.declared.error.ParseFault.TheVariants as faults

-- ---- names by number

-- the bytes of a token
abbrev pub bytes_of : List ℕ → lexer.Token → List ℕ
bytes_of text t = slice_range text t.span.from t.span.to

-- A token of the text, called by a number: a name by the number of its text in a table. What any other token is called is read by nothing.
abbrev pub numbered : List ℕ → List (List ℕ) → lexer.Token → Token ℕ
numbered text table t = record { kind = t.kind; span = place t.span; name = cond (same_kind k.Name t.kind) (number_of (bytes_of text t) table) 0 }

-- at the number of each name stands its text
abbrev pub AreNumbered : List ℕ → List (List ℕ) → List lexer.Token → Type 0
AreNumbered text table [] = Unit {0}
AreNumbered text table (t ∷ ts) = (t.kind ≡ k.Name → slice_get table (numbered text table t).name ≡ Some (bytes_of text t)) × AreNumbered text table ts

-- the texts that were there stand in the same places
abbrev pub Grows : List (List ℕ) → List (List ℕ) → Type 0
Grows old new = (more : List (List ℕ)) × (new ≡ old ++ more)

-- what reading goes by: the texts of a table by number, the name of the module, the text, at whose end a token may be wanted
abbrev pub given_by : List (List ℕ) → List ℕ → List ℕ → Given ℕ
given_by table named text = record { text = λ n. get_or table n []; module_name = named; end = length text }

-- ---- the answer

-- The tokens are the module that is answered, or their first fault is the one that is answered. Memory may run out anywhere.
abbrev pub IsParsed : Given ℕ → List (Token ℕ) → Result SrcModule ParseFault → Type 0
IsParsed g ts (Ok b) = Says g ts (module_of b)
IsParsed g ts (Err faults.NoMemory) = Unit {0}
IsParsed g ts (Err (faults.Unexpected at what)) = IsFirstFault g ts (Unexpected at what)
IsParsed g ts (Err (faults.TooDeep at)) = IsFirstFault g ts (TooDeep at)
IsParsed g ts (Err (faults.TooMany at what)) = IsFirstFault g ts (TooMany at what)
