-- What `read_source` answers: the module of a file, or the file's first fault.
use Rattle.std.specs.Prelude.{List, ℕ, Result, Ok, Err}
use Rattle.scope_model.specs.ScopeNames.{Text}
use Rattle.source_model.specs.Parsing.{Unexpected, TooDeep, TooMany}
use Rattle.source_model.specs.SurfaceTokens.{BadCharacter, OpenComment}
use Rattle.build_model.specs.SourceFiles.{IsSource, IsFirstSourceFault, NotUtf8, InTokens, InTree}
use Rattle.surf_lex.specs.declared.fault.LexFault.{LexFault}
use Rattle.surf_lex.specs.declared.fault.LexFault.TheVariants as lexer
use Rattle.surf_reader.specs.declared.error.ParseFault.{ParseFault}
use Rattle.surf_reader.specs.declared.error.ParseFault.TheVariants as parser
use Rattle.surf_tree.specs.Items.{module_of}
use Rattle.surf_tree.specs.declared.items.SrcModule.{SrcModule}
use Rattle.surf_scope.specs.Modules.{spelled_module}
use Rattle.surf_source.specs.declared.fault.SourceFault.{SourceFault}
use Rattle.surf_source.specs.declared.fault.SourceFault.TheVariants as faults

-- a fault of tokens, and one of a tree, as one of a file
abbrev pub of_lexer : LexFault → SourceFault
of_lexer (lexer.BadCharacter at) = faults.BadCharacter at
of_lexer (lexer.OpenComment at) = faults.OpenComment at
of_lexer lexer.NoMemory = faults.NoMemory

abbrev pub of_parser : ParseFault → SourceFault
of_parser (parser.Unexpected at what) = faults.Unexpected at what
of_parser (parser.TooDeep at) = faults.TooDeep at
of_parser (parser.TooMany at what) = faults.TooMany at what
of_parser parser.NoMemory = faults.NoMemory

-- The bytes are the module that is answered, with the texts of its names, or their first fault is the one that is answered. Memory may run out anywhere.
abbrev pub IsRead : List ℕ → Text → List Text → Result SrcModule SourceFault → Type 0
IsRead bytes name names (Ok m) = IsSource bytes name (spelled_module names (module_of m))
IsRead bytes name names (Err faults.NoMemory) = Unit {0}
IsRead bytes name names (Err (faults.NotUtf8 at)) = IsFirstSourceFault bytes name (NotUtf8 at)
IsRead bytes name names (Err (faults.BadCharacter at)) = IsFirstSourceFault bytes name (InTokens (BadCharacter at))
IsRead bytes name names (Err (faults.OpenComment at)) = IsFirstSourceFault bytes name (InTokens (OpenComment at))
IsRead bytes name names (Err (faults.Unexpected at what)) = IsFirstSourceFault bytes name (InTree (Unexpected at what))
IsRead bytes name names (Err (faults.TooDeep at)) = IsFirstSourceFault bytes name (InTree (TooDeep at))
IsRead bytes name names (Err (faults.TooMany at what)) = IsFirstSourceFault bytes name (InTree (TooMany at what))
