-- What the lexer and the parser answer, as what a file says.
use Rattle.std.proofs.Common.{◌≡◌, ℕ, zero, suc, ◌<◌, List, [], ◌∷◌, length, map, slice_get, get_or, Some, Result, Ok, Err, refl, sym, subst}
use Rattle.std.specs.Str.{IsUtf8}
use Rattle.scope_model.specs.ItemNames.{AreCalled, called}
use Rattle.scope_model.specs.ScopeNames.{Text}
use Rattle.source_model.specs.Grammar.{Token}
use Rattle.source_model.specs.Parsing.{Fault, IsFirstFault, Unexpected, TooDeep, TooMany}
use Rattle.source_model.specs.SurfaceText.{Says}
use Rattle.source_model.specs.SurfaceTokens.{lexed}
use Rattle.source_model.specs.Source.{Module}
use Rattle.build_model.specs.ByText.{AreCalledBy, IsOfTable}
use Rattle.build_model.specs.SourceFiles.{IsSource, IsFirstSourceFault, InTree, of_file}
use Rattle.build_model.proofs.ReadByText.{said_anew, faulty_anew, said_below}
use Rattle.surf_lex.specs.Fronts.{IsFaultOf, token_of as text_token}
use Rattle.surf_lex.specs.declared.fault.LexFault.{LexFault}
use Rattle.surf_lex.specs.declared.fault.LexFault.TheVariants as lexer
use Rattle.surf_lex.specs.declared.tokens.Token as code
use Rattle.surf_parse.specs.Answers.{AreNumbered, IsParsed, bytes_of, given_by, numbered}
use Rattle.surf_parse.proofs.Numbered.{get_within}
use Rattle.surf_reader.specs.declared.error.ParseFault.{ParseFault}
use Rattle.surf_reader.specs.declared.error.ParseFault.TheVariants as parser
use Rattle.surf_scope.specs.Modules.{spelled_module}
use Rattle.surf_tree.specs.declared.items.SrcModule.{SrcModule}
use Rattle.surf_source.specs.Answers.{IsRead, of_lexer, of_parser}
use Rattle.surf_source.proofs.Spelled.{module_same}

-- ---- tokens

pub lexer_fault : (text name : List ℕ) (names : List Text) (e : LexFault) → IsUtf8 text → IsFaultOf text e → IsRead text name names (Err (of_lexer e))
lexer_fault text name names (lexer.BadCharacter at) u h = (u, h)
lexer_fault text name names (lexer.OpenComment at) u h = (u, h)
lexer_fault text name names lexer.NoMemory u h = tt

got : (table : List Text) (n : ℕ) (w : Text) → slice_get table n ≡ Some w → get_or table n [] ≡ w
got [] n w e = absurd cc
got (t ∷ table) zero w e = cc
got (t ∷ table) (suc n) w e = got table n w e

module _ (text : List ℕ) (table : List Text) where
  called_by : (ts : List code.Token) → AreNumbered text table ts → AreCalledBy (λ n. get_or table n []) (map (numbered text table) ts) (map (called text) (map text_token ts))
  called_by [] h = tt
  called_by (t ∷ ts) h = (refl, refl, (λ e. got table (numbered text table t).name (bytes_of text t) (h.0 e)), called_by ts h.1)

  below : (ts : List code.Token) → AreNumbered text table ts → AreCalled (λ x. x < length table) (map (numbered text table) ts)
  below [] h = tt
  below (t ∷ ts) h = ((λ e. get_within table (numbered text table t).name (bytes_of text t) (h.0 e)), below ts h.1)

-- ---- trees

module _ (text name : List ℕ) (table : List Text) (ts : List code.Token) (u : IsUtf8 text) (cut : lexed text ≡ Ok (map text_token ts)) (n : AreNumbered text table ts) where
  pub source : (m : Module ℕ) → Says (given_by table name text) (map (numbered text table) ts) m → IsSource text name (spelled_module table m)
  source m s = record {
    utf8 = u;
    tokens = map text_token ts;
    cut = cut;
    says = subst (λ (b : Module Text). Says (of_file text name) (map (called text) (map text_token ts)) b) (sym (module_same table m))
        (said_anew (λ x. get_or table x []) [] (of_file text name) (map (numbered text table) ts) (map (called text) (map text_token ts)) (called_by text table ts n) m s);
  }

  pub of_table : (m : Module ℕ) → Says (given_by table name text) (map (numbered text table) ts) m → IsOfTable table m
  of_table m s = said_below (length table) (given_by table name text) (map (numbered text table) ts) m (below text table ts n) s

  faulty : (f : Fault) → IsFirstFault (given_by table name text) (map (numbered text table) ts) f → IsFirstSourceFault text name (InTree f)
  faulty f h = (u, map text_token ts, cut, faulty_anew (λ x. get_or table x []) [] (of_file text name) (map (numbered text table) ts) (map (called text) (map text_token ts)) (called_by text table ts n) f h)

-- a fault that is answered
abbrev failed : ParseFault → Result SrcModule ParseFault
failed e = Err e

pub parser_fault : (text name : List ℕ) (table : List Text) (ts : List code.Token) (e : ParseFault) → IsUtf8 text → lexed text ≡ Ok (map text_token ts) → ((failed e ≡ Err parser.NoMemory → ⊥) → AreNumbered text table ts)
    → IsParsed (given_by table name text) (map (numbered text table) ts) (failed e) → IsRead text name table (Err (of_parser e))
parser_fault text name table ts (parser.Unexpected at what) u cut n h = faulty text name table ts u cut (n (λ e. absurd cc)) (Unexpected at what) h
parser_fault text name table ts (parser.TooDeep at) u cut n h = faulty text name table ts u cut (n (λ e. absurd cc)) (TooDeep at) h
parser_fault text name table ts (parser.TooMany at what) u cut n h = faulty text name table ts u cut (n (λ e. absurd cc)) (TooMany at what) h
parser_fault text name table ts parser.NoMemory u cut n h = tt
