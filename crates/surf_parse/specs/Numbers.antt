-- How the contracts of the numbers of names read.
use Rattle.std.specs.Prelude.{◌≡◌, ◌≤◌, ℕ, List, slice_get, Some}
use Rattle.std.specs.Str.{IsCharBoundary}
use Rattle.source_model.specs.declared.token.TokenKind.TheVariants as k
use Rattle.surf_lex.specs.declared.tokens.Token as lexer
use Rattle.surf_parse.specs.Answers.{bytes_of, numbered}

-- the token begins and ends between characters of the text
pub record IsPlaced (text : List ℕ) (t : lexer.Token) : Type 0 where
  pub from : IsCharBoundary text t.span.from
  pub to : IsCharBoundary text t.span.to
  pub ahead : t.span.from ≤ t.span.to

-- what the token is called by a table, where the text of a name stands
pub record IsNumber (text : List ℕ) (table : List (List ℕ)) (t : lexer.Token) (n : ℕ) : Type 0 where
  pub same : n ≡ (numbered text table t).name
  pub there : t.kind ≡ k.Name → slice_get table (numbered text table t).name ≡ Some (bytes_of text t)
