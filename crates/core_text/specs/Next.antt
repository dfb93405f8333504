-- What one call takes from the text.
use Rattle.std.specs.Prelude.{◌≡◌, ℕ, ◌<◌, ◌≤◌, false, ◌==◌, List, ◌∷◌, length, slice_index}
use Rattle.std.specs.Str.{IsCharBoundary, IsUtf8}
use Rattle.cdle_model.specs.CoreTokens.{Token, Opens, Closes, Word, is_white}
use Rattle.cdle_model.specs.CoreTokens as model
use Rattle.core_text.specs.View.{rest}
use Rattle.core_text.specs.declared.token.Lexeme.{Lexeme}
use Rattle.core_text.specs.declared.token.Lexeme.TheVariants as lexemes
use Rattle.core_text.specs.declared.token.Token as code

abbrev pub lexeme_of : Lexeme → model.Lexeme
lexeme_of lexemes.Opens = Opens
lexeme_of lexemes.Closes = Closes
lexeme_of (lexemes.Word w) = Word w.now

-- no white space and no comment begins here
abbrev pub IsPlain : List ℕ → ℕ → Type 0
IsPlain bytes at = at < length bytes → (is_white (slice_index bytes at) ≡ false) × ((slice_index bytes at == 59) ≡ false)

-- only white space and comments stand between the places
pub record Skips (bytes : List ℕ) (from to : ℕ) : Type 0 where
  pub ahead : from ≤ to
  pub boundary : IsCharBoundary bytes to
  pub same : rest bytes to ≡ rest bytes from

-- the bytes of a word are a text
abbrev pub IsTextOf : Lexeme → Type 0
IsTextOf lexemes.Opens = Unit {0}
IsTextOf lexemes.Closes = Unit {0}
IsTextOf (lexemes.Word w) = IsUtf8 w.now

pub record IsNext (bytes : List ℕ) (from : ℕ) (t : code.Token) : Type 0 where
  pub begins : from ≤ t.at
  pub start : IsCharBoundary bytes t.at
  pub here : rest bytes t.at ≡ rest bytes from
  pub ahead : t.at < t.end
  pub boundary : IsCharBoundary bytes t.end
  pub first : rest bytes from ≡ (t.at, lexeme_of t.lexeme) ∷ rest bytes t.end
  pub text : IsTextOf t.lexeme
