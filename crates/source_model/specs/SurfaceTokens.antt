-- The tokens of a surface text: what stands at the front of a text, taken again and again.
use Rattle.std.specs.Prelude.{ℕ, zero, suc, ◌+◌, Bool, true, false, not, ◌&&◌, ◌||◌, ◌==◌, if◌then◌else◌, codes, List, [], ◌∷◌, drop, length, Option, Some, None, Result, Ok, Err}
use Rattle.std.specs.Char.{len_utf8}
use Rattle.std.specs.Str.{bytes_eq, chars, encode_utf8_all}
use Rattle.unicode_ident.specs.Ident.{is_xid_start, is_xid_continue}
use Rattle.cdle_model.specs.CoreTokens.{is_white}
use Rattle.source_model.specs.Source.{Span}
use Rattle.source_model.specs.declared.token.TokenKind.{TokenKind}
use Rattle.source_model.specs.declared.token.TokenKind.TheVariants.{Lambda, BigLambda, BigPi, Iota, Beta, Rho, Phi, Delta, Chi, FinalSigma, Mu, Sigma, Star, ForAll, Arrow, ErasedArrow, Equal, MiddleDot, First, Second, Period, Colon, Is, Open, Close, OpenBracket, CloseBracket, OpenBrace, CloseBrace, Less, Greater, Comma, Bar, Minus, At, Hash, Module, Import, Data, Name}

-- a kind of token, and the bytes where it stands
pub record TextToken : Type 0 where
  pub kind : TokenKind
  pub span : Span

-- the first fault of a text's tokens, with its place
pub data TokenFault : Type 0 where
  BadCharacter : ℕ → TokenFault
  OpenComment : ℕ → TokenFault

-- the characters of a token of that kind; a name has its own
abbrev pub spelling : TokenKind → List ℕ
spelling Lambda = codes "λ"
spelling BigLambda = codes "Λ"
spelling BigPi = codes "Π"
spelling Iota = codes "ι"
spelling Beta = codes "β"
spelling Rho = codes "ρ"
spelling Phi = codes "φ"
spelling Delta = codes "δ"
spelling Chi = codes "χ"
spelling FinalSigma = codes "ς"
spelling Mu = codes "μ"
spelling Sigma = codes "σ"
spelling Star = codes "★"
spelling ForAll = codes "∀"
spelling Arrow = codes "➔"
spelling ErasedArrow = codes "➾"
spelling Equal = codes "≃"
spelling MiddleDot = codes "·"
spelling First = codes ".1"
spelling Second = codes ".2"
spelling Period = codes "."
spelling Colon = codes ":"
spelling Is = codes "="
spelling Open = codes "("
spelling Close = codes ")"
spelling OpenBracket = codes "["
spelling CloseBracket = codes "]"
spelling OpenBrace = codes "{"
spelling CloseBrace = codes "}"
spelling Less = codes "<"
spelling Greater = codes ">"
spelling Comma = codes ","
spelling Bar = codes "|"
spelling Minus = codes "-"
spelling At = codes "@"
spelling Hash = codes "#"
spelling Module = codes "module"
spelling Import = codes "import"
spelling Data = codes "data"
spelling Name = []

-- the signs and letters of one character
abbrev pub single_signs : List TokenKind
single_signs = Lambda ∷ BigLambda ∷ BigPi ∷ Iota ∷ Beta ∷ Rho ∷ Phi ∷ Delta ∷ Chi ∷ FinalSigma ∷ Mu ∷ Sigma
    ∷ Star ∷ ForAll ∷ Arrow ∷ ErasedArrow ∷ Equal ∷ MiddleDot ∷ Period ∷ Colon ∷ Is ∷ Open ∷ Close ∷ OpenBracket ∷ CloseBracket
    ∷ OpenBrace ∷ CloseBrace ∷ Less ∷ Greater ∷ Comma ∷ Bar ∷ Minus ∷ At ∷ Hash ∷ []

-- the longer before the shorter
abbrev pub signs : List TokenKind
signs = First ∷ Second ∷ single_signs

-- the words that are no names
abbrev pub words : List TokenKind
words = Module ∷ Import ∷ Data ∷ []

-- the text begins with these characters
abbrev pub begins : List ℕ → List ℕ → Bool
begins [] cs = true
begins (d ∷ ds) [] = false
begins (d ∷ ds) (c ∷ cs) = (c == d) && begins ds cs

-- the first of the kinds with whose spelling the text begins
abbrev pub sign_of : List TokenKind → List ℕ → Option TokenKind
sign_of [] cs = None
sign_of (k ∷ ks) cs = if begins (spelling k) cs then Some k else sign_of ks cs

-- the first of the kinds that these bytes spell, or a name; the words are ASCII
abbrev pub word_kind : List TokenKind → List ℕ → TokenKind
word_kind [] w = Name
word_kind (k ∷ ks) w = if bytes_eq w (spelling k) then k else word_kind ks w

-- one of these characters
abbrev pub is_among : List ℕ → ℕ → Bool
is_among [] c = false
is_among (d ∷ ds) c = (c == d) || is_among ds c

-- the letters that are tokens by themselves, and `·`: Unicode classes them as parts of names, and none is in one here
abbrev pub is_reserved : ℕ → Bool
is_reserved c = is_among (codes "λΛΠιβρφδχςμσ·") c

-- a name begins with a letter, as Unicode classes them, or `_`
abbrev pub starts_name : ℕ → Bool
starts_name c = (is_xid_start c || is_among (codes "_") c) && not (is_reserved c)

-- it goes on with a letter, a digit or a mark, as Unicode classes them, `_`, `/` or `'`
abbrev pub continues_name : ℕ → Bool
continues_name c = (is_xid_continue c || is_among (codes "/'") c) && not (is_reserved c)

-- a comment that began with `--` ends before a line feed
abbrev pub stays_in_line : ℕ → Bool
stays_in_line c = not (is_among (codes "\n") c)

-- the longest beginning whose characters pass
unfoldable pub longest : (ℕ → Bool) → List ℕ → List ℕ
longest passes [] = []
longest passes (c ∷ cs) = if passes c then c ∷ longest passes cs else []

-- with one more character in front
abbrev pub before : ℕ → Option (List ℕ) → Option (List ℕ)
before c None = None
before c (Some cs) = Some (c ∷ cs)

-- the beginning that ends with the first `-}`
unfoldable pub through_close : List ℕ → Option (List ℕ)
through_close [] = None
through_close (c ∷ cs) = if begins (codes "-}") (c ∷ cs) then Some (codes "-}") else before c (through_close cs)

-- What stands at the front of a text, with its characters behind the first one.
pub data Lexeme : Type 0 where
  -- white space or a comment
  Gap : List ℕ → Lexeme
  Word : TokenKind → List ℕ → Lexeme
  -- a character with which nothing begins
  Stray : Lexeme
  -- a comment that does not end
  Unclosed : Lexeme

-- behind `{`, and `-`
abbrev pub comment : Option (List ℕ) → Lexeme
comment None = Unclosed
comment (Some cs) = Gap cs

-- a name or one of the words, or nothing begins so
abbrev pub name_or_stray : ℕ → List ℕ → Lexeme
name_or_stray c cs = if starts_name c then Word (word_kind words (encode_utf8_all (c ∷ longest continues_name cs))) (longest continues_name cs) else Stray

-- the sign, or else this
abbrev pub sign_or : Option TokenKind → Lexeme → Lexeme
sign_or None other = other
sign_or (Some k) other = Word k (drop 1 (spelling k))

-- what stands at the front: white space, a comment, a sign, a name, or nothing that may stand there
unfoldable pub lexeme : ℕ → List ℕ → Lexeme
lexeme c cs =
    if is_white c then Gap []
    else (if begins (codes "--") (c ∷ cs) then Gap (longest stays_in_line cs)
    else (if begins (codes "{-") (c ∷ cs) then comment (before 45 (through_close (drop 1 cs)))
    else sign_or (sign_of signs (c ∷ cs)) (name_or_stray c cs)))

-- the characters of a lexeme behind its first
abbrev pub more : Lexeme → List ℕ
more (Gap cs) = cs
more (Word k cs) = cs
more Stray = []
more Unclosed = []

-- so many bytes
abbrev pub width : List ℕ → ℕ
width cs = length (encode_utf8_all cs)

-- one more token in front, where there is no fault
abbrev pub with_token : TextToken → Result (List TextToken) TokenFault → Result (List TextToken) TokenFault
with_token t (Ok ts) = Ok (t ∷ ts)
with_token t (Err fault) = Err fault

-- what the lexeme of a character, at a place, puts before the tokens behind it
abbrev pub put : ℕ → ℕ → Lexeme → Result (List TextToken) TokenFault → Result (List TextToken) TokenFault
put at c (Gap cs) rest = rest
put at c (Word k cs) rest = with_token (record { kind = k; span = record { from = at; to = at + len_utf8 c + width cs } }) rest
put at c Stray rest = Err (BadCharacter at)
put at c Unclosed rest = Err (OpenComment at)

-- The tokens of characters, of which the first stands at a place, and so many belong to the lexeme before.
unfoldable pub tokens : ℕ → ℕ → List ℕ → Result (List TextToken) TokenFault
tokens skip at [] = Ok []
tokens (suc n) at (c ∷ cs) = tokens n (at + len_utf8 c) cs
tokens zero at (c ∷ cs) = put at c (lexeme c cs) (tokens (length (more (lexeme c cs))) (at + len_utf8 c) cs)

-- the tokens of a text, or their first fault
abbrev pub lexed : List ℕ → Result (List TextToken) TokenFault
lexed text = tokens 0 0 (chars text)
