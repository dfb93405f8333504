-- Reading a Core text from the left, with the first fault: what the reader's functions give.
use Rattle.std.specs.Prelude.{◌≡◌, ℕ, zero, suc, List, [], ◌∷◌, if◌then◌else◌, codes, Option, Some, None, Result, Ok, Err}
use Rattle.std.specs.Str.{bytes_eq}
use Rattle.cdle_model.specs.Trees.{Tree}
use Rattle.cdle_model.specs.Forms.{star, Written}
use Rattle.cdle_model.specs.declared.grammar.Sort.{Sort}
use Rattle.cdle_model.specs.declared.grammar.Class.{Class}
use Rattle.cdle_model.specs.declared.grammar.Form.{Form}
use Rattle.cdle_model.specs.declared.grammar.Piece.{Piece}
use Rattle.cdle_model.specs.declared.grammar.Piece.TheVariants.{Binder, Part, Under}
use Rattle.cdle_model.specs.declared.grammar.CoreWanted.{CoreWanted}
use Rattle.cdle_model.specs.declared.grammar.CoreWanted.TheVariants as wanted
use Rattle.cdle_model.specs.CoreFaults.{Fault, BadText, Unbound, WrongClass, TooDeep, wanted_part, unexpected}
use Rattle.cdle_model.specs.CoreTokens.{Opens, Closes, Word, Token}
use Rattle.cdle_model.specs.CoreGrammar.{form_of, name_sort, pieces, made, look_up, item_words, item_pieces, made_item}
use Rattle.cdle_model.specs.CoreNames.{Name, Names, names_under, behind, stands, same_sort, is_star, with_item}

infixl 10 ◌>>=◌
abbrev pub ◌>>=◌ : {A B : Type 0} → Result A Fault → (A → Result B Fault) → Result B Fault
(Ok x) >>= f = f x
(Err e) >>= f = Err e

-- a value, and the tokens after it
abbrev pub Read : Type 0 → Type 0
Read A = Result (A × List Token) Fault

-- ---- parts

-- a name that is bound or given, where so many parentheses may still open
unfoldable pub name_at : ℕ → ℕ → List Token → Read (List ℕ)
name_at end left [] = Err (BadText end wanted.Name)
name_at end left ((at, Word w) ∷ ts) = if is_star w then Err (BadText at wanted.Name) else Ok (w, ts)
name_at end left ((at, lexeme) ∷ ts) = Err (unexpected left at wanted.Name lexeme)

unfoldable pub close_at : ℕ → ℕ → List Token → Result (List Token) Fault
close_at end left [] = Err (BadText end wanted.Close)
close_at end left ((at, Closes) ∷ ts) = Ok ts
close_at end left ((at, lexeme) ∷ ts) = Err (unexpected left at wanted.Close lexeme)

abbrev pub found_form : ℕ → Class → List Token → Option Form → Read Form
found_form at c ts (Some f) = Ok (f, ts)
found_form at c ts None = Err (BadText at (wanted_part c))

unfoldable pub form_at : ℕ → ℕ → Class → List Token → Read Form
form_at end left c [] = Err (BadText end (wanted_part c))
form_at end left c ((at, Word w) ∷ ts) = found_form at c ts (form_of c w)
form_at end left c ((at, lexeme) ∷ ts) = Err (unexpected left at (wanted_part c) lexeme)

abbrev pub known : ℕ → Sort → List Token → Option (Sort × Tree) → Read Tree
known at s ts None = Err (Unbound at)
known at s ts (Some x) = if same_sort s x.0 then Ok (x.1, ts) else Err (WrongClass at)

abbrev pub word_with : ℕ → Names → Class → Option Sort → List ℕ → List Token → Read Tree
word_with at scope c None w ts = if is_star w then Ok (star, ts) else Err (BadText at (wanted_part c))
word_with at scope c (Some s) w ts = if is_star w then Err (BadText at (wanted_part c)) else known at s ts (stands w scope)

-- a part that is one word
unfoldable pub leaf : ℕ → Names → Class → List ℕ → List Token → Read Tree
leaf at scope c w ts = word_with at scope c (name_sort c) w ts

-- what reads a part, or what stands behind a parenthesis at a place
abbrev pub Reader : Type 0
Reader = Names → Class → List Token → Read Tree

-- the pieces of a form behind its word, under the binder that came before them
abbrev pub pieces_with : Reader → ℕ → ℕ → Names → Option Name → List Piece → List Token → Read (List Tree)
pieces_with read end left scope binder [] ts = Ok ([], ts)
pieces_with read end left scope binder (Binder s ∷ ps) ts = do
  x ← name_at end left ts
  pieces_with read end left scope (Some (record { text = x.0; sort = s })) ps x.1
pieces_with read end left scope binder (Part c ∷ ps) ts = do
  t ← read scope c ts
  us ← pieces_with read end left scope binder ps t.1
  Ok (t.0 ∷ us.0, us.1)
pieces_with read end left scope binder (Under c ∷ ps) ts = do
  t ← read (names_under binder scope) c ts
  us ← pieces_with read end left scope binder ps t.1
  Ok (t.0 ∷ us.0, us.1)

unfoldable pub part_with : (ℕ → Reader) → ℕ → Reader
part_with inside end scope c [] = Err (BadText end (wanted_part c))
part_with inside end scope c ((at, Word w) ∷ ts) = leaf at scope c w ts
part_with inside end scope c ((at, Opens) ∷ ts) = inside at scope c ts
part_with inside end scope c ((at, Closes) ∷ ts) = Err (BadText at (wanted_part c))

-- what stands behind a parenthesis, with its closing
unfoldable pub form_with : Reader → ℕ → ℕ → Reader
form_with read end left scope c ts = do
  f ← form_at end left c ts
  us ← pieces_with read end left scope None (pieces f.0) f.1
  rest ← close_at end left us.1
  Ok (made f.0 us.0, rest)

-- behind a parenthesis at a place, with the number of those that may still open, itself counted
unfoldable pub inside : ℕ → ℕ → ℕ → Reader
inside end zero at scope c ts = Err (TooDeep at)
inside end (suc left) at scope c ts = form_with (part_with (inside end left) end) end left scope c ts

-- a part of a class, inside which so many parentheses may open
abbrev pub part_at : ℕ → ℕ → Reader
part_at end left = part_with (inside end left) end

-- ---- items and files

unfoldable pub open_at : ℕ → List Token → Result (List Token) Fault
open_at end [] = Err (BadText end wanted.Item)
open_at end ((at, Opens) ∷ ts) = Ok ts
open_at end ((at, lexeme) ∷ ts) = Err (BadText at wanted.Item)

abbrev pub found_sort : ℕ → List Token → Option Sort → Read Sort
found_sort at ts (Some s) = Ok (s, ts)
found_sort at ts None = Err (BadText at wanted.Item)

unfoldable pub sort_at : ℕ → List Token → Read Sort
sort_at end [] = Err (BadText end wanted.Item)
sort_at end ((at, Word w) ∷ ts) = found_sort at ts (look_up w item_words)
sort_at end ((at, lexeme) ∷ ts) = Err (BadText at wanted.Item)

-- the parts of an item behind its name, with its closing
abbrev pub item_behind : ℕ → List Name → Sort → List ℕ → List Token → Read Written
item_behind end known s x ts = do
  us ← pieces_with (part_at end 1023) end 1023 (behind known) None (item_pieces s) ts
  rest ← close_at end 1023 us.1
  Ok (made_item s x us.0, rest)

-- an item behind items of these names
unfoldable pub item_at : ℕ → List Name → List Token → Read Written
item_at end known ts = do
  inner ← open_at end ts
  s ← sort_at end inner
  x ← name_at end 1023 s.1
  item_behind end known s.0 x.0 x.1

-- a word that must stand there
unfoldable pub word_at : ℕ → List ℕ → CoreWanted → List Token → Result (List Token) Fault
word_at end word what [] = Err (BadText end what)
word_at end word what ((at, Word w) ∷ ts) = if bytes_eq w word then Ok ts else Err (BadText at what)
word_at end word what ((at, lexeme) ∷ ts) = Err (BadText at what)

unfoldable pub head_at : ℕ → List Token → Result (List Token) Fault
head_at end ts = do
  after ← word_at end (codes "core") wanted.Core ts
  word_at end (codes "1") wanted.One after

-- the tokens begin with these items, one after the other, and then others follow
abbrev pub Items : ℕ → List Name → List Token → List Written → List Name → List Token → Type 0
Items end known ts [] after rest = (known ≡ after) × (ts ≡ rest)
Items end known ts (i ∷ is) after rest = (next : List Token) × (item_at end known ts ≡ Ok (i, next)) × Items end (with_item i known) next is after rest
