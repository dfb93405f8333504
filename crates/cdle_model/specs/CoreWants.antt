-- The first fault of a Core text: what the grammar wants at each place, and what a token does there.
use Rattle.std.specs.Prelude.{◌≡◌, ℕ, zero, suc, ◌+◌, ◌-◌, false, List, [], ◌∷◌, ◌++◌, length, if◌then◌else◌, codes, Option, Some, None, Result, Ok, Err}
use Rattle.std.specs.Str.{bytes_eq, IsUtf8}
use Rattle.cdle_model.specs.Trees.{Tree}
use Rattle.cdle_model.specs.declared.grammar.Sort.{Sort}
use Rattle.cdle_model.specs.declared.grammar.Class.{Class}
use Rattle.cdle_model.specs.declared.grammar.Form.{Form}
use Rattle.cdle_model.specs.declared.grammar.Piece.{Piece}
use Rattle.cdle_model.specs.declared.grammar.Piece.TheVariants.{Binder, Part, Under}
use Rattle.cdle_model.specs.declared.grammar.CoreWanted.{CoreWanted}
use Rattle.cdle_model.specs.declared.grammar.CoreWanted.TheVariants as wanted
use Rattle.cdle_model.specs.CoreFaults.{Fault, BadText, Unbound, WrongClass, TooDeep, wanted_part, passes_nesting}
use Rattle.cdle_model.specs.CoreTokens.{Lexeme, Opens, Closes, Word, Token, tokens}
use Rattle.cdle_model.specs.CoreGrammar.{form_of, name_sort, pieces, look_up, item_words, item_pieces}
use Rattle.cdle_model.specs.CoreNames.{Name, Names, names_under, behind, stands, same_sort, is_star}
use Rattle.cdle_model.specs.CoreText.{IsText}

-- What is wanted at a place. The numbers are of the parentheses that may still open.
pub data Want : Type 0 where
  TheWord : List ℕ → CoreWanted → Want
  MoreItems : List Name → Want
  ItemWord : List Name → Want
  ItemName : List Name → Sort → Want
  PartOf : ℕ → Names → Class → Want
  FormOf : ℕ → Names → Class → Want
  Binding : ℕ → Names → Sort → List Piece → Want
  Closing : ℕ → Want

abbrev pub word_of : Want → CoreWanted
word_of (TheWord w what) = what
word_of (MoreItems known) = wanted.Item
word_of (ItemWord known) = wanted.Item
word_of (ItemName known s) = wanted.Name
word_of (PartOf left scope c) = wanted_part c
word_of (FormOf left scope c) = wanted_part c
word_of (Binding left scope s ps) = wanted.Name
word_of (Closing left) = wanted.Close

abbrev pub left_of : Want → ℕ
left_of (TheWord w what) = 1024
left_of (MoreItems known) = 1024
left_of (ItemWord known) = 1023
left_of (ItemName known s) = 1023
left_of (PartOf left scope c) = left
left_of (FormOf left scope c) = left
left_of (Binding left scope s ps) = left
left_of (Closing left) = left

-- what is wanted for pieces, up to the next binder
abbrev pub for_pieces : ℕ → Names → Option Name → List Piece → List Want
for_pieces left scope binder [] = Closing left ∷ []
for_pieces left scope binder (Binder s ∷ ps) = Binding left scope s ps ∷ []
for_pieces left scope binder (Part c ∷ ps) = PartOf left scope c ∷ for_pieces left scope binder ps
for_pieces left scope binder (Under c ∷ ps) = PartOf left (names_under binder scope) c ∷ for_pieces left scope binder ps

-- what may be wrong with a name that the grammar takes
pub data Wrong : Type 0 where
  NotBound : Wrong
  OtherClass : Wrong

abbrev pub fault_at : ℕ → Wrong → Fault
fault_at at NotBound = Unbound at
fault_at at OtherClass = WrongClass at

-- What stands in the want's place after a token that the grammar takes there, and what is wrong with it all the same.
abbrev pub Step : Type 0
Step = Option (List Want × Option Wrong)

abbrev pub fine : List Want → Step
fine ws = Some (ws, None)

abbrev pub complaint : Sort → Option (Sort × Tree) → Option Wrong
complaint s None = Some NotBound
complaint s (Some x) = if same_sort s x.0 then None else Some OtherClass

-- a word as a part by itself
abbrev pub a_word : Names → Option Sort → List ℕ → Step
a_word scope None w = if is_star w then fine [] else None
a_word scope (Some s) w = if is_star w then None else Some ([], complaint s (stands w scope))

abbrev pub a_form : ℕ → Names → Option Form → Step
a_form left scope (Some f) = fine (for_pieces left scope None (pieces f))
a_form left scope None = None

abbrev pub opening : ℕ → Names → Class → List Want
opening zero scope c = FormOf zero scope c ∷ []
opening (suc left) scope c = FormOf left scope c ∷ []

abbrev pub an_item : List Name → Option Sort → Step
an_item known (Some s) = fine (ItemName known s ∷ [])
an_item known None = None

-- what the grammar does with a token; none: it does not go on so
unfoldable pub act : Want → Lexeme → Step
act (TheWord word what) (Word w) = if bytes_eq w word then fine [] else None
act (MoreItems known) Opens = fine (ItemWord known ∷ [])
act (ItemWord known) (Word w) = an_item known (look_up w item_words)
act (ItemName known s) (Word w) = if is_star w then None else fine (for_pieces 1023 (behind known) None (item_pieces s) ++ MoreItems (record { text = w; sort = s } ∷ known) ∷ [])
act (PartOf left scope c) (Word w) = a_word scope (name_sort c) w
act (PartOf left scope c) Opens = fine (opening left scope c)
act (FormOf left scope c) (Word w) = a_form left scope (form_of c w)
act (Binding left scope s ps) (Word w) = if is_star w then None else fine (for_pieces left scope (Some (record { text = w; sort = s })) ps)
act (Closing left) Closes = fine []
act _ _ = None

-- ---- the first fault

abbrev pub goes_on : ℕ → CoreWanted → Step → (List Want → Result (List Token) Fault) → Result (List Token) Fault
goes_on at what None next = Err (BadText at what)
goes_on at what (Some (ws, Some f)) next = Err (fault_at at f)
goes_on at what (Some (ws, None)) next = next ws

-- a parenthesis too many is the fault wherever it stands
abbrev pub step : Want → Token → (List Want → Result (List Token) Fault) → Result (List Token) Fault
step w t next = if passes_nesting (left_of w) t.1 then Err (TooDeep t.0) else goes_on t.0 (word_of w) (act w t.1) next

-- the end of the text, where only further items may be wanted
abbrev pub ended : ℕ → Want → Result (List Token) Fault
ended end (MoreItems known) = Ok []
ended end w = Err (BadText end (word_of w))

-- the tokens that are left when all that is wanted was found, or the first fault
unfoldable pub rest_or_fault : ℕ → List Want → List Token → Result (List Token) Fault
rest_or_fault end [] ts = Ok ts
rest_or_fault end (w ∷ ws) [] = ended end w
rest_or_fault end (w ∷ ws) (t ∷ ts) = step w t (λ front. rest_or_fault end (front ++ ws) ts)

-- what a file begins with, behind items of these names
abbrev pub start : List Name → List Want
start known = TheWord (codes "core") wanted.Core ∷ TheWord (codes "1") wanted.One ∷ MoreItems known ∷ []

-- the bytes are UTF-8, and the first fault of the text is this one
abbrev pub IsFirstFault : List ℕ → List Name → Fault → Type 0
IsFirstFault bytes known f = IsUtf8 bytes × (rest_or_fault (length bytes) (start known) (tokens false 0 bytes) ≡ Err f)

-- ---- scope and nesting not regarded

abbrev pub taken : Step → (List Want → Option (List Want)) → Option (List Want)
taken None next = None
taken (Some s) next = next s.0

-- what is wanted after the tokens
unfoldable pub after : List Want → List Token → Option (List Want)
after ws [] = Some ws
after [] (t ∷ ts) = None
after (w ∷ ws) (t ∷ ts) = taken (act w t.1) (λ front. after (front ++ ws) ts)

-- where the next token is, or the text ends
abbrev pub place : ℕ → List Token → ℕ
place end [] = end
place end (t ∷ ts) = t.0

-- some text of the grammar begins so
abbrev pub CanGoOn : List Token → Type 0
CanGoOn front = (more : List Token) × IsText (front ++ more)

-- no text of the grammar begins so and with the next token, or the text ends and is none
abbrev pub NoneGoesOn : List Token → List Token → Type 0
NoneGoesOn front [] = ¬ (IsText front)
NoneGoesOn front (t ∷ ts) = ¬ (CanGoOn (front ++ t ∷ []))

-- so many are open behind a token, where so many are before it
abbrev pub opened_by : ℕ → Lexeme → ℕ
opened_by n Opens = n + 1
opened_by n Closes = n - 1
opened_by n (Word w) = n

abbrev pub open_behind : ℕ → List Token → ℕ
open_behind n [] = n
open_behind n (t ∷ ts) = open_behind (opened_by n t.1) ts

-- a parenthesis opens there, behind a beginning of a text of the grammar in which 1,024 are open
pub record IsDeepPlace (ts : List Token) (at : ℕ) : Type 0 where
  pub front : List Token
  pub others : List Token
  pub parts : ts ≡ front ++ (at, Opens) ∷ others
  pub goes_on : CanGoOn front
  pub full : open_behind 0 front ≡ 1024

-- at the first token after which no text of the grammar continues, or at the end; the word is of what is wanted there first
pub record IsFirstBadPlace (end : ℕ) (known : List Name) (ts : List Token) (at : ℕ) (what : CoreWanted) : Type 0 where
  pub front : List Token
  pub others : List Token
  pub parts : ts ≡ front ++ others
  pub here : at ≡ place end others
  pub goes_on : CanGoOn front
  pub stops : NoneGoesOn front others
  pub want : Want
  pub wants : List Want
  pub wanted : after (start known) front ≡ Some (want ∷ wants)
  pub word : word_of want ≡ what
