-- What a Core text says: a relation between tokens and trees.
use Rattle.std.specs.Prelude.{◌≡◌, ℕ, suc, true, false, List, [], ◌∷◌, Option, Some, None, codes}
use Rattle.std.specs.Str.{bytes_eq, IsUtf8}
use Rattle.cdle_model.specs.Trees.{Tree}
use Rattle.cdle_model.specs.Forms as forms
use Rattle.cdle_model.specs.Forms.{Written, name_of}
use Rattle.cdle_model.specs.declared.grammar.Sort.{Sort}
use Rattle.cdle_model.specs.declared.grammar.Class.{Class}
use Rattle.cdle_model.specs.declared.grammar.Form.{Form}
use Rattle.cdle_model.specs.declared.grammar.Piece.{Piece}
use Rattle.cdle_model.specs.declared.grammar.Piece.TheVariants.{Binder, Part, Under}
use Rattle.cdle_model.specs.CoreTokens.{Token, Opens, Closes, Word, tokens}
use Rattle.cdle_model.specs.CoreGrammar.{form_of, name_sort, pieces, made, look_up, item_words, item_pieces, item_parts}
use Rattle.cdle_model.specs.Classes.{item_sort}
use Rattle.cdle_model.specs.CoreNames.{Name, Names, names_under, behind, is_star, stands, with_item}

-- what a word may stand for at a place
abbrev pub Meaning : Type 1
Meaning = Names → List ℕ → Sort → Tree → Type 0

-- The tokens begin with a part of the class, which is the tree, and then others follow. So many parentheses may still open in it.
mutual
  pub data Reads (Means : Meaning) : ℕ → Names → Class → List Token → Tree → List Token → Type 0 where
    star : {left : ℕ} {scope : Names} {c : Class} {at : ℕ} {w : List ℕ} {ts : List Token}
        → name_sort c ≡ None → is_star w ≡ true → Reads Means left scope c ((at, Word w) ∷ ts) forms.star ts
    name : {left : ℕ} {scope : Names} {c : Class} {s : Sort} {at : ℕ} {w : List ℕ} {t : Tree} {ts : List Token}
        → name_sort c ≡ Some s → is_star w ≡ false → Means scope w s t → Reads Means left scope c ((at, Word w) ∷ ts) t ts
    form : {left : ℕ} {scope : Names} {c : Class} {at from to : ℕ} {w : List ℕ} {f : Form} {us : List Tree} {ts rest : List Token}
        → form_of c w ≡ Some f → ReadsPieces Means left scope None (pieces f) ts us ((to, Closes) ∷ rest)
        → Reads Means (suc left) scope c ((at, Opens) ∷ (from, Word w) ∷ ts) (made f us) rest

  -- the pieces of a form, under the binder that came before them
  pub data ReadsPieces (Means : Meaning) : ℕ → Names → Option Name → List Piece → List Token → List Tree → List Token → Type 0 where
    end : {left : ℕ} {scope : Names} {binder : Option Name} {ts : List Token} → ReadsPieces Means left scope binder [] ts [] ts
    bind : {left : ℕ} {scope : Names} {binder : Option Name} {s : Sort} {ps : List Piece} {at : ℕ} {w : List ℕ} {us : List Tree} {ts rest : List Token}
        → is_star w ≡ false → ReadsPieces Means left scope (Some (record { text = w; sort = s })) ps ts us rest
        → ReadsPieces Means left scope binder (Binder s ∷ ps) ((at, Word w) ∷ ts) us rest
    part : {left : ℕ} {scope : Names} {binder : Option Name} {c : Class} {ps : List Piece} {t : Tree} {us : List Tree} {ts next rest : List Token}
        → Reads Means left scope c ts t next → ReadsPieces Means left scope binder ps next us rest
        → ReadsPieces Means left scope binder (Part c ∷ ps) ts (t ∷ us) rest
    inner : {left : ℕ} {scope : Names} {binder : Option Name} {c : Class} {ps : List Piece} {t : Tree} {us : List Tree} {ts next rest : List Token}
        → Reads Means left (names_under binder scope) c ts t next → ReadsPieces Means left scope binder ps next us rest
        → ReadsPieces Means left scope binder (Under c ∷ ps) ts (t ∷ us) rest

-- what the scope says
abbrev pub Stands : Meaning
Stands scope w s t = stands w scope ≡ Some (s, t)

-- scope not regarded: any name stands for anything
abbrev pub Free : Meaning
Free scope w s t = Unit {0}

-- the tokens begin with the item, behind items of these names, and then others follow
pub record ReadsItem (Means : Meaning) (left : ℕ) (known : List Name) (ts : List Token) (i : Written) (rest : List Token) : Type 0 where
  pub opens : ℕ
  pub word_at : ℕ
  pub word : List ℕ
  pub name_at : ℕ
  pub inner : List Token
  pub closes : ℕ
  pub tokens : ts ≡ (opens, Opens) ∷ (word_at, Word word) ∷ (name_at, Word (name_of i)) ∷ inner
  pub form : look_up word item_words ≡ Some (item_sort i)
  pub named : is_star (name_of i) ≡ false
  pub parts : ReadsPieces Means left (behind known) None (item_pieces (item_sort i)) inner (item_parts i) ((closes, Closes) ∷ rest)

-- the tokens are these items one after the other
abbrev pub ReadsItems : Meaning → ℕ → List Name → List Token → List Written → Type 0
ReadsItems Means left known ts [] = ts ≡ []
ReadsItems Means left known ts (i ∷ is) = (next : List Token) × ReadsItem Means left known ts i next × ReadsItems Means left (with_item i known) next is

-- The words `core` and `1`, and then these items and nothing else. So many parentheses may open in an item's own.
pub record ReadsFile (Means : Meaning) (left : ℕ) (known : List Name) (ts : List Token) (is : List Written) : Type 0 where
  pub core_at : ℕ
  pub core : List ℕ
  pub one_at : ℕ
  pub one : List ℕ
  pub body : List Token
  pub tokens : ts ≡ (core_at, Word core) ∷ (one_at, Word one) ∷ body
  pub core_is : bytes_eq core (codes "core") ≡ true
  pub one_is : bytes_eq one (codes "1") ≡ true
  pub items : ReadsItems Means left known body is

-- the bytes are a Core text, and say these items behind items of these names
pub record Says (bytes : List ℕ) (known : List Name) (is : List Written) : Type 0 where
  pub utf8 : IsUtf8 bytes
  pub file : ReadsFile Stands 1023 known (tokens false 0 bytes) is

-- a text of the grammar, scope and nesting not regarded
abbrev pub IsText : List Token → Type 0
IsText ts = (left : ℕ) × (known : List Name) × (is : List Written) × ReadsFile Free left known ts is
