-- Where surface text goes wrong: what can still become a text by the rows of the grammar alone, and which fault is that of a test.
use Rattle.std.specs.Prelude.{◌≡◌, ℕ, List, [], ◌∷◌, ◌++◌, Option, Some, None}
use Rattle.source_model.specs.Grammar.{Token, Value, token, Test, Making, Symbol, Want, Test_, Make, Read}
use Rattle.source_model.specs.Rows.{Row, row, leaving, Leaving, MustStand, a_module}
use Rattle.source_model.specs.Made.{made, left_out}
use Rattle.source_model.specs.Parsing.{Given, Fault, Unexpected, complaint, word_of}
use Rattle.source_model.specs.SurfaceText.{BeginsNot}
use Rattle.source_model.specs.declared.wanted.Wanted.{Wanted}
use Rattle.source_model.specs.declared.wanted.Wanted.TheVariants as wanted

-- ---- The rows alone. Each test is passed over, as if its complaint were always none: so classes, heights, nesting, numbers and the names of modules are not
-- regarded. (Only whether an item's body is a term or a type goes by the item's class here too.)

-- what is still wanted, with the values before it
pub record Wanting (A : Type 0) : Type 0 where
  pub wants : List Want
  pub values : List (Value A)

-- a symbol before a token: its row is wanted, or it is left out where it may be
abbrev pub read_or_left : {A : Type 0} → Token A → List Want → List (Value A) → Row → Leaving → Option (Wanting A) → Option (Wanting A)
read_or_left t ws vs (Some front) l where_left = Some (record { wants = front ++ ws; values = token t ∷ vs })
read_or_left t ws vs None MustStand where_left = None
read_or_left t ws vs None l where_left = where_left

-- what is wanted behind one more token; none: it does not stand there
unfoldable pub behind_token : {A : Type 0} → (A → List ℕ) → Token A → List Want → List (Value A) → Option (Wanting A)
behind_token text t [] vs = None
behind_token text t (Test_ q ∷ ws) vs = behind_token text t ws vs
behind_token text t (Make f ∷ ws) vs = behind_token text t ws (made text f vs)
behind_token text t (Read s ∷ ws) vs = read_or_left t ws vs (row s vs t.kind) (leaving s) (behind_token text t ws (left_out (leaving s) vs))

-- what follows where something is wanted
abbrev pub on_wanting : {A : Type 0} → Option (Wanting A) → (Wanting A → Option (Wanting A)) → Option (Wanting A)
on_wanting None f = None
on_wanting (Some w) f = f w

-- what is wanted behind tokens, one after the other
unfoldable pub behind : {A : Type 0} → (A → List ℕ) → List (Token A) → Wanting A → Option (Wanting A)
behind text [] w = Some w
behind text (t ∷ ts) w = on_wanting (behind_token text t w.wants w.values) (λ u. behind text ts u)

-- a symbol that must stand, or what must stand behind one that may be left out
abbrev pub needed : {A : Type 0} → Symbol → List (Value A) → Leaving → Option (Symbol × List (Value A)) → Option (Symbol × List (Value A))
needed s vs MustStand where_left = Some (s, vs)
needed s vs l where_left = where_left

-- the first symbol that must stand, with the values before it, where all that may be left out is; none: a text may end there
unfoldable pub first_needed : {A : Type 0} → (A → List ℕ) → List Want → List (Value A) → Option (Symbol × List (Value A))
first_needed text [] vs = None
first_needed text (Test_ q ∷ ws) vs = first_needed text ws vs
first_needed text (Make f ∷ ws) vs = first_needed text ws (made text f vs)
first_needed text (Read s ∷ ws) vs = needed s vs (leaving s) (first_needed text ws (left_out (leaving s) vs))

-- what a text begins with
abbrev pub start : {A : Type 0} → Wanting A
start = record { wants = a_module; values = [] }

-- the tokens are a text by the rows alone
pub record IsText {A : Type 0} (text : A → List ℕ) (ts : List (Token A)) : Type 0 where
  pub last : Wanting A
  pub taken : behind text ts start ≡ Some last
  pub whole : first_needed text last.wants last.values ≡ None

-- some text begins so
abbrev pub CanGoOn : {A : Type 0} → (A → List ℕ) → List (Token A) → Type 0
CanGoOn {A} text front = (more : List (Token A)) × IsText text (front ++ more)

-- no text begins so and with the next token, or the tokens end and are none
abbrev pub NoneGoesOn : {A : Type 0} → (A → List ℕ) → List (Token A) → List (Token A) → Type 0
NoneGoesOn text front [] = ¬ (IsText text front)
NoneGoesOn text front (t ∷ ts) = ¬ (CanGoOn text (front ++ t ∷ []))

-- ---- the two kinds of faults

-- where the next token is, or the text ends
abbrev pub place : {A : Type 0} → ℕ → List (Token A) → ℕ
place end [] = end
place end (t ∷ ts) = t.span.from

-- the word of what must stand; where the text may end, a further item
abbrev pub needed_word : {A : Type 0} → Option (Symbol × List (Value A)) → Wanted
needed_word None = wanted.Item
needed_word (Some n) = word_of n.0 n.1

-- An unexpected token, or end: the tokens before it go on to some text, and with it to none. The word is that of the first thing that must stand there.
pub record IsFirstBadPlace {A : Type 0} (g : Given A) (ts : List (Token A)) (f : Fault) : Type 0 where
  pub front : List (Token A)
  pub others : List (Token A)
  pub parts : ts ≡ front ++ others
  pub goes_on : CanGoOn g.text front
  pub stops : NoneGoesOn g.text front others
  pub wanting : Wanting A
  pub wanted : behind g.text front start ≡ Some wanting
  pub told : f ≡ Unexpected (place g.end others) (needed_word (first_needed g.text wanting.wants wanting.values))

-- Reading, where these are wanted, comes to a test that complains of this, and all tests before it are passed. What it complains of is a part of the
-- wrong class or a name that may not stand there, which are `Unexpected` too, or a limit.
pub data Complains {A : Type 0} (g : Given A) : List Want → ℕ → List (Token A) → List (Value A) → Fault → Type 0 where
  here : {q : Test} {ws : List Want} {at : ℕ} {ts : List (Token A)} {vs : List (Value A)} {f : Fault} → complaint g q at vs ≡ Some f → Complains g (Test_ q ∷ ws) at ts vs f
  passed : {q : Test} {ws : List Want} {at : ℕ} {ts : List (Token A)} {vs : List (Value A)} {f : Fault}
      → complaint g q at vs ≡ None → Complains g ws at ts vs f → Complains g (Test_ q ∷ ws) at ts vs f
  behind_making : {m : Making} {ws : List Want} {at : ℕ} {ts : List (Token A)} {vs : List (Value A)} {f : Fault}
      → Complains g ws at ts (made g.text m vs) f → Complains g (Make m ∷ ws) at ts vs f
  behind_option : {s : Symbol} {ws : List Want} {at : ℕ} {ts : List (Token A)} {vs : List (Value A)} {f : Fault}
      → ¬ (leaving s ≡ MustStand) → BeginsNot s vs ts → Complains g ws at ts (left_out (leaving s) vs) f → Complains g (Read s ∷ ws) at ts vs f
  in_row : {s : Symbol} {front ws : List Want} {at : ℕ} {t : Token A} {ts : List (Token A)} {vs : List (Value A)} {f : Fault}
      → row s vs t.kind ≡ Some front → Complains g (front ++ ws) t.span.from ts (token t ∷ vs) f → Complains g (Read s ∷ ws) at (t ∷ ts) vs f

-- the fault of a text by a test
abbrev pub IsComplaint : {A : Type 0} → Given A → List (Token A) → Fault → Type 0
IsComplaint g ts f = Complains g a_module 0 ts [] f
