-- Reading surface text from the left, with the first fault.
use Rattle.std.specs.Prelude.{◌≡◌, ℕ, Bool, false, cond, ◌||◌, ◌==◌, leb, eqb, List, [], ◌∷◌, ◌++◌, Option, Some, None, Result, Ok, Err, codes}
use Rattle.std.specs.List.{list_any}
use Rattle.std.specs.Str.{bytes_eq}
use Rattle.source_model.specs.Heights.{levels, is_kind, arguments_of}
use Rattle.source_model.specs.Grammar.{Token, Value, token, part, Need, any, of_type, as_domain, Test, IsType, Fits, IsShallow, HasFewArguments, HeadIsType, IsModule, IsImportable, HasRoom, HasRoomFor, Symbol, The, ClassAtom, Class, Body, Want, Test_, Make, Read}
use Rattle.source_model.specs.Rows.{row, leaving, Leaving, MustStand, body_is_type, a_module}
use Rattle.source_model.specs.Made.{made, left_out}
use Rattle.source_model.specs.declared.wanted.Wanted.{Wanted}
use Rattle.source_model.specs.declared.wanted.Wanted.TheVariants as wanted
use Rattle.cdle_model.specs.declared.grammar.Count.{Count}
use Rattle.cdle_model.specs.declared.grammar.Count.TheVariants as many

-- the faults of a text's tree, each with its place
pub data Fault : Type 0 where
  Unexpected : ℕ → Wanted → Fault
  TooDeep : ℕ → Fault
  TooMany : ℕ → Count → Fault

infixl 10 ◌>>=◌
abbrev pub ◌>>=◌ : {A B : Type 0} → Result A Fault → (A → Result B Fault) → Result B Fault
(Ok x) >>= f = f x
(Err e) >>= f = Err e

-- what reading goes by: a name's text, the name of the module, the length of the text
pub record Given (A : Type 0) : Type 0 where
  pub text : A → List ℕ
  pub module_name : List ℕ
  pub end : ℕ

-- ---- tests

-- what is wrong, if anything is
abbrev pub Complaint : Type 0
Complaint = Option Fault

-- this is wrong where the test fails
abbrev pub unless : Bool → Fault → Complaint
unless b f = cond b None (Some f)

-- the wanted word of a class behind `.` or `➔`: a kind where the domain is one
abbrev pub domain_word : {A : Type 0} → List (Value A) → Wanted
domain_word (token d ∷ part f a ∷ vs) = cond (is_kind a) wanted.Kind wanted.Class
domain_word vs = wanted.Class

-- a text with `/`
abbrev pub has_slash : List ℕ → Bool
has_slash w = list_any (λ b. b == 47) w

-- what is wrong behind a token at a place, which was the latest
unfoldable pub complaint : {A : Type 0} → Given A → Test → ℕ → List (Value A) → Complaint
complaint g IsType at (part f t ∷ vs) = cond (is_kind t) (Some (Unexpected f wanted.Ty)) None
complaint g Fits at (part f b ∷ token d ∷ part e a ∷ vs) = cond (is_kind a) (unless (is_kind b) (Unexpected f wanted.Kind)) None
complaint g IsShallow at (part f t ∷ vs) = unless (leb (levels t) 1025) (TooDeep at)
complaint g HasFewArguments at (part f t ∷ vs) = unless (leb (arguments_of t) 32) (TooMany f many.Arguments)
complaint g HeadIsType at (token d ∷ part f t ∷ vs) = cond (is_kind t) (Some (Unexpected f wanted.Ty)) None
complaint g IsModule at (token x ∷ vs) = unless (cond (has_slash (g.text x.name)) false (bytes_eq (g.text x.name) g.module_name)) (Unexpected at wanted.Name)
complaint g IsImportable at (token x ∷ vs) = cond (has_slash (g.text x.name) || bytes_eq (g.text x.name) (codes "prelude")) (Some (Unexpected at wanted.Name)) None
complaint g (HasRoom n) at vs = cond (eqb n 0) (Some (TooDeep at)) None
complaint g (HasRoomFor q n) at vs = cond (eqb n 0) (Some (TooMany at q)) None
complaint g q at vs = None

-- the word of a symbol that must stand
abbrev pub need_word : {A : Type 0} → Need → List (Value A) → Wanted
need_word any vs = wanted.Class
need_word of_type vs = wanted.Ty
need_word as_domain vs = domain_word vs

-- the word of a symbol that must stand, by what was read before it
unfoldable pub word_of : {A : Type 0} → Symbol → List (Value A) → Wanted
word_of (The t w) vs = w
word_of (ClassAtom n w) vs = w
word_of (Class n need left) vs = need_word need vs
word_of Body vs = cond (body_is_type vs) wanted.Ty wanted.Term
word_of s vs = wanted.Term

-- ---- one want

-- what a want comes to where a token is next: it is done without it, or takes it, and then these are wanted
pub data Step (A : Type 0) : Type 0 where
  stays : List (Value A) → Step A
  takes : Token A → List Want → List (Value A) → Step A

-- a symbol that does not begin here, or at the end
abbrev pub absent : {A : Type 0} → ℕ → Symbol → Leaving → List (Value A) → Result (Step A) Fault
absent at s MustStand vs = Err (Unexpected at (word_of s vs))
absent at s l vs = Ok (stays (left_out l vs))

-- a symbol before a token: its row is wanted where it has one, and else it is absent
abbrev pub begun : {A : Type 0} → Symbol → Token A → List (Value A) → Option (List Want) → Result (Step A) Fault
begun s t vs (Some ws) = Ok (takes t ws (token t ∷ vs))
begun s t vs None = absent t.span.from s (leaving s) vs

-- a test is done where nothing is wrong
abbrev pub tested : {A : Type 0} → List (Value A) → Complaint → Result (Step A) Fault
tested vs None = Ok (stays vs)
tested vs (Some f) = Err f

-- what a want comes to, before a token or at the end, behind a token at a place and with these values
unfoldable pub step : {A : Type 0} → Given A → Option (Token A) → ℕ → Want → List (Value A) → Result (Step A) Fault
step g next at (Test_ q) vs = tested vs (complaint g q at vs)
step g next at (Make f) vs = Ok (stays (made g.text f vs))
step g (Some t) at (Read s) vs = begun s t vs (row s vs t.kind)
step g None at (Read s) vs = absent g.end s (leaving s) vs

-- ---- all that is wanted

-- the wants one after the other, until one takes the token that is next or all are done
pub data Settled (A : Type 0) : Type 0 where
  done : List (Value A) → Settled A
  taken : Token A → List Want → List (Value A) → Settled A

-- the rest of the wants, where the first was done without the token; else they stand behind its row
abbrev pub settle_on : {A : Type 0} → List Want → (List (Value A) → Result (Settled A) Fault) → Step A → Result (Settled A) Fault
settle_on ws more (stays vs) = more vs
settle_on ws more (takes t front vs) = Ok (taken t (front ++ ws) vs)

-- what the wants come to before a token, or at the end
unfoldable pub settle : {A : Type 0} → Given A → Option (Token A) → ℕ → List Want → List (Value A) → Result (Settled A) Fault
settle g next at [] vs = Ok (done vs)
settle g next at (w ∷ ws) vs = step g next at w vs >>= settle_on ws (λ us. settle g next at ws us)

-- the place of the latest token, the tokens that are left, and the values
pub record State (A : Type 0) : Type 0 where
  pub at : ℕ
  pub tokens : List (Token A)
  pub values : List (Value A)

-- where reading stands, or the first fault
abbrev pub Reading : Type 0 → Type 0
Reading A = Result (State A) Fault

-- reading ends where all wants are done, and goes on behind a token that was taken
abbrev pub run_on : {A : Type 0} → (List (Value A) → State A) → (Token A → List Want → List (Value A) → Reading A) → Settled A → Reading A
run_on ends goes (done vs) = Ok (ends vs)
run_on ends goes (taken t ws vs) = goes t ws vs

-- what is read of the tokens where these are wanted, behind a token at a place and with these values; or the first fault
unfoldable pub run : {A : Type 0} → Given A → List Want → ℕ → List (Token A) → List (Value A) → Reading A
run g ws at [] vs = settle g None at ws vs >>= run_on (λ us. record { at = at; tokens = []; values = us }) (λ t front us. Err (Unexpected g.end wanted.Item))
run g ws at (t ∷ ts) vs = settle g (Some t) at ws vs >>= run_on (λ us. record { at = at; tokens = t ∷ ts; values = us }) (λ s front us. run g front s.span.from ts us)

-- what is read for one want
unfoldable pub one : {A : Type 0} → Given A → Want → State A → Reading A
one g w s = run g (w ∷ []) s.at s.tokens s.values

-- what is read for wants one after the other
abbrev pub turn : {A : Type 0} → Given A → List Want → State A → Reading A
turn g [] s = Ok s
turn g (w ∷ ws) s = one g w s >>= λ r. turn g ws r

-- where a symbol does not begin: what it must be is missed at a place, and an option or a repetition is left out
abbrev pub missed : {A : Type 0} → ℕ → Symbol → Leaving → State A → Reading A
missed at s MustStand r = Err (Unexpected at (word_of s r.values))
missed at s l r = Ok (record r { values = left_out l r.values })

-- what a symbol comes to by its row, before a token and others
abbrev pub by_row : {A : Type 0} → Given A → Symbol → State A → Token A → List (Token A) → Option (List Want) → Reading A
by_row g s r t ts (Some front) = turn g front (record { at = t.span.from; tokens = ts; values = token t ∷ r.values })
by_row g s r t ts None = missed t.span.from s (leaving s) r

-- reading stays where it stands, or ends with what is wrong
abbrev pub judged : {A : Type 0} → State A → Complaint → Reading A
judged r None = Ok r
judged r (Some f) = Err f

-- ---- whole texts

-- nothing may follow the last item
abbrev pub ended : {A : Type 0} → List (Value A) → List (Token A) → Result (List (Value A)) Fault
ended vs [] = Ok vs
ended vs (t ∷ ts) = Err (Unexpected t.span.from wanted.Item)

-- the values that a whole text leaves, or its first fault
unfoldable pub parsed : {A : Type 0} → Given A → List (Token A) → Result (List (Value A)) Fault
parsed g ts = run g a_module 0 ts [] >>= λ s. ended s.values s.tokens

-- the first fault of a text's tree
abbrev pub IsFirstFault : {A : Type 0} → Given A → List (Token A) → Fault → Type 0
IsFirstFault g ts f = parsed g ts ≡ Err f
