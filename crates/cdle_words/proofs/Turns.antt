-- The parser's walk over the words does what the definition says.
use Rattle.std.proofs.Common.{◌≡◌, ◌∙◌, ℕ, Bool, true, false, List, [], ◌∷◌, ◌++◌, Option, Some, None, refl, sym, ap, codes, true≢false, fold, slice_get, subst, ap₂}
use Rattle.std.specs.Str.{bytes_eq, chars}
use Rattle.clap.specs.Lexer.{long_of, short_of}
use Rattle.clap.specs.Walk.{Row, Rule, Held, Walk, Waiting, idle, option, positional, settled, walked, positional_held, pushed, used}
use Rattle.clap.specs.Simple.{Shape, built, filled, with_index}
use Rattle.clap.specs.Kinds.{Kinds, or_else}
use Rattle.clap.specs.Faults.{settle_fault, use_fault, positional_fault, turn_fault, walk_fault, flags_fault}
use Rattle.clap.specs.declared.parser.matches.ValueSource.TheVariants.{CommandLine}
use Rattle.clap.specs.declared.builder.value_parser.Reading.TheVariants.{AsWritten}
use Rattle.cdle_words.specs.Words.{Word, Given, nothing_given}
use Rattle.cdle_words.specs.Parser.{words_app, budget_rule, value_rule}

-- the command as a parse has it
abbrev pub built_shape : Word → Shape
built_shape name = (built (words_app name)).top

abbrev pub rules : List Rule
rules = filled budget_rule ∷ with_index 1 (filled value_rule) ∷ []

-- ---- what was met so far, and the parser's rows for it

pub data Seen : Type 0 where
  nothing : Seen
  values : List Word → Seen
  budget_only : Word → Seen
  values_first : List Word → Word → Seen
  budget_first : Word → List Word → Seen

abbrev value_row : List Word → Row
value_row vs = record { id = codes "value"; values = vs; count = None; source = Some CommandLine; reading = AsWritten }

abbrev budget_row : Word → Row
budget_row b = record { id = codes "budget"; values = b ∷ []; count = None; source = Some CommandLine; reading = AsWritten }

abbrev pub rows : Seen → List Row
rows nothing = []
rows (values vs) = value_row vs ∷ []
rows (budget_only b) = budget_row b ∷ []
rows (values_first vs b) = value_row vs ∷ budget_row b ∷ []
rows (budget_first b vs) = budget_row b ∷ value_row vs ∷ []

abbrev pub given : Seen → Given
given nothing = nothing_given
given (values vs) = record { values = vs; budget = None }
given (budget_only b) = record { values = []; budget = Some b }
given (values_first vs b) = record { values = vs; budget = Some b }
given (budget_first b vs) = record { values = vs; budget = Some b }

abbrev pub add_value : Seen → Word → Seen
add_value nothing v = values (v ∷ [])
add_value (values vs) v = values (vs ++ v ∷ [])
add_value (budget_only b) v = budget_first b (v ∷ [])
add_value (values_first vs b) v = values_first (vs ++ v ∷ []) b
add_value (budget_first b vs) v = budget_first b (vs ++ v ∷ [])

abbrev pub add_budget : Seen → Word → Option Seen
add_budget nothing t = Some (budget_only t)
add_budget (values vs) t = Some (values_first vs t)
add_budget _ t = None

-- what is not yet among the rows
pub data Pending : Type 0 where
  none : Pending
  a_value : Word → Pending
  a_budget : Word → Pending
  no_budget : Pending

abbrev pub pending : Pending → Option (Word × List Word)
pending none = None
pending (a_value v) = Some (codes "value", v ∷ [])
pending (a_budget t) = Some (codes "budget", t ∷ [])
pending no_budget = Some (codes "budget", [])

abbrev pub held : Seen → Pending → Held
held s p = record { rows = rows s; pending = pending p; skip = 0 }

abbrev pub after : Seen → Pending → Option Seen
after s none = Some s
after s (a_value v) = Some (add_value s v)
after s (a_budget t) = add_budget s t
after s no_budget = None

abbrev pub fails : Kinds → Bool
fails [] = false
fails (k ∷ ks) = true

-- what is pending is used without a fault exactly where `after` says so
abbrev pub Settles : Seen → Pending → Option Seen → Type 0
Settles s p (Some t) = (settle_fault rules false (held s p) ≡ []) × (settled rules (held s p) ≡ held t none)
Settles s p None = fails (settle_fault rules false (held s p)) ≡ true

pub settles : (s : Seen) (p : Pending) → Settles s p (after s p)
settles s none = (refl, refl)
settles nothing (a_value v) = (refl, refl)
settles (values vs) (a_value v) = (refl, refl)
settles (budget_only b) (a_value v) = (refl, refl)
settles (values_first vs b) (a_value v) = (refl, refl)
settles (budget_first b vs) (a_value v) = (refl, refl)
settles nothing (a_budget t) = (refl, refl)
settles (values vs) (a_budget t) = (refl, refl)
settles (budget_only b) (a_budget t) = refl
settles (values_first vs b) (a_budget t) = refl
settles (budget_first b vs) (a_budget t) = refl
settles s no_budget = refl

-- ---- turns

abbrev pub walk_at : Held → Waiting → Bool → Walk
walk_at h w t = record { held = h; waiting = w; position = 1; is_trailing = t; stopped = None }

abbrev pub state : Seen → Pending → Waiting → Bool → Walk
state s p w t = walk_at (held s p) w t

abbrev pub faults : Word → Walk → List Word → Kinds
faults name w words = or_else (walk_fault (built_shape name) [] w words) (settle_fault rules false (fold (walked rules []) w words).held)

-- the walk over these words ends without a fault, with what is given, or has a fault
abbrev pub Meets : Word → Option Given → Walk → List Word → Type 0
Meets name None w words = fails (faults name w words) ≡ true
Meets name (Some g) w words = (faults name w words ≡ []) × (s : Seen) × (given s ≡ g)
    × (settled rules (fold (walked rules []) w words).held ≡ held s none) × ((fold (walked rules []) w words).stopped ≡ None)

pub stops : (name : Word) (w : Walk) (word : Word) (words : List Word) → fails (turn_fault (built_shape name) [] w word) ≡ true → Meets name None w (word ∷ words)
unfolding walk_fault
stops name w word words e = go (turn_fault (built_shape name) [] w word) _ _ e
  where
    go : (k a b : Kinds) → fails k ≡ true → fails (or_else (or_else k a) b) ≡ true
    go [] a b e = absurd (true≢false (sym e))
    go (k ∷ ks) a b e = refl

pub goes_on : (name : Word) (o : Option Given) (w : Walk) (word : Word) (words : List Word) → turn_fault (built_shape name) [] w word ≡ []
    → Meets name o (walked rules [] w word) words → Meets name o w (word ∷ words)
unfolding walk_fault
goes_on name None w word words e m = rw e m
goes_on name (Some g) w word words e m = (rw e m.0, m.1, m.2, m.3, m.4)

-- the turn of each kind of word, while options are read
abbrev pub Turns : Word → Walk → Word → Walk → Type 0
Turns name w word next = (turn_fault (built_shape name) [] w word ≡ []) × (walked rules [] w word ≡ next)

pub settled_by : (s : Seen) (p : Pending) (t : Seen) → after s p ≡ Some t → Settles s p (Some t)
settled_by s p t e = subst (Settles s p) e (settles s p)

pub unsettled_by : (s : Seen) (p : Pending) → after s p ≡ None → Settles s p None
unsettled_by s p e = subst (Settles s p) e (settles s p)

abbrev pub budget_built : Rule
budget_built = filled budget_rule

abbrev pub value_built : Rule
value_built = with_index 1 (filled value_rule)

pub plain_fault : (s : Seen) (p : Pending) → positional_fault rules false value_built (held s p) ≡ settle_fault rules false (held s p)
plain_fault s none = refl
plain_fault s (a_value v) = refl
plain_fault s (a_budget t) = refl
plain_fault s no_budget = refl

pub plain_held : (s : Seen) (p : Pending) (word : Word) → positional_held rules value_built word (held s p) ≡ pushed (codes "value") word (settled rules (held s p))
plain_held s none word = refl
plain_held s (a_value v) word = refl
plain_held s (a_budget t) word = refl
plain_held s no_budget word = refl

-- what waits for a word that is no option, when no option does
abbrev pub wait : Bool → Waiting
wait true = positional
wait false = idle

pub value_turn : (name : Word) (s : Seen) (p : Pending) (w : Bool) (word : Word) (t : Seen) → after s p ≡ Some t
    → bytes_eq word (codes "--") ≡ false → long_of word ≡ None → short_of word ≡ None
    → Turns name (state s p (wait w) false) word (state t (a_value word) positional false)
unfolding walked
value_turn name s p true word t done ends no_long no_short =
    let e = settled_by s p t done in
    (rw (ends, no_long, no_short, plain_fault s p) e.0, rw (ends, no_long, no_short, plain_held s p word) (ap (λ h. walk_at (pushed (codes "value") word h) positional false) e.1))
value_turn name s p false word t done ends no_long no_short =
    let e = settled_by s p t done in
    (rw (ends, no_long, no_short, plain_fault s p) e.0, rw (ends, no_long, no_short, plain_held s p word) (ap (λ h. walk_at (pushed (codes "value") word h) positional false) e.1))

-- a value after `--`
pub trailing_turn : (name : Word) (s : Seen) (p : Pending) (w : Waiting) (word : Word) (t : Seen) → after s p ≡ Some t
    → Turns name (state s p w true) word (state t (a_value word) positional true)
unfolding walked
trailing_turn name s p w word t done =
    let e = settled_by s p t done in
    (rw (plain_fault s p) e.0, rw (plain_held s p word) (ap (λ h. walk_at (pushed (codes "value") word h) positional true) e.1))

-- `--`
pub ends_turn : (name : Word) (s : Seen) (p : Pending) (w : Bool) (word : Word) → bytes_eq word (codes "--") ≡ true
    → Turns name (state s p (wait w) false) word (state s p (wait w) true)
unfolding walked
ends_turn name s p true word ends = (rw ends refl, rw ends refl)
ends_turn name s p false word ends = (rw ends refl, rw ends refl)

-- `--budget`
pub budget_turn : (name : Word) (s : Seen) (p : Pending) (w : Bool) (word option_name : Word) (t : Seen) → after s p ≡ Some t
    → bytes_eq word (codes "--") ≡ false → long_of word ≡ Some (option_name, None) → bytes_eq (codes "budget") option_name ≡ true
    → Turns name (state s p (wait w) false) word (state t no_budget (option (codes "budget")) false)
unfolding walked
budget_turn name s p true word option_name t done ends long same =
    let e = settled_by s p t done in
    (rw (ends, long, same) (ap (λ k. or_else k []) e.0), rw (ends, long, same) (ap (λ (h : Held). walk_at (record h { pending = Some (codes "budget", []) }) (option (codes "budget")) false) e.1))
budget_turn name s p false word option_name t done ends long same =
    let e = settled_by s p t done in
    (rw (ends, long, same) (ap (λ k. or_else k []) e.0), rw (ends, long, same) (ap (λ (h : Held). walk_at (record h { pending = Some (codes "budget", []) }) (option (codes "budget")) false) e.1))

-- a second budget is a fault
abbrev pub Uses : Seen → Word → Option Seen → Type 0
Uses s v (Some t) = (use_fault false budget_built (v ∷ []) (rows s) ≡ []) × (used budget_built (v ∷ []) (rows s) ≡ rows t)
Uses s v None = fails (use_fault false budget_built (v ∷ []) (rows s)) ≡ true

pub uses : (s : Seen) (v : Word) → Uses s v (add_budget s v)
uses nothing v = (refl, refl)
uses (values vs) v = (refl, refl)
uses (budget_only b) v = refl
uses (values_first vs b) v = refl
uses (budget_first b vs) v = refl

-- `--budget=V`
pub equal_turn : (name : Word) (s : Seen) (p : Pending) (w : Bool) (word option_name v : Word) (t u : Seen) → after s p ≡ Some t → add_budget t v ≡ Some u
    → bytes_eq word (codes "--") ≡ false → long_of word ≡ Some (option_name, Some v) → bytes_eq (codes "budget") option_name ≡ true
    → Turns name (state s p (wait w) false) word (state u none idle false)
unfolding walked
equal_turn name s p true word option_name v t u done added ends long same =
    let e = settled_by s p t done in
    let f = subst (Uses t v) added (uses t v) in (
      rw (ends, long, same) (ap₂ (λ k (h : Held). or_else (or_else k (use_fault false budget_built (v ∷ []) h.rows)) []) e.0 e.1 ∙ ap (λ k. or_else k []) f.0),
      rw (ends, long, same) (ap (λ (h : Held). walk_at (record h { rows = used budget_built (v ∷ []) h.rows; pending = None }) idle false) e.1
          ∙ ap (λ r. walk_at (record { rows = r; pending = None; skip = 0 }) idle false) f.1),
    )
equal_turn name s p false word option_name v t u done added ends long same =
    let e = settled_by s p t done in
    let f = subst (Uses t v) added (uses t v) in (
      rw (ends, long, same) (ap₂ (λ k (h : Held). or_else (or_else k (use_fault false budget_built (v ∷ []) h.rows)) []) e.0 e.1 ∙ ap (λ k. or_else k []) f.0),
      rw (ends, long, same) (ap (λ (h : Held). walk_at (record h { rows = used budget_built (v ∷ []) h.rows; pending = None }) idle false) e.1
          ∙ ap (λ r. walk_at (record { rows = r; pending = None; skip = 0 }) idle false) f.1),
    )

-- ---- turns that fail

pub fails_first : (a b : Kinds) → fails a ≡ true → fails (or_else a b) ≡ true
fails_first [] b e = absurd (true≢false (sym e))
fails_first (k ∷ ks) b e = refl

abbrev pub Fails : Word → Walk → Word → Type 0
Fails name w word = fails (turn_fault (built_shape name) [] w word) ≡ true

pub equal_stops : (name : Word) (s : Seen) (p : Pending) (w : Bool) (word option_name v : Word) (t : Seen) → after s p ≡ Some t → add_budget t v ≡ None
    → bytes_eq word (codes "--") ≡ false → long_of word ≡ Some (option_name, Some v) → bytes_eq (codes "budget") option_name ≡ true
    → Fails name (state s p (wait w) false) word
equal_stops name s p true word option_name v t done added ends long same =
    let e = settled_by s p t done in
    let f = subst (Uses t v) added (uses t v) in
    rw (ends, long, same) (ap₂ (λ k (h : Held). fails (or_else (or_else k (use_fault false budget_built (v ∷ []) h.rows)) [])) e.0 e.1 ∙ fails_first _ [] f)
equal_stops name s p false word option_name v t done added ends long same =
    let e = settled_by s p t done in
    let f = subst (Uses t v) added (uses t v) in
    rw (ends, long, same) (ap₂ (λ k (h : Held). fails (or_else (or_else k (use_fault false budget_built (v ∷ []) h.rows)) [])) e.0 e.1 ∙ fails_first _ [] f)

-- an option of another name
pub other_stops : (name : Word) (h : Held) (w : Waiting) (word option_name : Word) (v : Option Word) → bytes_eq word (codes "--") ≡ false
    → long_of word ≡ Some (option_name, v) → bytes_eq (codes "budget") option_name ≡ false → Fails name (walk_at h w false) word
other_stops name h idle word option_name v ends long differs = rw (ends, long, differs) refl
other_stops name h positional word option_name v ends long differs = rw (ends, long, differs) refl
other_stops name h (option id) word option_name v ends long differs = rw (ends, long, differs) refl

-- a short option
pub short_stops : (name : Word) (s : Seen) (p : Pending) (w : Waiting) (word rest : Word) (x c : ℕ)
    → bytes_eq word (codes "--") ≡ false → long_of word ≡ None → short_of word ≡ Some (x ∷ rest) → slice_get (chars (x ∷ rest)) 0 ≡ Some c → Fails name (state s p w false) word
unfolding flags_fault
short_stops name s p idle word rest x c ends no_long flags first = rw (ends, no_long, flags, first) refl
short_stops name s p positional word rest x c ends no_long flags first = rw (ends, no_long, flags, first) refl
short_stops name s p (option id) word rest x c ends no_long flags first = rw (ends, no_long, flags, first) refl
