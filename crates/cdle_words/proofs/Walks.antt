-- The walk over all the words.
use Rattle.std.proofs.Common.{◌≡◌, ◌∙◌, ◌==◌, Bool, true, false, List, [], ◌∷◌, Option, Some, None, option_map, option_and_then, refl, sym, ap, subst, codes, true≢false, append_assoc, append-nil}
use Rattle.std.proofs.Math.Bool.{and-false}
use Rattle.std.specs.Str.{bytes_eq, IsUtf8}
use Rattle.clap.specs.Walk.{Waiting, idle, option, positional, walked}
use Rattle.clap.specs.Lexer.{long_of, short_of}
use Rattle.clap.specs.Faults.{walk_fault}
use Rattle.clap.proofs.WalkLemmas.{both}
use Rattle.cdle_words.specs.Words.{Word, Given, with_values, with_budget, is_hyphened, option_word, read_word, read_words}
use Rattle.cdle_words.proofs.Kind.{Kind, value, short, other, budget, word_kind, budget_word}
use Rattle.cdle_words.proofs.Turns.{Seen, Pending, none, a_value, a_budget, no_budget, add_value, add_budget, after, given, held, state, wait, Fails, Meets, Turns, settled_by, unsettled_by, stops, goes_on, plain_fault, value_turn, trailing_turn, ends_turn, budget_turn, equal_turn, equal_stops, other_stops, short_stops, fails_first}
use Rattle.cdle_words.proofs.Turns.{nothing, values, budget_only, values_first, budget_first}

abbrev pub AreTexts : List Word → Type 0
AreTexts [] = Unit {0}
AreTexts (word ∷ words) = IsUtf8 word × AreTexts words

moves : (name : Word) (o : Option Given) (w next : _) (word : Word) (words : List Word) → Turns name w word next → Meets name o next words → Meets name o w (word ∷ words)
moves name o w next word words turn m = goes_on name o w word words turn.0 (subst (λ v. Meets name o v words) (sym turn.1) m)

with_value-given : (s : Seen) (v : Word) → given (add_value s v) ≡ with_values (given s) (v ∷ [])
with_value-given nothing v = refl
with_value-given (values vs) v = refl
with_value-given (budget_only b) v = refl
with_value-given (values_first vs b) v = refl
with_value-given (budget_first b vs) v = refl

with_budget-given : (s : Seen) (v : Word) → option_map given (add_budget s v) ≡ with_budget (given s) v
with_budget-given nothing v = refl
with_budget-given (values vs) v = refl
with_budget-given (budget_only b) v = refl
with_budget-given (values_first vs b) v = refl
with_budget-given (budget_first b vs) v = refl

-- ---- the ends of a walk

ends_settled : (name : Word) (s : Seen) (p : Pending) (w : Waiting) (b : Bool) (t : Seen) → after s p ≡ Some t → Meets name (Some (given t)) (state s p w b) []
unfolding walk_fault
ends_settled name s p w b t done = let e = settled_by s p t done in (e.0, t, refl, e.1, refl)

ends_unsettled : (name : Word) (s : Seen) (p : Pending) (w : Waiting) (b : Bool) → after s p ≡ None → Meets name None (state s p w b) []
unfolding walk_fault
ends_unsettled name s p w b never = unsettled_by s p never

-- ---- what is pending can't be used

doomed_trailing : (name : Word) (s : Seen) (p : Pending) (w : Waiting) (words : List Word) → after s p ≡ None → Meets name None (state s p w true) words
doomed_trailing name s p w [] never = ends_unsettled name s p w true never
doomed_trailing name s p w (word ∷ words) never = stops name (state s p w true) word words (rw (plain_fault s p) (unsettled_by s p never))

doomed_value : (name : Word) (s : Seen) (p : Pending) (w : Bool) (word : Word) → after s p ≡ None
    → bytes_eq word (codes "--") ≡ false → long_of word ≡ None → short_of word ≡ None → Fails name (state s p (wait w) false) word
doomed_value name s p true word never ends no_long no_short = rw (ends, no_long, no_short, plain_fault s p) (unsettled_by s p never)
doomed_value name s p false word never ends no_long no_short = rw (ends, no_long, no_short, plain_fault s p) (unsettled_by s p never)

doomed_budget : (name : Word) (s : Seen) (p : Pending) (w : Waiting) (word option_name : Word) (v : Option Word) → after s p ≡ None
    → bytes_eq word (codes "--") ≡ false → long_of word ≡ Some (option_name, v) → bytes_eq (codes "budget") option_name ≡ true → Fails name (state s p w false) word
doomed_budget name s p idle word n None never ends long same = rw (ends, long, same) (fails_first _ [] (unsettled_by s p never))
doomed_budget name s p idle word n (Some v) never ends long same = rw (ends, long, same) (fails_first _ [] (fails_first _ _ (unsettled_by s p never)))
doomed_budget name s p positional word n None never ends long same = rw (ends, long, same) (fails_first _ [] (unsettled_by s p never))
doomed_budget name s p positional word n (Some v) never ends long same = rw (ends, long, same) (fails_first _ [] (fails_first _ _ (unsettled_by s p never)))
doomed_budget name s p (option id) word n None never ends long same = rw (ends, long, same) (fails_first _ [] (unsettled_by s p never))
doomed_budget name s p (option id) word n (Some v) never ends long same = rw (ends, long, same) (fails_first _ [] (fails_first _ _ (unsettled_by s p never)))

doomed : (name : Word) (s : Seen) (p : Pending) (w : Bool) (words : List Word) → AreTexts words → after s p ≡ None → Meets name None (state s p (wait w) false) words
doomed name s p w [] texts never = ends_unsettled name s p (wait w) false never
doomed name s p w (word ∷ words) texts never = go (bytes_eq word (codes "--")) refl
  where
    by : bytes_eq word (codes "--") ≡ false → Kind word → Fails name (state s p (wait w) false) word
    by e (value a b c d) = doomed_value name s p w word never e a b
    by e (short x k rest a b first c d) = short_stops name s p (wait w) word rest x k e a b first
    by e (other n v a b c d) = other_stops name (held s p) (wait w) word n v e a b
    by e (budget n v a b c d) = doomed_budget name s p (wait w) word n v never e a b

    go : (b : Bool) → bytes_eq word (codes "--") ≡ b → Meets name None (state s p (wait w) false) (word ∷ words)
    go true e = moves name None (state s p (wait w) false) (state s p (wait w) true) word words (ends_turn name s p w word e) (doomed_trailing name s p (wait w) words never)
    go false e = stops name (state s p (wait w) false) word words (by e (word_kind word texts.0 e))

-- ---- `--budget` waits for the next word

waiting_value : (name : Word) (s : Seen) (word : Word) → bytes_eq word (codes "--") ≡ false → long_of word ≡ None → short_of word ≡ None
    → Turns name (state s no_budget (option (codes "budget")) false) word (state s (a_budget word) idle false)
unfolding walked
waiting_value name s word ends no_long no_short = (rw (ends, no_long, no_short) refl, rw (ends, no_long, no_short) refl)

waiting_ends : (name : Word) (s : Seen) (word : Word) → bytes_eq word (codes "--") ≡ true
    → Turns name (state s no_budget (option (codes "budget")) false) word (state s no_budget (option (codes "budget")) true)
unfolding walked
waiting_ends name s word ends = (rw ends refl, rw ends refl)

-- ---- the words after `--`

trails : (name : Word) (s : Seen) (p : Pending) (w : Waiting) (words : List Word) (t : Seen) → after s p ≡ Some t
    → Meets name (Some (with_values (given t) words)) (state s p w true) words
trails name s p w [] t done = subst (λ g. Meets name (Some g) (state s p w true) []) (sym (ap (λ vs. record (given t) { values = vs }) (append-nil (given t).values)))
    (ends_settled name s p w true t done)
trails name s p w (word ∷ words) t done =
    let more : with_values (given (add_value t word)) words ≡ with_values (given t) (word ∷ words) =
    ap (λ g. with_values g words) (with_value-given t word) ∙ ap (λ vs. record (given t) { values = vs }) (append_assoc (given t).values (word ∷ []) words) in
    moves name (Some (with_values (given t) (word ∷ words))) (state s p w true) (state t (a_value word) positional true) word words (trailing_turn name s p w word t done)
    (subst (λ g. Meets name (Some g) (state t (a_value word) positional true) words) more (trails name t (a_value word) positional words (add_value t word) refl))

-- ---- all words

abbrev Reads : Word → List Word → Type 0
Reads name words = ((s : Seen) (p : Pending) (w : Bool) (t : Seen) → after s p ≡ Some t → Meets name (read_words (given t) false words) (state s p (wait w) false) words)
    × ((s : Seen) → Meets name (read_words (given s) true words) (state s no_budget (option (codes "budget")) false) words)

-- a word where no option waits
module _ (name : Word) (words : List Word) (rest : Reads name words) (s : Seen) (p : Pending) (w : Bool) (t : Seen) (done : after s p ≡ Some t) where
  abbrev then_read : Given → Bool → Option Given
  then_read g waits = read_words g waits words

  added : (word n v : Word) (o : Option Seen) → add_budget t v ≡ o → bytes_eq word (codes "--") ≡ false → long_of word ≡ Some (n, Some v)
      → bytes_eq (codes "budget") n ≡ true → Meets name (option_and_then (λ g. then_read g false) (option_map given o)) (state s p (wait w) false) (word ∷ words)
  added word n v (Some u) e ends long same = moves name (then_read (given u) false) (state s p (wait w) false) (state u none idle false) word words
      (equal_turn name s p w word n v t u done e ends long same) (rest.0 u none false u refl)
  added word n v None e ends long same = stops name (state s p (wait w) false) word words (equal_stops name s p w word n v t done e ends long same)

  by_kind : (word : Word) → bytes_eq word (codes "--") ≡ false → Kind word
      → Meets name (read_word (given t) word (option_word budget_word word) then_read) (state s p (wait w) false) (word ∷ words)
  by_kind word e (value a b c d) = rw (d, c) (moves name (then_read (with_values (given t) (word ∷ [])) false) (state s p (wait w) false) (state t (a_value word) positional false) word words (value_turn name s p w word t done e a b)
      (subst (λ g. Meets name (read_words g false words) (state t (a_value word) positional false) words) (with_value-given t word) (rest.0 t (a_value word) true (add_value t word) refl)))
  by_kind word e (short x k more a b first c d) = rw (d, c) (stops name (state s p (wait w) false) word words (short_stops name s p (wait w) word more x k e a b first))
  by_kind word e (other n v a b c d) = rw (d, c) (stops name (state s p (wait w) false) word words (other_stops name (held s p) (wait w) word n v e a b))
  by_kind word e (budget n None a b c d) = rw d (moves name (then_read (given t) true) (state s p (wait w) false) (state t no_budget (option (codes "budget")) false) word words
      (budget_turn name s p w word n t done e a b) (rest.1 t))
  by_kind word e (budget n (Some v) a b c d) = rw (d, ← with_budget-given t v) (added word n v (add_budget t v) refl e a b)

  reads_word : (word : Word) → IsUtf8 word → Meets name (read_words (given t) false (word ∷ words)) (state s p (wait w) false) (word ∷ words)
  unfolding read_words
  reads_word word text = go (bytes_eq word (codes "--")) refl
    where
      go : (b : Bool) → bytes_eq word (codes "--") ≡ b → Meets name (read_words (given t) false (word ∷ words)) (state s p (wait w) false) (word ∷ words)
      go true e = rw e (moves name (Some (with_values (given t) words)) (state s p (wait w) false) (state s p (wait w) true) word words (ends_turn name s p w word e) (trails name s p (wait w) words t done))
      go false e = rw e (by_kind word e (word_kind word text e))

-- the word after `--budget`
module _ (name : Word) (words : List Word) (texts : AreTexts words) (rest : Reads name words) (s : Seen) where
  waits_added : (word : Word) (o : Option Seen) → add_budget s word ≡ o → bytes_eq word (codes "--") ≡ false → long_of word ≡ None → short_of word ≡ None
      → Meets name (option_and_then (λ g. read_words g false words) (option_map given o)) (state s no_budget (option (codes "budget")) false) (word ∷ words)
  waits_added word (Some u) e ends a b = moves name (read_words (given u) false words) (state s no_budget (option (codes "budget")) false) (state s (a_budget word) idle false) word words
      (waiting_value name s word ends a b) (rest.0 s (a_budget word) false u e)
  waits_added word None e ends a b = moves name None (state s no_budget (option (codes "budget")) false) (state s (a_budget word) idle false) word words
      (waiting_value name s word ends a b) (doomed name s (a_budget word) false words texts e)

  waits_kind : (word : Word) → bytes_eq word (codes "--") ≡ false → Kind word
      → Meets name (read_words (given s) true (word ∷ words)) (state s no_budget (option (codes "budget")) false) (word ∷ words)
  unfolding read_words
  waits_kind word e (value a b c d) = rw (c, ← with_budget-given s word) (waits_added word (add_budget s word) refl e a b)
  waits_kind word e (short x k more a b first c d) = rw c (stops name (state s no_budget (option (codes "budget")) false) word words
      (short_stops name s no_budget (option (codes "budget")) word more x k e a b first))
  waits_kind word e (other n v a b c d) = rw c (stops name (state s no_budget (option (codes "budget")) false) word words
      (other_stops name (held s no_budget) (option (codes "budget")) word n v e a b))
  waits_kind word e (budget n v a b c d) = rw c (stops name (state s no_budget (option (codes "budget")) false) word words
      (doomed_budget name s no_budget (option (codes "budget")) word n v refl e a b))

  dashes : (word : Word) → bytes_eq word (codes "--") ≡ true → is_hyphened word ≡ true
  dashes [] e = absurd (true≢false (sym e))
  dashes (x ∷ []) e = absurd (true≢false (sym e ∙ and-false (x == 45)))
  dashes (x ∷ y ∷ more) e = (both _ _ e).0

  waits_word : (word : Word) → IsUtf8 word → Meets name (read_words (given s) true (word ∷ words)) (state s no_budget (option (codes "budget")) false) (word ∷ words)
  unfolding read_words
  waits_word word text = go (bytes_eq word (codes "--")) refl
    where
      go : (b : Bool) → bytes_eq word (codes "--") ≡ b → Meets name (read_words (given s) true (word ∷ words)) (state s no_budget (option (codes "budget")) false) (word ∷ words)
      go true e = rw (dashes word e) (moves name None (state s no_budget (option (codes "budget")) false) (state s no_budget (option (codes "budget")) true) word words (waiting_ends name s word e)
          (doomed_trailing name s no_budget (option (codes "budget")) words refl))
      go false e = waits_kind word e (word_kind word text e)

pub reads : (name : Word) (words : List Word) → AreTexts words → Reads name words
unfolding read_words
reads name [] texts = (λ s p w t done. ends_settled name s p (wait w) false t done, λ s. ends_unsettled name s no_budget (option (codes "budget")) false refl)
reads name (word ∷ words) texts =
    let rest = reads name words texts.1 in
    (λ s p w t done. reads_word name words rest s p w t done word texts.0, λ s. waits_word name words texts.1 rest s word texts.0)
