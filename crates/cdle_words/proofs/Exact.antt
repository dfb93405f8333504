-- The parser takes the words exactly where the definition does, and finds what it says.
use Rattle.std.proofs.Common.{◌≡◌, ◌∙◌, true, false, List, [], ◌∷◌, Option, Some, None, refl, sym, ap, subst, codes, unwrap_or, fold, true≢false, ◌<◌, length, drop, arith}
use Rattle.clap.specs.Walk.{Held, Row, Walk, all_of, first_of, idle, walked, with_default}
use Rattle.clap.specs.Simple.{is_simple, matches_of}
use Rattle.clap.specs.Kinds.{HasKind, Kinds, or_else}
use Rattle.clap.specs.Values.{kind_of}
use Rattle.clap.specs.declared.error.Error.{Error}
use Rattle.clap.specs.declared.error.ErrorKind.TheVariants.{OutOfMemory}
use Rattle.std.proofs.Common.{inl, inr, map, String, string_bytes}
use Rattle.std.proofs.lemmas.Str.{IsUtf8-string_bytes}
use Rattle.clap.specs.Faults.{defaults_fault, fault_of, is_simple_and_free, settle_fault, walk_fault}
use Rattle.cdle_words.specs.Words.{Word, Given, nothing_given, read_words}
use Rattle.cdle_words.specs.Parser.{found_in}
use Rattle.cdle_words.specs.Parser.{words_app}
use Rattle.cdle_words.proofs.Turns.{Seen, nothing, values, budget_only, values_first, budget_first, none, given, rows, rules, built_shape, fails, Meets, state}
use Rattle.cdle_words.proofs.Walks.{AreTexts, reads}

pub simple_app : (name : Word) → is_simple_and_free (words_app name) ≡ true
simple_app name = refl

pub simple : (name : Word) → is_simple (words_app name) ≡ true
simple name = refl

no_defaults : (s : Seen) → defaults_fault (rows s) rules ≡ []
unfolding defaults_fault
no_defaults nothing = refl
no_defaults (values vs) = refl
no_defaults (budget_only b) = refl
no_defaults (values_first vs b) = refl
no_defaults (budget_first b vs) = refl

same_rows : (s : Seen) → fold with_default (rows s) rules ≡ rows s
same_rows nothing = refl
same_rows (values vs) = refl
same_rows (budget_only b) = refl
same_rows (values_first vs b) = refl
same_rows (budget_first b vs) = refl

abbrev Says : Given → List Row → Type 0
Says g rs = (first_of (codes "budget") rs ≡ g.budget) × (unwrap_or (all_of (codes "value") rs) [] ≡ g.values)

rows_say : (s : Seen) → Says (given s) (rows s)
rows_say nothing = (refl, refl)
rows_say (values vs) = (refl, refl)
rows_say (budget_only b) = (refl, refl)
rows_say (values_first vs b) = (refl, refl)
rows_say (budget_first b vs) = (refl, refl)

abbrev pub Exact : Word → List Word → Option Given → Type 0
Exact name words None = fails (fault_of (words_app name) words) ≡ true
Exact name words (Some g) = (fault_of (words_app name) words ≡ []) × (first_of (codes "budget") (matches_of (words_app name) words) ≡ g.budget)
    × (unwrap_or (all_of (codes "value") (matches_of (words_app name) words)) [] ≡ g.values)

still_fails : (a b c d : Kinds) → fails (or_else a b) ≡ true → fails (or_else a (or_else c (or_else b d))) ≡ true
still_fails (k ∷ ks) b c d e = refl
still_fails [] (k ∷ ks) (j ∷ js) d e = refl
still_fails [] (k ∷ ks) [] d e = refl
still_fails [] [] c d e = absurd (true≢false (sym e))

none_left : (a b : Kinds) → or_else a b ≡ [] → (a ≡ []) × (b ≡ [])
none_left [] b e = (refl, e)
none_left (k ∷ ks) b e = absurd (true≢false (ap fails e))

abbrev start : Walk
start = state nothing none idle false

taken : (name first : Word) (words : List Word) (g : Given) → Meets name (Some g) start words → Exact name (first ∷ words) (Some g)
taken name first words g m =
    let parts = none_left (walk_fault (built_shape name) [] start words) (settle_fault rules false (fold (walked rules []) start words).held) m.0 in
    let found : matches_of (words_app name) (first ∷ words) ≡ rows m.1 = ap (λ (h : Held). fold with_default h.rows rules) m.3 ∙ same_rows m.1 in (
      rw (m.4, parts.0, parts.1) (ap (λ (h : Held). or_else (defaults_fault h.rows rules) []) m.3 ∙ ap (λ k. or_else k []) (no_defaults m.1)),
      ap (first_of (codes "budget")) found ∙ (rows_say m.1).0 ∙ ap (λ (h : Given). h.budget) m.2,
      ap (λ rs. unwrap_or (all_of (codes "value") rs) []) found ∙ (rows_say m.1).1 ∙ ap (λ (h : Given). h.values) m.2,
    )

pub exact : (name first : Word) (words : List Word) → AreTexts words → Exact name (first ∷ words) (read_words nothing_given false words)
exact name first words texts = go (read_words nothing_given false words) ((reads name words texts).0 nothing none false nothing refl)
  where
    go : (o : Option Given) → Meets name o start words → Exact name (first ∷ words) o
    go None m = still_fails (walk_fault (built_shape name) [] start words) (settle_fault rules false (fold (walked rules []) start words).held) _ _ m
    go (Some g) m = taken name first words g m

-- what a caller makes of the two answers
pub usage_is : (name first : Word) (words : List Word) (e : Error) → AreTexts words → HasKind (fault_of (words_app name) (first ∷ words)) e
    → (kind_of e ≡ OutOfMemory → ⊥) → read_words nothing_given false words ≡ None
usage_is name first words e texts has other = go (read_words nothing_given false words) refl (exact name first words texts)
  where
    go : (o : Option Given) → read_words nothing_given false words ≡ o → Exact name (first ∷ words) o → read_words nothing_given false words ≡ None
    go None is x = is
    go (Some g) is x = absurd (elim (subst (λ ks. HasKind ks e) x.0 has) [ inl memory ↦ other memory | inr never ↦ never ])

pub given_is : (name first : Word) (words : List Word) (g : Given) → AreTexts words → fault_of (words_app name) (first ∷ words) ≡ []
    → first_of (codes "budget") (matches_of (words_app name) (first ∷ words)) ≡ g.budget
    → unwrap_or (all_of (codes "value") (matches_of (words_app name) (first ∷ words))) [] ≡ g.values
    → read_words nothing_given false words ≡ Some g
given_is name first words g texts fine b vs = go (read_words nothing_given false words) refl (exact name first words texts)
  where
    go : (o : Option Given) → read_words nothing_given false words ≡ o → Exact name (first ∷ words) o → read_words nothing_given false words ≡ Some g
    go None is x = absurd (true≢false (sym x ∙ ap fails fine))
    go (Some h) is x = is ∙ ap Some (λ i. record { values = (sym x.2 ∙ vs) i; budget = (sym x.1 ∙ b) i })

pub are_texts : {Z : Type 0} (words : List (String Z)) → AreTexts (map (string_bytes) words)
are_texts [] = tt
are_texts (w ∷ words) = (IsUtf8-string_bytes w, are_texts words)

pub usage_of : (name : Word) (all : List Word) (e : Error) → AreTexts all → 0 < length all → HasKind (fault_of (words_app name) all) e
    → (kind_of e ≡ OutOfMemory → ⊥) → read_words nothing_given false (drop 1 all) ≡ None
usage_of name [] e texts some has other = absurd (omega arith)
usage_of name (first ∷ words) e texts some has other = usage_is name first words e texts.1 has other

pub given_by : (name : Word) (all : List Word) (g : Given) → AreTexts all → 0 < length all → fault_of (words_app name) all ≡ []
    → g ≡ found_in (matches_of (words_app name) all) → read_words nothing_given false (drop 1 all) ≡ Some g
given_by name [] g texts some fine found = absurd (omega arith)
given_by name (first ∷ words) g texts some fine found =
    given_is name first words g texts.1 fine (sym (ap (λ (h : Given). h.budget) found)) (sym (ap (λ (h : Given). h.values) found))
