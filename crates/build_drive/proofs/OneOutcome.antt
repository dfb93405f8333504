-- Where nothing fails there is one outcome of any files, or the plain check of what they say is spent.
use Rattle.std.proofs.Common.{◌≡◌, ◌∙◌, ◌⊎◌, inl, inr, ◌+◌, ◌≤◌, ◌<◌, ◌++◌, ℕ, zero, suc, Bool, true, false, true≢false, List, [], ◌∷◌, Option, Some, None, length, take, refl, sym, subst, arith}
use Rattle.std.specs.Str.{IsUtf8, IsValidUpTo, is_utf8}
use Rattle.std.proofs.lemmas.Bool.{cases_lt}
use Rattle.std.proofs.lemmas.List.{take_all}
use Rattle.std.proofs.lemmas.Str.{IsUtf8-from_is_utf8, is_utf8-from_IsUtf8}
use Rattle.cdle_folder.specs.Files.{Bytes, Files, IsLonger}
use Rattle.cdle_model.specs.Check.{check_items, spends}
use Rattle.cdle_model.specs.Classes.{AreScoped, AreScopedOver}
use Rattle.cdle_model.specs.CoreFaults.{Fault, BadText, Unbound, WrongClass, TooDeep}
use Rattle.cdle_model.specs.CoreNames.{Name}
use Rattle.cdle_model.specs.CoreText.{Says}
use Rattle.cdle_model.specs.CoreTokens.{tokens}
use Rattle.cdle_model.specs.CoreWants.{IsFirstFault, rest_or_fault, start}
use Rattle.cdle_model.specs.Forms.{Written}
use Rattle.cdle_model.specs.Report.{wanted_word}
use Rattle.cdle_model.specs.declared.grammar.Count.TheVariants.{Bytes as OfBytes, Items, Nesting}
use Rattle.cdle_model.proofs.CoreWhole.{said_or_faulty}
use Rattle.build_drive.specs.Answers.{IsEnd, IsOutcome, item_names, most_items}
use Rattle.build_drive.specs.Calls.{AreReadable}
use Rattle.build_drive.specs.Checks.{IsVerdictAtBudget, IsVerdictAtSomeBudget}
use Rattle.build_drive.specs.Traces.{IsFaultlessTrace, Trace, absent, contents, ending, no_more, too_long, unread}
use Rattle.build_outcome.specs.Changes.{most_bytes}
use Rattle.build_outcome.specs.declared.outcome.Badness.TheVariants as bad
use Rattle.build_outcome.specs.declared.outcome.Outcome.{Outcome}
use Rattle.build_outcome.specs.declared.outcome.Outcome.TheVariants as outcome
use Rattle.build_drive.proofs.Calls.{longer_some, not_ending, none_some, one, same_bytes}
use Rattle.build_drive.proofs.Ends.{same_items}
use Rattle.build_drive.proofs.Items.{names-length, over-append, said-over}
use Rattle.build_drive.proofs.Verdicts.{some-verdict, unspent, verdict-there}
use Rattle.build_drive.proofs.WrongNames.{wrong_name}

-- ---- bytes that are not UTF-8 stop to be so somewhere

valid_below : (bytes : Bytes) (k : ℕ) (b : Bool) → is_utf8 (take k bytes) ≡ b → (IsUtf8 bytes → ⊥) → ((m : ℕ) → k < m → IsUtf8 (take m bytes) → ⊥) → (n : ℕ) × IsValidUpTo bytes n
valid_below bytes k true e never above = elim (cases_lt k (length bytes)) [
  | inl short ↦ (k, record { short = short; front = IsUtf8-from_is_utf8 (take k bytes) e; longest = above })
  | inr all ↦ absurd (never (subst IsUtf8 (take_all k bytes all) (IsUtf8-from_is_utf8 (take k bytes) e)))
]
valid_below bytes zero false e never above = absurd (true≢false (sym (is_utf8-from_IsUtf8 (take 0 bytes) ([], (refl, refl))) ∙ e))
valid_below bytes (suc k) false e never above = valid_below bytes k (is_utf8 (take k bytes)) refl never (λ m past u. elim (cases_lt (suc k) m) [
  | inl further ↦ above m further u
  | inr here ↦ let same : m ≡ suc k = omega (arith, past, here) in true≢false (sym (is_utf8-from_IsUtf8 (take (suc k) bytes) (subst (λ n. IsUtf8 (take n bytes)) same u)) ∙ e)
])

valid_up_to : (bytes : Bytes) → (IsUtf8 bytes → ⊥) → (n : ℕ) × IsValidUpTo bytes n
valid_up_to bytes never = valid_below bytes (length bytes) (is_utf8 (take (length bytes) bytes)) refl never (λ m past u. never (subst IsUtf8 (take_all m bytes (omega (arith, past))) u))

-- ---- one file's bytes end the call, or say items

fault_ends : (known : List Name) (file bytes : Bytes) (x : Fault) → IsFirstFault bytes known x → (o : Outcome) × IsEnd known file bytes o
fault_ends known file bytes (BadText at what) h = (outcome.Malformed file at (bad.Wanted (wanted_word what)), (refl, (what, refl, h)))
fault_ends known file bytes (Unbound at) h = let w = wrong_name bytes known at (Unbound at) h refl in (outcome.Malformed file at (bad.Unbound w.0), (refl, (w.1, h)))
fault_ends known file bytes (WrongClass at) h = let w = wrong_name bytes known at (WrongClass at) h refl in (outcome.Malformed file at (bad.WrongClass w.0), (refl, (w.1, h)))
fault_ends known file bytes (TooDeep at) h = (outcome.Limit file Nesting, (refl, at, h))

text_ends : (known : List Name) (file bytes : Bytes) (b : Bool) → is_utf8 bytes ≡ b → ((o : Outcome) × IsEnd known file bytes o) ⊎ ((ws : List Written) × Says bytes known ws)
text_ends known file bytes true e = elim (said_or_faulty bytes known (IsUtf8-from_is_utf8 bytes e) (rest_or_fault (length bytes) (start known) (tokens false 0 bytes)) refl) [
  | inl said ↦ inr said
  | inr faulty ↦ inl (fault_ends known file bytes faulty.0 faulty.1)
]
text_ends known file bytes false e =
    let valid = valid_up_to bytes (λ u. true≢false (sym (is_utf8-from_IsUtf8 bytes u) ∙ e)) in inl (outcome.Malformed file valid.0 bad.NotUtf8, (refl, valid.1))

-- behind the items es
file_ends : (es : List Written) (file bytes : Bytes) → ((o : Outcome) × IsEnd (item_names es) file bytes o) ⊎ ((ws : List Written) × Says bytes (item_names es) ws × (length es + length ws ≤ most_items))
file_ends es file bytes = elim (text_ends (item_names es) file bytes (is_utf8 bytes) refl) [
  | inl ended ↦ inl ended
  | inr said ↦ elim (cases_lt most_items (length es + length said.0)) [
    | inl many ↦ inl (outcome.Limit file Items, (refl, said.0, said.1, omega (arith, many, names-length es [])))
    | inr few ↦ inr (said.0, said.1, few)
  ]
]

-- ---- all files

-- the outcome of these files behind the items es, or what they say spends the plain check with n units
abbrev Settled : ℕ → Files → List Written → List Bytes → Type 0
Settled n f es files = ((t : Trace) × (o : Outcome) × IsFaultlessTrace f files t × IsOutcome (IsVerdictAtBudget n) es t o)
    ⊎ ((all : List Written) × AreReadable f es files all × (i : ℕ) × (p : List ℕ) × (check_items n all ≡ spends i p))

one_more : (n : ℕ) (f : Files) (es ws : List Written) (file bytes : Bytes) (files : List Bytes) → f file ≡ Some bytes → length bytes ≤ most_bytes → Says bytes (item_names es) ws
    → length es + length ws ≤ most_items → Settled n f (es ++ ws) files → Settled n f es (file ∷ files)
one_more n f es ws file bytes files e short says few (inl h) = inl (contents file bytes h.0, h.1, (refl, short, e, h.2), (ws, says, few, h.3))
one_more n f es ws file bytes files e short says few (inr h) = inr (h.0, (bytes, ws, e, short, says, few, h.1), h.2, h.3, h.4)

missing : (n : ℕ) (f : Files) (es : List Written) (file : Bytes) (files : List Bytes) → f file ≡ None → Settled n f es (file ∷ files)
missing n f es file files e = inl (absent file, outcome.Missing file, (refl, e), refl)

past_limit : (n : ℕ) (f : Files) (es : List Written) (file bytes : Bytes) (files : List Bytes) → f file ≡ Some bytes → most_bytes < length bytes → Settled n f es (file ∷ files)
past_limit n f es file bytes files e long = inl (too_long file, outcome.Limit file OfBytes, (refl, subst (IsLonger most_bytes) (sym e) long), refl)

at_file : (n : ℕ) (f : Files) (es : List Written) (file : Bytes) (files : List Bytes) (o : Option Bytes) → f file ≡ o → AreScopedOver [] es → ((ws : List Written) → AreScopedOver [] (es ++ ws) → Settled n f (es ++ ws) files)
    → Settled n f es (file ∷ files)
at_file n f es file files None e over next = missing n f es file files e
at_file n f es file files (Some bytes) e over next = elim (cases_lt most_bytes (length bytes)) [
  | inl long ↦ past_limit n f es file bytes files e long
  | inr short ↦ elim (file_ends es file bytes) [
    | inl ended ↦ inl (ending file bytes, ended.0, (refl, short, e), ended.1)
    | inr said ↦ one_more n f es said.0 file bytes files e short said.1 said.2 (next said.0 (over-append [] es said.0 over (said-over bytes es said.0 said.1)))
  ]
]

settled : (n : ℕ) (f : Files) (es : List Written) (files : List Bytes) → AreScopedOver [] es → Settled n f es files
settled n f es [] over = elim (verdict-there n es over) [
  | inl verdict ↦ inl (no_more, verdict.0, tt, verdict.1)
  | inr spent ↦ inr (es, refl, spent.0, spent.1, spent.2)
]
settled n f es (file ∷ files) over = at_file n f es file files (f file) refl over (λ ws more. settled n f (es ++ ws) files more)

pub outcome_or_spent : (n : ℕ) (f : Files) (files : List Bytes) → ((t : Trace) × (o : Outcome) × IsFaultlessTrace f files t × IsOutcome (IsVerdictAtBudget n) [] t o)
    ⊎ ((all : List Written) × AreReadable f [] files all × (i : ℕ) × (p : List ℕ) × (check_items n all ≡ spends i p))
outcome_or_spent n f files = settled n f [] files tt

-- ---- only one

at_some_budget : (n : ℕ) (es : List Written) (t : Trace) (o : Outcome) → IsOutcome (IsVerdictAtBudget n) es t o → IsOutcome (IsVerdictAtSomeBudget n) es t o
at_some_budget n es no_more o h = some-verdict n es o h
at_some_budget n es (contents file bytes rest) o h = (h.0, h.1, h.2, at_some_budget n (es ++ h.0) rest o h.3)
at_some_budget n es (absent file) o h = h
at_some_budget n es (too_long file) o h = h
at_some_budget n es (unread file) o h = h
at_some_budget n es (ending file bytes) o h = h

pub one_outcome : (n : ℕ) (f : Files) (files : List Bytes) (s t : Trace) (o p : Outcome) → IsFaultlessTrace f files s → IsFaultlessTrace f files t
    → IsOutcome (IsVerdictAtBudget n) [] s o → IsOutcome (IsVerdictAtBudget n) [] t p → o ≡ p
one_outcome n f files s t o p h g x y = one n f [] files t s p o g h y (at_some_budget n [] s o x)

-- ---- an outcome leaves the check unspent

pub not_spent : (n : ℕ) (f : Files) (es : List Written) (files : List Bytes) (t : Trace) (o : Outcome) (all : List Written) → IsFaultlessTrace f files t → IsOutcome (IsVerdictAtBudget n) es t o
    → AreReadable f es files all → (i : ℕ) (p : List ℕ) → check_items n all ≡ spends i p → ⊥
not_spent n f es [] no_more o all h x r i p e = unspent es (check_items n es) o x i p (subst (λ (ws : List Written). check_items n ws ≡ spends i p) r e)
not_spent n f es [] t o all h x r i p e = absurd h
not_spent n f es (file ∷ files) (absent name) o all h x r i p e = none_some (f file) r.0 h.1 r.2
not_spent n f es (file ∷ files) (too_long name) o all h x r i p e = longer_some (f file) r.0 h.1 r.3 r.2
not_spent n f es (file ∷ files) (ending name bytes) o all h x r i p e = not_ending es r.1 name bytes r.0 o (same_bytes (f file) bytes r.0 h.2 r.2) x r.4 r.5
not_spent n f es (file ∷ files) (contents name bytes rest) o all h x r i p e =
    let same : bytes ≡ r.0 = same_bytes (f file) bytes r.0 h.2 r.2 in
    let items : x.0 ≡ r.1 = same_items (item_names es) r.0 x.0 r.1 (subst (λ (z : Bytes). Says z (item_names es) x.0) same x.1) r.4 in
    not_spent n f (es ++ r.1) files rest o all h.3 (subst (λ (ws : List Written). IsOutcome (IsVerdictAtBudget n) (es ++ ws) rest o) items x.3) r.6 i p e
not_spent n f es (file ∷ files) t o all h x r i p e = absurd h
