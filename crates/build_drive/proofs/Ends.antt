-- A file that ends the call has one outcome, and none at which the call goes on.
use Rattle.std.proofs.Common.{◌≡◌, ◌+◌, ◌≤◌, ◌<◌, ℕ, false, List, [], ◌∷◌, length, drop, refl, sym, ap, subst, ◌∙◌, arith}
use Rattle.std.specs.Str.{IsUtf8, IsValidUpTo}
use Rattle.std.proofs.lemmas.List.{take_all}
use Rattle.std.proofs.lemmas.Str.{utf8_valid_len-IsValidUpTo}
use Rattle.cdle_folder.specs.Files.{Bytes}
use Rattle.cdle_model.specs.CoreFaults.{Fault, BadText, Unbound, WrongClass, TooDeep}
use Rattle.cdle_model.specs.CoreNames.{Name}
use Rattle.cdle_model.specs.CoreText.{Says}
use Rattle.cdle_model.specs.CoreTokens.{Token, Word, IsWordAt, tokens}
use Rattle.cdle_model.specs.CoreWants.{IsFirstFault}
use Rattle.cdle_model.specs.Forms.{Written}
use Rattle.cdle_model.specs.Report.{wanted_word}
use Rattle.cdle_model.specs.declared.grammar.Count.TheVariants.{Nesting, Items}
use Rattle.cdle_model.proofs.CoreAgain.{one_file}
use Rattle.cdle_model.proofs.CoreRuns.{file_runs}
use Rattle.build_drive.specs.Answers.{IsEnd, IsMalformed, most_items}
use Rattle.build_outcome.specs.declared.outcome.Badness.{Badness}
use Rattle.build_outcome.specs.declared.outcome.Badness.TheVariants as bad
use Rattle.build_outcome.specs.declared.outcome.Outcome.{Outcome}
use Rattle.build_outcome.specs.declared.outcome.Outcome.TheVariants as outcome

-- ---- the outcome of a fault, as a function

abbrev first_word : List Token → Bytes
first_word ((at, Word w) ∷ ts) = w
first_word ts = []

abbrev of_fault : Bytes → Bytes → Fault → Outcome
of_fault file bytes (BadText at what) = outcome.Malformed file at (bad.Wanted (wanted_word what))
of_fault file bytes (Unbound at) = outcome.Malformed file at (bad.Unbound (first_word (tokens false at (drop at bytes))))
of_fault file bytes (WrongClass at) = outcome.Malformed file at (bad.WrongClass (first_word (tokens false at (drop at bytes))))
of_fault file bytes (TooDeep at) = outcome.Limit file Nesting

-- the outcome is that of the bytes' first fault, or they are no UTF-8, or say too many items
data Shape (known : List Name) (file bytes : Bytes) (o : Outcome) : Type 0 where
  faulty : (x : Fault) → IsFirstFault bytes known x → o ≡ of_fault file bytes x → Shape known file bytes o
  broken : (at : ℕ) → IsValidUpTo bytes at → o ≡ outcome.Malformed file at bad.NotUtf8 → Shape known file bytes o
  many : (ws : List Written) → Says bytes known ws → most_items < length known + length ws → o ≡ outcome.Limit file Items → Shape known file bytes o

word_name : (bytes : Bytes) (at : ℕ) (name : Bytes) → IsWordAt bytes at name → name ≡ first_word (tokens false at (drop at bytes))
word_name bytes at name h = sym (ap first_word h.1)

malformed_shape : (known : List Name) (file bytes : Bytes) (at : ℕ) (what : Badness) → IsMalformed known bytes at what → Shape known file bytes (outcome.Malformed file at what)
malformed_shape known file bytes at bad.NotUtf8 h = broken at h refl
malformed_shape known file bytes at (bad.Wanted word) h = faulty (BadText at h.0) h.2 (ap (λ (w : Bytes). outcome.Malformed file at (bad.Wanted w)) h.1)
malformed_shape known file bytes at (bad.Unbound name) h = faulty (Unbound at) h.1 (ap (λ (w : Bytes). outcome.Malformed file at (bad.Unbound w)) (word_name bytes at name h.0))
malformed_shape known file bytes at (bad.WrongClass name) h = faulty (WrongClass at) h.1 (ap (λ (w : Bytes). outcome.Malformed file at (bad.WrongClass w)) (word_name bytes at name h.0))
malformed_shape known file bytes at what h = absurd h

shape : (known : List Name) (file bytes : Bytes) (o : Outcome) → IsEnd known file bytes o → Shape known file bytes o
shape known file bytes (outcome.Malformed name at what) h = rw h.0 (malformed_shape known file bytes at what h.1)
shape known file bytes (outcome.Limit name Nesting) h = rw h.0 (faulty (TooDeep h.1) h.2 refl)
shape known file bytes (outcome.Limit name Items) h = rw h.0 (many h.1 h.2 h.3 refl)
shape known file bytes o h = absurd h

-- ---- what excludes what

pub no_broken : {R : Type 0} (bytes : Bytes) (at : ℕ) → IsUtf8 bytes → IsValidUpTo bytes at → R
no_broken bytes at u h = absurd (h.longest (length bytes) h.short (subst IsUtf8 (sym (take_all (length bytes) bytes (omega arith))) u))

pub no_fault : {R : Type 0} (known : List Name) (bytes : Bytes) (ws : List Written) (x : Fault) → Says bytes known ws → IsFirstFault bytes known x → R
no_fault known bytes ws x h g =
    let ok = file_runs (length bytes) known (tokens false 0 bytes) ws h.file in
    let err = g.1 in
    absurd cc

same_fault : (known : List Name) (bytes : Bytes) (x y : Fault) → IsFirstFault bytes known x → IsFirstFault bytes known y → x ≡ y
same_fault known bytes x y h g = let p = h.1 in let q = g.1 in cc

pub same_items : (known : List Name) (bytes : Bytes) (ws us : List Written) → Says bytes known ws → Says bytes known us → ws ≡ us
same_items known bytes ws us h g = one_file known (tokens false 0 bytes) ws us h.file g.file

same_shape : (known : List Name) (file bytes : Bytes) (o p : Outcome) → Shape known file bytes o → Shape known file bytes p → o ≡ p
same_shape known file bytes o p (faulty x h e) (faulty y g f) = e ∙ ap (of_fault file bytes) (same_fault known bytes x y h g) ∙ sym f
same_shape known file bytes o p (faulty x h e) (broken at g f) = no_broken bytes at h.0 g
same_shape known file bytes o p (faulty x h e) (many ws g m f) = no_fault known bytes ws x g h
same_shape known file bytes o p (broken at h e) (faulty y g f) = no_broken bytes at g.0 h
same_shape known file bytes o p (broken at h e) (broken to g f) =
    e ∙ ap (λ (n : ℕ). outcome.Malformed file n bad.NotUtf8) (sym (utf8_valid_len-IsValidUpTo bytes at h) ∙ utf8_valid_len-IsValidUpTo bytes to g) ∙ sym f
same_shape known file bytes o p (broken at h e) (many ws g m f) = no_broken bytes at g.utf8 h
same_shape known file bytes o p (many ws h m e) (faulty y g f) = no_fault known bytes ws y h g
same_shape known file bytes o p (many ws h m e) (broken at g f) = no_broken bytes at h.utf8 g
same_shape known file bytes o p (many ws h m e) (many us g l f) = e ∙ sym f

pub one_end : (known : List Name) (file bytes : Bytes) (o p : Outcome) → IsEnd known file bytes o → IsEnd known file bytes p → o ≡ p
one_end known file bytes o p h g = same_shape known file bytes o p (shape known file bytes o h) (shape known file bytes p g)

goes_on : {R : Type 0} (known : List Name) (file bytes : Bytes) (ws : List Written) (o : Outcome) → Shape known file bytes o → Says bytes known ws → length known + length ws ≤ most_items → R
goes_on known file bytes ws o (faulty x h e) g few = no_fault known bytes ws x g h
goes_on known file bytes ws o (broken at h e) g few = no_broken bytes at g.utf8 h
goes_on known file bytes ws o (many us h m e) g few = let same = ap length (same_items known bytes us ws h g) in absurd (omega (arith, m, few, same))

-- a file at which the call goes on doesn't end it
pub no_end : {R : Type 0} (known : List Name) (file bytes : Bytes) (ws : List Written) (o : Outcome) → IsEnd known file bytes o → Says bytes known ws
    → length known + length ws ≤ most_items → R
no_end known file bytes ws o h g few = goes_on known file bytes ws o (shape known file bytes o h) g few
