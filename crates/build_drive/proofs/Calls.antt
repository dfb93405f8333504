-- Over a folder that tells its files, and where no read failed, the trace is the one where nothing fails, and has one outcome.
use Rattle.std.proofs.Common.{◌≡◌, ◌∙◌, ◌⊎◌, inl, inr, ◌+◌, ◌≤◌, ◌<◌, ◌++◌, ℕ, List, [], ◌∷◌, Option, Some, None, IfSome, length, refl, sym, ap, subst, arith}
use Rattle.cdle_folder.specs.Causes.{Quiet}
use Rattle.cdle_folder.proofs.Causes.{no_rise}
use Rattle.cdle_folder.specs.Files.{Bytes, Files, Reads, IsLonger, with_read}
use Rattle.cdle_model.specs.CoreText.{Says}
use Rattle.cdle_model.specs.Forms.{Written}
use Rattle.cdle_model.specs.declared.grammar.Count.TheVariants.{Bytes as OfBytes}
use Rattle.build_drive.specs.Answers.{IsEnd, IsOutcome, most_items, item_names}
use Rattle.build_drive.specs.Calls.{IsCall}
use Rattle.build_drive.specs.Checks.{IsVerdictAtBudget, IsVerdictAtSomeBudget}
use Rattle.build_drive.specs.Traces.{IsFaultlessTrace, IsTrace, Trace, absent, contents, no_more, ending, too_long, unread}
use Rattle.build_outcome.specs.Changes.{FolderChange, most_bytes}
use Rattle.build_outcome.specs.declared.done.Done.{Done}
use Rattle.build_outcome.specs.declared.outcome.Outcome.{Outcome}
use Rattle.build_outcome.specs.declared.outcome.Outcome.TheVariants as outcome
use Rattle.build_drive.proofs.Ends.{no_end, one_end, same_items}
use Rattle.build_drive.proofs.Items.{names-length}
use Rattle.build_drive.proofs.Verdicts.{one-verdict}

there : (v : FolderChange) (given : Option Reads) (f : Files) (files : List Bytes) (s : Trace) → v.before.files ≡ Some f → Quiet v.before.read_faults v.after.read_faults
    → IsTrace v given files s → IsFaultlessTrace f files s
there v given f [] no_more told quiet h = tt
there v given f (file ∷ files) (absent name) told quiet h = (h.0, subst (λ (o : Option Files). IfSome o (λ g. g file ≡ None)) told h.3)
there v given f (file ∷ files) (too_long name) told quiet h = (h.0, subst (λ (o : Option Files). IfSome o (λ g. IsLonger most_bytes (g file))) told h.2)
there v given f (file ∷ files) (unread name) told quiet h = no_rise v.before.read_faults v.after.read_faults h.2 quiet
there v given f (file ∷ files) (ending name bytes) told quiet h = (h.0, h.2, subst (λ (o : Option Files). IfSome o (λ g. g file ≡ Some bytes)) told h.3)
there v given f (file ∷ files) (contents name bytes rest) told quiet h =
    (h.0, h.1, subst (λ (o : Option Files). IfSome o (λ g. g file ≡ Some bytes)) told h.2, there v (with_read file bytes given) f files rest told quiet h.3)
there v given f files s told quiet h = absurd h

-- ---- what a name has is one thing

pub none_longer : {R : Type 0} (o : Option Bytes) → o ≡ None → IsLonger most_bytes o → R
none_longer o e h = absurd (subst (IsLonger most_bytes) e h)

pub none_some : {R : Type 0} (o : Option Bytes) (bytes : Bytes) → o ≡ None → o ≡ Some bytes → R
none_some o bytes e g = absurd cc

pub longer_some : {R : Type 0} (o : Option Bytes) (bytes : Bytes) → IsLonger most_bytes o → length bytes ≤ most_bytes → o ≡ Some bytes → R
longer_some o bytes h short e = let longer : most_bytes < length bytes = subst (IsLonger most_bytes) e h in absurd (omega (arith, longer, short))

pub same_bytes : (o : Option Bytes) (a b : Bytes) → o ≡ Some a → o ≡ Some b → a ≡ b
same_bytes o a b e g = cc

-- ---- the outcomes of what is there

absent_outcome : (n : ℕ) (es : List Written) (name : Bytes) (o : Outcome) (Verdict : List Written → Outcome → Type 0) → IsOutcome Verdict es (absent name) o → o ≡ outcome.Missing name
absent_outcome n es name (outcome.Missing file) Verdict h = ap outcome.Missing h
absent_outcome n es name o Verdict h = absurd h

too_long_outcome : (n : ℕ) (es : List Written) (name : Bytes) (o : Outcome) (Verdict : List Written → Outcome → Type 0) → IsOutcome Verdict es (too_long name) o → o ≡ outcome.Limit name OfBytes
too_long_outcome n es name (outcome.Limit file OfBytes) Verdict h = ap (λ (x : Bytes). outcome.Limit x OfBytes) h
too_long_outcome n es name o Verdict h = absurd h

renamed_end : (es : List Written) (file bytes name text : Bytes) (o : Outcome) → name ≡ file → text ≡ bytes → IsEnd (item_names es) name text o → IsEnd (item_names es) file bytes o
renamed_end es file bytes name text o e g h = subst (λ (x : Bytes). IsEnd (item_names es) x bytes o) e (subst (λ (x : Bytes). IsEnd (item_names es) name x o) g h)

-- the call goes on at these bytes, and so they don't end it
pub not_ending : {R : Type 0} (es ws : List Written) (name text bytes : Bytes) (o : Outcome) → text ≡ bytes → IsEnd (item_names es) name text o → Says bytes (item_names es) ws → length es + length ws ≤ most_items → R
not_ending es ws name text bytes o e h says few =
    let many : length (item_names es) + length ws ≤ most_items = omega (arith, names-length es [], few) in
    no_end (item_names es) name bytes ws o (subst (λ (x : Bytes). IsEnd (item_names es) name x o) e h) says many

pub one : (n : ℕ) (f : Files) (es : List Written) (files : List Bytes) (s t : Trace) (o p : Outcome) → IsFaultlessTrace f files s → IsFaultlessTrace f files t
    → IsOutcome (IsVerdictAtBudget n) es s o → IsOutcome (IsVerdictAtSomeBudget n) es t p → p ≡ o
one n f es [] no_more no_more o p h g x y = one-verdict n es o p x y
one n f es [] no_more t o p h g x y = absurd g
one n f es (file ∷ files) (absent a) (absent b) o p h g x y = absent_outcome n es b p (IsVerdictAtSomeBudget n) y ∙ ap outcome.Missing (g.0 ∙ sym h.0) ∙ sym (absent_outcome n es a o (IsVerdictAtBudget n) x)
one n f es (file ∷ files) (absent a) (too_long b) o p h g x y = none_longer (f file) h.1 g.1
one n f es (file ∷ files) (absent a) (ending b bytes) o p h g x y = none_some (f file) bytes h.1 g.2
one n f es (file ∷ files) (absent a) (contents b bytes rest) o p h g x y = none_some (f file) bytes h.1 g.2
one n f es (file ∷ files) (absent a) t o p h g x y = absurd g
one n f es (file ∷ files) (too_long a) (absent b) o p h g x y = none_longer (f file) g.1 h.1
one n f es (file ∷ files) (too_long a) (too_long b) o p h g x y =
    too_long_outcome n es b p (IsVerdictAtSomeBudget n) y ∙ ap (λ (z : Bytes). outcome.Limit z OfBytes) (g.0 ∙ sym h.0) ∙ sym (too_long_outcome n es a o (IsVerdictAtBudget n) x)
one n f es (file ∷ files) (too_long a) (ending b bytes) o p h g x y = longer_some (f file) bytes h.1 g.1 g.2
one n f es (file ∷ files) (too_long a) (contents b bytes rest) o p h g x y = longer_some (f file) bytes h.1 g.1 g.2
one n f es (file ∷ files) (too_long a) t o p h g x y = absurd g
one n f es (file ∷ files) (ending a text) (absent b) o p h g x y = none_some (f file) text g.1 h.2
one n f es (file ∷ files) (ending a text) (too_long b) o p h g x y = longer_some (f file) text g.1 h.1 h.2
one n f es (file ∷ files) (ending a text) (ending b bytes) o p h g x y =
    one_end (item_names es) file text p o (renamed_end es file text b bytes p g.0 (same_bytes (f file) bytes text g.2 h.2) y) (renamed_end es file text a text o h.0 refl x)
one n f es (file ∷ files) (ending a text) (contents b bytes rest) o p h g x y = not_ending es y.0 a text bytes o (same_bytes (f file) text bytes h.2 g.2) x y.1 y.2
one n f es (file ∷ files) (ending a text) t o p h g x y = absurd g
one n f es (file ∷ files) (contents a text more) (absent b) o p h g x y = none_some (f file) text g.1 h.2
one n f es (file ∷ files) (contents a text more) (too_long b) o p h g x y = longer_some (f file) text g.1 h.1 h.2
one n f es (file ∷ files) (contents a text more) (ending b bytes) o p h g x y = not_ending es x.0 b bytes text p (same_bytes (f file) bytes text g.2 h.2) y x.1 x.2
one n f es (file ∷ files) (contents a text more) (contents b bytes rest) o p h g x y =
    let same = same_bytes (f file) bytes text g.2 h.2 in
    let items : y.0 ≡ x.0 = same_items (item_names es) text y.0 x.0 (subst (λ (z : Bytes). Says z (item_names es) y.0) same y.1) x.1 in
    one n f (es ++ x.0) files more rest o p h.3 g.3 x.3 (subst (λ (ws : List Written). IsOutcome (IsVerdictAtSomeBudget n) (es ++ ws) rest p) items y.3)
one n f es (file ∷ files) (contents a text more) t o p h g x y = absurd g
one n f es files s t o p h g x y = absurd h

-- the one outcome where nothing fails
pub exact : (n : ℕ) (v : FolderChange) (files : List Bytes) (d : Done) (f : Files) (s : Trace) (o : Outcome) → IsCall n v files d → v.before.files ≡ Some f → Quiet v.before.read_faults v.after.read_faults
    → IsFaultlessTrace f files s → IsOutcome (IsVerdictAtBudget n) [] s o → (d.outcome ≡ o) ⊎ (d.outcome ≡ outcome.NoMemory)
exact n v files d f s o (inl none) told quiet h x = inr none.0
exact n v files d f s o (inr w) told quiet h x = inl (one n f [] files s w.0 o d.outcome h (there v v.before.given f files w.0 told quiet w.1) x w.2)
