-- A module's file, or a Core file, that ends a call of `build` has one outcome.
use Rattle.std.proofs.Common.{◌≡◌, ◌∙◌, ◌⊎◌, inl, inr, ◌<◌, ◌≤◌, ◌++◌, ℕ, List, [], Option, Some, Result, Ok, Err, length, refl, sym, ap, ap₂, subst, slice_get, arith}
use Rattle.cdle_folder.specs.Files.{Bytes}
use Rattle.cdle_model.specs.Check.{check_items}
use Rattle.cdle_model.specs.Forms.{Written}
use Rattle.cdle_model.specs.declared.grammar.Count.TheVariants.{Bytes as OfBytes, Nesting, Depth, Items}
use Rattle.source_model.specs.Parsing.{Unexpected, TooDeep, TooMany}
use Rattle.source_model.specs.Source.{Span}
use Rattle.source_model.specs.SurfaceTokens.{TextToken, TokenFault, BadCharacter, OpenComment, lexed}
use Rattle.scope_model.specs.Scope.{Unbound, WrongClass, Twice}
use Rattle.build_model.specs.SourceFiles.{InTokens, InTree, NotUtf8}
use Rattle.build_module.specs.ModuleAnswers.{ModuleAnswer, IsModuleAnswer, gives, no_module, many_items, unscoped, not_built, refuses, spends, deepens}
use Rattle.build_outcome.specs.Words.{surface_word}
use Rattle.build_outcome.specs.declared.outcome.Badness.TheVariants as bad
use Rattle.build_outcome.specs.declared.outcome.Outcome.{Outcome}
use Rattle.build_outcome.specs.declared.outcome.Outcome.TheVariants as outcome
use Rattle.build_outcome.specs.declared.outcome.Reason.TheVariants.{Surface, NotBuilt}
use Rattle.build_outcome.specs.declared.outcome.Spot.TheVariants.{FileSpot}
use Rattle.build_source.specs.Ends.{IsEndOf, IsNameIn, spelled_in}
use Rattle.build_source.specs.Files.{Unread, absent, too_long, failed, IsUnreadEnd}
use Rattle.build_drive.specs.BuildAnswers.{DifferAt, IsCoreOutcome, IsReadBackEnd, OfOneModule}
use Rattle.build_drive.specs.BuildTraces.{CoreEnd, contents, unread, unwritten, IsFaultlessCore, most_core_bytes}
use Rattle.build_drive.specs.Checks.{IsVerdictAtBudget, IsVerdictAtSomeBudget}
use Rattle.build_drive.proofs.Verdicts.{one-verdict, some-verdict}

-- ---- a file that was not read

abbrev pub unread_outcome : Bytes → Unread → Outcome
unread_outcome file absent = outcome.Missing file
unread_outcome file too_long = outcome.Limit file OfBytes
unread_outcome file failed = outcome.ReadFault file

pub unread-is : (file : Bytes) (u : Unread) (o : Outcome) → IsUnreadEnd file u o → o ≡ unread_outcome file u
unread-is file absent (outcome.Missing name) h = ap outcome.Missing h
unread-is file too_long (outcome.Limit name OfBytes) h = ap (λ (x : Bytes). outcome.Limit x OfBytes) h
unread-is file failed (outcome.ReadFault name) h = ap outcome.ReadFault h
unread-is file u o h = absurd h

-- ---- a module's file that comes to no text

abbrev spelled : Bytes → Span → Result (List TextToken) TokenFault → Bytes
spelled text p (Ok ts) = spelled_in text p ts
spelled text p (Err f) = []

abbrev named : Bytes → Span → Bytes
named text p = spelled text p (lexed text)

named-is : (text : Bytes) (p : Span) (name : Bytes) → IsNameIn text p name → name ≡ named text p
named-is text p name h = h.2 ∙ ap (spelled text p) (sym h.1)

abbrev pub end_outcome : ℕ → Bytes → Bytes → ModuleAnswer → Outcome
end_outcome n file text (no_module (NotUtf8 p)) = outcome.Malformed file p bad.NotUtf8
end_outcome n file text (no_module (InTokens (BadCharacter p))) = outcome.Malformed file p bad.BadCharacter
end_outcome n file text (no_module (InTokens (OpenComment p))) = outcome.Malformed file p bad.OpenComment
end_outcome n file text (no_module (InTree (Unexpected p w))) = outcome.Malformed file p (bad.Wanted (surface_word w))
end_outcome n file text (no_module (InTree (TooDeep p))) = outcome.Limit file Nesting
end_outcome n file text (no_module (InTree (TooMany p what))) = outcome.Limit file what
end_outcome n file text many_items = outcome.Limit file Items
end_outcome n file text (unscoped (Unbound p)) = outcome.Malformed file p.from (bad.Unbound (named text p))
end_outcome n file text (unscoped (WrongClass p)) = outcome.Malformed file p.from (bad.WrongClass (named text p))
end_outcome n file text (unscoped (Twice p)) = outcome.Malformed file p.from (bad.Twice (named text p))
end_outcome n file text (not_built p) = outcome.Refused (FileSpot file p.from) NotBuilt
end_outcome n file text (refuses p c) = outcome.Refused (FileSpot file p.from) (Surface c)
end_outcome n file text (spends p) = outcome.Undecided (FileSpot file p.from) n
end_outcome n file text (deepens item) = outcome.Limit item Depth
end_outcome n file text (gives ws core) = outcome.NoMemory

pub end-is : (n : ℕ) (file text : Bytes) (a : ModuleAnswer) (o : Outcome) → IsEndOf n file text a o → o ≡ end_outcome n file text a
end-is n file text (no_module (NotUtf8 p)) (outcome.Malformed name at bad.NotUtf8) h = rw (h.0, h.1) refl
end-is n file text (no_module (InTokens (BadCharacter p))) (outcome.Malformed name at bad.BadCharacter) h = rw (h.0, h.1) refl
end-is n file text (no_module (InTokens (OpenComment p))) (outcome.Malformed name at bad.OpenComment) h = rw (h.0, h.1) refl
end-is n file text (no_module (InTokens (BadCharacter p))) (outcome.Malformed name at what) h = absurd h.1
end-is n file text (no_module (InTokens (OpenComment p))) (outcome.Malformed name at what) h = absurd h.1
end-is n file text (no_module (InTree (Unexpected p w))) (outcome.Malformed name at (bad.Wanted word)) h = rw (h.0, h.1, h.2) refl
end-is n file text (no_module (InTree (TooDeep p))) (outcome.Limit name Nesting) h = ap (λ (x : Bytes). outcome.Limit x Nesting) h
end-is n file text (no_module (InTree (TooMany p what))) (outcome.Limit name w) h = ap₂ outcome.Limit h.0 h.1
end-is n file text many_items (outcome.Limit name Items) h = ap (λ (x : Bytes). outcome.Limit x Items) h
end-is n file text (unscoped (Unbound p)) (outcome.Malformed name at (bad.Unbound w)) h = rw (h.0, h.1.0, named-is text p w h.1.1) refl
end-is n file text (unscoped (WrongClass p)) (outcome.Malformed name at (bad.WrongClass w)) h = rw (h.0, h.1.0, named-is text p w h.1.1) refl
end-is n file text (unscoped (Twice p)) (outcome.Malformed name at (bad.Twice w)) h = rw (h.0, h.1.0, named-is text p w h.1.1) refl
end-is n file text (unscoped (Unbound p)) (outcome.Malformed name at what) h = absurd h.1
end-is n file text (unscoped (WrongClass p)) (outcome.Malformed name at what) h = absurd h.1
end-is n file text (unscoped (Twice p)) (outcome.Malformed name at what) h = absurd h.1
end-is n file text (not_built p) (outcome.Refused (FileSpot name at) NotBuilt) h = rw (h.0, h.1) refl
end-is n file text (not_built p) (outcome.Refused spot NotBuilt) h = absurd h
end-is n file text (refuses p c) (outcome.Refused (FileSpot name at) (Surface d)) h = rw (h.0.0, h.0.1, h.1) refl
end-is n file text (refuses p c) (outcome.Refused spot (Surface d)) h = absurd h.0
end-is n file text (spends p) (outcome.Undecided (FileSpot name at) budget) h = rw (h.0.0, h.0.1, h.1) refl
end-is n file text (spends p) (outcome.Undecided spot budget) h = absurd h.0
end-is n file text (deepens item) (outcome.Limit name Depth) h = ap (λ (x : Bytes). outcome.Limit x Depth) h
end-is n file text a o h = absurd h

-- ---- the check of one module

abbrev as_core : Outcome → Outcome
as_core (outcome.Ok modules items) = outcome.Ok 0 items
as_core o = o

abbrev pub as_module : Outcome → Outcome
as_module (outcome.Ok modules items) = outcome.Ok 1 items
as_module o = o

pub of_core : (Verdict : List Written → Outcome → Type 0) (ws : List Written) (o : Outcome) → OfOneModule Verdict ws o → Verdict ws (as_core o)
of_core Verdict ws (outcome.Ok modules items) h = h.1
of_core Verdict ws (outcome.Undecided spot budget) h = h
of_core Verdict ws (outcome.Limit name what) h = h
of_core Verdict ws o h = absurd h

is_module : (Verdict : List Written → Outcome → Type 0) (ws : List Written) (o : Outcome) → OfOneModule Verdict ws o → o ≡ as_module (as_core o)
is_module Verdict ws (outcome.Ok modules items) h = ap (λ (k : ℕ). outcome.Ok k items) h.0
is_module Verdict ws (outcome.Undecided spot budget) h = refl
is_module Verdict ws (outcome.Limit name what) h = refl
is_module Verdict ws o h = absurd h

one_of_module : (n : ℕ) (ws : List Written) (o p : Outcome) → OfOneModule (IsVerdictAtBudget n) ws o → OfOneModule (IsVerdictAtSomeBudget n) ws p → p ≡ o
one_of_module n ws o p x y =
    is_module (IsVerdictAtSomeBudget n) ws p y
    ∙ ap as_module (one-verdict n ws (as_core o) (as_core p) (of_core (IsVerdictAtBudget n) ws o x) (of_core (IsVerdictAtSomeBudget n) ws p y))
    ∙ sym (is_module (IsVerdictAtBudget n) ws o x)

some_of_module : (n : ℕ) (ws : List Written) (o : Outcome) → OfOneModule (IsVerdictAtBudget n) ws o → OfOneModule (IsVerdictAtSomeBudget n) ws o
some_of_module n ws (outcome.Ok modules items) h = (h.0, some-verdict n ws (outcome.Ok 0 items) h.1)
some_of_module n ws (outcome.Undecided spot budget) h = some-verdict n ws (outcome.Undecided spot budget) h
some_of_module n ws (outcome.Limit name what) h = some-verdict n ws (outcome.Limit name what) h
some_of_module n ws o h = absurd h

-- ---- the Core file

never_differ : {R : Type 0} (text bytes : Bytes) (at : ℕ) (w r : Option ℕ) → bytes ≡ text → DifferAt text bytes at w r → R
never_differ text bytes at w r e d = absurd (d.differ (sym d.wrote_there ∙ ap (λ (b : Bytes). slice_get b at) (sym e) ∙ d.read_there))

pub not_back : {R : Type 0} (file text bytes : Bytes) (o : Outcome) → bytes ≡ text → IsReadBackEnd file text bytes o → R
not_back file text bytes (outcome.ReadBack name at w r) e h = never_differ text bytes at w r e h.1
not_back file text bytes o e h = absurd h

-- what was read back is what was written, and so the outcome is the check's
pub checked_back : (Verdict : List Written → Outcome → Type 0) (file text bytes : Bytes) (ws : List Written) (o : Outcome) → bytes ≡ text
    → (bytes ≡ text) × OfOneModule Verdict ws o ⊎ IsReadBackEnd file text bytes o → OfOneModule Verdict ws o
checked_back Verdict file text bytes ws o e (inl h) = h.1
checked_back Verdict file text bytes ws o e (inr h) = not_back file text bytes o e h

pub too_long_short : {R : Type 0} (text : Bytes) → most_core_bytes < length text → length text ≤ most_core_bytes → R
too_long_short text h g = absurd (omega (arith, h, g))

pub one_core : (n : ℕ) (file text : Bytes) (ws : List Written) (d e : CoreEnd) (o p : Outcome) → IsFaultlessCore text d → IsFaultlessCore text e
    → IsCoreOutcome (IsVerdictAtBudget n) file text ws d o → IsCoreOutcome (IsVerdictAtSomeBudget n) file text ws e p → p ≡ o
one_core n file text ws (unread too_long) (unread too_long) o p h g x y = unread-is file too_long p y ∙ sym (unread-is file too_long o x)
one_core n file text ws (unread too_long) (contents c) o p h g x y = too_long_short text h g.0
one_core n file text ws (contents b) (unread too_long) o p h g x y = too_long_short text g h.0
one_core n file text ws (contents b) (contents c) o p h g x y =
    one_of_module n ws o p (checked_back (IsVerdictAtBudget n) file text b ws o h.1 x) (checked_back (IsVerdictAtSomeBudget n) file text c ws p g.1 y)
one_core n file text ws (contents b) (unread absent) o p h g x y = absurd g
one_core n file text ws (contents b) (unread failed) o p h g x y = absurd g
one_core n file text ws (contents b) unwritten o p h g x y = absurd g
one_core n file text ws (unread too_long) (unread absent) o p h g x y = absurd g
one_core n file text ws (unread too_long) (unread failed) o p h g x y = absurd g
one_core n file text ws (unread too_long) unwritten o p h g x y = absurd g
one_core n file text ws (unread absent) e o p h g x y = absurd h
one_core n file text ws (unread failed) e o p h g x y = absurd h
one_core n file text ws unwritten e o p h g x y = absurd h

back_at_some : (n : ℕ) (file text bytes : Bytes) (ws : List Written) (o : Outcome) → (bytes ≡ text) × OfOneModule (IsVerdictAtBudget n) ws o ⊎ IsReadBackEnd file text bytes o
    → (bytes ≡ text) × OfOneModule (IsVerdictAtSomeBudget n) ws o ⊎ IsReadBackEnd file text bytes o
back_at_some n file text bytes ws o (inl h) = inl (h.0, some_of_module n ws o h.1)
back_at_some n file text bytes ws o (inr h) = inr h

pub core_at_some : (n : ℕ) (file text : Bytes) (ws : List Written) (e : CoreEnd) (o : Outcome) → IsCoreOutcome (IsVerdictAtBudget n) file text ws e o → IsCoreOutcome (IsVerdictAtSomeBudget n) file text ws e o
core_at_some n file text ws unwritten o h = h
core_at_some n file text ws (unread u) o h = h
core_at_some n file text ws (contents bytes) o h = back_at_some n file text bytes ws o h
