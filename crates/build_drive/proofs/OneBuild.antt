-- Where nothing fails a module's name and any files have one outcome of `build`, or the check of what is given is spent.
use Rattle.std.proofs.Common.{◌≡◌, ◌∙◌, ◌⊎◌, inl, inr, ◌<◌, ◌≤◌, ◌++◌, ℕ, suc, List, [], ◌∷◌, Option, Some, None, length, take, refl, sym, ap, subst, arith}
use Rattle.std.proofs.lemmas.Bool.{cases_lt}
use Rattle.cdle_folder.specs.Files.{Bytes, Files, IsLonger}
use Rattle.cdle_model.specs.Check.{ListVerdict, accepts, refuses, spends, ends, duplicate, check_items}
use Rattle.cdle_model.specs.Derivation.{AreDerived}
use Rattle.cdle_model.specs.Forms.{Written}
use Rattle.cdle_model.specs.HeadForms.{deep}
use Rattle.cdle_model.specs.declared.grammar.Count.TheVariants.{Bytes as OfBytes, Depth, Items, Nesting}
use Rattle.source_model.specs.Parsing.{Unexpected, TooDeep, TooMany}
use Rattle.source_model.specs.SurfaceTokens.{BadCharacter, OpenComment}
use Rattle.scope_model.specs.Scope.{Unbound, WrongClass, Twice}
use Rattle.build_model.specs.SourceFiles.{InTokens, InTree, NotUtf8}
use Rattle.build_module.specs.ModuleAnswers.{ModuleAnswer, IsModuleAnswer, gives, no_module, many_items, unscoped, not_built, refuses as rules_refuse, spends as rules_spend, deepens}
use Rattle.build_module.proofs.GivenText.{given_text}
use Rattle.build_module.proofs.OneAnswer.{an_answer}
use Rattle.build_outcome.specs.Changes.{most_bytes}
use Rattle.build_outcome.specs.declared.outcome.Outcome.{Outcome}
use Rattle.build_outcome.specs.declared.outcome.Outcome.TheVariants as outcome
use Rattle.build_outcome.specs.declared.outcome.Reason.TheVariants.{Core, Duplicate}
use Rattle.build_source.specs.Ends.{IsEndOf}
use Rattle.build_source.specs.Files.{absent, too_long, failed, IsThere, core_file, source_file}
use Rattle.build_drive.specs.BuildAnswers.{IsBuildOutcome, IsCoreOutcome, OfOneModule}
use Rattle.build_drive.specs.BuildCalls.{IsBuildDetermined, IsBuildSpent}
use Rattle.build_drive.specs.BuildTraces.{BuildTrace, CoreEnd, unwritten, unread, contents, no_source, ending, given, IsFaultlessBuild, IsFaultlessCore, most_core_bytes}
use Rattle.build_drive.specs.Checks.{IsVerdictAtBudget, MatchesVerdict}
use Rattle.build_drive.proofs.BuildEnds.{as_module, checked_back, end_outcome, of_core, too_long_short}
use Rattle.build_drive.proofs.BuildExact.{at_some, not_ended, one_build, same_given}
use Rattle.build_drive.proofs.Calls.{longer_some, none_some, same_bytes}
use Rattle.build_drive.proofs.Items.{said-over}
use Rattle.build_drive.proofs.Verdicts.{unspent, verdict-there}
use Rattle.build_drive.proofs.Writing.{derived-before}

-- ---- there is one

-- the end that an answer other than a text is
ends_so : (n : ℕ) (file source name : Bytes) (a : ModuleAnswer) → IsModuleAnswer n source name a → ((o : Outcome) × IsEndOf n file source a o) ⊎ ((ws : List Written) × (text : Bytes) × (a ≡ gives ws text))
ends_so n file source name (gives ws text) h = inr (ws, text, refl)
ends_so n file source name (no_module (NotUtf8 p)) h = inl (end_outcome n file source (no_module (NotUtf8 p)), (refl, refl))
ends_so n file source name (no_module (InTokens (BadCharacter p))) h = inl (end_outcome n file source (no_module (InTokens (BadCharacter p))), (refl, refl))
ends_so n file source name (no_module (InTokens (OpenComment p))) h = inl (end_outcome n file source (no_module (InTokens (OpenComment p))), (refl, refl))
ends_so n file source name (no_module (InTree (Unexpected p w))) h = inl (end_outcome n file source (no_module (InTree (Unexpected p w))), (refl, refl, refl))
ends_so n file source name (no_module (InTree (TooDeep p))) h = inl (outcome.Limit file Nesting, refl)
ends_so n file source name (no_module (InTree (TooMany p what))) h = inl (outcome.Limit file what, (refl, refl))
ends_so n file source name many_items h = inl (outcome.Limit file Items, refl)
ends_so n file source name (unscoped (Unbound p)) h = inl (end_outcome n file source (unscoped (Unbound p)), (refl, (refl, (h.1.source.tokens, h.1.source.cut, rw h.1.source.cut refl))))
ends_so n file source name (unscoped (WrongClass p)) h = inl (end_outcome n file source (unscoped (WrongClass p)), (refl, (refl, (h.1.source.tokens, h.1.source.cut, rw h.1.source.cut refl))))
ends_so n file source name (unscoped (Twice p)) h = inl (end_outcome n file source (unscoped (Twice p)), (refl, (refl, (h.1.source.tokens, h.1.source.cut, rw h.1.source.cut refl))))
ends_so n file source name (not_built p) h = inl (end_outcome n file source (not_built p), (refl, refl))
ends_so n file source name (rules_refuse p c) h = inl (end_outcome n file source (rules_refuse p c), ((refl, refl), refl))
ends_so n file source name (rules_spend p) h = inl (end_outcome n file source (rules_spend p), ((refl, refl), refl))
ends_so n file source name (deepens w) h = inl (outcome.Limit w Depth, refl)

-- the check of items that have a derivation, as that of one module
one_module : (n : ℕ) (ws : List Written) (v : ListVerdict) (o : Outcome) → AreDerived ws → check_items n ws ≡ v → MatchesVerdict ws v o → OfOneModule (IsVerdictAtBudget n) ws (as_module o)
one_module n ws accepts (outcome.Ok modules items) derived e h = (refl, subst (λ x. MatchesVerdict ws x (outcome.Ok 0 items)) (sym e) (refl, h.1, h.2))
one_module n ws (refuses i path reason) (outcome.Refused spot (Core why)) derived e h = absurd (h.2 (derived-before (suc i) [] ws derived))
one_module n ws (duplicate i earlier) (outcome.Refused spot (Duplicate d)) derived e h = absurd (h.2 (derived-before (suc i) [] ws derived))
one_module n ws (ends i deep) (outcome.Limit name Depth) derived e h = subst (λ x. MatchesVerdict ws x (outcome.Limit name Depth)) (sym e) h
one_module n ws v o derived e h = absurd h

abbrev Settled : ℕ → Files → Bytes → Type 0
Settled n f name = ((o : Outcome) × IsBuildDetermined n f name o) ⊎ IsBuildSpent n f name

text_settled : (n : ℕ) (f : Files) (name source text : Bytes) (ws : List Written) → IsThere (Some f) most_bytes (source_file name) source → IsModuleAnswer n source name (gives ws text) → Settled n f name
text_settled n f name source text ws there answer = elim (cases_lt most_core_bytes (length text)) [
  | inl long ↦ inl (outcome.Limit (core_file name) OfBytes, (given source text (unread too_long), (there, long), (ws, answer, refl)))
  | inr short ↦
      let said = given_text n source name ws text answer in
      elim (verdict-there n ws (said-over text [] ws said.core_says)) [
        | inl verdict ↦ inl (
          as_module verdict.0,
          (
            given source text (contents text),
            (there, (short, refl)),
            (ws, answer, inl (refl, one_module n ws (check_items n ws) verdict.0 said.derived refl verdict.1)),
          ),
        )
        | inr spent ↦ inr (source, text, ws, there, answer, short, spent.0, spent.1, spent.2)
      ]
]

source_settled : (n : ℕ) (f : Files) (name source : Bytes) → IsThere (Some f) most_bytes (source_file name) source → Settled n f name
source_settled n f name source there =
    let a = an_answer n source name in
    elim (ends_so n (source_file name) source name a.0 a.1) [
      | inl ended ↦ inl (ended.0, (ending source, there, (a.0, a.1, ended.1)))
      | inr text ↦ text_settled n f name source text.1 text.0 there (subst (IsModuleAnswer n source name) text.2 a.1)
    ]

at_source : (n : ℕ) (f : Files) (name : Bytes) (o : Option Bytes) → f (source_file name) ≡ o → Settled n f name
at_source n f name None e = inl (outcome.Missing (source_file name), (no_source absent, e, refl))
at_source n f name (Some source) e = elim (cases_lt most_bytes (length source)) [
  | inl long ↦ inl (outcome.Limit (source_file name) OfBytes, (no_source too_long, subst (IsLonger most_bytes) (sym e) long, refl))
  | inr short ↦ source_settled n f name source (short, e)
]

pub determined_or_spent : (n : ℕ) (f : Files) (name : Bytes) → Settled n f name
determined_or_spent n f name = at_source n f name (f (source_file name)) refl

-- ---- only one

pub one_determined : (n : ℕ) (f : Files) (name : Bytes) (o p : Outcome) → IsBuildDetermined n f name o → IsBuildDetermined n f name p → o ≡ p
one_determined n f name o p h g = one_build n f name g.0 h.0 p o g.1 h.1 g.2 (at_some n name h.0 o h.2)

-- ---- an outcome leaves the check unspent

core_unspent : (n : ℕ) (file text : Bytes) (ws us : List Written) (e : CoreEnd) (o : Outcome) → us ≡ ws → IsFaultlessCore text e → IsCoreOutcome (IsVerdictAtBudget n) file text us e o → length text ≤ most_core_bytes
    → (i : ℕ) (p : List ℕ) → check_items n ws ≡ spends i p → ⊥
core_unspent n file text ws us (unread too_long) o same h x short i p e = too_long_short text h short
core_unspent n file text ws us (contents bytes) o same h x short i p e =
    unspent us (check_items n us) _ (of_core (IsVerdictAtBudget n) us o (checked_back (IsVerdictAtBudget n) file text bytes us o h.1 x)) i p (ap (check_items n) same ∙ e)
core_unspent n file text ws us (unread absent) o same h x short i p e = absurd h
core_unspent n file text ws us (unread failed) o same h x short i p e = absurd h
core_unspent n file text ws us unwritten o same h x short i p e = absurd h

spent_trace : (n : ℕ) (f : Files) (name : Bytes) (t : BuildTrace) (o : Outcome) → IsBuildSpent n f name → IsFaultlessBuild f name t → IsBuildOutcome (IsVerdictAtBudget n) n name t o → ⊥
spent_trace n f name (no_source absent) o s h x = none_some (f (source_file name)) s.0 h s.3.1
spent_trace n f name (no_source too_long) o s h x = longer_some (f (source_file name)) s.0 h s.3.0 s.3.1
spent_trace n f name (no_source failed) o s h x = absurd h
spent_trace n f name (ending a) o s h x = not_ended n name (source_file name) a s.0 x.0 (gives s.2 s.1) s.2 s.1 o (same_bytes (f (source_file name)) a s.0 h.1 s.3.1) x.1 x.2 s.4 refl
spent_trace n f name (given a text e) o s h x =
    let same = same_given n name a s.0 x.0 s.2 text s.1 (same_bytes (f (source_file name)) a s.0 h.0.1 s.3.1) x.1 s.4 in
    core_unspent n (core_file name) text s.2 x.0 e o same.0 h.1 x.2 (subst (λ (b : Bytes). length b ≤ most_core_bytes) (sym same.1) s.5) s.6 s.7 s.8

pub not_spent : (n : ℕ) (f : Files) (name : Bytes) (o : Outcome) → IsBuildSpent n f name → IsBuildDetermined n f name o → ⊥
not_spent n f name o s h = spent_trace n f name h.0 o s h.1 h.2
