-- What a call of `build` that built, or refused, says of the two files.
use Rattle.std.proofs.Common.{◌≡◌, ◌∙◌, ◌⊎◌, inl, inr, ℕ, List, Option, Some, IfSome, refl, sym, ap, subst}
use Rattle.cdle_folder.specs.Files.{Bytes, Files, with_read}
use Rattle.cdle_model.specs.Check.{check_items}
use Rattle.cdle_model.specs.Forms.{Written}
use Rattle.cdle_model.proofs.Undecided.{undecided-spent}
use Rattle.source_model.specs.Parsing.{Unexpected, TooDeep, TooMany}
use Rattle.build_model.specs.SourceFiles.{InTokens, InTree, NotUtf8}
use Rattle.build_module.specs.ModuleAnswers.{ModuleAnswer, IsModuleAnswer, gives, no_module, many_items, unscoped, not_built, refuses, spends, deepens}
use Rattle.build_module.proofs.GivenText.{given_text}
use Rattle.build_outcome.specs.Changes.{FolderChange}
use Rattle.build_outcome.specs.declared.done.Done.{Done}
use Rattle.build_outcome.specs.declared.outcome.Outcome.{Outcome}
use Rattle.build_outcome.specs.declared.outcome.Outcome.TheVariants as outcome
use Rattle.build_outcome.specs.declared.outcome.Reason.{Reason}
use Rattle.build_outcome.specs.declared.outcome.Spot.{Spot}
use Rattle.build_source.specs.Ends.{IsEndOf}
use Rattle.build_source.specs.Files.{Unread, absent, too_long, failed, IsUnreadEnd, core_file, source_file}
use Rattle.build_drive.specs.BuildAnswers.{IsBuildOutcome, IsReadBackEnd, OfOneModule}
use Rattle.build_drive.specs.BuildCalls.{IsBuilt, IsRefusedSource, IsUndecidedModule}
use Rattle.build_drive.specs.BuildProgress.{IsBuilding}
use Rattle.build_drive.specs.BuildTraces.{BuildTrace, unwritten, unread, contents, no_source, ending, given, IsBuildTrace}
use Rattle.build_drive.specs.Checks.{IsVerdictAtSomeBudget}
use Rattle.build_drive.proofs.Theorem.{accepted-told}

-- ---- built

no_unread_ok : {R : Type 0} (file : Bytes) (u : Unread) (modules items : ℕ) → IsUnreadEnd file u (outcome.Ok modules items) → R
no_unread_ok file absent modules items h = absurd h
no_unread_ok file too_long modules items h = absurd h
no_unread_ok file failed modules items h = absurd h

no_end_ok : {R : Type 0} (n : ℕ) (file text : Bytes) (a : ModuleAnswer) (modules items : ℕ) → IsEndOf n file text a (outcome.Ok modules items) → R
no_end_ok n file text (no_module (NotUtf8 p)) modules items h = absurd h
no_end_ok n file text (no_module (InTokens f)) modules items h = absurd h
no_end_ok n file text (no_module (InTree (Unexpected p w))) modules items h = absurd h
no_end_ok n file text (no_module (InTree (TooDeep p))) modules items h = absurd h
no_end_ok n file text (no_module (InTree (TooMany p w))) modules items h = absurd h
no_end_ok n file text (gives ws core) modules items h = absurd h
no_end_ok n file text many_items modules items h = absurd h
no_end_ok n file text (unscoped f) modules items h = absurd h
no_end_ok n file text (not_built p) modules items h = absurd h
no_end_ok n file text (refuses p c) modules items h = absurd h
no_end_ok n file text (spends p) modules items h = absurd h
no_end_ok n file text (deepens w) modules items h = absurd h

pub no_end_usage : {R : Type 0} (n : ℕ) (file text : Bytes) (a : ModuleAnswer) → IsEndOf n file text a outcome.Usage → R
no_end_usage n file text (no_module (NotUtf8 p)) h = absurd h
no_end_usage n file text (no_module (InTokens f)) h = absurd h
no_end_usage n file text (no_module (InTree (Unexpected p w))) h = absurd h
no_end_usage n file text (no_module (InTree (TooDeep p))) h = absurd h
no_end_usage n file text (no_module (InTree (TooMany p w))) h = absurd h
no_end_usage n file text (gives ws core) h = absurd h
no_end_usage n file text many_items h = absurd h
no_end_usage n file text (unscoped f) h = absurd h
no_end_usage n file text (not_built p) h = absurd h
no_end_usage n file text (refuses p c) h = absurd h
no_end_usage n file text (spends p) h = absurd h
no_end_usage n file text (deepens w) h = absurd h

-- the bytes read back are those written, and the check accepts their items
of_back : (n : ℕ) (v : FolderChange) (name source text bytes : Bytes) (ws : List Written) (modules items : ℕ) → IsBuildTrace v name (given source text (contents bytes)) → IsModuleAnswer n source name (gives ws text)
    → (bytes ≡ text) × OfOneModule (IsVerdictAtSomeBudget n) ws (outcome.Ok modules items) ⊎ IsReadBackEnd (core_file name) text bytes (outcome.Ok modules items) → IsBuilt n v name modules items
of_back n v name source text bytes ws modules items trace answer (inr h) = absurd h
of_back n v name source text bytes ws modules items trace answer (inl h) = record {
  source = source;
  core = text;
  all = ws;
  source_there = trace.0.1;
  core_there = subst (λ (b : Bytes). IfSome v.after.files (λ f. f (core_file name) ≡ Some b)) h.0 trace.1.2.1;
  given = trace.1.0 ∙ ap (λ (b : Bytes). with_read (core_file name) b (with_read (source_file name) source v.before.given)) h.0;
  by_rules = answer;
  of_source = given_text n source name ws text answer;
  one = h.1.0;
  count = (accepted-told ws (check_items h.1.1.0 ws) 0 items h.1.1.1).1;
}

of_ok : (n : ℕ) (v : FolderChange) (name : Bytes) (t : BuildTrace) (modules items : ℕ) → IsBuildTrace v name t → IsBuildOutcome (IsVerdictAtSomeBudget n) n name t (outcome.Ok modules items) → IsBuilt n v name modules items
of_ok n v name (no_source u) modules items trace out = no_unread_ok (source_file name) u modules items out
of_ok n v name (ending source) modules items trace out = no_end_ok n (source_file name) source out.0 modules items out.2
of_ok n v name (given source text unwritten) modules items trace out = absurd (let e = out.2 in cc)
of_ok n v name (given source text (unread u)) modules items trace out = no_unread_ok (core_file name) u modules items out.2
of_ok n v name (given source text (contents bytes)) modules items trace out = of_back n v name source text bytes out.0 modules items trace out.1 out.2

pub built : (n : ℕ) (v : FolderChange) (name : Bytes) (d : Done) (modules items : ℕ) → IsBuilding n v name d → d.outcome ≡ outcome.Ok modules items → IsBuilt n v name modules items
built n v name d modules items h e = of_ok n v name h.0 modules items h.1 (subst (IsBuildOutcome (IsVerdictAtSomeBudget n) n name h.0) e h.2)

-- ---- refused

no_unread_refused : {R : Type 0} (file : Bytes) (u : Unread) (place : Spot) (why : Reason) → IsUnreadEnd file u (outcome.Refused place why) → R
no_unread_refused file absent place why h = absurd h
no_unread_refused file too_long place why h = absurd h
no_unread_refused file failed place why h = absurd h

no_back_refused : {R : Type 0} (n : ℕ) (file text bytes : Bytes) (ws : List Written) (place : Spot) (why : Reason)
    → (bytes ≡ text) × OfOneModule (IsVerdictAtSomeBudget n) ws (outcome.Refused place why) ⊎ IsReadBackEnd file text bytes (outcome.Refused place why) → R
no_back_refused n file text bytes ws place why (inl h) = absurd h.1
no_back_refused n file text bytes ws place why (inr h) = absurd h

of_refused : (n : ℕ) (v : FolderChange) (name : Bytes) (t : BuildTrace) (place : Spot) (why : Reason) → IsBuildTrace v name t → IsBuildOutcome (IsVerdictAtSomeBudget n) n name t (outcome.Refused place why)
    → IsRefusedSource n v name place why
of_refused n v name (no_source u) place why trace out = no_unread_refused (source_file name) u place why out
of_refused n v name (ending source) place why trace out = (source, trace.1.1, trace.0, out.0, out.1, out.2)
of_refused n v name (given source text unwritten) place why trace out = absurd (let e = out.2 in cc)
of_refused n v name (given source text (unread u)) place why trace out = no_unread_refused (core_file name) u place why out.2
of_refused n v name (given source text (contents bytes)) place why trace out = no_back_refused n (core_file name) text bytes out.0 place why out.2

pub refused_source : (n : ℕ) (v : FolderChange) (name : Bytes) (d : Done) (place : Spot) (why : Reason) → IsBuilding n v name d → d.outcome ≡ outcome.Refused place why → IsRefusedSource n v name place why
refused_source n v name d place why h e = of_refused n v name h.0 place why h.1 (subst (IsBuildOutcome (IsVerdictAtSomeBudget n) n name h.0) e h.2)

-- ---- undecided

no_unread_undecided : {R : Type 0} (file : Bytes) (u : Unread) (place : Spot) (units : ℕ) → IsUnreadEnd file u (outcome.Undecided place units) → R
no_unread_undecided file absent place units h = absurd h
no_unread_undecided file too_long place units h = absurd h
no_unread_undecided file failed place units h = absurd h

-- at a question of the rules
spent_end : (n : ℕ) (v : FolderChange) (name source : Bytes) (a : ModuleAnswer) (place : Spot) (units : ℕ) → IfSome v.before.files (λ f. f (source_file name) ≡ Some source) → IsModuleAnswer n source name a
    → IsEndOf n (source_file name) source a (outcome.Undecided place units) → (units ≡ n) × IsUndecidedModule n v name place
spent_end n v name source (spends p) place units told answer h = (h.1, (source, told, inl (p, answer, h.0)))
spent_end n v name source (no_module (NotUtf8 p)) place units told answer h = absurd h
spent_end n v name source (no_module (InTokens f)) place units told answer h = absurd h
spent_end n v name source (no_module (InTree (Unexpected p w))) place units told answer h = absurd h
spent_end n v name source (no_module (InTree (TooDeep p))) place units told answer h = absurd h
spent_end n v name source (no_module (InTree (TooMany p w))) place units told answer h = absurd h
spent_end n v name source (gives ws core) place units told answer h = absurd h
spent_end n v name source many_items place units told answer h = absurd h
spent_end n v name source (unscoped f) place units told answer h = absurd h
spent_end n v name source (not_built p) place units told answer h = absurd h
spent_end n v name source (refuses p c) place units told answer h = absurd h
spent_end n v name source (deepens w) place units told answer h = absurd h

-- in the check of the Core file
spent_back : (n : ℕ) (v : FolderChange) (name source text bytes : Bytes) (ws : List Written) (place : Spot) (units : ℕ) → IfSome v.before.files (λ f. f (source_file name) ≡ Some source) → IsModuleAnswer n source name (gives ws text)
    → (bytes ≡ text) × OfOneModule (IsVerdictAtSomeBudget n) ws (outcome.Undecided place units) ⊎ IsReadBackEnd (core_file name) text bytes (outcome.Undecided place units) → (units ≡ n) × IsUndecidedModule n v name place
spent_back n v name source text bytes ws place units told answer (inr h) = absurd h
spent_back n v name source text bytes ws place units told answer (inl h) =
    let g = h.1 in let spent = undecided-spent n g.4 ws g.1 g.2 g.5 in
    (g.0, (source, told, inr (ws, text, answer, g.1, g.2, g.3, g.4, g.5, spent.0, spent.1, spent.2)))

of_undecided : (n : ℕ) (v : FolderChange) (name : Bytes) (t : BuildTrace) (place : Spot) (units : ℕ) → IsBuildTrace v name t → IsBuildOutcome (IsVerdictAtSomeBudget n) n name t (outcome.Undecided place units)
    → (units ≡ n) × IsUndecidedModule n v name place
of_undecided n v name (no_source u) place units trace out = no_unread_undecided (source_file name) u place units out
of_undecided n v name (ending source) place units trace out = spent_end n v name source out.0 place units trace.1.1 out.1 out.2
of_undecided n v name (given source text unwritten) place units trace out = absurd (let e = out.2 in cc)
of_undecided n v name (given source text (unread u)) place units trace out = no_unread_undecided (core_file name) u place units out.2
of_undecided n v name (given source text (contents bytes)) place units trace out = spent_back n v name source text bytes out.0 place units trace.0.1 out.1 out.2

pub undecided_module : (n : ℕ) (v : FolderChange) (name : Bytes) (d : Done) (place : Spot) (units : ℕ) → IsBuilding n v name d → d.outcome ≡ outcome.Undecided place units → (units ≡ n) × IsUndecidedModule n v name place
undecided_module n v name d place units h e = of_undecided n v name h.0 place units h.1 (subst (IsBuildOutcome (IsVerdictAtSomeBudget n) n name h.0) e h.2)
