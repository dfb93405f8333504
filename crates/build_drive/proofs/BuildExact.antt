-- Over a folder that tells its files, and where nothing fails, a call of `build` has one outcome.
use Rattle.std.proofs.Common.{◌≡◌, ◌∙◌, ◌⊎◌, inl, inr, ◌<◌, ◌≤◌, ℕ, true, List, Option, Some, None, IfSome, [], length, refl, sym, ap, subst}
use Rattle.std.proofs.lemmas.Slice.Eq.{bytes_eq-Decides}
use Rattle.std.specs.Option.{option_map}
use Rattle.std.specs.Str.{bytes_eq}
use Rattle.cdle_folder.specs.Causes.{Quiet}
use Rattle.cdle_folder.specs.Files.{Bytes, Files, IsLonger, with_file}
use Rattle.cdle_folder.proofs.Causes.{no_rise}
use Rattle.cdle_model.specs.Check.{accepts, check_items}
use Rattle.cdle_model.specs.Forms.{Written}
use Rattle.build_module.specs.ModuleAnswers.{ModuleAnswer, IsModuleAnswer, gives}
use Rattle.build_module.proofs.GivenText.{given_text}
use Rattle.build_module.proofs.OneAnswer.{one_answer}
use Rattle.build_outcome.specs.Changes.{FolderChange, most_bytes}
use Rattle.build_outcome.specs.declared.done.Done.{Done}
use Rattle.build_outcome.specs.declared.outcome.Outcome.{Outcome}
use Rattle.build_outcome.specs.declared.outcome.Outcome.TheVariants as outcome
use Rattle.build_source.specs.Ends.{IsEndOf}
use Rattle.build_source.specs.Files.{Unread, absent, too_long, failed, IsThere, core_file, source_file}
use Rattle.build_drive.specs.BuildAnswers.{IsBuildOutcome, IsCoreOutcome}
use Rattle.build_drive.specs.BuildCalls.{IsBuildCall, IsBuildDetermined}
use Rattle.build_drive.specs.BuildProgress.{IsBuilding}
use Rattle.build_drive.specs.BuildTraces.{BuildTrace, CoreEnd, unwritten, unread, contents, no_source, ending, given, HasWritten, IsBuildTrace, IsCoreTrace, IsFaultlessBuild, IsFaultlessCore, most_core_bytes}
use Rattle.build_drive.specs.Checks.{IsVerdictAtBudget, IsVerdictAtSomeBudget, MatchesVerdict}
use Rattle.build_drive.proofs.BuildEnds.{core_at_some, end-is, one_core, unread-is}
use Rattle.build_drive.proofs.Calls.{longer_some, none_longer, none_some, same_bytes}

-- ---- the trace of a call where nothing fails

-- the file was written, and so it has this text
has_text : (f : Files) (file text : Bytes) → with_file file text f file ≡ Some text
has_text f file text = let same : bytes_eq file file ≡ true = (bytes_eq-Decides file file).1 refl in rw same refl

written_told : (v : FolderChange) (f : Files) (file text : Bytes) → v.before.files ≡ Some f → HasWritten v file text → v.after.files ≡ Some (with_file file text f)
written_told v f file text told h = h ∙ ap (option_map (with_file file text)) told

core_faultless : (v : FolderChange) (f : Files) (file text : Bytes) (e : CoreEnd) → v.before.files ≡ Some f → Quiet v.before.read_faults v.after.read_faults → Quiet v.before.write_faults v.after.write_faults
    → IsCoreTrace v file text e → IsFaultlessCore text e
core_faultless v f file text unwritten told quiet still h = no_rise v.before.write_faults v.after.write_faults h.1 still
core_faultless v f file text (unread failed) told quiet still h = no_rise v.before.read_faults v.after.read_faults h.2 quiet
core_faultless v f file text (unread absent) told quiet still h =
    let none : with_file file text f file ≡ None = subst (λ (o : Option Files). IfSome o (λ g. g file ≡ None)) (written_told v f file text told h.1) h.2.1 in
    none_some (with_file file text f file) text none (has_text f file text)
core_faultless v f file text (unread too_long) told quiet still h =
    let long : IsLonger most_core_bytes (with_file file text f file) = subst (λ (o : Option Files). IfSome o (λ g. IsLonger most_core_bytes (g file))) (written_told v f file text told h.1) h.2 in
    subst (IsLonger most_core_bytes) (has_text f file text) long
core_faultless v f file text (contents bytes) told quiet still h =
    let there : with_file file text f file ≡ Some bytes = subst (λ (o : Option Files). IfSome o (λ g. g file ≡ Some bytes)) (written_told v f file text told h.1) h.2.1 in
    let same : bytes ≡ text = same_bytes (with_file file text f file) bytes text there (has_text f file text) in
    (subst (λ (b : Bytes). length b ≤ most_core_bytes) same h.2.0, same)

told_there : (o : Option Files) (f : Files) (most : ℕ) (file bytes : Bytes) → o ≡ Some f → IsThere o most file bytes → IsThere (Some f) most file bytes
told_there o f most file bytes told h = (h.0, subst (λ (x : Option Files). IfSome x (λ g. g file ≡ Some bytes)) told h.1)

faultless : (v : FolderChange) (f : Files) (name : Bytes) (t : BuildTrace) → v.before.files ≡ Some f → Quiet v.before.read_faults v.after.read_faults → Quiet v.before.write_faults v.after.write_faults
    → IsBuildTrace v name t → IsFaultlessBuild f name t
faultless v f name (no_source absent) told quiet still h = subst (λ (o : Option Files). IfSome o (λ g. g (source_file name) ≡ None)) told h.1.1
faultless v f name (no_source too_long) told quiet still h = subst (λ (o : Option Files). IfSome o (λ g. IsLonger most_bytes (g (source_file name)))) told h.1
faultless v f name (no_source failed) told quiet still h = no_rise v.before.read_faults v.after.read_faults h.1 quiet
faultless v f name (ending source) told quiet still h = told_there v.before.files f most_bytes (source_file name) source told h.1
faultless v f name (given source text e) told quiet still h =
    (told_there v.before.files f most_bytes (source_file name) source told h.0, core_faultless (record { before = record v.before { given = _ }; after = v.after }) f (core_file name) text e told quiet still h.1)

-- ---- the outcomes of what is there

-- what gives a text does not end the call
pub not_ended : {R : Type 0} (n : ℕ) (name file a b : Bytes) (x y : ModuleAnswer) (ws : List Written) (text : Bytes) (o : Outcome) → a ≡ b → IsModuleAnswer n a name x → IsEndOf n file a x o
    → IsModuleAnswer n b name y → y ≡ gives ws text → R
not_ended n name file a b x y ws text o same h e g is =
    let other : IsModuleAnswer n a name y = subst (λ (z : Bytes). IsModuleAnswer n z name y) (sym same) g in
    absurd (subst (λ (z : ModuleAnswer). IsEndOf n file a z o) (one_answer n a name x y h other ∙ is) e)

one_ending : (n : ℕ) (name file a b : Bytes) (x y : ModuleAnswer) (o p : Outcome) → a ≡ b → IsModuleAnswer n a name x → IsEndOf n file a x o → IsModuleAnswer n b name y → IsEndOf n file b y p → p ≡ o
one_ending n name file a b x y o p same h e g d =
    let other : IsModuleAnswer n a name y = subst (λ (z : Bytes). IsModuleAnswer n z name y) (sym same) g in
    let ends : IsEndOf n file a y p = subst (λ (z : Bytes). IsEndOf n file z y p) (sym same) d in
    let found : IsEndOf n file a x p = subst (λ (z : ModuleAnswer). IsEndOf n file a z p) (sym (one_answer n a name x y h other)) ends in
    end-is n file a x p found ∙ sym (end-is n file a x o e)

abbrev items_in : ModuleAnswer → List Written → List Written
items_in (gives ws text) us = ws
items_in a us = us

abbrev text_in : ModuleAnswer → Bytes → Bytes
text_in (gives ws text) b = text
text_in a b = b

-- the same bytes give the same items and the same text
pub same_given : (n : ℕ) (name a b : Bytes) (ws us : List Written) (s t : Bytes) → a ≡ b → IsModuleAnswer n a name (gives ws s) → IsModuleAnswer n b name (gives us t) → (ws ≡ us) × (s ≡ t)
same_given n name a b ws us s t same h g =
    let one = one_answer n a name (gives ws s) (gives us t) h (subst (λ (z : Bytes). IsModuleAnswer n z name (gives us t)) (sym same) g) in
    (ap (λ (x : ModuleAnswer). items_in x []) one, ap (λ (x : ModuleAnswer). text_in x []) one)

pub one_build : (n : ℕ) (f : Files) (name : Bytes) (s t : BuildTrace) (o p : Outcome) → IsFaultlessBuild f name s → IsFaultlessBuild f name t
    → IsBuildOutcome (IsVerdictAtBudget n) n name s o → IsBuildOutcome (IsVerdictAtSomeBudget n) n name t p → p ≡ o
one_build n f name (no_source failed) t o p h g x y = absurd h
one_build n f name s (no_source failed) o p h g x y = absurd g
one_build n f name (no_source absent) (no_source absent) o p h g x y = unread-is (source_file name) absent p y ∙ sym (unread-is (source_file name) absent o x)
one_build n f name (no_source absent) (no_source too_long) o p h g x y = none_longer (f (source_file name)) h g
one_build n f name (no_source absent) (ending source) o p h g x y = none_some (f (source_file name)) source h g.1
one_build n f name (no_source absent) (given source text e) o p h g x y = none_some (f (source_file name)) source h g.0.1
one_build n f name (no_source too_long) (no_source absent) o p h g x y = none_longer (f (source_file name)) g h
one_build n f name (no_source too_long) (no_source too_long) o p h g x y = unread-is (source_file name) too_long p y ∙ sym (unread-is (source_file name) too_long o x)
one_build n f name (no_source too_long) (ending source) o p h g x y = longer_some (f (source_file name)) source h g.0 g.1
one_build n f name (no_source too_long) (given source text e) o p h g x y = longer_some (f (source_file name)) source h g.0.0 g.0.1
one_build n f name (ending a) (no_source absent) o p h g x y = none_some (f (source_file name)) a g h.1
one_build n f name (ending a) (no_source too_long) o p h g x y = longer_some (f (source_file name)) a g h.0 h.1
one_build n f name (ending a) (ending b) o p h g x y = one_ending n name (source_file name) a b x.0 y.0 o p (same_bytes (f (source_file name)) a b h.1 g.1) x.1 x.2 y.1 y.2
one_build n f name (ending a) (given b text e) o p h g x y = not_ended n name (source_file name) a b x.0 (gives y.0 text) y.0 text o (same_bytes (f (source_file name)) a b h.1 g.0.1) x.1 x.2 y.1 refl
one_build n f name (given a text d) (no_source absent) o p h g x y = none_some (f (source_file name)) a g h.0.1
one_build n f name (given a text d) (no_source too_long) o p h g x y = longer_some (f (source_file name)) a g h.0.0 h.0.1
one_build n f name (given a text d) (ending b) o p h g x y = not_ended n name (source_file name) b a y.0 (gives x.0 text) x.0 text p (same_bytes (f (source_file name)) b a g.1 h.0.1) y.1 y.2 x.1 refl
one_build n f name (given a s d) (given b t e) o p h g x y =
    let same = same_given n name a b x.0 y.0 s t (same_bytes (f (source_file name)) a b h.0.1 g.0.1) x.1 y.1 in
    let there : IsFaultlessCore s e = subst (λ (z : Bytes). IsFaultlessCore z e) (sym same.1) g.1 in
    let found : IsCoreOutcome (IsVerdictAtSomeBudget n) (core_file name) s x.0 e p =
    subst (λ (us : List Written). IsCoreOutcome (IsVerdictAtSomeBudget n) (core_file name) s us e p) (sym same.0) (subst (λ (z : Bytes). IsCoreOutcome (IsVerdictAtSomeBudget n) (core_file name) z y.0 e p) (sym same.1) y.2) in
    one_core n (core_file name) s x.0 d e o p h.1 there x.2 found

pub at_some : (n : ℕ) (name : Bytes) (t : BuildTrace) (o : Outcome) → IsBuildOutcome (IsVerdictAtBudget n) n name t o → IsBuildOutcome (IsVerdictAtSomeBudget n) n name t o
at_some n name (no_source u) o h = h
at_some n name (ending source) o h = h
at_some n name (given source text e) o h = (h.0, h.1, core_at_some n (core_file name) text h.0 e o h.2)

-- ---- the whole call

pub exact : (n : ℕ) (v : FolderChange) (name : Bytes) (d : Done) (f : Files) (o : Outcome) → IsBuildCall n v name d → v.before.files ≡ Some f → Quiet v.before.read_faults v.after.read_faults
    → Quiet v.before.write_faults v.after.write_faults → IsBuildDetermined n f name o → (d.outcome ≡ o) ⊎ (d.outcome ≡ outcome.NoMemory)
exact n v name d f o (inl none) told quiet still x = inr none.0
exact n v name d f o (inr h) told quiet still x = inl (one_build n f name x.0 h.0 o d.outcome x.1 (faultless v f name h.0 told quiet still h.1) x.2 h.2)

pub complete : (n : ℕ) (v : FolderChange) (name : Bytes) (d : Done) (f : Files) (source text : Bytes) (ws : List Written) → IsBuildCall n v name d → v.before.files ≡ Some f
    → Quiet v.before.read_faults v.after.read_faults → Quiet v.before.write_faults v.after.write_faults → IsThere (Some f) most_bytes (source_file name) source → IsModuleAnswer n source name (gives ws text)
    → length text ≤ most_core_bytes → check_items n ws ≡ accepts → (d.outcome ≡ outcome.Ok 1 (length ws)) ⊎ (d.outcome ≡ outcome.NoMemory)
complete n v name d f source text ws h told quiet still there answer short e =
    let said = given_text n source name ws text answer in
    let ok : MatchesVerdict ws accepts (outcome.Ok 0 (length ws)) = (refl, refl, said.derived) in
    exact n v name d f (outcome.Ok 1 (length ws)) h told quiet still
    (given source text (contents text), (there, (short, refl)), (ws, answer, inl (refl, (refl, subst (λ x. MatchesVerdict ws x (outcome.Ok 0 (length ws))) (sym e) ok))))
