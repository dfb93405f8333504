-- The outcome of a module's file that comes to no text, and that its place is in the file.
use Rattle.std.proofs.Common.{◌≡◌, ◌≤◌, inl, inr, ℕ, [], IfOk, Result, Ok, Err, Some, arith, length, refl, subst, sym}
use Rattle.std.specs.Str.{IsUtf8, IsValidUpTo}
use Rattle.build_model.specs.SourceFiles.{NotUtf8, InTokens, InTree}
use Rattle.build_module.specs.Answers.{IsModuleFault, IsScopeFault, IsSourceFault}
use Rattle.build_module.specs.ModuleAnswers.{ModuleAnswer, IsModuleAnswer, gives, no_module, many_items, unscoped, not_built, refuses, spends, deepens}
use Rattle.build_module.specs.declared.fault.ModuleFault.{ModuleFault}
use Rattle.build_module.specs.declared.fault.ModuleFault.TheVariants as faults
use Rattle.scope_model.specs.Scope as model
use Rattle.scope_part.specs.declared.fault.ScopeFault.{ScopeFault}
use Rattle.scope_part.specs.declared.fault.ScopeFault.TheVariants as scope
use Rattle.surf_source.specs.declared.fault.SourceFault.{SourceFault}
use Rattle.surf_source.specs.declared.fault.SourceFault.TheVariants as source
use Rattle.build_outcome.specs.Reports.{IsReported, IsShown}
use Rattle.build_outcome.specs.declared.done.Done.{Done}
use Rattle.build_outcome.specs.declared.outcome.Badness.{Badness}
use Rattle.build_outcome.specs.declared.outcome.Badness.TheVariants as bad
use Rattle.build_outcome.specs.declared.outcome.Outcome.{Outcome}
use Rattle.build_outcome.specs.declared.outcome.Outcome.TheVariants as outcome
use Rattle.build_outcome.specs.declared.outcome.Spot.TheVariants.{CoreSpot, FileSpot}
use Rattle.build_source.specs.Ends.{IsEndOf, IsScopeEnd}
use Rattle.build_source.specs.Files.{source_file}
use Rattle.build_source.specs.Progress.{EndsGiving}
use Rattle.cdle_folder.specs.Files.{Bytes}

-- ---- what a fault stands for

of_source : (n : ℕ) (file text : Bytes) (P : ModuleAnswer → Type 0) (f : SourceFault) (o : Outcome) → IsSourceFault P f → ((a : ModuleAnswer) → IsSourceFault (λ b. b ≡ a) f → IsEndOf n file text a o)
    → (a : ModuleAnswer) × P a × IsEndOf n file text a o
of_source n file text P source.NoMemory o p h = absurd (h (gives [] []) tt)
of_source n file text P (source.NotUtf8 at) o p h = (_, p, h _ refl)
of_source n file text P (source.BadCharacter at) o p h = (_, p, h _ refl)
of_source n file text P (source.OpenComment at) o p h = (_, p, h _ refl)
of_source n file text P (source.Unexpected at what) o p h = (_, p, h _ refl)
of_source n file text P (source.TooDeep at) o p h = (_, p, h _ refl)
of_source n file text P (source.TooMany at what) o p h = (_, p, h _ refl)

of_scope : (n : ℕ) (file text : Bytes) (P : ModuleAnswer → Type 0) (f : ScopeFault) (o : Outcome) → IsScopeFault P f → ((a : ModuleAnswer) → IsScopeFault (λ b. b ≡ a) f → IsEndOf n file text a o)
    → (a : ModuleAnswer) × P a × IsEndOf n file text a o
of_scope n file text P scope.NoMemory o p h = absurd (h (gives [] []) tt)
of_scope n file text P (scope.Unbound s) o p h = (_, p, h _ refl)
of_scope n file text P (scope.WrongClass s) o p h = (_, p, h _ refl)
of_scope n file text P (scope.Twice s) o p h = (_, p, h _ refl)

-- a fault of which there is an outcome stands for something, of which it is the outcome
pub stands : (n : ℕ) (file text : Bytes) (P : ModuleAnswer → Type 0) (f : ModuleFault) (o : Outcome) → IsModuleFault P f → ((a : ModuleAnswer) → IsModuleFault (λ b. b ≡ a) f → IsEndOf n file text a o)
    → (a : ModuleAnswer) × P a × IsEndOf n file text a o
stands n file text P faults.NoMemory o p h = absurd (h (gives [] []) tt)
stands n file text P (faults.Source f) o p h = of_source n file text P f o p h
stands n file text P faults.ManyItems o p h = (_, p, h _ refl)
stands n file text P (faults.Scope f) o p h = of_scope n file text P f o p h
stands n file text P (faults.NotBuilt s) o p h = (_, p, h _ refl)
stands n file text P (faults.Refused s c) o p h = (_, p, h _ refl)
stands n file text P (faults.Spent s) o p h = (_, p, h _ refl)
stands n file text P (faults.TooDeep w) o p h = (_, p, h _ refl)

-- ---- the place

-- each place is in a text
in_text : (text : Bytes) (o : Outcome) → length text ≤ 1048576 → IsUtf8 text → IsShown text o
in_text text (outcome.Malformed file at what) l u = (omega (arith, l), inl u)
in_text text (outcome.Refused (CoreSpot name path) why) l u = tt
in_text text (outcome.Refused (FileSpot file at) why) l u = (omega (arith, l), inl u)
in_text text (outcome.Undecided (CoreSpot name path) n) l u = tt
in_text text (outcome.Undecided (FileSpot file at) n) l u = (omega (arith, l), inl u)
in_text text o l u = tt

-- the place where bytes stop to be a text is told
where_bad : (n : ℕ) (file text : Bytes) (p : ℕ) (o : Outcome) → length text ≤ 1048576 → IsValidUpTo text p → IsEndOf n file text (no_module (NotUtf8 p)) o → IsShown text o
where_bad n file text p (outcome.Malformed name at bad.NotUtf8) l v e = (omega (arith, l), inr (subst (λ (q : ℕ). IsValidUpTo text q) (sym e.1) v))
where_bad n file text p o l v e = absurd e

pub shown : (n : ℕ) (name file text : Bytes) (a : ModuleAnswer) (o : Outcome) → length text ≤ 1048576 → IsModuleAnswer n text name a → IsEndOf n file text a o → IsShown text o
shown n name file text (no_module (NotUtf8 p)) o l i e = where_bad n file text p o l i e
shown n name file text (no_module (InTokens f)) o l i e = in_text text o l i.0
shown n name file text (no_module (InTree f)) o l i e = in_text text o l i.0
shown n name file text many_items o l i e = in_text text o l i.1.utf8
shown n name file text (unscoped f) o l i e = in_text text o l i.1.source.utf8
shown n name file text (not_built p) o l i e = in_text text o l i.1.source.utf8
shown n name file text (refuses p c) o l i e = in_text text o l i.2.is.source.utf8
shown n name file text (spends p) o l i e = in_text text o l i.2.is.source.utf8
shown n name file text (deepens w) o l i e = in_text text o l i.2.is.source.utf8
shown n name file text (gives ws t) o l i e = absurd e

-- ---- the end of the call

pub end_shown : (n : ℕ) (name file text : Bytes) (f : ModuleFault) (o : Outcome) → length text ≤ 1048576 → IsModuleFault (IsModuleAnswer n text name) f
    → ((a : ModuleAnswer) → IsModuleFault (λ b. b ≡ a) f → IsEndOf n file text a o) → IsShown text o
end_shown n name file text f o l p h = let s = stands n file text (IsModuleAnswer n text name) f o p h in shown n name file text s.0 o l s.1 s.2

pub ends_giving : (n : ℕ) (name file text : Bytes) (f : ModuleFault) (o : Outcome) (d : Done) → IsModuleFault (IsModuleAnswer n text name) f → file ≡ source_file name
    → ((a : ModuleAnswer) → IsModuleFault (λ b. b ≡ a) f → IsEndOf n file text a o) → d.outcome ≡ o → IsReported (Some name) text d → EndsGiving n name text d
ends_giving n name file text f o d p e h same r =
    let s = stands n file text (IsModuleAnswer n text name) f o p h in
    (s.0, s.1, subst (λ (x : Outcome). IsEndOf n (source_file name) text s.0 x) (sym same) (subst (λ (x : Bytes). IsEndOf n x text s.0 o) e s.2), r)

pub all_ends_giving : {E : Type 0} (n : ℕ) (name file text : Bytes) (f : ModuleFault) (o : Outcome) (r : Result Done E) → IsModuleFault (IsModuleAnswer n text name) f → file ≡ source_file name
    → ((a : ModuleAnswer) → IsModuleFault (λ b. b ≡ a) f → IsEndOf n file text a o) → IfOk r (λ d. d.outcome ≡ o) → IfOk r (IsReported (Some name) text) → IfOk r (EndsGiving n name text)
all_ends_giving n name file text f o (Ok d) p e h same r = ends_giving n name file text f o d p e h same r
all_ends_giving n name file text f o (Err e) p q h same r = tt

pub ends_unscoped : {E : Type 0} (file text : Bytes) (f : ScopeFault) (x : model.ScopeFault) (at : ℕ) (what : Badness) (r : Result Outcome E) → ((a : ModuleAnswer) → IsScopeFault (λ b. b ≡ a) f → unscoped x ≡ a)
    → IsScopeEnd text x at what → IfOk r (λ o. o ≡ outcome.Malformed file at what) → IfOk r (λ o. (n : ℕ) (a : ModuleAnswer) → IsScopeFault (λ b. b ≡ a) f → IsEndOf n file text a o)
ends_unscoped file text f x at what (Ok o) g h e =
    λ n a s. subst (λ (y : ModuleAnswer). IsEndOf n file text y o) (g a s) (subst (λ (z : Outcome). IsEndOf n file text (unscoped x) z) (sym e) (refl, h))
ends_unscoped file text f x at what (Err d) g h e = tt
