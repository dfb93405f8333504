-- The outcomes of `build` on one module, each with its cause.
use Rattle.std.specs.Prelude.{◌≡◌, ◌⊎◌, ℕ, List, Option, Some, slice_get, take}
use Rattle.cdle_folder.specs.Files.{Bytes}
use Rattle.cdle_model.specs.Forms.{Written}
use Rattle.build_module.specs.ModuleAnswers.{ModuleAnswer, IsModuleAnswer, gives}
use Rattle.build_outcome.specs.declared.outcome.Outcome.{Outcome}
use Rattle.build_outcome.specs.declared.outcome.Outcome.TheVariants as outcome
use Rattle.build_source.specs.Ends.{IsEndOf}
use Rattle.build_source.specs.Files.{IsUnreadEnd, core_file, source_file}
use Rattle.build_drive.specs.BuildTraces.{CoreEnd, unwritten, unread, contents, BuildTrace, no_source, ending, given}

-- the two agree before that byte, at which each has this, or has ended, and there they differ
pub record DifferAt (wrote read : Bytes) (at : ℕ) (w r : Option ℕ) : Type 0 where
  pub before : take at wrote ≡ take at read
  pub wrote_there : slice_get wrote at ≡ w
  pub read_there : slice_get read at ≡ r
  pub differ : w ≡ r → ⊥

abbrev pub IsReadBackEnd : Bytes → Bytes → Bytes → Outcome → Type 0
IsReadBackEnd file wrote read (outcome.ReadBack name at w r) = (name ≡ file) × DifferAt wrote read at w r
IsReadBackEnd file wrote read o = ⊥

-- The outcome of Core's check of one module's items, where these are the outcomes of the check: never a refusal.
abbrev pub OfOneModule : (List Written → Outcome → Type 0) → List Written → Outcome → Type 0
OfOneModule Verdict ws (outcome.Ok modules items) = (modules ≡ 1) × Verdict ws (outcome.Ok 0 items)
OfOneModule Verdict ws (outcome.Undecided spot budget) = Verdict ws (outcome.Undecided spot budget)
OfOneModule Verdict ws (outcome.Limit name what) = Verdict ws (outcome.Limit name what)
OfOneModule Verdict ws o = ⊥

-- The outcome where a Core file with this text, which says these items, came to this end; these are the outcomes of the check.
abbrev pub IsCoreOutcome : (List Written → Outcome → Type 0) → Bytes → Bytes → List Written → CoreEnd → Outcome → Type 0
IsCoreOutcome Verdict file text ws unwritten o = o ≡ outcome.WriteFault (Some file)
IsCoreOutcome Verdict file text ws (unread u) o = IsUnreadEnd file u o
IsCoreOutcome Verdict file text ws (contents bytes) o = (bytes ≡ text) × OfOneModule Verdict ws o ⊎ IsReadBackEnd file text bytes o

-- the outcome of a trace, where these are the outcomes of the check
abbrev pub IsBuildOutcome : (List Written → Outcome → Type 0) → ℕ → Bytes → BuildTrace → Outcome → Type 0
IsBuildOutcome Verdict n name (no_source u) o = IsUnreadEnd (source_file name) u o
IsBuildOutcome Verdict n name (ending source) o = (a : ModuleAnswer) × IsModuleAnswer n source name a × IsEndOf n (source_file name) source a o
IsBuildOutcome Verdict n name (given source text e) o = (ws : List Written) × IsModuleAnswer n source name (gives ws text) × IsCoreOutcome Verdict (core_file name) text ws e o
