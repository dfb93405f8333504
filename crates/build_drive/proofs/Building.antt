-- From the parts of a call of `build` to the whole of it.
use Rattle.std.proofs.Common.{◌≡◌, ◌∙◌, ◌⊎◌, inl, inr, ◌≤◌, ℕ, List, [], Option, Result, Ok, Err, IfErr, IfOk, refl, sym, ap, subst}
use Rattle.std.specs.Option.{option_map}
use Rattle.cdle_folder.specs.Causes.{Rose}
use Rattle.cdle_folder.specs.Files.{Bytes, Files, Reads, IsOtherwiseSame, with_file, with_read}
use Rattle.cdle_folder.specs.States.{FolderState}
use Rattle.cdle_model.specs.CoreText.{Says}
use Rattle.cdle_model.specs.Derivation.{AreDerived}
use Rattle.cdle_model.specs.Forms.{Written}
use Rattle.build_outcome.specs.declared.done.Stop.{Stop}
use Rattle.build_outcome.specs.declared.done.Stop.TheVariants as stops
use Rattle.build_outcome.specs.Changes.{FolderChange}
use Rattle.build_outcome.specs.declared.done.Done.{Done}
use Rattle.build_module.proofs.GivenText.{given_text}
use Rattle.build_source.specs.Files.{Unread, absent, too_long, failed, IsUnread, IsUntouched, core_file, source_file}
use Rattle.build_source.specs.Progress.{EndsBefore, HasGiven, IfEnded}
use Rattle.build_drive.specs.BuildCalls.{IsLeft}
use Rattle.build_drive.specs.BuildProgress.{EndsWriting, IsBuilding}
use Rattle.build_drive.specs.BuildTraces.{CoreEnd, unwritten, unread, contents, no_source, ending, given, IsCoreTrace}
use Rattle.build_drive.proofs.Progress.{rose}

abbrev change : FolderState → FolderState → FolderChange
change a z = record { before = a; after = z }

-- the work ended before anything was written
pub ended_before : (n : ℕ) (v : FolderChange) (name : Bytes) (d : Done) → IsUntouched v → EndsBefore n v name d → IsBuilding n v name d
ended_before n v name d same (inl h) = (no_source h.0, (h.1, h.2, same), h.3, h.4)
ended_before n v name d same (inr h) = (ending h.0, (h.1.0, h.1.1, same), (h.2.0, h.2.1, h.2.2), h.2.3)

-- ---- the Core file came to an end, behind the reading of the module's file

abbrev with_given : FolderState → Option Reads → FolderState
with_given a g = record a { given = g }

unread_later : (a m z : FolderState) (g : Option Reads) (most : ℕ) (file : Bytes) (u : Unread) → a.read_faults ≤ m.read_faults → a.absences ≤ m.absences
    → IsUnread (change m z) z.files most file u → IsUnread (change (with_given a g) z) z.files most file u
unread_later a m z g most file absent faults absences h = (rose m.absences a.absences z.absences absences h.0, h.1)
unread_later a m z g most file too_long faults absences h = h
unread_later a m z g most file failed faults absences h = rose m.read_faults a.read_faults z.read_faults faults h

core_later : (a m z : FolderState) (g : Option Reads) (file text : Bytes) (e : CoreEnd) → IsUntouched (change a m) → m.given ≡ g → a.read_faults ≤ m.read_faults → a.absences ≤ m.absences
    → IsCoreTrace (change m z) file text e → IsCoreTrace (change (with_given a g) z) file text e
core_later a m z g file text unwritten same reads faults absences h =
    (h.0 ∙ reads, subst (λ (k : ℕ). Rose k z.write_faults) same.faults h.1, subst (λ (o : Option Files). IsOtherwiseSame file o z.files) same.files h.2)
core_later a m z g file text (unread u) same reads faults absences h =
    (h.0 ∙ reads, h.1 ∙ ap (option_map (with_file file text)) same.files, unread_later a m z g 67108864 file u faults absences h.2)
core_later a m z g file text (contents bytes) same reads faults absences h =
    (h.0 ∙ ap (with_read file bytes) reads, h.1 ∙ ap (option_map (with_file file text)) same.files, h.2)

pub ended_after : (n : ℕ) (a m z : FolderState) (name text : Bytes) (d : Done) → IsUntouched (change a m) → a.read_faults ≤ m.read_faults → a.absences ≤ m.absences
    → HasGiven n (change a m) name text → EndsWriting n (change m z) name text d → IsBuilding n (change a z) name d
ended_after n a m z name text d same faults absences h w =
    let said = given_text n h.0 name h.2.0 text h.2.1 in (
      given h.0 text w.0,
      (h.1.1, core_later a m z (with_read (source_file name) h.0 a.given) (core_file name) text w.0 same h.1.0 faults absences w.1),
      (h.2.0, h.2.1, w.2 h.2.0 said.core_says said.derived),
      w.3,
    )

-- ---- as results

pub stop_before : (n : ℕ) (v : FolderChange) (name : Bytes) (stop : Stop) → IsUntouched v → IfEnded (EndsBefore n v name) stop → IfEnded (IsBuilding n v name) stop
stop_before n v name stops.NoMemory same h = tt
stop_before n v name (stops.Ended d) same h = ended_before n v name d same h

-- what the text says has a derivation
pub text_derived : (n : ℕ) (v : FolderChange) (name text : Bytes) → HasGiven n v name text → (ws : List Written) × Says text [] ws × AreDerived ws
text_derived n v name text h = let said = given_text n h.0 name h.2.0 text h.2.1 in (h.2.0, said.core_says, said.derived)

module _ (n : ℕ) (a m z : FolderState) (name text : Bytes) (same : IsUntouched (change a m)) (faults : a.read_faults ≤ m.read_faults) (absences : a.absences ≤ m.absences) (h : HasGiven n (change a m) name text) where
  pub done_after : (r : Result Done Stop) → IfOk r (EndsWriting n (change m z) name text) → IfOk r (IsBuilding n (change a z) name)
  done_after (Ok d) w = ended_after n a m z name text d same faults absences h w
  done_after (Err stop) w = tt

  pub stop_after : (r : Result Done Stop) → IfErr r (IfEnded (EndsWriting n (change m z) name text)) → IfErr r (IfEnded (IsBuilding n (change a z) name))
  stop_after (Ok d) w = tt
  stop_after (Err stops.NoMemory) w = tt
  stop_after (Err (stops.Ended d)) w = ended_after n a m z name text d same faults absences h w

-- ---- what is left of the files

pub left_before : (n : ℕ) (v : FolderChange) (name : Bytes) → IsUntouched v → IsLeft n v name
left_before n v name same = inl same.files

pub left_after : (n : ℕ) (a m z : FolderState) (name text : Bytes) → IsUntouched (change a m) → HasGiven n (change a m) name text
    → (z.files ≡ m.files) ⊎ ((z.files ≡ option_map (with_file (core_file name) text) m.files) ⊎ Rose m.write_faults z.write_faults × IsOtherwiseSame (core_file name) m.files z.files)
    → IsLeft n (change a z) name
left_after n a m z name text same h (inl e) = inl (e ∙ same.files)
left_after n a m z name text same h (inr (inl e)) = inr (h.0, text, h.1.1.1, h.2, inl (e ∙ ap (option_map (with_file (core_file name) text)) same.files))
left_after n a m z name text same h (inr (inr r)) = inr (
  h.0,
  text,
  h.1.1.1,
  h.2,
  inr (subst (λ (k : ℕ). Rose k z.write_faults) same.faults r.0, subst (λ (o : Option Files). IsOtherwiseSame (core_file name) o z.files) same.files r.1),
)
