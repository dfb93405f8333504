-- The trace of a call of `core` over its files, in their order.
use Rattle.std.specs.Prelude.{◌≡◌, ◌≤◌, ℕ, List, [], ◌∷◌, Option, Some, None, IfSome, length}
use Rattle.cdle_folder.specs.Causes.{Rose}
use Rattle.cdle_folder.specs.Files.{Bytes, Files, Reads, IsLonger, with_read}
use Rattle.build_outcome.specs.Changes.{FolderChange, most_bytes}

-- That there were no more files; or the next file, by its name, which was not there, or too long, or not read, or whose bytes ended the call;
-- or the bytes of the next file, behind which the call went on, and the trace from there on.
pub data Trace : Type 0 where
  no_more : Trace
  absent : Bytes → Trace
  too_long : Bytes → Trace
  unread : Bytes → Trace
  ending : Bytes → Bytes → Trace
  contents : Bytes → Bytes → Trace → Trace

-- This is the trace of the call over these files, when its reads had given that much. What was read is what the folder has there, where it tells; a
-- read that failed, or found nothing, was counted in this call; and the folder gave just the files that were read, and nothing after.
abbrev pub IsTrace : FolderChange → Option Reads → List Bytes → Trace → Type 0
IsTrace v given [] no_more = v.after.given ≡ given
IsTrace v given (file ∷ files) (absent name) = (name ≡ file) × (v.after.given ≡ given) × Rose v.before.absences v.after.absences × IfSome v.before.files (λ f. f file ≡ None)
IsTrace v given (file ∷ files) (too_long name) = (name ≡ file) × (v.after.given ≡ given) × IfSome v.before.files (λ f. IsLonger most_bytes (f file))
IsTrace v given (file ∷ files) (unread name) = (name ≡ file) × (v.after.given ≡ given) × Rose v.before.read_faults v.after.read_faults
IsTrace v given (file ∷ files) (ending name bytes) = (name ≡ file) × (v.after.given ≡ with_read file bytes given) × (length bytes ≤ most_bytes) × IfSome v.before.files (λ f. f file ≡ Some bytes)
IsTrace v given (file ∷ files) (contents name bytes rest) = (name ≡ file) × (length bytes ≤ most_bytes) × IfSome v.before.files (λ f. f file ≡ Some bytes) × IsTrace v (with_read file bytes given) files rest
IsTrace v given files s = ⊥

-- this is the trace of a call over these files of the folder, where nothing fails
abbrev pub IsFaultlessTrace : Files → List Bytes → Trace → Type 0
IsFaultlessTrace f [] no_more = Unit {0}
IsFaultlessTrace f (file ∷ files) (absent name) = (name ≡ file) × (f file ≡ None)
IsFaultlessTrace f (file ∷ files) (too_long name) = (name ≡ file) × IsLonger most_bytes (f file)
IsFaultlessTrace f (file ∷ files) (ending name bytes) = (name ≡ file) × (length bytes ≤ most_bytes) × (f file ≡ Some bytes)
IsFaultlessTrace f (file ∷ files) (contents name bytes rest) = (name ≡ file) × (length bytes ≤ most_bytes) × (f file ≡ Some bytes) × IsFaultlessTrace f files rest
IsFaultlessTrace f files s = ⊥

-- the bytes of the file at which the call ended, where it read that
abbrev pub ending_text : Trace → Bytes
ending_text (ending file bytes) = bytes
ending_text (contents file bytes rest) = ending_text rest
ending_text s = []
