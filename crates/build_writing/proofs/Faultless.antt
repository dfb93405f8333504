-- Where nothing fails, the writing of any files has one end.
use Rattle.std.proofs.Common.{◌≡◌, ◌∙◌, inl, inr, ◌<◌, ◌≤◌, ◌++◌, ℕ, zero, suc, Bool, true, false, List, [], ◌∷◌, Option, Some, None, IfSome, All, ap, arith, length, option_map, refl, subst, sym, take}
use Rattle.std.specs.Prelude.{slice_get}
use Rattle.std.specs.Str.{bytes_eq}
use Rattle.std.proofs.lemmas.Bool.{cases_lt}
use Rattle.std.proofs.lemmas.List.Elements.{All-cons, All-contains, All-head, All-nil, All-tail, All-weaker, Contains-push}
use Rattle.std.proofs.lemmas.Slice.Eq.{bytes_eq-Decides}
use Rattle.cdle_folder.specs.Causes.{Quiet}
use Rattle.cdle_folder.specs.Files.{Bytes, Files, IsLonger, with_file}
use Rattle.cdle_folder.proofs.Causes.{no_rise}
use Rattle.build_outcome.specs.Changes.{FolderChange}
use Rattle.build_writing.specs.Files.{absent, too_long, failed, IsThere, DifferAt}
use Rattle.build_writing.specs.Writing.{HaveWritten, IsFaultlessWriting, IsWriting, NamesDiffer, Output, WritingEnd, all_same, differs, most_core_bytes, unread, unwritten, with_files}

abbrev IsShort : Output → Type 0
IsShort file = length file.1 ≤ most_core_bytes

abbrev HasEnd : List Output → Type 0
HasEnd files = (end : WritingEnd) × IsFaultlessWriting files end

-- ---- there is an end

behind_short : (file : Output) (files : List Output) (end : WritingEnd) → IsShort file → IsFaultlessWriting files end → HasEnd (file ∷ files)
behind_short file files all_same short h = (all_same, All-cons IsShort file files short h)
behind_short file files (unread i too_long) short h = (unread (suc i) too_long, (h.0, h.1, h.2, All-cons IsShort file (take i files) short h.3))
behind_short file files (unread i absent) short h = absurd h
behind_short file files (unread i failed) short h = absurd h
behind_short file files (unwritten i) short h = absurd h
behind_short file files (differs i at w r) short h = absurd h

pub has_end : (files : List Output) → HasEnd files
has_end [] = (all_same, All-nil IsShort)
has_end (file ∷ files) = elim (cases_lt most_core_bytes (length file.1)) [
  | inl long ↦ (unread 0 too_long, (file, refl, long, All-nil IsShort))
  | inr short ↦ let rest = has_end files in behind_short file files rest.0 short rest.1
]

-- ---- and only one

-- the file there is the first one that is too long
abbrev IsFirstLong : List Output → ℕ → Type 0
IsFirstLong files i = (file : Output) × (slice_get files i ≡ Some file) × (most_core_bytes < length file.1) × All IsShort (take i files)

short_and_long : {R : Type 0} (a b : Output) → IsShort a → Some a ≡ Some b → most_core_bytes < length b.1 → R
short_and_long a b short e long = let same : a ≡ b = cc in absurd (omega (arith, long, subst IsShort same short))

one_place : (files : List Output) (i j : ℕ) → IsFirstLong files i → IsFirstLong files j → i ≡ j
one_place [] i j h g = let none : None ≡ Some h.0 = h.1 in absurd cc
one_place (file ∷ files) zero zero h g = refl
one_place (file ∷ files) zero (suc j) h g = short_and_long file h.0 (All-head IsShort file (take j files) g.3) h.1 h.2
one_place (file ∷ files) (suc i) zero h g = short_and_long file g.0 (All-head IsShort file (take i files) h.3) g.1 g.2
one_place (file ∷ files) (suc i) (suc j) h g =
    ap suc (one_place files i j (h.0, h.1, h.2, All-tail IsShort file (take i files) h.3) (g.0, g.1, g.2, All-tail IsShort file (take j files) g.3))

none_long : {R : Type 0} (files : List Output) (i : ℕ) → All IsShort files → IsFirstLong files i → R
none_long [] i short h = let none : None ≡ Some h.0 = h.1 in absurd cc
none_long (file ∷ files) zero short h = short_and_long file h.0 (All-head IsShort file files short) h.1 h.2
none_long (file ∷ files) (suc i) short h = none_long files i (All-tail IsShort file files short) (h.0, h.1, h.2, All-tail IsShort file (take i files) h.3)

pub one_end : (files : List Output) (d e : WritingEnd) → IsFaultlessWriting files d → IsFaultlessWriting files e → d ≡ e
one_end files all_same all_same h g = refl
one_end files all_same (unread j too_long) h g = none_long files j h g
one_end files (unread i too_long) all_same h g = none_long files i g h
one_end files (unread i too_long) (unread j too_long) h g = ap (λ (k : ℕ). unread k too_long) (one_place files i j h g)
one_end files (unwritten i) e h g = absurd h
one_end files (unread i absent) e h g = absurd h
one_end files (unread i failed) e h g = absurd h
one_end files (differs i at w r) e h g = absurd h
one_end files d (unwritten i) h g = absurd g
one_end files d (unread i absent) h g = absurd g
one_end files d (unread i failed) h g = absurd g
one_end files d (differs i at w r) h g = absurd g

-- ---- what stands there when all files are written

different : (b : Bool) (one other : Bytes) → bytes_eq one other ≡ b → (one ≡ other → ⊥) → b ≡ false
different true one other e apart = absurd (apart ((bytes_eq-Decides one other).0 e))
different false one other e apart = refl

has_bytes : (f : Files) (name bytes : Bytes) → with_file name bytes f name ≡ Some bytes
has_bytes f name bytes = let same : bytes_eq name name ≡ true = (bytes_eq-Decides name name).1 refl in rw same refl

has_others : (f : Files) (name bytes other : Bytes) → (name ≡ other → ⊥) → with_file name bytes f other ≡ f other
has_others f name bytes other apart = let e : bytes_eq name other ≡ false = different (bytes_eq name other) name other refl apart in rw e refl

keeps_bytes : (files : List Output) (f : Files) (name bytes : Bytes) → All (λ file. file.0 ≡ name → ⊥) files → f name ≡ Some bytes → with_files files f name ≡ Some bytes
keeps_bytes [] f name bytes apart e = e
keeps_bytes (file ∷ files) f name bytes apart e =
    keeps_bytes files (with_file file.0 file.1 f) name bytes (All-tail (λ (other : Output). other.0 ≡ name → ⊥) file files apart) (has_others f file.0 file.1 name (All-head (λ (other : Output). other.0 ≡ name → ⊥) file files apart) ∙ e)

has_written : (files : List Output) (f : Files) (i : ℕ) (file : Output) → NamesDiffer files → slice_get files i ≡ Some file → with_files files f file.0 ≡ Some file.1
has_written [] f i file apart e = absurd cc
has_written (x ∷ files) f zero file apart e =
    let same : x ≡ file = cc in
    subst (λ (y : Output). with_files files (with_file x.0 x.1 f) y.0 ≡ Some y.1) same (keeps_bytes files (with_file x.0 x.1 f) x.0 x.1 apart.0 (has_bytes f x.0 x.1))
has_written (x ∷ files) f (suc i) file apart e = has_written files (with_file x.0 x.1 f) i file apart.1 e

-- ---- the end over a folder that tells its files

told : (P : Files → Type 0) (v : FolderChange) (f : Files) (files : List Output) → v.before.files ≡ Some f → HaveWritten v files → IfSome v.after.files P → P (with_files files f)
told P v f files e h g = subst (λ (o : Option Files). IfSome o P) (h ∙ ap (option_map (with_files files)) e) g

all_short : (o : Option Files) (files : List Output) → All (λ file. IsThere o most_core_bytes file.0 file.1) files → All IsShort files
all_short o files h = All-weaker (λ (file : Output). IsThere o most_core_bytes file.0 file.1) IsShort (λ file there. there.0) files h

none_some : {R : Type 0} (o : Option Bytes) (bytes : Bytes) → o ≡ None → o ≡ Some bytes → R
none_some o bytes e g = absurd cc

same_bytes : (o : Option Bytes) (a b : Bytes) → o ≡ Some a → o ≡ Some b → a ≡ b
same_bytes o a b e g = cc

no_difference : {R : Type 0} (a b : Bytes) (at : ℕ) (w r : Option ℕ) → a ≡ b → DifferAt a b at w r → R
no_difference a b at w r e h = absurd (h.differ (sym h.wrote_there ∙ ap (λ (x : Bytes). slice_get x at) e ∙ h.read_there))

pub faultless : (v : FolderChange) (f : Files) (files : List Output) (end : WritingEnd) → v.before.files ≡ Some f → Quiet v.before.read_faults v.after.read_faults
    → Quiet v.before.write_faults v.after.write_faults → NamesDiffer files → IsWriting v files end → IsFaultlessWriting files end
faultless v f files all_same e quiet still apart h = all_short v.after.files files h.1.there
faultless v f files (unwritten i) e quiet still apart h = no_rise v.before.write_faults v.after.write_faults h.2.0 still
faultless v f files (unread i failed) e quiet still apart h = no_rise v.before.read_faults v.after.read_faults h.1.3 quiet
faultless v f files (unread i absent) e quiet still apart h =
    let file : Output = h.1.0 in
    none_some (with_files files f file.0) file.1 (told (λ g. g file.0 ≡ None) v f files e h.0 h.1.3.1) (has_written files f i file apart h.1.1)
faultless v f files (unread i too_long) e quiet still apart h =
    let file : Output = h.1.0 in
    let long : IsLonger most_core_bytes (with_files files f file.0) = told (λ g. IsLonger most_core_bytes (g file.0)) v f files e h.0 h.1.3 in
    (file, h.1.1, subst (IsLonger most_core_bytes) (has_written files f i file apart h.1.1) long, all_short v.after.files (take i files) h.1.2.there)
faultless v f files (differs i at w r) e quiet still apart h =
    let file : Output = h.1.0 in
    let read : Bytes = h.1.1 in
    let there : IsThere v.after.files most_core_bytes file.0 read = All-contains (λ (other : Output). IsThere v.after.files most_core_bytes other.0 other.1) (take i files ++ (file.0, read) ∷ []) (file.0, read) h.1.3.there (Contains-push (take i files) (file.0, read)) in
    no_difference file.1 read at w r (same_bytes (with_files files f file.0) file.1 read (has_written files f i file apart h.1.2) (told (λ g. g file.0 ≡ Some read) v f files e h.0 there.1)) h.1.4
