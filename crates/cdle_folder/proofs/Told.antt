-- What the folder in memory tells and gives.
use Rattle.std.proofs.Common.{◌≡◌, ◌∙◌, ◌<◌, ◌≤◌, ℕ, Bool, true, false, if◌then◌else◌, List, [], ◌∷◌, Option, Some, None, IfSome, length, refl, sym, subst, arith}
use Rattle.std.specs.Prelude.{slice_set}
use Rattle.std.proofs.lemmas.List.{length-set}
use Rattle.cdle_folder.specs.Files.{Bytes, Files, IsLonger}
use Rattle.cdle_folder.specs.Memory.{altered, changed, files_told}
use Rattle.cdle_folder.specs.declared.memory.ChangeRead.{ChangeRead}

-- what holds of the files holds of those that are told
pub when_told : (changes : List ChangeRead) (f : Files) (P : Files → Type 0) → P f → IfSome (files_told changes f) P
when_told [] f P h = h
when_told (c ∷ changes) f P h = tt

-- ---- a change keeps the length

length-if : (b : Bool) (bytes : Bytes) (at byte : ℕ) → length (if b then slice_set bytes at byte else bytes) ≡ length bytes
length-if true bytes at byte = length-set bytes at byte
length-if false bytes at byte = refl

pub length-altered : (changes : List ChangeRead) (call : ℕ) (bytes : Bytes) → length (altered changes call bytes) ≡ length bytes
length-altered [] call bytes = refl
length-altered (c ∷ changes) call bytes = length-altered changes call (changed c call bytes) ∙ length-if _ bytes c.at c.byte

-- ---- what is not longer than the limit

pub none_longer : {R : Type 0} (limit : ℕ) (o : Option Bytes) → None ≡ o → IsLonger limit o → R
none_longer limit o e h = absurd (subst (IsLonger limit) (sym e) h)

pub short_longer : {R : Type 0} (limit : ℕ) (o : Option Bytes) (bytes : Bytes) → Some bytes ≡ o → length bytes ≤ limit → IsLonger limit o → R
short_longer limit o bytes e short h = let longer : limit < length bytes = subst (IsLonger limit) (sym e) h in absurd (omega (arith, longer, short))
