-- Where nothing fails there is one reading of any files from a root, with one end.
use Rattle.std.proofs.Common.{◌≡◌, ◌∙◌, ◌⊎◌, inl, inr, ◌+◌, ◌<◌, ◌≤◌, ◌++◌, ℕ, zero, suc, List, [], ◌∷◌, Option, Some, None, ap, arith, length, length-append, refl, subst, sym, take}
use Rattle.std.specs.List.{AllByRecursion, slice_get}
use Rattle.std.proofs.lemmas.Bool.{cases_lt}
use Rattle.std.proofs.lemmas.List.{length-map}
use Rattle.cdle_folder.specs.Files.{Bytes, Files, IsLonger}
use Rattle.scope_model.specs.ScopeNames.{Text}
use Rattle.source_model.specs.Source.{Module}
use Rattle.build_model.specs.SourceFiles.{IsFirstSourceFault, IsSource, SourceFault}
use Rattle.build_model.proofs.SourceFiles.{one_source, one_source_fault, source_is_faultless, source_named, source_or_faulty}
use Rattle.build_outcome.specs.Changes.{most_bytes}
use Rattle.build_reading.specs.Files.{Unread, absent, too_long, failed, IsNeverRead, IsThere, source_file}
use Rattle.build_reading.specs.Order.{imports_of, next_wanted, with_imports, with_new}
use Rattle.build_reading.specs.Readings.{AreRead, EndsBehind, FileRead, IsFaultlessReading, IsFileRead, ReadingEnd, all_read, no_module, one_too_many, unread, modules_of, most_modules}
use Rattle.build_reading.proofs.Progress.{read_pushed}

-- ---- there is one

abbrev Settled : Files → Text → Type 0
Settled f root = (rs : List FileRead) × (end : ReadingEnd) × IsFaultlessReading f root rs end

module _ (f : Files) (root : Text) (rs : List FileRead) (h : AreRead (Some f) root rs) where
  settled : (end : ReadingEnd) → EndsBehind (IsNeverRead f most_bytes) (Some f) (length rs) (next_wanted root (modules_of rs)) end → Settled f root
  settled end ended = (rs, end, record { files = h; ended = ended })

  -- as many are read as may be
  at_most : length rs ≡ most_modules → (o : Option Text) → next_wanted root (modules_of rs) ≡ o → Settled f root
  at_most count None e = settled all_read e
  at_most count (Some name) e = settled (one_too_many name) (e, count)

  module _ (few : length rs < most_modules) (on : (r : FileRead) → AreRead (Some f) root (rs ++ r ∷ []) → Settled f root) where
    at_bytes : (name bytes : Text) → next_wanted root (modules_of rs) ≡ Some name → IsThere (Some f) most_bytes (source_file name) bytes
        → ((m : Module Text) × IsSource bytes name m) ⊎ ((x : SourceFault) × IsFirstSourceFault bytes name x) → Settled f root
    at_bytes name bytes e there (inl m) =
        let named : name ≡ m.0.name = sym (source_named bytes name m.0 m.1).0 in
        let here : IsFileRead (Some f) (record { bytes = bytes; parsed = m.0 }) = subst (λ (w : Text). IsThere (Some f) most_bytes (source_file w) bytes × IsSource bytes w m.0) named (there, m.1) in
        on (record { bytes = bytes; parsed = m.0 }) (read_pushed (Some f) root rs (record { bytes = bytes; parsed = m.0 }) h few (e ∙ ap Some named) here)
    at_bytes name bytes e there (inr x) = settled (no_module name bytes x.0) (e, few, there, x.1)

    at_file : (name : Text) → next_wanted root (modules_of rs) ≡ Some name → (o : Option Bytes) → f (source_file name) ≡ o → Settled f root
    at_file name e None g = settled (unread name absent) (e, few, g)
    at_file name e (Some bytes) g = elim (cases_lt most_bytes (length bytes)) [
      | inl long ↦ settled (unread name too_long) (e, few, subst (IsLonger most_bytes) (sym g) long)
      | inr short ↦ at_bytes name bytes e (short, g) (source_or_faulty bytes name)
    ]

    at_next : (o : Option Text) → next_wanted root (modules_of rs) ≡ o → Settled f root
    at_next None e = settled all_read e
    at_next (Some name) e = at_file name e (f (source_file name)) refl

settled_from : (f : Files) (root : Text) (n : ℕ) (rs : List FileRead) → AreRead (Some f) root rs → n + length rs ≡ most_modules → Settled f root
settled_from f root zero rs h count = at_most f root rs h (omega (arith, count)) (next_wanted root (modules_of rs)) refl
settled_from f root (suc n) rs h count =
    at_next f root rs h (omega (arith, count)) (λ r more. settled_from f root n (rs ++ r ∷ []) more (omega (arith, count, length-append rs (r ∷ [])))) (next_wanted root (modules_of rs)) refl

pub there_is_one : (f : Files) (root : Text) → Settled f root
there_is_one f root = settled_from f root most_modules [] (record { each = tt; order = λ i m e. absurd cc; few = omega arith }) refl

-- ---- only one

some_one : {A : Type 0} (o : Option A) (x y : A) → o ≡ Some x → o ≡ Some y → y ≡ x
some_one o x y e g = let same : Some x ≡ Some y = sym e ∙ g in cc

none_some : {A : Type 0} (o : Option A) (x : A) → o ≡ None → o ≡ Some x → ⊥
none_some o x e g = let same : None ≡ Some x = sym e ∙ g in absurd cc

-- a file that is there is read
there_read : (f : Files) (file bytes : Bytes) (u : Unread) → IsThere (Some f) most_bytes file bytes → IsNeverRead f most_bytes file u → ⊥
there_read f file bytes absent there h = none_some (f file) bytes h there.1
there_read f file bytes too_long there h = let long : IsLonger most_bytes (Some bytes) = subst (IsLonger most_bytes) there.1 h in omega (arith, long, there.0)
there_read f file bytes failed there h = h

one_reason : (f : Files) (file : Bytes) (u v : Unread) → IsNeverRead f most_bytes file u → IsNeverRead f most_bytes file v → v ≡ u
one_reason f file absent absent h g = refl
one_reason f file absent too_long h g = absurd (subst (IsLonger most_bytes) h g)
one_reason f file too_long absent h g = absurd (subst (IsLonger most_bytes) g h)
one_reason f file too_long too_long h g = refl
one_reason f file failed v h g = absurd h
one_reason f file absent failed h g = absurd g
one_reason f file too_long failed h g = absurd g

module _ (f : Files) (n : ℕ) (o : Option Text) where
  abbrev Ends : ReadingEnd → Type 0
  Ends end = EndsBehind (IsNeverRead f most_bytes) (Some f) n o end

  -- what is read does not end reading
  not_ended : (r : FileRead) (end : ReadingEnd) → n < most_modules → o ≡ Some r.parsed.name → IsFileRead (Some f) r → Ends end → ⊥
  not_ended r all_read few e here h = none_some o r.parsed.name h e
  not_ended r (one_too_many x) few e here h = omega (arith, few, h.1)
  not_ended r (unread x u) few e here h =
      let same : r.parsed.name ≡ x = some_one o x r.parsed.name h.0 e in
      there_read f (source_file x) r.bytes u (subst (λ (w : Text). IsThere (Some f) most_bytes (source_file w) r.bytes) same here.0) h.2
  not_ended r (no_module x b d) few e here h =
      let same : x ≡ r.parsed.name = some_one o r.parsed.name x e h.0 in
      let there : f (source_file r.parsed.name) ≡ Some b = subst (λ (w : Text). f (source_file w) ≡ Some b) same h.2.1 in
      let bytes : b ≡ r.bytes = some_one (f (source_file r.parsed.name)) r.bytes b here.0.1 there in
      source_is_faultless r.bytes r.parsed.name r.parsed d here.1
      (subst (λ (w : Text). IsFirstSourceFault r.bytes w d) same (subst (λ (c : Bytes). IsFirstSourceFault c x d) bytes h.3))

  one_end : (end other : ReadingEnd) → Ends end → Ends other → other ≡ end
  one_end all_read all_read h g = refl
  one_end all_read (one_too_many y) h g = absurd (none_some o y h g.0)
  one_end all_read (unread y v) h g = absurd (none_some o y h g.0)
  one_end all_read (no_module y c d) h g = absurd (none_some o y h g.0)
  one_end (one_too_many x) all_read h g = absurd (none_some o x g h.0)
  one_end (one_too_many x) (one_too_many y) h g = ap one_too_many (some_one o x y h.0 g.0)
  one_end (one_too_many x) (unread y v) h g = absurd (omega (arith, h.1, g.1))
  one_end (one_too_many x) (no_module y c d) h g = absurd (omega (arith, h.1, g.1))
  one_end (unread x u) all_read h g = absurd (none_some o x g h.0)
  one_end (unread x u) (one_too_many y) h g = absurd (omega (arith, h.1, g.1))
  one_end (unread x u) (unread y v) h g =
      let same : y ≡ x = some_one o x y h.0 g.0 in
      let reason : v ≡ u = one_reason f (source_file x) u v h.2 (subst (λ (w : Text). IsNeverRead f most_bytes (source_file w) v) same g.2) in
      λ i. unread (same i) (reason i)
  one_end (unread x u) (no_module y c d) h g =
      let same : y ≡ x = some_one o x y h.0 g.0 in
      absurd (there_read f (source_file x) c u (subst (λ (w : Text). IsThere (Some f) most_bytes (source_file w) c) same g.2) h.2)
  one_end (no_module x b e) all_read h g = absurd (none_some o x g h.0)
  one_end (no_module x b e) (one_too_many y) h g = absurd (omega (arith, h.1, g.1))
  one_end (no_module x b e) (unread y v) h g =
      let same : x ≡ y = some_one o y x g.0 h.0 in
      absurd (there_read f (source_file y) b v (subst (λ (w : Text). IsThere (Some f) most_bytes (source_file w) b) same h.2) g.2)
  one_end (no_module x b e) (no_module y c d) h g =
      let same : y ≡ x = some_one o x y h.0 g.0 in
      let there : f (source_file x) ≡ Some c = subst (λ (w : Text). f (source_file w) ≡ Some c) same g.2.1 in
      let bytes : c ≡ b = some_one (f (source_file x)) b c h.2.1 there in
      let fault : d ≡ e = one_source_fault b x d e (subst (λ (w : Text). IsFirstSourceFault b w d) same (subst (λ (l : Bytes). IsFirstSourceFault l y d) bytes g.3)) h.3 in
      λ i. no_module (same i) (bytes i) (fault i)

-- reading goes on from these names, behind so many modules, over these files to this end
abbrev GoesOn : Files → List Text → ℕ → List FileRead → ReadingEnd → Type 0
GoesOn f names n [] end = EndsBehind (IsNeverRead f most_bytes) (Some f) n (slice_get names n) end
GoesOn f names n (r ∷ rs) end = (n < most_modules) × (slice_get names n ≡ Some r.parsed.name) × IsFileRead (Some f) r × GoesOn f (with_new names (imports_of r.parsed)) (suc n) rs end

one_way : (f : Files) (names : List Text) (n : ℕ) (rs qs : List FileRead) (end other : ReadingEnd) → GoesOn f names n rs end → GoesOn f names n qs other → (qs ≡ rs) × (other ≡ end)
one_way f names n [] [] end other h g = (refl, one_end f n (slice_get names n) end other h g)
one_way f names n [] (q ∷ qs) end other h g = absurd (not_ended f n (slice_get names n) q end g.0 g.1 g.2 h)
one_way f names n (r ∷ rs) [] end other h g = absurd (not_ended f n (slice_get names n) r other h.0 h.1 h.2 g)
one_way f names n (r ∷ rs) (q ∷ qs) end other h g =
    let same : q.parsed.name ≡ r.parsed.name = some_one (slice_get names n) r.parsed.name q.parsed.name h.1 g.1 in
    let there : f (source_file r.parsed.name) ≡ Some q.bytes = subst (λ (w : Text). f (source_file w) ≡ Some q.bytes) same g.2.0.1 in
    let bytes : q.bytes ≡ r.bytes = some_one (f (source_file r.parsed.name)) r.bytes q.bytes h.2.0.1 there in
    let parsed : q.parsed ≡ r.parsed =
    one_source r.bytes r.parsed.name q.parsed r.parsed (subst (λ (w : Text). IsSource r.bytes w q.parsed) same (subst (λ (l : Bytes). IsSource l q.parsed.name q.parsed) bytes g.2.1)) h.2.1 in
    let rest = one_way f (with_new names (imports_of r.parsed)) (suc n) rs qs end other h.3 (subst (λ (m : Module Text). GoesOn f (with_new names (imports_of m)) (suc n) qs other) parsed g.3) in
    (λ i. record { bytes = bytes i; parsed = parsed i } ∷ rest.0 i, rest.1)

goes_on : (f : Files) (names : List Text) (n : ℕ) (rs : List FileRead) (end : ReadingEnd) (all : ℕ) → AllByRecursion (IsFileRead (Some f)) rs
    → ((j : ℕ) (m : Module Text) → slice_get (modules_of rs) j ≡ Some m → slice_get (with_imports names (take j (modules_of rs))) (n + j) ≡ Some m.name)
    → all ≡ n + length rs → all ≤ most_modules → EndsBehind (IsNeverRead f most_bytes) (Some f) all (slice_get (with_imports names (modules_of rs)) all) end → GoesOn f names n rs end
goes_on f names n [] end all each order count few h =
    let same : all ≡ n = omega (arith, count) in subst (λ (k : ℕ). EndsBehind (IsNeverRead f most_bytes) (Some f) k (slice_get names k) end) same h
goes_on f names n (r ∷ rs) end all each order count few h =
    let here : n + 0 ≡ n = omega arith in
    let on : (j : ℕ) (m : Module Text) → slice_get (modules_of rs) j ≡ Some m → slice_get (with_imports (with_new names (imports_of r.parsed)) (take j (modules_of rs))) (suc n + j) ≡ Some m.name =
    λ j m e. let next : n + suc j ≡ suc n + j = omega arith in
    subst (λ (k : ℕ). slice_get (with_imports (with_new names (imports_of r.parsed)) (take j (modules_of rs))) k ≡ Some m.name) next (order (suc j) m e) in (
      omega (arith, count, few),
      subst (λ (k : ℕ). slice_get names k ≡ Some r.parsed.name) here (order zero r.parsed refl),
      each.0,
      goes_on f (with_new names (imports_of r.parsed)) (suc n) rs end all each.1 on (omega (arith, count)) few h,
    )

from_start : (f : Files) (root : Text) (rs : List FileRead) (end : ReadingEnd) → IsFaultlessReading f root rs end → GoesOn f (root ∷ []) 0 rs end
from_start f root rs end h =
    let order : (j : ℕ) (m : Module Text) → slice_get (modules_of rs) j ≡ Some m → slice_get (with_imports (root ∷ []) (take j (modules_of rs))) (0 + j) ≡ Some m.name =
    λ j m e. let same : j ≡ 0 + j = omega arith in subst (λ (k : ℕ). slice_get (with_imports (root ∷ []) (take j (modules_of rs))) k ≡ Some m.name) same (h.files.order j m e) in
    let ended : EndsBehind (IsNeverRead f most_bytes) (Some f) (length rs) (slice_get (with_imports (root ∷ []) (modules_of rs)) (length rs)) end =
    subst (λ (k : ℕ). EndsBehind (IsNeverRead f most_bytes) (Some f) (length rs) (slice_get (with_imports (root ∷ []) (modules_of rs)) k) end) (length-map rs (λ (r : FileRead). r.parsed)) h.ended in
    goes_on f (root ∷ []) 0 rs end (length rs) h.files.each order (omega arith) h.files.few ended

pub only_one : (f : Files) (root : Text) (rs qs : List FileRead) (end other : ReadingEnd) → IsFaultlessReading f root rs end → IsFaultlessReading f root qs other → (qs ≡ rs) × (other ≡ end)
only_one f root rs qs end other h g = one_way f (root ∷ []) 0 rs qs end other (from_start f root rs end h) (from_start f root qs other g)
