-- From one module to the next, and to the end of reading.
use Rattle.std.proofs.Common.{◌≡◌, ◌∙◌, inl, inr, ◌≤◌, ◌<◌, ℕ, List, [], ◌∷◌, ◌++◌, Option, Some, None, IfSome, MatchOption, Vec, ap, append_assoc, append-nil, arith, length, length-append, map, refl, subst, sym, take}
use Rattle.std.specs.List.{AllByRecursion, slice_get}
use Rattle.std.proofs.Math.Seq.{take-append_seam}
use Rattle.std.proofs.lemmas.List.{length-map, map_push, take-append-le}
use Rattle.std.proofs.lemmas.Option.{slice_get_past, slice_get_within}
use Rattle.cdle_folder.specs.Causes.{Rose}
use Rattle.cdle_folder.specs.Files.{Bytes, Files, IsLonger, Reads, with_read}
use Rattle.cdle_folder.specs.States.{FolderState}
use Rattle.scope_model.specs.ScopeNames.{Text}
use Rattle.source_model.specs.Source.{Module}
use Rattle.surf_parse.specs.Answers.{Grows}
use Rattle.surf_scope.specs.Modules.{spelled_module}
use Rattle.surf_source.proofs.Spelled.{spelling_kept, table_kept}
use Rattle.surf_tree.specs.Items.{module_of}
use Rattle.surf_tree.specs.declared.items.SrcModule.{SrcModule}
use Rattle.build_model.specs.ByText.{IsOfTable}
use Rattle.build_model.specs.SourceFiles.{IsFirstSourceFault, IsSource, SourceFault}
use Rattle.build_model.proofs.SourceFiles.{source_named}
use Rattle.build_outcome.specs.Changes.{FolderChange, most_bytes}
use Rattle.build_reading.specs.Files.{Unread, absent, too_long, failed, IsThere, IsUnread, IsUntouched, source_file}
use Rattle.build_reading.specs.Order.{AreInReadingOrder, imports_of, next_wanted, wanted, with_imports, with_new}
use Rattle.build_reading.specs.Readings.{AreRead, EndsBehind, FileRead, IsFileRead, IsReading, ReadingEnd, all_read, no_module, one_too_many, unread, last_read, modules_of, most_modules, reads_of, with_reads}
use Rattle.build_reading.specs.Steps.{AreHeld, EndsAt, HasCome, HasEnded, HasRead, HasReadAll, IfFault, IsPastMost, IsReadSoFar, source_fault_of, unread_of}
use Rattle.build_reading.specs.declared.fault.ReadingFault.{ReadingFault}
use Rattle.build_reading.specs.declared.fault.ReadingFault.TheVariants as faults
use Rattle.build_reading.specs.declared.reading.ReadModules.{ReadModules}
use Rattle.build_reading.specs.declared.reading.Reading.{Reading}
use Rattle.build_reading.proofs.Lists.{all_pushed, all_weaker, of_pushed}

abbrev pub change : FolderState → FolderState → FolderChange
change a z = record { before = a; after = z }

-- ---- the table of names

pub grows_not : (old : List Text) → Grows old old
grows_not old = ([], sym (append-nil old))

pub grows_on : (old mid new : List Text) → Grows old mid → Grows mid new → Grows old new
grows_on old mid new g h = (g.0 ++ h.0, h.1 ∙ ap (λ (l : List Text). l ++ h.0) g.1 ∙ append_assoc old g.0 h.0)

same_spelled : (old new : List Text) (ms : List SrcModule) → Grows old new → AllByRecursion (λ m. IsOfTable old (module_of m)) ms → map (λ m. spelled_module new (module_of m)) ms ≡ map (λ m. spelled_module old (module_of m)) ms
same_spelled old new [] g h = refl
same_spelled old new (m ∷ ms) g h = λ i. spelling_kept old new (module_of m) g h.0 i ∷ same_spelled old new ms g h.1 i

-- what is held stays the same in a larger table
held_on : (old new : List Text) (rs : List FileRead) (held : ReadModules) → Grows old new → AreHeld old rs held → AreHeld new rs held
held_on old new rs held g h = record {
  parsed = h.parsed ∙ sym (same_spelled old new held.modules.items g h.numbers);
  bytes = h.bytes;
  numbers = all_weaker (λ m. IsOfTable old (module_of m)) (λ m. IsOfTable new (module_of m)) held.modules.items (λ m n. table_kept old new (module_of m) g n) h.numbers;
}

-- ---- one more file

module _ (names : List Text) (rs : List FileRead) (r : FileRead) (held more : ReadModules) (m : SrcModule) where
  held_pushed : AreHeld names rs held → more.modules.items ≡ held.modules.items ++ m ∷ [] → map (λ s. s.items) more.sources.items ≡ map (λ s. s.items) held.sources.items ++ r.bytes ∷ []
      → r.parsed ≡ spelled_module names (module_of m) → IsOfTable names (module_of m) → AreHeld names (rs ++ r ∷ []) more
  held_pushed h modules sources parsed number = record {
    parsed = map_push (λ (x : FileRead). x.parsed) rs r ∙ (λ i. h.parsed i ++ parsed i ∷ []) ∙ sym (map_push (λ (x : SrcModule). spelled_module names (module_of x)) held.modules.items m)
        ∙ sym (ap (map (λ (x : SrcModule). spelled_module names (module_of x))) modules);
    bytes = map_push (λ (x : FileRead). x.bytes) rs r ∙ ap (λ (l : List Bytes). l ++ r.bytes ∷ []) h.bytes ∙ sym sources;
    numbers = subst (AllByRecursion (λ x. IsOfTable names (module_of x))) (sym modules) (all_pushed (λ x. IsOfTable names (module_of x)) held.modules.items m h.numbers number);
  }

imports_pushed : (known : List Text) (ms : List (Module Text)) (m : Module Text) → with_imports known (ms ++ m ∷ []) ≡ with_new (with_imports known ms) (imports_of m)
imports_pushed known [] m = refl
imports_pushed known (n ∷ ms) m = imports_pushed (with_new known (imports_of n)) ms m

-- the next module that is wanted follows in reading order
order_pushed : (root : Text) (ms : List (Module Text)) (m : Module Text) → AreInReadingOrder root ms → next_wanted root ms ≡ Some m.name → AreInReadingOrder root (ms ++ m ∷ [])
order_pushed root ms m h e i x at = elim (of_pushed ms m i x at) [
  | inl there ↦ subst (λ (l : List (Module Text)). slice_get (wanted root l) i ≡ Some x.name) (sym (take-append-le i ms (m ∷ []) (omega (arith, slice_get_within ms i x there)))) (h i x there)
  | inr last ↦
      let all : take i (ms ++ m ∷ []) ≡ ms = ap (λ (n : ℕ). take n (ms ++ m ∷ [])) last.0 ∙ take-append_seam ms (m ∷ []) in
      subst (λ (l : List (Module Text)). slice_get (wanted root l) i ≡ Some x.name) (sym all)
      (subst (λ (n : ℕ). slice_get (wanted root ms) n ≡ Some x.name) (sym last.0) (e ∙ ap (λ (y : Module Text). Some y.name) (sym last.1)))
]

pub read_pushed : (files : Option Files) (root : Text) (rs : List FileRead) (r : FileRead) → AreRead files root rs → length rs < most_modules → next_wanted root (modules_of rs) ≡ Some r.parsed.name → IsFileRead files r → AreRead files root (rs ++ r ∷ [])
read_pushed files root rs r h few e here = record {
  each = all_pushed (IsFileRead files) rs r h.each here;
  order = subst (AreInReadingOrder root) (sym (map_push (λ (x : FileRead). x.parsed) rs r)) (order_pushed root (modules_of rs) r.parsed h.order e);
  few = omega (arith, few, length-append rs (r ∷ []));
}

-- ---- what the reads gave

one_more_given : (reads : Reads) (file bytes : Bytes) (g : Option Reads) → with_read file bytes (with_reads reads g) ≡ with_reads (reads ++ (file, bytes) ∷ []) g
one_more_given reads file bytes None = refl
one_more_given reads file bytes (Some given) = ap Some (append_assoc given reads ((file, bytes) ∷ []))

none_given : (g : Option Reads) → with_reads [] g ≡ g
none_given None = refl
none_given (Some given) = ap Some (append-nil given)

-- ---- from step to step

-- what a read leaves of the folder
pub record IsStep (m z : FolderState) : Type 0 where
  pub files : z.files ≡ m.files
  pub write_faults : z.write_faults ≡ m.write_faults
  pub read_faults : m.read_faults ≤ z.read_faults
  pub absences : m.absences ≤ z.absences

untouched_on : (a m z : FolderState) → IsUntouched (change a m) → IsStep m z → IsUntouched (change a z)
untouched_on a m z h step = record { files = step.files ∙ h.files; faults = step.write_faults ∙ h.faults }

pub starts : (a : FolderState) (root : Text) (names : List Text) (r : Reading) → r.read.modules.items ≡ [] → r.read.sources.items ≡ [] → r.order ≡ root ∷ [] → HasCome (change a a) root names r
starts a root names r modules sources order = (
  [],
  record {
    files = record { each = tt; order = λ i m e. absurd cc; few = omega arith };
    given = sym (none_given a.given);
    untouched = record { files = refl; faults = refl };
    read_faults = omega arith;
    absences = omega arith;
  },
  record {
    parsed = sym (ap (map (λ (m : SrcModule). spelled_module names (module_of m))) modules);
    bytes = rw sources refl;
    numbers = subst (AllByRecursion (λ m. IsOfTable names (module_of m))) (sym modules) tt;
  },
  order,
)

-- as many are held as were read
held_count : (names : List Text) (rs : List FileRead) (held : ReadModules) → AreHeld names rs held → length held.modules.items ≡ length rs
held_count names rs held h =
    sym (length-map held.modules.items (λ (m : SrcModule). spelled_module names (module_of m))) ∙ sym (ap length h.parsed) ∙ length-map rs (λ (r : FileRead). r.parsed)

-- the next name that the code has is the next that is wanted
next_is : (root : Text) (names : List Text) (r : Reading) (rs : List FileRead) (o : Option Text) → AreHeld names rs r.read → r.order ≡ wanted root (modules_of rs) → slice_get r.order (length r.read.modules.items) ≡ o
    → next_wanted root (modules_of rs) ≡ o
next_is root names r rs o h order e =
    let count : length r.read.modules.items ≡ length (modules_of rs) = held_count names rs r.read h ∙ sym (length-map rs (λ (x : FileRead). x.parsed)) in
    (λ i. slice_get (sym order i) (sym count i)) ∙ e

module _ (a m z : FolderState) (root : Text) (names : List Text) (r : Reading) (come : HasCome (change a m) root names r) (step : IsStep m z) where
  one_more_read : (name bytes : Text) (p : Module Text) → next_wanted root (modules_of come.0) ≡ Some name → length come.0 < most_modules → HasRead (change m z) name bytes → IsSource bytes name p
      → IsReadSoFar (change a z) root (come.0 ++ record { bytes = bytes; parsed = p } ∷ [])
  one_more_read name bytes p next few read says =
      let rs : List FileRead = come.0 in
      let q : FileRead = record { bytes = bytes; parsed = p } in
      let so = come.1 in
      let named : name ≡ p.name = sym (source_named bytes name p says).0 in
      let there : IsThere a.files most_bytes (source_file name) bytes = subst (λ (o : Option Files). IsThere o most_bytes (source_file name) bytes) so.untouched.files read.1 in
      let here : IsFileRead a.files q = subst (λ (w : Text). IsThere a.files most_bytes (source_file w) bytes × IsSource bytes w p) named (there, says) in
      record {
        files = read_pushed a.files root rs q so.files few (next ∙ ap Some named) here;
        given = read.0 ∙ ap (with_read (source_file name) bytes) so.given ∙ one_more_given (reads_of rs) (source_file name) bytes a.given
            ∙ ap (λ (w : Text). with_reads (reads_of rs ++ (source_file w, bytes) ∷ []) a.given) named
            ∙ sym (ap (λ (l : Reads). with_reads l a.given) (map_push (λ (x : FileRead). (source_file x.parsed.name, x.bytes)) rs q));
        untouched = untouched_on a m z so.untouched step;
        read_faults = omega (arith, so.read_faults, step.read_faults);
        absences = omega (arith, so.absences, step.absences);
      }

  -- one more module was read
  pub one_more : (new : List Text) (s : Reading) (x : SrcModule) (name bytes : Text) → Grows names new → slice_get r.order (length r.read.modules.items) ≡ Some name → length r.read.modules.items < most_modules
      → IsOfTable new (module_of x) → HasRead (change m z) name bytes → IsSource bytes name (spelled_module new (module_of x)) → s.read.modules.items ≡ r.read.modules.items ++ x ∷ []
      → map (λ b. b.items) s.read.sources.items ≡ map (λ b. b.items) r.read.sources.items ++ bytes ∷ [] → s.order ≡ with_new r.order (imports_of (spelled_module new (module_of x))) → HasCome (change a z) root new s
  one_more new s x name bytes g next few number read says modules sources order =
      let rs : List FileRead = come.0 in
      let p : Module Text = spelled_module new (module_of x) in
      let q : FileRead = record { bytes = bytes; parsed = p } in
      let count = held_count names rs r.read come.2 in (
        rs ++ q ∷ [],
        one_more_read name bytes p (next_is root names r rs (Some name) come.2 come.3 next) (omega (arith, few, count)) read says,
        held_pushed new rs q r.read s.read x (held_on names new rs r.read g come.2) modules sources refl number,
        order ∙ ap (λ (l : List Text). with_new l (imports_of p)) come.3 ∙ sym (imports_pushed (root ∷ []) (modules_of rs) p) ∙ sym (ap (wanted root) (map_push (λ (y : FileRead). y.parsed) rs q)),
      )

-- ---- the end

rose : (a m z : ℕ) → a ≤ m → Rose m z → Rose a z
rose a m z le h = omega (arith, le, h)

unread_on : (a m z : FolderState) (file : Bytes) (u : Unread) → m.files ≡ a.files → a.read_faults ≤ m.read_faults → a.absences ≤ m.absences → IsUnread (change m z) m.files most_bytes file u → IsUnread (change a z) a.files most_bytes file u
unread_on a m z file absent same faults absences h = (rose a.absences m.absences z.absences absences h.0, subst (λ (o : Option Files). IfSome o (λ f. f file ≡ None)) same h.1)
unread_on a m z file too_long same faults absences h = subst (λ (o : Option Files). IfSome o (λ f. IsLonger most_bytes (f file))) same h
unread_on a m z file failed same faults absences h = rose a.read_faults m.read_faults z.read_faults faults h

module _ (a m z : FolderState) (root : Text) (names : List Text) (r : Reading) (come : HasCome (change a m) root names r) (step : IsStep m z) where
  end_with : (end : ReadingEnd) → EndsBehind (IsUnread (change a z) a.files most_bytes) a.files (length come.0) (next_wanted root (modules_of come.0)) end → z.given ≡ with_reads (reads_of come.0 ++ last_read end) a.given → IsReading (change a z) root come.0 end
  end_with end ended given = record {
    files = come.1.files;
    ended = ended;
    given = given;
    untouched = untouched_on a m z come.1.untouched step;
    read_faults = omega (arith, come.1.read_faults, step.read_faults);
    absences = omega (arith, come.1.absences, step.absences);
  }

  no_more_given : z.given ≡ m.given → z.given ≡ with_reads (reads_of come.0 ++ []) a.given
  no_more_given e = e ∙ come.1.given ∙ sym (ap (λ (l : Reads). with_reads l a.given) (append-nil (reads_of come.0)))

  -- the name that came next is wanted next
  wants : (name n : Text) → n ≡ name → slice_get r.order (length r.read.modules.items) ≡ Some name → next_wanted root (modules_of come.0) ≡ Some n
  wants name n same next = next_is root names r come.0 (Some name) come.2 come.3 next ∙ ap Some (sym same)

  -- reading ends at the file of the module that came next
  pub ended_at : (name : Text) (end : ReadingEnd) → slice_get r.order (length r.read.modules.items) ≡ Some name → length r.read.modules.items < most_modules → EndsAt (change m z) name end → HasEnded (change a z) root end
  ended_at name (unread n u) next few h =
      let gives : IsUnread (change m z) m.files most_bytes (source_file n) u = subst (λ (w : Text). IsUnread (change m z) m.files most_bytes (source_file w) u) (sym h.0) h.2 in
      let short : length come.0 < most_modules = omega (arith, few, held_count names come.0 r.read come.2) in (
        come.0,
        end_with (unread n u) (wants name n h.0 next, short, unread_on a m z (source_file n) u come.1.untouched.files come.1.read_faults come.1.absences gives) (no_more_given h.1),
      )
  ended_at name (no_module n bytes e) next few h =
      let short : length come.0 < most_modules = omega (arith, few, held_count names come.0 r.read come.2) in
      let there : IsThere a.files most_bytes (source_file name) bytes = subst (λ (o : Option Files). IsThere o most_bytes (source_file name) bytes) come.1.untouched.files h.1.1 in
      let here : IsThere a.files most_bytes (source_file n) bytes × IsFirstSourceFault bytes n e =
      subst (λ (w : Text). IsThere a.files most_bytes (source_file w) bytes × IsFirstSourceFault bytes w e) (sym h.0) (there, h.2) in
      let given : z.given ≡ with_reads (reads_of come.0 ++ (source_file n, bytes) ∷ []) a.given =
      h.1.0 ∙ ap (with_read (source_file name) bytes) come.1.given ∙ one_more_given (reads_of come.0) (source_file name) bytes a.given
      ∙ ap (λ (w : Text). with_reads (reads_of come.0 ++ (source_file w, bytes) ∷ []) a.given) (sym h.0) in
      (come.0, end_with (no_module n bytes e) (wants name n h.0 next, short, here.0, here.1) given)
  ended_at name all_read next few h = absurd h
  ended_at name (one_too_many n) next few h = absurd h

module _ (a m : FolderState) (root : Text) (names : List Text) (r : Reading) (come : HasCome (change a m) root names r) where
  stays : IsStep m m
  stays = record { files = refl; write_faults = refl; read_faults = omega arith; absences = omega arith }

  -- or the next is one too many
  pub past_most : (end : ReadingEnd) → IsPastMost r.order (length r.read.modules.items) end → HasEnded (change a m) root end
  past_most (one_too_many name) h =
      let all : length come.0 ≡ most_modules = omega (arith, h.1, held_count names come.0 r.read come.2) in
      (come.0, end_with a m m root names r come stays (one_too_many name) (next_is root names r come.0 (Some name) come.2 come.3 h.0, all) (no_more_given a m m root names r come stays refl))
  past_most all_read h = absurd h
  past_most (unread n u) h = absurd h
  past_most (no_module n bytes e) h = absurd h

  -- or no more are wanted
  pub no_more : length r.order ≤ length r.read.modules.items → HasReadAll (change a m) root names r.read
  no_more le = (
    come.0,
    end_with a m m root names r come stays all_read (next_is root names r come.0 None come.2 come.3 (slice_get_past r.order (length r.read.modules.items) le)) (no_more_given a m m root names r come stays refl),
    come.2,
  )

-- ---- as the code has it

pub of_fault : (P Q : ReadingEnd → Type 0) (e : ReadingFault) → ((end : ReadingEnd) → P end → Q end) → IfFault P e → IfFault Q e
of_fault P Q faults.NoMemory f h = tt
of_fault P Q (faults.Unread name stop) f h = f (unread name (unread_of stop)) h
of_fault P Q (faults.TooMany name) f h = f (one_too_many name) h
of_fault P Q (faults.Source name bytes fault) f h = of_source (source_fault_of fault) h
  where
    of_source : (o : Option SourceFault) → MatchOption o ⊥ (λ x. P (no_module name bytes.items x)) → MatchOption o ⊥ (λ x. Q (no_module name bytes.items x))
    of_source None h = h
    of_source (Some x) h = f (no_module name bytes.items x) h

pub bytes_pushed : {Z : Type 0} (xs ys : List (Vec ℕ Z)) (b : Vec ℕ Z) → ys ≡ xs ++ b ∷ [] → map (λ s. s.items) ys ≡ map (λ s. s.items) xs ++ b.items ∷ []
bytes_pushed xs ys b e = ap (map (λ s. s.items)) e ∙ map_push (λ s. s.items) xs b
