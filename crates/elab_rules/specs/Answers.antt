-- What a call says of the rules' questions: its answer is that of the definition with these units, or want of memory.
use Rattle.std.specs.Prelude.{◌≡◌, ◌≤◌, ◌<◌, ℕ, Result, Ok, Err}
use Rattle.cdle_names.specs.declared.Span as names
use Rattle.source_model.specs.Source.{Span}
use Rattle.elab_model.specs.Questions.{Questions, Finding, found, rejected, spent_at, too_deep, answer}
use Rattle.elab_tree.specs.Known.{Known}
use Rattle.elab_tree.specs.declared.stop.TreeStop.{TreeStop}
use Rattle.elab_tree.specs.declared.stop.TreeStop.TheVariants as s
use Rattle.elab_reduce.specs.Items.{env_of}
use Rattle.scoped_tree.specs.Trees.{place}
use Rattle.elab_rules.specs.declared.fault.Fault.{Fault}
use Rattle.elab_rules.specs.declared.fault.Fault.TheVariants as f
use Rattle.elab_rules.specs.Places.{spot}

abbrev pub fault_of : names.Span → TreeStop → Fault
fault_of p s.TooDeep = f.TooDeep p
fault_of p s.NoMemory = f.NoMemory

-- the fault is what is found; of want of memory nothing is said
abbrev pub IsFault : {A : Type 0} → Finding A → Fault → Type 0
IsFault x (f.Rejected p w) = x ≡ rejected (spot p) w
IsFault x (f.Undecided p) = x ≡ spent_at (spot p)
IsFault x (f.TooDeep p) = x ≡ too_deep (place p)
IsFault x f.NoMemory = Unit {0}

-- the answer is what is found
abbrev pub IsFound : {A : Type 0} → Finding A → Result A Fault → Type 0
IsFound x (Ok a) = x ≡ found a
IsFound x (Err d) = IsFault x d

-- the answer is that of the questions over the items so far, with so many units for each
unfoldable pub Meets : {A : Type 0} → Known → ℕ → Questions A → Result A Fault → Type 0
Meets k n q r = IsFound (answer (env_of k) n q) r

-- the same through what the code's value stands for
abbrev pub seen : {A B : Type 0} → (A → B) → Result A Fault → Result B Fault
seen g (Ok a) = Ok (g a)
seen g (Err d) = Err d

-- a tree of this depth is not too deep for the form
abbrev pub IsLow : Span → ℕ → Result (Unit {0}) Fault → Type 0
IsLow p d (Ok u) = d ≤ 4096
IsLow p d (Err (f.TooDeep q)) = (place q ≡ p) × (4096 < d)
IsLow p d (Err x) = ⊥
