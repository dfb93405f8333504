-- What the public calls answer, by the rules' questions.
use Rattle.std.specs.Prelude.{◌≡◌, ◌+◌, ℕ, Option, Some, None, Result, Ok, Err}
use Rattle.cdle_names.specs.declared.Span as names
use Rattle.elab_model.specs.Questions.{Questions, Finding, found, rejected, spent_at, too_deep, answer}
use Rattle.elab_tree.specs.Known.{Known}
use Rattle.elab_reduce.specs.Items.{env_of}
use Rattle.scoped_tree.specs.Trees.{place}
use Rattle.elab_rules.specs.declared.place.At.{At}
use Rattle.elab_rules.specs.declared.fault.Fault.{Fault}
use Rattle.elab_rules.specs.declared.fault.Fault.TheVariants as r
use Rattle.elab_rules.specs.Places.{spot}
use Rattle.elab_check.specs.declared.fault.ElabFault.{ElabFault}
use Rattle.elab_check.specs.declared.fault.ElabFault.TheVariants as f

-- the fault is what is found; of want of memory nothing is said
abbrev pub IsElabFault : {A : Type 0} → Finding A → ElabFault → Type 0
IsElabFault x (f.Reject p w) = x ≡ rejected (place p) w
IsElabFault x (f.Spent p) = x ≡ spent_at (place p)
IsElabFault x (f.TooDeep p) = x ≡ too_deep (place p)
IsElabFault x f.NoMemory = Unit {0}

abbrev pub IsElaborated : {A : Type 0} → Finding A → Result A ElabFault → Type 0
IsElaborated x (Ok a) = x ≡ found a
IsElaborated x (Err d) = IsElabFault x d

-- the answer of the questions over the items so far, with so many units for each
abbrev pub Elaborates : {A : Type 0} → Known → ℕ → Questions A → Result A ElabFault → Type 0
Elaborates k n q r = IsElaborated (answer (env_of k) n q) r

-- the bytes at a place, where there are some
abbrev pub IsSpot : At → Option names.Span → Type 0
IsSpot a (Some s) = place s ≡ spot a
IsSpot a None = Unit {0}

-- the first bytes of a place, where there are some
abbrev pub IsSigned : names.Span → ℕ → Option names.Span → Type 0
IsSigned s n (Some t) = (t.from ≡ s.from) × (t.to ≡ s.from + n)
IsSigned s n None = Unit {0}

-- the fault, with its place in the text
abbrev pub IsTold : Fault → ElabFault → Type 0
IsTold e f.NoMemory = Unit {0}
IsTold (r.Rejected p w) (f.Reject s v) = (place s ≡ spot p) × (v ≡ w)
IsTold (r.Undecided p) (f.Spent s) = place s ≡ spot p
IsTold (r.TooDeep p) (f.TooDeep s) = s ≡ p
IsTold e d = ⊥
