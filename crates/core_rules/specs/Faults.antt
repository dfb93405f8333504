-- Faults: of a form itself, of a part as seen from its form, of an item, and of trees that are too deep.
use Rattle.std.specs.Prelude.{◌≡◌, ℕ, ◌<◌, ◌≤◌, List, [], ◌∷◌, Result, Ok, Err}
use Rattle.cdle_model.specs.Trees.{Tree}
use Rattle.cdle_model.specs.Depth.{depth}
use Rattle.cdle_model.specs.Check.{Reason}
use Rattle.core_tree.specs.declared.faults.CoreFault.{CoreFault}
use Rattle.core_tree.specs.declared.faults.CoreFault.TheVariants as c
use Rattle.core_tree.specs.declared.stop.PutStop.{PutStop}
use Rattle.core_tree.specs.declared.stop.PutStop.TheVariants as p
use Rattle.core_reduce.specs.declared.reduce.Stop.{Stop}
use Rattle.core_reduce.specs.declared.reduce.Stop.TheVariants as s
use Rattle.core_rules.specs.Reasons.{IsWhy}
use Rattle.core_rules.specs.declared.fault.Fault.{Fault}
use Rattle.core_rules.specs.declared.fault.Fault.TheVariants as f
use Rattle.core_rules.specs.declared.fault.Place.{Place}
use Rattle.core_rules.specs.declared.fault.Place.TheVariants.{Form, Part}

abbrev pub path_of : Place → List ℕ
path_of Form = []
path_of (Part i) = i ∷ []

-- the second is the first as seen from the form of which this is part i, or want of memory
abbrev pub IsInside : ℕ → Fault → Fault → Type 0
IsInside i e f.NoMemory = Unit {0}
IsInside i (f.Refused p w) (f.Refused q v) = (q.items ≡ i ∷ p.items) × (v ≡ w)
IsInside i (f.Undecided p) (f.Undecided q) = q.items ≡ i ∷ p.items
IsInside i f.TooDeep f.TooDeep = Unit {0}
IsInside i e x = ⊥

-- the fault is a refusal at this path for this reason, or want of memory
abbrev pub IsRefusal : List ℕ → Reason → Fault → Type 0
IsRefusal p r f.NoMemory = Unit {0}
IsRefusal p r (f.Refused q v) = (q.items ≡ p) × IsWhy r v
IsRefusal p r x = ⊥

-- the fault is that the budget was spent at this path, or want of memory
abbrev pub IsUndecidedAt : List ℕ → Fault → Type 0
IsUndecidedAt p f.NoMemory = Unit {0}
IsUndecidedAt p (f.Undecided q) = q.items ≡ p
IsUndecidedAt p x = ⊥

-- the fault of a question at this path that was stopped
abbrev pub IsStopped : List ℕ → Stop → Fault → Type 0
IsStopped p s.Spent e = IsUndecidedAt p e
IsStopped p s.TooDeep e = e ≡ f.TooDeep
IsStopped p s.NoMemory e = e ≡ f.NoMemory

-- the tree, or that it would be too deep
abbrev pub IsLimited : Tree → Result Tree Fault → Type 0
IsLimited t (Ok r) = (r ≡ t) × (depth t ≤ 4096)
IsLimited t (Err f.TooDeep) = 4096 < depth t
IsLimited t (Err f.NoMemory) = Unit {0}
IsLimited t (Err x) = ⊥

-- whether a form may stand over parts of this depth
abbrev pub HasRoom : ℕ → Result (Unit {0}) Fault → Type 0
HasRoom d (Ok _) = d < 4096
HasRoom d (Err f.TooDeep) = 4096 ≤ d
HasRoom d (Err x) = ⊥

abbrev pub fault_of : PutStop → Fault
fault_of p.TooDeep = f.TooDeep
fault_of p.NoMemory = f.NoMemory

-- the second is the fault of item i
abbrev pub IsOfItem : ℕ → Fault → CoreFault → Type 0
IsOfItem i (f.Refused p w) (c.Refused j q v) = (j ≡ i) × (q ≡ p.items) × (v ≡ w)
IsOfItem i (f.Undecided p) (c.Undecided j q) = (j ≡ i) × (q ≡ p.items)
IsOfItem i f.TooDeep (c.TooDeep j) = j ≡ i
IsOfItem i f.NoMemory c.NoMemory = Unit {0}
IsOfItem i e x = ⊥
