-- What the answers of head reduction say, by the definition of head forms.
use Rattle.std.specs.Prelude.{◌≡◌, ◌⊎◌, ℕ, ◌≤◌, ◌<◌, List, Option, Some, None, Result, Ok, Err}
use Rattle.cdle_model.specs.Trees.{Tree, name}
use Rattle.cdle_model.specs.Forms.{at_, on, tlam, xtlam}
use Rattle.cdle_model.specs.Depth.{depth}
use Rattle.cdle_model.specs.Machine.{Budgeted, answered, spent}
use Rattle.cdle_model.specs.HeadForms.{deep, HeadAnswer, value, no_value}
use Rattle.elab_model.specs.HeadWritten.{Unfolding, head_written}
use Rattle.elab_tree.specs.declared.items.EArg.{EArg}
use Rattle.elab_tree.specs.declared.items.EArg.TheVariants as v
use Rattle.elab_tree.specs.declared.stop.TreeStop.{TreeStop}
use Rattle.elab_tree.specs.declared.stop.TreeStop.TheVariants as z
use Rattle.elab_reduce.specs.declared.stop.ElabStop.{ElabStop}
use Rattle.elab_reduce.specs.declared.stop.ElabStop.TheVariants.{Spent, TooDeep, NoMemory}
use Rattle.elab_reduce.specs.Spines.{spine}

-- the answer is the definition's: its head form, that its units are used up, or that it ended by depth; or memory is wanted
abbrev pub IsHead : Budgeted HeadAnswer → Result Tree ElabStop → Type 0
IsHead b (Ok h) = (left : ℕ) × (b ≡ answered (value h) left)
IsHead b (Err Spent) = b ≡ spent
IsHead b (Err TooDeep) = (left : ℕ) × (b ≡ answered (no_value deep) left)
IsHead b (Err NoMemory) = Unit {0}

-- a head with this innermost argument has no step
abbrev pub IsStill : Unfolding → Tree → Option EArg → Type 0
IsStill u (name n) o = u n ≡ None
IsStill u (at_ p q) o = ⊥
IsStill u (on p q) o = ⊥
IsStill u (tlam a b) (Some (v.Term t)) = ⊥
IsStill u (xtlam a b) (Some (v.OfType t)) = ⊥
IsStill u t o = Unit {0}

-- one move of the code: the head form of what stands after it, with the units that are left, is that of what stood before; and it comes nearer to its end
abbrev pub Moved : Unfolding → Tree → List EArg → ℕ → Tree → List EArg → ℕ → Type 0
Moved u h xs old r ys new = (head_written u old (spine h xs) ≡ head_written u new (spine r ys)) × (depth r ≤ 32768) × ((new < old) ⊎ ((new ≡ old) × (depth r < depth h)))

abbrev pub IsStep : Unfolding → Tree → List EArg → ℕ → List EArg → ℕ → Result Tree ElabStop → Type 0
IsStep u h xs old ys new (Ok r) = Moved u h xs old r ys new
IsStep u h xs old ys new (Err e) = IsHead (head_written u old (spine h xs)) (Err e)

-- why a put gives no tree, as a reason for which there is no head form
abbrev pub stop_of : TreeStop → ElabStop
stop_of z.TooDeep = TooDeep
stop_of z.NoMemory = NoMemory
