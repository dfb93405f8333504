-- A move of a head in its place.
use Rattle.std.proofs.Common.{◌≡◌, ℕ, List, Ok, Err, IfOk, sym, subst}
use Rattle.std.specs.declared.result.Result.{Result}
use Rattle.cdle_model.specs.Trees.{Tree}
use Rattle.core_reduce.specs.declared.root.Root.{Root}
use Rattle.core_reduce.specs.declared.root.Arg.{Arg}
use Rattle.core_reduce.specs.declared.side.SideClass.{SideClass}
use Rattle.core_reduce.specs.declared.reduce.Stop.{Stop}
use Rattle.core_reduce.specs.Sides.{root_class}
use Rattle.core_reduce.specs.Heads.{MeetsStep}

-- a head that is reached is of the class
pub step_class : (s : List Tree) (k : SideClass) (h : Tree) (xs : List Arg) (old : ℕ) (ys : List Arg) (new : ℕ) (q : Result Root Stop)
    → MeetsStep s k h xs old ys new q → IfOk q (λ r. root_class r ≡ k)
step_class s k h xs old ys new (Ok r) g = g.0
step_class s k h xs old ys new (Err e) g = tt

-- the head that was reached stands in the place of the old one
pub step_at : (s : List Tree) (k : SideClass) (h t : Tree) (xs : List Arg) (old : ℕ) (ys : List Arg) (new : ℕ) (r q : Result Root Stop) → t ≡ h → r ≡ q
    → MeetsStep s k h xs old ys new q → MeetsStep s k t xs old ys new r
step_at s k h t xs old ys new r q e f g = subst (MeetsStep s k t xs old ys new) (sym f) (subst (λ z. MeetsStep s k z xs old ys new q) (sym e) g)
