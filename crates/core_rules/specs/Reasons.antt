-- The reason of a refusal, as it is answered.
use Rattle.std.specs.Prelude.{Some, None}
use Rattle.cdle_model.specs.Check.{Reason, not_a_function, not_an_intersection, not_an_equation, wrong_kind, mismatch, erased_use, parts_differ, not_booleans, sides_differ}
use Rattle.core_tree.specs.declared.faults.Why.{Why}
use Rattle.core_tree.specs.declared.faults.Why.TheVariants as w
use Rattle.core_tree.specs.Faults.{IsKept}

-- the answered reason is the definitions', with the same values, each kept whole or told to be deeper than 4,096
abbrev pub IsWhy : Reason → Why → Type 0
IsWhy (not_a_function a) (w.NotAFunction k) = IsKept a k
IsWhy (not_an_intersection a) (w.NotAnIntersection k) = IsKept a k
IsWhy (not_an_equation a) (w.NotAnEquation k) = IsKept a k
IsWhy (wrong_kind a None) (w.WrongKind k None) = IsKept a k
IsWhy (wrong_kind a (Some b)) (w.WrongKind k (Some l)) = IsKept a k × IsKept b l
IsWhy (mismatch a b) (w.Mismatch k l) = IsKept a k × IsKept b l
IsWhy erased_use w.ErasedUse = Unit {0}
IsWhy (parts_differ a b) (w.PartsDiffer k l) = IsKept a k × IsKept b l
IsWhy (not_booleans a b) (w.NotBooleans k l) = IsKept a k × IsKept b l
IsWhy (sides_differ a b) (w.SidesDiffer k l) = IsKept a k × IsKept b l
IsWhy r v = ⊥
