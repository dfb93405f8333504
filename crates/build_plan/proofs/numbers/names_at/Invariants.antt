use Rattle.std.proofs.Common.{◌≡◌, Some, map, slice_get, take}
use Rattle.std.specs.List.{AllZip}
use Rattle.build_plan.specs.Tables.{names_in}
use Rattle.build_plan.proofs.numbers.names_at.Given as goal

abbrev pub invariant-loop-number : goal.invariant-loop-number
invariant-loop-number l = AllZip (λ k x. slice_get (names_in l.modules) k ≡ Some x) (take l.number-index l.numbers) (map (λ x. x.0) l.names.items)
