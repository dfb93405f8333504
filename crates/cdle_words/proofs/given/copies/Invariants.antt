use Rattle.std.proofs.Common.{◌≡◌, map, string_bytes, take}
use Rattle.cdle_words.proofs.given.copies.Given as goal

abbrev pub invariant-loop-value : goal.invariant-loop-value
invariant-loop-value l = map string_bytes l.copies.items ≡ map (λ v. v.now) (take l.value-index l.values)
