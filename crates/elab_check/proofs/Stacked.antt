-- A binding put last is the innermost.
use Rattle.std.proofs.Common.{◌≡◌, List, [], ◌∷◌, ◌++◌, refl}
use Rattle.cdle_model.specs.Derivation.{Entry}
use Rattle.elab_rules.specs.declared.context.Binding.{Binding}
use Rattle.elab_rules.specs.Contexts.{known, stacked}

pub stacked_more : (c : List Entry) (xs : List Binding) (x : Binding) → stacked c (xs ++ x ∷ []) ≡ known x ∷ stacked c xs
stacked_more c [] x = refl
stacked_more c (y ∷ ys) x = stacked_more (known y ∷ c) ys x
