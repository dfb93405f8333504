-- The code of what a side stands for, by which proofs tell sides apart.
use Rattle.std.specs.Prelude.{◌≡◌, ℕ, [], ◌∷◌, get_or}
use Rattle.std.specs.Coded.{Coded, code_by, coded_ℕ, coded×}
use mathlib.Core.Path.{refl}
use Rattle.cdle_model.specs.Trees.{Tree}
use Rattle.cdle_model.specs.Code.{coded_tree}
use Rattle.core_reduce.specs.declared.side.SideClass.{SideClass}
use Rattle.core_reduce.specs.declared.side.SideClass.TheVariants.{OfPure, OfType, OfKind}
use Rattle.core_reduce.specs.Sides.{Sided}

abbrev pub number_of : SideClass → ℕ
number_of OfPure = 0
number_of OfType = 1
number_of OfKind = 2

abbrev pub class_at : ℕ → SideClass
class_at n = get_or (OfPure ∷ OfType ∷ OfKind ∷ []) n OfPure

pub class_back : (c : SideClass) → class_at (number_of c) ≡ c
class_back OfPure = refl
class_back OfType = refl
class_back OfKind = refl

abbrev coded_class : Coded SideClass
coded_class = code_by ℕ coded_ℕ number_of class_at class_back

abbrev pub coded_side : Coded Sided
coded_side = code_by (SideClass × Tree) (coded× coded_class coded_tree) (λ s. (s.class, s.tree)) (λ p. record { class = p.0; tree = p.1 }) (λ _. refl)
