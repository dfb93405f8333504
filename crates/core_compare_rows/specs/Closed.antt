-- Closed trees over the three items of the rows.
use Rattle.std.specs.Prelude.{◌≡◌, List, [], ◌∷◌}
use Rattle.cdle_model.specs.declared.grammar.Sort.{Sort}
use Rattle.cdle_model.specs.declared.grammar.Sort.TheVariants.{OfTerm, OfType}
use Rattle.cdle_model.specs.Trees.{Tree}
use Rattle.cdle_model.specs.Classes.{TreeClass, within, Fits}
use Rattle.core_reduce.specs.declared.side.SideClass.{SideClass}
use Rattle.core_reduce.specs.Sides.{Sided, class_trees}

-- two terms and a type
abbrev pub sorts : List Sort
sorts = OfTerm ∷ OfTerm ∷ OfType ∷ []

-- over these variables, and over the items
abbrev pub IsUnder : List Sort → TreeClass → Tree → Type 0
IsUnder vs = Fits (within vs sorts)

abbrev pub IsClosed : TreeClass → Tree → Type 0
IsClosed = IsUnder []

-- the side is of that class, and its tree is closed
abbrev pub IsClosedSide : SideClass → Sided → Type 0
IsClosedSide c s = (s.class ≡ c) × IsClosed (class_trees c) s.tree
