-- Annotated trees that are of their class and have an erasure.
use Rattle.std.specs.Prelude.{List}
use Rattle.cdle_model.specs.declared.grammar.Sort.{Sort}
use Rattle.cdle_model.specs.declared.grammar.Sort.TheVariants.{OfTerm, OfType}
use Rattle.cdle_model.specs.Trees.{Tree}
use Rattle.cdle_model.specs.Classes.{TreeClass, terms, types, pure_terms, guides, guide_kinds, within, Fits}
use Rattle.cdle_model.specs.Erasure.{HasErasure}

-- the tree is of the class, over items and variables of these sorts, and has an erasure
abbrev pub Sound : List Sort → List Sort → TreeClass → Tree → Type 0
Sound xs vs c t = Fits (within vs xs) c t × HasErasure t

-- the class of the trees for which a variable or a name of this sort stands
abbrev pub written_class : Sort → TreeClass
written_class OfTerm = terms
written_class OfType = types

-- terms, types and kinds, and the groups of their parts
abbrev pub IsWritten : TreeClass → Type 0
IsWritten pure_terms = ⊥
IsWritten guides = ⊥
IsWritten guide_kinds = ⊥
IsWritten c = Unit {0}
