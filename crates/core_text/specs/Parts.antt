-- Parts of any class.
use Rattle.std.specs.Prelude.{ℕ, ◌≤◌, List, All, map}
use Rattle.cdle_model.specs.Trees.{Tree}
use Rattle.cdle_model.specs.Depth.{depth}
use Rattle.cdle_model.specs.declared.grammar.Class.{Class}
use Rattle.cdle_model.specs.declared.grammar.Class.TheVariants as class
use Rattle.core_text.specs.declared.part.Part.{Part}
use Rattle.core_text.specs.declared.part.Part.TheVariants.{Kind, Ty, Term, Pure, Guide, GuideKind}

abbrev pub part_tree : Part → Tree
part_tree (Kind t) = t
part_tree (Ty t) = t
part_tree (Term t) = t
part_tree (Pure t) = t
part_tree (Guide t) = t
part_tree (GuideKind t) = t

abbrev pub class_of : Part → Class
class_of (Kind t) = class.Kind
class_of (Ty t) = class.Ty
class_of (Term t) = class.Term
class_of (Pure t) = class.Pure
class_of (Guide t) = class.Guide
class_of (GuideKind t) = class.GuideKind

abbrev pub trees : List Part → List Tree
trees ps = map part_tree ps

abbrev pub classes : List Part → List Class
classes ps = map class_of ps

-- no part is deeper
abbrev pub AreShallow : ℕ → List Part → Type 0
AreShallow most ps = All (λ p. depth (part_tree p) ≤ most) ps
