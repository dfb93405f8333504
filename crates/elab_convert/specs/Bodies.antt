-- The erased bodies of the items so far, over which trees step.
use Rattle.std.specs.Prelude.{List, [], ◌∷◌}
use Rattle.cdle_model.specs.Trees.{Tree}
use Rattle.cdle_model.specs.Forms.{Written, def_item, type_item}
use Rattle.cdle_model.specs.Erasure.{erased}
use Rattle.elab_tree.specs.Known.{Known, Entry}
use Rattle.elab_tree.specs.declared.items.ErasedBody.{ErasedBody}
use Rattle.elab_tree.specs.declared.items.ErasedBody.TheVariants.{OfTerm, OfType}

abbrev pub body_of : Written → Tree
body_of (def_item x a t) = erased t
body_of (type_item x k a) = erased a

abbrev pub bodies_of : List Entry → List Tree
bodies_of [] = []
bodies_of (e ∷ es) = body_of e.item ∷ bodies_of es

abbrev pub erased_bodies : Known → List Tree
erased_bodies k = bodies_of k.entries

abbrev pub body_tree : ErasedBody → Tree
body_tree (OfTerm p) = p
body_tree (OfType g) = g
