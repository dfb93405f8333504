-- The bodies over which the comparison goes are those of the items so far.
use Rattle.std.proofs.Common.{◌≡◌, List, [], ◌∷◌, refl, ap}
use Rattle.cdle_model.specs.Forms.{Written, def_item, type_item}
use Rattle.cdle_model.specs.Derivation.{bodies, signature}
use Rattle.cdle_model.specs.Trees.{Tree}
use Rattle.elab_tree.specs.Known.{Entry, Known}
use Rattle.elab_reduce.specs.Items.{items_of}
use Rattle.elab_convert.specs.Bodies.{body_of, bodies_of, erased_bodies}

body_then : (w : Written) (es : List Entry) → bodies_of es ≡ bodies (signature (items_of es)) → body_of w ∷ bodies_of es ≡ bodies (signature (w ∷ items_of es))
body_then (def_item x a t) es h = ap (λ (z : List Tree). body_of (def_item x a t) ∷ z) h
body_then (type_item x k a) es h = ap (λ (z : List Tree). body_of (type_item x k a) ∷ z) h

bodies_are : (es : List Entry) → bodies_of es ≡ bodies (signature (items_of es))
bodies_are [] = refl
bodies_are (e ∷ es) = body_then e.item es (bodies_are es)

pub erased_bodies_are : (k : Known) → erased_bodies k ≡ bodies (signature (items_of k.entries))
erased_bodies_are k = bodies_are k.entries
