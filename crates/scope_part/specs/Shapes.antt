-- The source tree that a part is, and that its shape is at a place.
use Rattle.std.specs.Prelude.{ℕ, Some}
use Rattle.source_model.specs.Source.{Span, Tree, use_of, leaf, one, two, bind, cases, none, nowhere, group_of, guide_of}
use Rattle.scoped_tree.specs.Trees.{bind_form, case_form, leaf_form, one_form, two_form}
use Rattle.surf_tree.specs.Forms.{chain, name_use, number_or_none, place}
use Rattle.scope_part.specs.declared.shape.Part.{Part}
use Rattle.scope_part.specs.declared.shape.Part.TheVariants as p
use Rattle.scope_part.specs.declared.shape.Shape.{Shape}
use Rattle.scope_part.specs.declared.shape.Shape.TheVariants as s

abbrev pub part_tree : Part → Tree ℕ
part_tree (p.Term t) = t.now
part_tree (p.Type t) = t.now
part_tree (p.Kind k) = k.now
part_tree (p.Group s q t) = two (place s) group_of q.now t.now
part_tree (p.Guide s q x g) = bind (place s) guide_of (Some x.0) q.now g.now
part_tree p.LeftOut = none nowhere

abbrev pub shape_tree : Span → Shape → Tree ℕ
shape_tree at (s.Name u) = use_of at (name_use u)
shape_tree at (s.Leaf f) = leaf at (leaf_form f)
shape_tree at (s.One f t) = one at (one_form f) (part_tree t)
shape_tree at (s.Two f t u) = two at (two_form f) (part_tree t) (part_tree u)
shape_tree at (s.Bind f x t u) = bind at (bind_form f) (number_or_none x) (part_tree t) (part_tree u)
shape_tree at (s.Cases f x t m bs) = cases at (case_form f) (number_or_none x) (part_tree t) (part_tree m) (chain bs.now)
