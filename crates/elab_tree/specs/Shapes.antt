-- The tree of a form whose parts are of the same classes as those of other forms.
use Rattle.cdle_model.specs.Trees.{Tree}
use Rattle.cdle_model.specs.Forms.{pi, all, allt, on, iota, tlam, xtlam, lam, elam, app, eapp, tapp, delta}
use Rattle.elab_tree.specs.declared.shapes.OverGuides.{OverGuides}
use Rattle.elab_tree.specs.declared.shapes.OverGuides.TheVariants as g
use Rattle.elab_tree.specs.declared.shapes.OverTypes.{OverTypes}
use Rattle.elab_tree.specs.declared.shapes.OverTypes.TheVariants as y
use Rattle.elab_tree.specs.declared.shapes.OverKind.{OverKind}
use Rattle.elab_tree.specs.declared.shapes.OverKind.TheVariants as k
use Rattle.elab_tree.specs.declared.shapes.OverTerms.{OverTerms}
use Rattle.elab_tree.specs.declared.shapes.OverTerms.TheVariants as t
use Rattle.elab_tree.specs.declared.shapes.Typed.{Typed}
use Rattle.elab_tree.specs.declared.shapes.Typed.TheVariants as w

abbrev pub guides_over : OverGuides → Tree → Tree → Tree
guides_over g.Pi a b = pi a b
guides_over g.All a b = all a b
guides_over g.On a b = on a b
guides_over g.Iota a b = iota a b

abbrev pub types_over : OverTypes → Tree → Tree → Tree
types_over y.Pi a b = pi a b
types_over y.All a b = all a b
types_over y.Tlam a b = tlam a b
types_over y.On a b = on a b
types_over y.Iota a b = iota a b

abbrev pub kind_over : OverKind → Tree → Tree → Tree
kind_over k.Allt a b = allt a b
kind_over k.Xtlam a b = xtlam a b

abbrev pub terms_over : OverTerms → Tree → Tree → Tree
terms_over t.App a b = app a b
terms_over t.Eapp a b = eapp a b

-- the type first, however the form is written
abbrev pub typed : Typed → Tree → Tree → Tree
typed w.Lam a t = lam a t
typed w.Elam a t = elam a t
typed w.Tapp a t = tapp t a
typed w.Delta a t = delta a t
