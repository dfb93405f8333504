-- The forms with one word for their shape are deeper than their parts.
use Rattle.std.specs.Prelude.{◌≤◌}
use Rattle.std.proofs.Common.{arith}
use Rattle.cdle_model.specs.Trees.{Tree}
use Rattle.cdle_model.specs.Depth.{depth}
use Rattle.elab_tree.specs.Shapes.{guides_over, types_over, kind_over, terms_over, typed}
use Rattle.elab_tree.specs.declared.shapes.OverGuides.{OverGuides}
use Rattle.elab_tree.specs.declared.shapes.OverGuides.TheVariants as g
use Rattle.elab_tree.specs.declared.shapes.OverTypes.{OverTypes}
use Rattle.elab_tree.specs.declared.shapes.OverTypes.TheVariants as y
use Rattle.elab_tree.specs.declared.shapes.OverKind.{OverKind}
use Rattle.elab_tree.specs.declared.shapes.OverKind.TheVariants as k
use Rattle.elab_tree.specs.declared.shapes.OverTerms.{OverTerms}
use Rattle.elab_tree.specs.declared.shapes.OverTerms.TheVariants as t
use Rattle.elab_tree.specs.declared.shapes.Typed.{Typed}
use Rattle.elab_tree.specs.declared.shapes.Typed.TheVariants as w

pub guides_left : (f : OverGuides) (a b : Tree) → depth a ≤ depth (guides_over f a b)
guides_left g.Pi a b = omega arith
guides_left g.All a b = omega arith
guides_left g.On a b = omega arith
guides_left g.Iota a b = omega arith

pub guides_right : (f : OverGuides) (a b : Tree) → depth b ≤ depth (guides_over f a b)
guides_right g.Pi a b = omega arith
guides_right g.All a b = omega arith
guides_right g.On a b = omega arith
guides_right g.Iota a b = omega arith

pub types_left : (f : OverTypes) (a b : Tree) → depth a ≤ depth (types_over f a b)
types_left y.Pi a b = omega arith
types_left y.All a b = omega arith
types_left y.Tlam a b = omega arith
types_left y.On a b = omega arith
types_left y.Iota a b = omega arith

pub types_right : (f : OverTypes) (a b : Tree) → depth b ≤ depth (types_over f a b)
types_right y.Pi a b = omega arith
types_right y.All a b = omega arith
types_right y.Tlam a b = omega arith
types_right y.On a b = omega arith
types_right y.Iota a b = omega arith

pub kind_left : (f : OverKind) (a b : Tree) → depth a ≤ depth (kind_over f a b)
kind_left k.Allt a b = omega arith
kind_left k.Xtlam a b = omega arith

pub kind_right : (f : OverKind) (a b : Tree) → depth b ≤ depth (kind_over f a b)
kind_right k.Allt a b = omega arith
kind_right k.Xtlam a b = omega arith

pub terms_left : (f : OverTerms) (a b : Tree) → depth a ≤ depth (terms_over f a b)
terms_left t.App a b = omega arith
terms_left t.Eapp a b = omega arith

pub terms_right : (f : OverTerms) (a b : Tree) → depth b ≤ depth (terms_over f a b)
terms_right t.App a b = omega arith
terms_right t.Eapp a b = omega arith

pub typed_left : (f : Typed) (a b : Tree) → depth a ≤ depth (typed f a b)
typed_left w.Lam a b = omega arith
typed_left w.Elam a b = omega arith
typed_left w.Tapp a b = omega arith
typed_left w.Delta a b = omega arith

pub typed_right : (f : Typed) (a b : Tree) → depth b ≤ depth (typed f a b)
typed_right w.Lam a b = omega arith
typed_right w.Elam a b = omega arith
typed_right w.Tapp a b = omega arith
typed_right w.Delta a b = omega arith

pub ruleset deeper = (guides_left, guides_right, types_left, types_right, kind_left, kind_right, terms_left, terms_right, typed_left, typed_right)
