-- Where no unknown is, nothing is replaced.
use Rattle.std.proofs.Common.{◌≡◌, false, ◌||◌, Bool, true, refl, ap, ap₂}
use Rattle.cdle_model.specs.Trees.{star_of, unknown, Tree, var, name, leaf, unary, fun, apply, binary, bind}
use Rattle.elab_tree.specs.Sizes.{filled, has_unknown}

pub neither_left : (a b : Bool) → (a || b) ≡ false → a ≡ false
neither_left true b h = h
neither_left false b h = refl

pub neither_right : (a b : Bool) → (a || b) ≡ false → b ≡ false
neither_right true b h = absurd cc
neither_right false b h = h

pub nothing_filled : (t : Tree) → has_unknown t ≡ false → filled t ≡ t
nothing_filled (var i) h = refl
nothing_filled (name n) h = refl
nothing_filled (leaf star_of) h = refl
nothing_filled (leaf (unknown n)) h = absurd cc
nothing_filled (unary j p) h = ap (unary j) (nothing_filled p h)
nothing_filled (fun c p) h = ap (fun c) (nothing_filled p h)
nothing_filled (apply c p q) h = ap₂ (apply c) (nothing_filled p (neither_left _ _ h)) (nothing_filled q (neither_right (has_unknown p) _ h))
nothing_filled (binary j p q) h = ap₂ (binary j) (nothing_filled p (neither_left _ _ h)) (nothing_filled q (neither_right (has_unknown p) _ h))
nothing_filled (bind f p q) h = ap₂ (bind f) (nothing_filled p (neither_left _ _ h)) (nothing_filled q (neither_right (has_unknown p) _ h))
