-- Which unknowns stand in a tree.
use Rattle.std.proofs.Common.{◌≡◌, ℕ, Bool, true, false, refl}
use Rattle.cdle_model.specs.Trees.{star_of, unknown, Tree, var, name, leaf, unary, fun, apply, binary, bind}
use Rattle.elab_tree.specs.Sizes.{has_unknown}
use Rattle.elab_tree.proofs.Filled.{neither_left, neither_right}
use Rattle.elab_model.specs.Instances.{or_else, mentions}

neither : (a b : Bool) → a ≡ false → b ≡ false → or_else a b ≡ false
neither true b h l = h
neither false b h l = l

-- a tree without unknowns has not the one of that number
pub none_mentioned : (n : ℕ) (t : Tree) → has_unknown t ≡ false → mentions n t ≡ false
none_mentioned n (var i) h = refl
none_mentioned n (name m) h = refl
none_mentioned n (leaf star_of) h = refl
none_mentioned n (leaf (unknown m)) h = absurd cc
none_mentioned n (unary j p) h = none_mentioned n p h
none_mentioned n (fun c p) h = none_mentioned n p h
none_mentioned n (apply c p q) h = neither (mentions n p) (mentions n q) (none_mentioned n p (neither_left _ _ h)) (none_mentioned n q (neither_right (has_unknown p) _ h))
none_mentioned n (binary j p q) h = neither (mentions n p) (mentions n q) (none_mentioned n p (neither_left _ _ h)) (none_mentioned n q (neither_right (has_unknown p) _ h))
none_mentioned n (bind f p q) h = neither (mentions n p) (mentions n q) (none_mentioned n p (neither_left _ _ h)) (none_mentioned n q (neither_right (has_unknown p) _ h))
