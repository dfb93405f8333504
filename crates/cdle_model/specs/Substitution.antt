-- A tree put for a variable of a written tree: in the sides and guides, which are erased, its erasure is put.
use Rattle.std.specs.Prelude.{ℕ, suc}
use Rattle.cdle_model.specs.Trees.{of_pure, eq_of, beta_of, phi_of, guide_of, Tree, var, name, leaf, unary, fun, apply, binary, bind, shift, put_var, put}
use Rattle.cdle_model.specs.Erasure.{erased}

abbrev pub put_written : ℕ → Tree → Tree → Tree
put_written at a (var i) = put_var at a i
put_written at a (name n) = name n
put_written at a (leaf l) = leaf l
put_written at a (unary j p) = unary j (put_written at a p)
put_written at a (fun c p) = put at (erased a) (fun c p)
put_written at a (apply of_pure p q) = put at (erased a) (apply of_pure p q)
put_written at a (apply c p q) = apply c (put_written at a p) (put_written at a q)
put_written at a (binary eq_of p q) = put at (erased a) (binary eq_of p q)
put_written at a (binary beta_of p q) = put at (erased a) (binary beta_of p q)
put_written at a (binary phi_of p q) = binary phi_of (put_written at a p) (put at (erased a) q)
put_written at a (binary j p q) = binary j (put_written at a p) (put_written at a q)
put_written at a (bind guide_of p q) = bind guide_of (put_written at a p) (put (suc at) (shift 0 1 (erased a)) q)
put_written at a (bind f p q) = bind f (put_written at a p) (put_written (suc at) (shift 0 1 a) q)
