-- Solutions put for the unknowns of a tree, all at once.
use Rattle.std.specs.Prelude.{ℕ, List, Option, None, Some, slice_get}
use Rattle.cdle_model.specs.Trees.{of_pure, eq_of, beta_of, phi_of, guide_of, star_of, unknown, Tree, var, name, leaf, unary, fun, apply, binary, bind, shift}
use Rattle.cdle_model.specs.Erasure.{erased}

-- what stands for each unknown, and the same under one more binder
abbrev pub Types : Type 0
Types = ℕ → Tree

abbrev pub above : Types → Types
above f n = shift 0 1 (f n)

abbrev pub erased_types : Types → Types
erased_types f n = erased (f n)

-- in an erased tree
abbrev pub solved_erased : Types → Tree → Tree
solved_erased f (var i) = var i
solved_erased f (name n) = name n
solved_erased f (leaf star_of) = leaf star_of
solved_erased f (leaf (unknown n)) = f n
solved_erased f (unary j p) = unary j (solved_erased f p)
solved_erased f (fun c p) = fun c (solved_erased (above f) p)
solved_erased f (apply c p q) = apply c (solved_erased f p) (solved_erased f q)
solved_erased f (binary j p q) = binary j (solved_erased f p) (solved_erased f q)
solved_erased f (bind b p q) = bind b (solved_erased f p) (solved_erased (above f) q)

-- in a written tree; in its sides and guides the erasures stand
abbrev pub solved : Types → Tree → Tree
solved f (var i) = var i
solved f (name n) = name n
solved f (leaf star_of) = leaf star_of
solved f (leaf (unknown n)) = f n
solved f (unary j p) = unary j (solved f p)
solved f (fun c p) = solved_erased (erased_types f) (fun c p)
solved f (apply of_pure p q) = solved_erased (erased_types f) (apply of_pure p q)
solved f (apply c p q) = apply c (solved f p) (solved f q)
solved f (binary eq_of p q) = solved_erased (erased_types f) (binary eq_of p q)
solved f (binary beta_of p q) = solved_erased (erased_types f) (binary beta_of p q)
solved f (binary phi_of p q) = binary phi_of (solved f p) (solved_erased (erased_types f) q)
solved f (binary j p q) = binary j (solved f p) (solved f q)
solved f (bind guide_of p q) = bind guide_of (solved f p) (solved_erased (above (erased_types f)) q)
solved f (bind b p q) = bind b (solved f p) (solved (above f) q)

-- the solution of each unknown, by its number; an unknown without one stays
abbrev pub solution_at : List (Option Tree) → ℕ → Option Tree
solution_at os n = found (slice_get os n)
  where
    found : Option (Option Tree) → Option Tree
    found (Some o) = o
    found None = None

abbrev pub or_unknown : ℕ → Option Tree → Tree
or_unknown n (Some a) = a
or_unknown n None = leaf (unknown n)

abbrev pub solutions : List (Option Tree) → Types
solutions os n = or_unknown n (solution_at os n)
