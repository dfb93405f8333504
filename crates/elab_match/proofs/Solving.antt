-- The trees' code and the rules put solutions in the same way.
use Rattle.std.proofs.Common.{◌≡◌, ℕ, Option, Some, None, slice_get, refl, ap, ap₂}
use Rattle.cdle_model.specs.Trees.{of_pure, eq_of, beta_of, phi_of, guide_of, star_of, unknown, Tree, var, name, leaf, unary, fun, apply, binary, bind, shift}
use Rattle.cdle_model.specs.Erasure.{erased}
use Rattle.elab_tree.specs.Solved.{Types, above, erased_types, solved_erased, solved, solution_at, or_unknown, solutions}
use Rattle.elab_model.specs.Unknowns.{fill, fill_written}
use Rattle.elab_model.specs.OpenDerivations.{found_or, so_far}
use Rattle.elab_model.specs.Instances.{Solution, flat, found_in, solved_in}

-- what stands for each unknown is the same
abbrev Alike : Types → Types → Type 0
Alike f g = (n : ℕ) → f n ≡ g n

alike-above : (f g : Types) → Alike f g → Alike (above f) (above g)
alike-above f g e n = ap (shift 0 1) (e n)

alike-erased : (f g : Types) → Alike f g → Alike (erased_types f) (erased_types g)
alike-erased f g e n = ap erased (e n)

solved-erased : (f g : Types) → Alike f g → (t : Tree) → solved_erased f t ≡ fill g t
solved-erased f g e (var i) = refl
solved-erased f g e (name n) = refl
solved-erased f g e (leaf star_of) = refl
solved-erased f g e (leaf (unknown n)) = e n
solved-erased f g e (unary j p) = ap (unary j) (solved-erased f g e p)
solved-erased f g e (fun c p) = ap (fun c) (solved-erased (above f) (above g) (alike-above f g e) p)
solved-erased f g e (apply c p q) = ap₂ (apply c) (solved-erased f g e p) (solved-erased f g e q)
solved-erased f g e (binary j p q) = ap₂ (binary j) (solved-erased f g e p) (solved-erased f g e q)
solved-erased f g e (bind b p q) = ap₂ (bind b) (solved-erased f g e p) (solved-erased (above f) (above g) (alike-above f g e) q)

solved-written : (f g : Types) → Alike f g → (t : Tree) → solved f t ≡ fill_written g t
solved-written f g e (var i) = refl
solved-written f g e (name n) = refl
solved-written f g e (leaf star_of) = refl
solved-written f g e (leaf (unknown n)) = e n
solved-written f g e (unary j p) = ap (unary j) (solved-written f g e p)
solved-written f g e (fun c p) = solved-erased (erased_types f) (erased_types g) (alike-erased f g e) (fun c p)
solved-written f g e (apply of_pure p q) = solved-erased (erased_types f) (erased_types g) (alike-erased f g e) (apply of_pure p q)
solved-written f g e (apply c p q) = ap₂ (apply c) (solved-written f g e p) (solved-written f g e q)
solved-written f g e (binary eq_of p q) = solved-erased (erased_types f) (erased_types g) (alike-erased f g e) (binary eq_of p q)
solved-written f g e (binary beta_of p q) = solved-erased (erased_types f) (erased_types g) (alike-erased f g e) (binary beta_of p q)
solved-written f g e (binary phi_of p q) = ap₂ (binary phi_of) (solved-written f g e p) (solved-erased (erased_types f) (erased_types g) (alike-erased f g e) q)
solved-written f g e (binary j p q) = ap₂ (binary j) (solved-written f g e p) (solved-written f g e q)
solved-written f g e (bind guide_of p q) =
    ap₂ (bind guide_of) (solved-written f g e p) (solved-erased (above (erased_types f)) (above (erased_types g)) (alike-above (erased_types f) (erased_types g) (alike-erased f g e)) q)
solved-written f g e (bind b p q) = ap₂ (bind b) (solved-written f g e p) (solved-written (above f) (above g) (alike-above f g e) q)

same-found : (os : Solution) → Alike (solutions os) (so_far (found_in os))
same-found os n = by_case (slice_get os n) refl
  where
    by_case : (o : Option (Option Tree)) → slice_get os n ≡ o → or_unknown n (solution_at os n) ≡ found_or n (flat (slice_get os n))
    by_case (Some (Some a)) e = rw e refl
    by_case (Some None) e = rw e refl
    by_case None e = rw e refl

pub solving : (os : Solution) (t : Tree) → solved (solutions os) t ≡ solved_in os t
solving os t = solved-written (solutions os) (so_far (found_in os)) (same-found os) t
