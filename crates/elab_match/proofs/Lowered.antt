-- A type without its innermost variables.
use Rattle.std.proofs.Common.{◌≡◌, ℕ, suc, Bool, true, false, cond, Option, Some, None, refl, ap, ap₂, ◌∙◌, arith}
use Rattle.cdle_model.specs.Trees.{of_pure, eq_of, beta_of, phi_of, guide_of, star_of, Leaf, Tree, var, name, leaf, unary, fun, apply, binary, bind, put, lacks}
use Rattle.cdle_model.specs.Substitution.{put_written}
use Rattle.cdle_model.specs.Erasure.{lowered}
use Rattle.cdle_model.proofs.MissingVariable.{lacks-lowered}
use Rattle.elab_model.specs.Instances.{outside}

-- a leaf is put in a written tree as in an erased one
leaf-put : (k : ℕ) (l : Leaf) (t : Tree) → put_written k (leaf l) t ≡ put k (leaf l) t
leaf-put k l (var i) = refl
leaf-put k l (name n) = refl
leaf-put k l (leaf m) = refl
leaf-put k l (unary j p) = ap (unary j) (leaf-put k l p)
leaf-put k l (fun c p) = refl
leaf-put k l (apply of_pure p q) = refl
leaf-put k l (apply c p q) = ap₂ (apply c) (leaf-put k l p) (leaf-put k l q)
leaf-put k l (binary eq_of p q) = refl
leaf-put k l (binary beta_of p q) = refl
leaf-put k l (binary phi_of p q) = ap (λ p. binary phi_of p (put k (leaf l) q)) (leaf-put k l p)
leaf-put k l (binary j p q) = ap₂ (binary j) (leaf-put k l p) (leaf-put k l q)
leaf-put k l (bind guide_of p q) = ap (λ p. bind guide_of p (put (suc k) (leaf l) q)) (leaf-put k l p)
leaf-put k l (bind f p q) = ap₂ (bind f) (leaf-put k l p) (leaf-put (suc k) l q)

-- whatever leaf is put for a variable that is not in the tree
pub lowered_by_put : (l : Leaf) (t : Tree) → lacks 0 t ≡ true → put_written 0 (leaf l) t ≡ lowered t
lowered_by_put l t h = leaf-put 0 l t ∙ lacks-lowered 0 (leaf l) (leaf star_of) t h

abbrev innermost : Tree → Option Tree
innermost t = cond (lacks 0 t) (Some (lowered t)) None

-- one binder less
pub outside-next : (k j : ℕ) (t u : Tree) → k ≡ suc j → innermost t ≡ Some u → outside k t ≡ outside j u
outside-next k j t u e h = rw e (by_case (lacks 0 t) h)
  where
    by_case : (a : Bool) → cond a (Some (lowered t)) None ≡ Some u → cond a (outside j (lowered t)) None ≡ outside j u
    by_case true h = let i : lowered t ≡ u = grind arith in rw i refl
    by_case false h = absurd cc
