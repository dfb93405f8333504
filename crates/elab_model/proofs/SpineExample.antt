-- A worked spine: `f y` for `f : ∀ X : ★ . X ➔ X` and `y : A`, with X left out and found by the argument.
use Rattle.std.proofs.Common.{◌≡◌, zero, suc, List, [], ◌∷◌, Some, None, refl, subst, arith}
use Rattle.cdle_model.specs.Trees.{unknown, Tree, var, leaf}
use Rattle.cdle_model.specs.Forms.{star, pi, app, tapp}
use Rattle.cdle_model.specs.Erasure.{erased}
use Rattle.cdle_model.specs.Steps.{end}
use Rattle.cdle_model.specs.Derivation.{Entry, Item, a_term, a_type, star_rule, allt_rule, pi_rule, var_type, Has, by_rule}
use Rattle.cdle_model.proofs.Signatures.{ClosedItems}
use Rattle.elab_model.specs.HeadExamples.{product}
use Rattle.elab_model.specs.Unknowns.{fill_written}
use Rattle.elab_model.specs.OpenDerivations.{Found, AreWhole, so_far, AreOfKinds}
use Rattle.elab_model.proofs.OpenSpines.{IsWhole, so_far-agrees, spine-begins, spine-found, spine-ends, argument-fits, spine-left_out, spine-kept}

-- nothing is found, and then a type for the first unknown
abbrev nothing : Found
nothing n = None

abbrev only_first : Tree → Found
only_first a zero = Some a
only_first a (suc n) = None

first-whole : (a : Tree) → IsWhole a → AreWhole (only_first a)
first-whole a w zero p e f = let k : a ≡ p = grind arith in subst (λ z. fill_written f z ≡ z) k (w f)
first-whole a w (suc n) p e f = absurd (grind arith)

module _ (is : List Item) (g : ClosedItems is) (c : List Entry) where
  product-kind : Has is a_type c product star
  product-kind = by_rule (allt_rule (by_rule star_rule) (by_rule (pi_rule (by_rule (var_type refl)) (by_rule (var_type refl)))))

  first-kind : (a : Tree) → Has is a_type c a star → AreOfKinds is c (star ∷ []) (so_far (only_first a))
  first-kind a h zero k e = let i : star ≡ k = grind arith in subst (λ z. Has is a_type c a (erased (fill_written (so_far (only_first a)) z))) i h
  first-kind a h (suc n) k e = absurd (grind arith)

  pub spine-example : (f y a : Tree) → IsWhole f → IsWhole y → IsWhole a → Has is a_term c f (erased product) → Has is a_term c y (erased a) → Has is a_type c a star
      → Has is a_term c (app (tapp f a) y) (erased a)
  spine-example f y a u v w hf hy ha =
      let begun = spine-begins is c nothing f product u (λ t. refl) hf product-kind in
      let opened = spine-left_out is g c [] nothing f star (pi (var 0) (var 1)) begun in
      let found = spine-found is c (star ∷ []) nothing (only_first a) (tapp f (leaf (unknown 0))) (pi (leaf (unknown 0)) (leaf (unknown 0))) (λ t i n p e. absurd (grind arith)) opened in
      let argument = argument-fits is c (star ∷ []) (only_first a) y (leaf (unknown 0)) a a (first-whole a w) v w hy end refl in
      let applied = spine-kept is g c (star ∷ []) (only_first a) (tapp f (leaf (unknown 0))) y (leaf (unknown 0)) (leaf (unknown 0)) found argument in
      let (h, k) = spine-ends is c (star ∷ []) (only_first a) (so_far (only_first a)) (app (tapp f (leaf (unknown 0))) y) (leaf (unknown 0)) (so_far-agrees (only_first a)) (first-kind a ha) applied in
      subst (λ z. Has is a_term c (app (tapp z a) y) (erased a)) (u (so_far (only_first a))) (subst (λ z. Has is a_term c (app (tapp (fill_written (so_far (only_first a)) f) a) z) (erased a)) (v (so_far (only_first a))) h)
