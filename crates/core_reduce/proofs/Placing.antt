-- What a caller of a step knows of the head's parts, from the place of the whole.
use Rattle.std.proofs.Common.{◌≡◌, ℕ, zero, suc, ◌<◌, List, [], ◌∷◌, ◌++◌, length, get_or, drop, slice_get, Some, sym, ◌∙◌, subst, refl, ap, arith}
use Rattle.cdle_model.specs.declared.grammar.Sort.{Sort}
use Rattle.cdle_model.specs.declared.grammar.Sort.TheVariants.{OfTerm, OfType as OfTypes}
use Rattle.cdle_model.specs.Trees.{Function, of_pure, of_term, of_type, Tree, name, fun, IsBelow}
use Rattle.cdle_model.specs.Forms.{Written, fn, guide_tlam, guide_xtlam}
use Rattle.cdle_model.specs.Classes.{pure_terms, guides, within, item_sorts, Fits, UsedAs}
use Rattle.cdle_model.specs.Fitting.{class_of}
use Rattle.cdle_model.proofs.ScopedTrees.{fits-inner}
use Rattle.cdle_model.proofs.Scoping.{scoped_used}
use Rattle.core_reduce.specs.declared.root.Arg.{Arg}
use Rattle.core_reduce.specs.declared.root.Arg.TheVariants.{Ap, At, On}
use Rattle.core_reduce.specs.declared.side.SideClass.{SideClass}
use Rattle.core_reduce.specs.declared.side.SideClass.TheVariants.{OfPure, OfType, OfKind}
use Rattle.core_reduce.specs.Sides.{IsPlaced, class_trees, arg_function, spine}
use Rattle.core_reduce.specs.Heads.{innermost, IsStill}
use Rattle.cdle_model.proofs.Scopes.{fits_below_bound}
use Rattle.core_reduce.proofs.Spines.{ArgFits, spine_head, last_fits}

length_sorts : (ws : List Written) → length (item_sorts ws) ≡ length ws
length_sorts [] = refl
length_sorts (w ∷ ws) = ap suc (length_sorts ws)

pub placed_name : (k : SideClass) (m : ℕ) (zs : List Sort) (h : Tree) (n : ℕ) (xs : List Arg) → h ≡ name n → (g : IsPlaced m zs (class_trees k) (spine h xs)) → Fits (within g.sorts zs) (class_trees k) (name n)
placed_name k m zs h n xs e g = spine_head (within g.sorts zs) k (name n) xs (subst (λ z. Fits (within g.sorts zs) (class_trees k) (spine z xs)) e g.fits)

pub name_below : (k : SideClass) (m : ℕ) (ws : List Written) (h : Tree) (n : ℕ) (xs : List Arg) → h ≡ name n → IsPlaced m (item_sorts ws) (class_trees k) (spine h xs) → n < length ws
name_below k m ws h n xs e g =
    let l = (fits-inner g.sorts (item_sorts ws) (class_trees k) (name n) (placed_name k m (item_sorts ws) h n xs e g)).1 in
    omega (arith, length_sorts ws)

redex_placed : (k : SideClass) (m : ℕ) (zs : List Sort) (h : Tree) (c : Function) (b : Tree) (xs ys : List Arg) (x : Arg) → h ≡ fun c b → xs ≡ ys ++ x ∷ []
    → (g : IsPlaced m zs (class_trees k) (spine h xs)) → Fits (within g.sorts zs) (class_trees k) (fun c b) × ArgFits (within g.sorts zs) k x
redex_placed k m zs h c b xs ys x e f g =
    last_fits (within g.sorts zs) k (fun c b) ys x
    (subst (λ z. Fits (within g.sorts zs) (class_trees k) (spine z (ys ++ x ∷ []))) e (subst (λ z. Fits (within g.sorts zs) (class_trees k) (spine h z)) f g.fits))

module _ (zs : List Sort) (h : Tree) (xs ys : List Arg) where
  pub ap_used : (b a : Tree) → h ≡ fn b → xs ≡ ys ++ Ap a ∷ [] → IsPlaced 4250000000 zs pure_terms (spine h xs) → UsedAs OfTerm 0 pure_terms b × IsBelow 4290000000 a
  ap_used b a e f g =
      let (u, w) = redex_placed OfPure 4250000000 zs h of_pure b xs ys (Ap a) e f g in let l = g.few in
      (scoped_used (OfTerm ∷ g.sorts) zs OfTerm 0 pure_terms b refl u, fits_below_bound 4290000000 g.sorts zs pure_terms a (omega arith) w)

  pub at_used : (b a : Tree) → h ≡ guide_tlam b → xs ≡ ys ++ At a ∷ [] → IsPlaced 4250000000 zs guides (spine h xs) → UsedAs OfTerm 0 guides b × IsBelow 4290000000 a
  at_used b a e f g =
      let (u, w) = redex_placed OfType 4250000000 zs h of_term b xs ys (At a) e f g in let l = g.few in
      (scoped_used (OfTerm ∷ g.sorts) zs OfTerm 0 guides b refl u, fits_below_bound 4290000000 g.sorts zs pure_terms a (omega arith) w)

  pub on_used : (b a : Tree) → h ≡ guide_xtlam b → xs ≡ ys ++ On a ∷ [] → IsPlaced 4250000000 zs guides (spine h xs) → UsedAs OfTypes 0 guides b × IsBelow 4290000000 a
  on_used b a e f g =
      let (u, w) = redex_placed OfType 4250000000 zs h of_type b xs ys (On a) e f g in let l = g.few in
      (scoped_used (OfTypes ∷ g.sorts) zs OfTypes 0 guides b refl u, fits_below_bound 4290000000 g.sorts zs guides a (omega arith) w)

-- the innermost argument is the last of the list
innermost_push : (xs : List Arg) (x : Arg) → innermost (xs ++ x ∷ []) ≡ Some x
innermost_push [] x = refl
innermost_push (y ∷ []) x = refl
innermost_push (y ∷ w ∷ xs) x = innermost_push (w ∷ xs) x

-- a function that has a step has an argument by which it is applied
pub moving_function : (h : Tree) (c : Function) (b : Tree) (xs ys : List Arg) (x : Arg) → h ≡ fun c b → xs ≡ ys ++ x ∷ [] → (IsStill h (innermost xs) → ⊥) → (arg_function x ≡ c → ⊥) → ⊥
moving_function h c b xs ys x e f m n =
    m (subst (λ z. IsStill z (innermost xs)) (sym e) (subst (IsStill (fun c b)) (sym (ap innermost f ∙ innermost_push ys x)) n))

pub moving_applied : (h : Tree) (c : Function) (b : Tree) (xs : List Arg) → h ≡ fun c b → xs ≡ [] → (IsStill h (innermost xs) → ⊥) → ⊥
moving_applied h c b xs e f m = m (subst (λ z. IsStill z (innermost xs)) (sym e) (subst (λ z. IsStill (fun c b) (innermost z)) (sym f) tt))

pub innermost_is : (from : ℕ) (xs : List Arg) (n : ℕ) (x : Arg) → from < length xs → suc n ≡ length xs → x ≡ get_or xs n x → innermost (drop from xs) ≡ Some x
innermost_is from [] n x l e f = absurd (omega arith)
innermost_is zero (y ∷ []) zero x l e f = ap Some (sym f)
innermost_is zero (y ∷ []) (suc n) x l e f = absurd (omega arith)
innermost_is zero (y ∷ w ∷ xs) zero x l e f = absurd (omega arith)
innermost_is zero (y ∷ w ∷ xs) (suc n) x l e f = innermost_is zero (w ∷ xs) n x (omega arith) (omega arith) f
innermost_is (suc from) (y ∷ xs) zero x l e f = absurd (omega arith)
innermost_is (suc from) (y ∷ xs) (suc n) x l e f = innermost_is from xs n x (omega arith) (omega arith) f

trees_differ : (k c : SideClass) → class_trees k ≡ class_trees c → k ≡ c
trees_differ OfPure OfPure e = refl
trees_differ OfPure OfType e = cc
trees_differ OfPure OfKind e = cc
trees_differ OfType OfPure e = cc
trees_differ OfType OfType e = refl
trees_differ OfType OfKind e = cc
trees_differ OfKind OfPure e = cc
trees_differ OfKind OfType e = cc
trees_differ OfKind OfKind e = refl

-- the body of a name's item is of the name's class
pub name_class : (vs : List Sort) (ws : List Written) (k c : SideClass) (n : ℕ) → Fits (within vs (item_sorts ws)) (class_trees k) (name n)
    → ((x : Sort) → slice_get (item_sorts ws) n ≡ Some x → class_trees c ≡ class_of x) → c ≡ k
name_class vs ws OfPure c n h f = trees_differ c OfPure (f OfTerm h)
name_class vs ws OfType c n h f = trees_differ c OfType (f OfTypes h)
name_class vs ws OfKind c n h f = absurd h

-- the innermost argument of a pure function is one of `ap`
pub ap_only : (zs : List Sort) (h b : Tree) (xs ys : List Arg) (x : Arg) → h ≡ fn b → xs ≡ ys ++ x ∷ [] → IsPlaced 4250000000 zs pure_terms (spine h xs) → ((p : Tree) → x ≡ Ap p → ⊥) → ⊥
ap_only zs h b xs ys x e f g n = by_arg x (redex_placed OfPure 4250000000 zs h of_pure b xs ys x e f g).1 n
  where
    by_arg : (x : Arg) → ArgFits (within g.sorts zs) OfPure x → ((p : Tree) → x ≡ Ap p → ⊥) → ⊥
    by_arg (Ap p) k m = m p refl
    by_arg (At p) k m = k
    by_arg (On p) k m = k

pub no_at : (x : Arg) → ((p : Tree) → x ≡ At p → ⊥) → arg_function x ≡ of_term → ⊥
no_at (Ap p) n e = cc
no_at (At p) n e = n p refl
no_at (On p) n e = cc

pub no_on : (x : Arg) → ((p : Tree) → x ≡ On p → ⊥) → arg_function x ≡ of_type → ⊥
no_on (Ap p) n e = cc
no_on (At p) n e = cc
no_on (On p) n e = n p refl
