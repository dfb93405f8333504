-- The plain check of items that are of their classes never ends as ill classed.
use Rattle.std.proofs.Common.{◌≡◌, ℕ, zero, suc, Bool, true, false, cond, ltb, List, [], ◌∷◌, Option, Some, None, slice_get, option_map, refl, arith}
use Rattle.cdle_model.specs.declared.grammar.Sort.{Sort}
use Rattle.cdle_model.specs.declared.grammar.Sort.TheVariants.{OfTerm, OfType}
use Rattle.cdle_model.specs.Trees.{of_pure, rho_of, phi_of, Binder, pi_of, all_of, allt_of, iota_of, kpi_of, kpit_of, pair_of, guide_of, Binder-discrete, Tree, var, name, fun, binary, bind, put, lacks}
use Rattle.cdle_model.specs.Forms.{star, kpi, kpit, pi, all, allt, at_, on, iota, eq, tlam, xtlam, lam, elam, xlam, app, eapp, tapp, pair, fst, snd, beta, rho, phi, delta}
use Rattle.cdle_model.specs.Depth.{depth}
use Rattle.cdle_model.specs.Classes.{TreeClass, terms, types, kinds, pure_terms, guides, guide_kinds, within, under, Fits}
use Rattle.cdle_model.specs.Erasure.{erased, HasErasure}
use Rattle.cdle_model.specs.Machine.{Budgeted, answered, spent}
use Rattle.cdle_model.specs.HeadForms.{Halt, deep, deepest, HeadAnswer, value, no_value, head_form}
use Rattle.cdle_model.specs.Comparison.{Answer, same, apart, halted, compare}
use Rattle.cdle_model.specs.Derivation.{Entry, term_of, type_of, raised, entry, Item, item, Judgement, a_term, a_type, a_kind, true_pure, false_pure}
use Rattle.cdle_model.specs.Fitting.{IsErased, subject_class, given_class, entry_sort, entry_sorts, EntryFits, ContextFits, BodiesFit, SignatureFits}
use Rattle.cdle_model.specs.Check.{Reason, erased_use, Finding, gives, halts, Questions, finds, refuse, halt, ask_same, ask_head, at_part, binder_parts, equation_parts, binder_then, has_then, unless_deep, limited, star_then, found, infer, by_answer, by_head, answer}
use Rattle.cdle_model.proofs.ClassSubstitution.{fits-put, fits-shift, fits-closed}
use Rattle.cdle_model.proofs.ClassErasure.{has-erasure, lacks-type, erased-fits}
use Rattle.cdle_model.proofs.ClassSteps.{HeadFits, head-fits, compare-halts}

entry-raised : (zs vs : List Sort) (x y : Sort) (o : Option Entry) → EntryFits vs zs x o → EntryFits (y ∷ vs) zs x (option_map raised o)
entry-raised zs vs OfTerm y (Some (term_of a)) h = fits-shift zs vs y guides a h
entry-raised zs vs OfType y (Some (type_of k)) h = fits-shift zs vs y guide_kinds k h
entry-raised zs vs OfTerm y (Some (type_of k)) h = absurd h
entry-raised zs vs OfType y (Some (term_of a)) h = absurd h
entry-raised zs vs OfTerm y None h = absurd h
entry-raised zs vs OfType y None h = absurd h

entry-is : (zs : List Sort) (c : List Entry) (i : ℕ) (x : Sort) → ContextFits zs c → slice_get (entry_sorts c) i ≡ Some x → EntryFits (entry_sorts c) zs x (entry c i)
entry-is zs [] i x h e = absurd (grind arith)
entry-is zs (f ∷ c) zero x h e =
    let k : entry_sort f ≡ x = grind arith in
    rw (← k) (entry-raised zs (entry_sorts c) (entry_sort f) (entry_sort f) (Some f) h.0)
entry-is zs (f ∷ c) (suc i) x h e = entry-raised zs (entry_sorts c) x (entry_sort f) (entry c i) (entry-is zs c i x h.1 e)

-- what is given is so, and the end is that of depth
abbrev pub FindingSound : (Tree → Type 0) → Finding → Type 0
FindingSound Y (gives a) = Y a
FindingSound Y (halts z) = z ≡ deep
FindingSound Y r = Unit {0}

-- two trees of one class in one context
abbrev pub SameClass : List Sort → Tree → Tree → Type 0
SameClass zs a b = (vs : List Sort) × (c : TreeClass) × IsErased c × Fits (within vs zs) c a × Fits (within vs zs) c b

-- what is asked is of a class
abbrev pub Sound : List Sort → (Tree → Type 0) → Questions → Type 0
Sound zs Y (finds a) = Y a
Sound zs Y (refuse p w) = Unit {0}
Sound zs Y (halt z) = z ≡ deep
Sound zs Y (ask_same p w a b q) = SameClass zs a b × Sound zs Y q
Sound zs Y (ask_head p a k) = (vs : List Sort) × (c : TreeClass) × IsErased c × Fits (within vs zs) c a × ((b : Tree) → Fits (within vs zs) c b → Sound zs Y (k b))

pub sound-part : (zs : List Sort) (Y Z : Tree → Type 0) (i : ℕ) (q : Questions) (f : Tree → Questions) → Sound zs Y q → ((a : Tree) → Y a → Sound zs Z (f a)) → Sound zs Z (at_part i q f)
sound-part zs Y Z i (finds a) f h k = k a h
sound-part zs Y Z i (refuse p w) f h k = tt
sound-part zs Y Z i (halt z) f h k = h
sound-part zs Y Z i (ask_same p w a b q) f h k = (h.0, sound-part zs Y Z i q f h.1 k)
sound-part zs Y Z i (ask_head p a g) f (vs, c, e, l, h) k = (vs, c, e, l, λ b m. sound-part zs Y Z i (g b) f (h b m) k)

sound-deep : (zs : List Sort) (Y : Tree → Type 0) (a : Tree) (q : Questions) → Sound zs Y q → Sound zs Y (unless_deep a q)
sound-deep zs Y a q h = by_test (ltb deepest (depth a))
  where
    by_test : (b : Bool) → Sound zs Y (cond b (halt deep) q)
    by_test true = refl
    by_test false = h

-- the answers
pub answer-sound : (zs : List Sort) (s : List Tree) (w : BodiesFit zs s) (n : ℕ) (Y : Tree → Type 0) (q : Questions) → Sound zs Y q → FindingSound Y (answer s n q)
answer-sound zs s w n Y (finds a) h = h
answer-sound zs s w n Y (refuse p u) h = tt
answer-sound zs s w n Y (halt z) h = h
answer-sound zs s w n Y (ask_same p u a b q) ((vs, c, e, l, m), h) = by_compare (answer-sound zs s w n Y q h) (compare s n a b) (λ z j i. compare-halts zs s w n vs c a b z j e l m i)
  where
    by_compare : FindingSound Y (answer s n q) → (x : Budgeted Answer) → ((z : Halt) (j : ℕ) → x ≡ answered (halted z) j → z ≡ deep) → FindingSound Y (by_answer p u x (answer s n q))
    by_compare f (answered same j) i = f
    by_compare f (answered (apart x y) j) i = tt
    by_compare f (answered (halted z) j) i = i z j refl
    by_compare f spent i = tt
answer-sound zs s w n Y (ask_head p a k) (vs, c, e, l, h) = by_headed (λ b m. answer-sound zs s w n Y (k b) (h b m)) (head_form s n a) (head-fits zs s w n vs c a e l)
  where
    by_headed : ((b : Tree) → Fits (within vs zs) c b → FindingSound Y (answer s n (k b))) → (x : Budgeted HeadAnswer) → HeadFits zs s w vs c x → FindingSound Y (by_head p x (λ b. answer s n (k b)))
    by_headed f (answered (value b) j) m = f b m
    by_headed f (answered (no_value z) j) m = m
    by_headed f spent m = tt

module _ (zs : List Sort) (is : List Item) (g : SignatureFits zs is) where
  -- a question whether two trees are the same
  pub sound-same : {K : Type 0} (vs : List Sort) (c : TreeClass) (a b : Tree) → IsErased c → Fits (within vs zs) c a → Fits (within vs zs) c b → K → SameClass zs a b × K
  sound-same vs c a b e h l m = ((vs, c, e, h, l), m)

  by_parts : (Y : Tree → Type 0) (vs : List Sort) (c : TreeClass) (f : Binder) (b : Tree) (k : Tree → Tree → Questions) (p : List ℕ) (w : Reason) → ((x : Tree) → Fits (within vs zs) c (fun of_pure x) → ⊥) → Fits (within vs zs) c b
      → ((x y : Tree) → Fits (within vs zs) c (bind f x y) → Sound zs Y (k x y)) → Sound zs Y (binder_parts f b k (refuse p w))
  by_parts Y vs c f (bind h x y) k p w u v l = by_test (Binder-discrete f h)
    where
      by_test : (d : Dec (f ≡ h)) → Sound zs Y (elim d [ yes e ↦ k x y | no e ↦ refuse p w ])
      by_test (yes e) = l x y (rw e v)
      by_test (no e) = tt
  by_parts Y vs c f (fun of_pure q) k p w u v l = absurd (u q v)
  by_parts Y vs c f b k p w u v l = tt

  sound-binder : (Y : Tree → Type 0) (vs : List Sort) (c : TreeClass) (f : Binder) (p : List ℕ) (w : Tree → Reason) (a : Tree) (k : Tree → Tree → Questions) → IsErased c → ((x : Tree) → Fits (within vs zs) c (fun of_pure x) → ⊥) → Fits (within vs zs) c a
      → ((x y : Tree) → Fits (within vs zs) c (bind f x y) → Sound zs Y (k x y)) → Sound zs Y (ask_head p a (λ b. binder_parts f b k (refuse p (w b))))
  sound-binder Y vs c f p w a k e u h l = (vs, c, e, h, λ b v. by_parts Y vs c f b k p (w b) u v l)

  by_sides : (Y : Tree → Type 0) (vs : List Sort) (b : Tree) (k : Tree → Tree → Questions) (p : List ℕ) (w : Reason) → Fits (within vs zs) guides b
      → ((x y : Tree) → Fits (within vs zs) guides (eq x y) → Sound zs Y (k x y)) → Sound zs Y (equation_parts b k (refuse p w))
  by_sides Y vs (eq x y) k p w v l = l x y v
  by_sides Y vs (fun of_pure q) k p w v l = absurd v
  by_sides Y vs b k p w v l = tt

  sound-equation : (Y : Tree → Type 0) (vs : List Sort) (p : List ℕ) (w : Tree → Reason) (a : Tree) (k : Tree → Tree → Questions) → Fits (within vs zs) guides a
      → ((x y : Tree) → Fits (within vs zs) guides (eq x y) → Sound zs Y (k x y)) → Sound zs Y (ask_head p a (λ b. equation_parts b k (refuse p (w b))))
  sound-equation Y vs p w a k h l = (vs, guides, tt, h, λ b v. by_sides Y vs b k p (w b) v l)

  -- what is found of a tree: it has an erasure, and what is given fits
  abbrev pub IsFound : List Sort → Judgement → Tree → Tree → Type 0
  IsFound vs j t a = HasErasure t × Fits (within vs zs) (given_class j) a

  pub sound-star : (Y : Tree → Type 0) (vs : List Sort) (t : Tree) (i : ℕ) (r k : Questions) → Sound zs (IsFound vs a_type t) r → (HasErasure t → Sound zs Y k) → Sound zs Y (star_then i r k)
  sound-star Y vs t i r k h l = sound-part zs (IsFound vs a_type t) Y i r _ h (λ b x. sound-same vs guide_kinds b star tt x.1 tt (l x.0))

  sound-apply : (Y : Tree → Type 0) (vs : List Sort) (c d : TreeClass) (t u : Tree) (f : Binder) (v : Tree → Reason) (w : Tree → Tree → Reason) (r r' : Questions) (m : Tree → Tree)
      → IsErased c → IsErased d → ((x : Tree) → Fits (within vs zs) c (fun of_pure x) → ⊥)
      → Sound zs (λ a. HasErasure t × Fits (within vs zs) c a) r → Sound zs (λ a. HasErasure u × Fits (within vs zs) d a) r'
      → ((x y : Tree) → Fits (within vs zs) c (bind f x y) → Fits (within vs zs) d x)
      → (HasErasure t → HasErasure u → (x y : Tree) → Fits (within vs zs) c (bind f x y) → Y (m y))
      → Sound zs Y (binder_then 1 f v r (λ x y. has_then 2 (λ d'. w d' x) r' x (limited (m y))))
  sound-apply Y vs c d t u f v w r r' m e e' no_fn h k dom last =
      sound-part zs (λ a. HasErasure t × Fits (within vs zs) c a) Y 1 r _ h
      (λ a x. sound-binder Y vs c f (1 ∷ []) v a _ e no_fn x.1
      (λ y z l. sound-part zs (λ b. HasErasure u × Fits (within vs zs) d b) Y 2 r' _ k
      (λ y' x'. sound-same vs d y' y e' x'.1 (dom y z l) (sound-deep zs Y (m z) (finds (m z)) (last x.0 x'.0 y z l)))))

  found_term-sound : (Y : Tree → Type 0) (us : List Sort) (o : Option Entry) → EntryFits us zs OfTerm o → ((a : Tree) → Fits (within us zs) guides a → Y a) → Sound zs Y (found a_term o)
  found_term-sound Y us (Some (term_of a)) h k = sound-deep zs Y a (finds a) (k a h)
  found_term-sound Y us (Some (type_of a)) h k = absurd h
  found_term-sound Y us None h k = absurd h

  found_type-sound : (Y : Tree → Type 0) (us : List Sort) (o : Option Entry) → EntryFits us zs OfType o → ((a : Tree) → Fits (within us zs) guide_kinds a → Y a) → Sound zs Y (found a_type o)
  found_type-sound Y us (Some (type_of a)) h k = sound-deep zs Y a (finds a) (k a h)
  found_type-sound Y us (Some (term_of a)) h k = absurd h
  found_type-sound Y us None h k = absurd h

  -- the erasure of a part
  er-term : (vs : List Sort) (t : Tree) → Fits (within vs zs) terms t → HasErasure t → Fits (within vs zs) pure_terms (erased t)
  er-term vs t = erased-fits zs vs terms t

  er-type : (vs : List Sort) (t : Tree) → Fits (within vs zs) types t → HasErasure t → Fits (within vs zs) guides (erased t)
  er-type vs t = erased-fits zs vs types t

  er-kind : (vs : List Sort) (t : Tree) → Fits (within vs zs) kinds t → HasErasure t → Fits (within vs zs) guide_kinds (erased t)
  er-kind vs t = erased-fits zs vs kinds t

  put-term : (vs : List Sort) (c : TreeClass) (a e : Tree) → IsErased c → Fits (within vs zs) pure_terms a → Fits (within (OfTerm ∷ vs) zs) c e → Fits (within vs zs) c (put 0 a e)
  put-term vs c a e p0 h k = fits-put zs vs OfTerm a h c e p0 k

  put-type : (vs : List Sort) (c : TreeClass) (a e : Tree) → IsErased c → Fits (within vs zs) guides a → Fits (within (OfType ∷ vs) zs) c e → Fits (within vs zs) c (put 0 a e)
  put-type vs c a e p0 h k = fits-put zs vs OfType a h c e p0 k

  has-pure : (vs : List Sort) (p : Tree) → Fits (within vs zs) pure_terms p → HasErasure p
  has-pure vs p h = has-erasure (within vs zs) pure_terms p tt h

  -- an erased binder's variable is not used
  sound-lacks : (Y : Tree → Type 0) (t : Tree) (k : Questions) → (lacks 0 (erased t) ≡ true → Sound zs Y k) → Sound zs Y (cond (lacks 0 (erased t)) k (refuse [] erased_use))
  sound-lacks Y t k h = by_test (lacks 0 (erased t)) refl
    where
      by_test : (b : Bool) → lacks 0 (erased t) ≡ b → Sound zs Y (cond b k (refuse [] erased_use))
      by_test true e = h e
      by_test false e = tt

  abbrev pub Sounds : Judgement → List Entry → Tree → Questions → Type 0
  Sounds j c t r = Sound zs (IsFound (entry_sorts c) j t) r

  abbrev V : List Entry → List Sort
  V c = entry_sorts c

  pub sound : (j : Judgement) (c : List Entry) (t : Tree) → ContextFits zs c → Fits (within (entry_sorts c) zs) (subject_class j) t → Sounds j c t (infer is j c t)
  sound a_term c (var i) w h = found_term-sound _ (V c) (entry c i) (entry-is zs c i OfTerm w h) (λ a k. (tt, k))
  sound a_term c (name m) w h = found_term-sound _ [] (item is m) (g.known_fit m OfTerm h) (λ a k. (tt, fits-closed zs zs (V c) (λ i x e. e) guides a k))
  sound a_type c (var i) w h = found_type-sound _ (V c) (entry c i) (entry-is zs c i OfType w h) (λ a k. (tt, k))
  sound a_type c (name m) w h = found_type-sound _ [] (item is m) (g.known_fit m OfType h) (λ a k. (tt, fits-closed zs zs (V c) (λ i x e. e) guide_kinds a k))
  sound a_term c (lam a t) w h = sound-star (IsFound (V c) a_term (lam a t)) (V c) a 1 _ _ (sound a_type c a w h.0)
      (λ ea. sound-part zs (IsFound (V (term_of (erased a) ∷ c)) a_term t) (IsFound (V c) a_term (lam a t)) 2 _ _ (sound a_term (term_of (erased a) ∷ c) t (er-type (V c) a h.0 ea, w) h.1)
      (λ b x. sound-deep zs (IsFound (V c) a_term (lam a t)) (pi (erased a) b) (finds (pi (erased a) b)) ((ea, x.0), (er-type (V c) a h.0 ea, x.1))))
  sound a_term c (elam a t) w h = sound-star (IsFound (V c) a_term (elam a t)) (V c) a 1 _ _ (sound a_type c a w h.0)
      (λ ea. sound-part zs (IsFound (V (term_of (erased a) ∷ c)) a_term t) (IsFound (V c) a_term (elam a t)) 2 _ _ (sound a_term (term_of (erased a) ∷ c) t (er-type (V c) a h.0 ea, w) h.1)
      (λ b x. sound-lacks (IsFound (V c) a_term (elam a t)) t _
      (λ l. sound-deep zs (IsFound (V c) a_term (elam a t)) (all (erased a) b) (finds (all (erased a) b)) ((ea, x.0, l), (er-type (V c) a h.0 ea, x.1)))))
  sound a_term c (xlam a t) w h = sound-part zs (IsFound (V c) a_kind a) (IsFound (V c) a_term (xlam a t)) 1 _ _ (sound a_kind c a w h.0)
      (λ s ea. sound-part zs (IsFound (V (type_of (erased a) ∷ c)) a_term t) (IsFound (V c) a_term (xlam a t)) 2 _ _ (sound a_term (type_of (erased a) ∷ c) t (er-kind (V c) a h.0 ea.0, w) h.1)
      (λ b x. sound-deep zs (IsFound (V c) a_term (xlam a t)) (allt (erased a) b) (finds (allt (erased a) b)) ((ea.0, x.0, lacks-type zs (V c) (erased t) (er-term (OfType ∷ V c) t h.1 x.0)), (er-kind (V c) a h.0 ea.0, x.1))))
  sound a_term c (app t u) w h = sound-apply (IsFound (V c) a_term (app t u)) (V c) guides guides t u pi_of _ _ _ _ (put 0 (erased u)) tt tt (λ x k. k) (sound a_term c t w h.0) (sound a_term c u w h.1) (λ x y k. k.0) (λ et eu x y k. ((et, eu), put-term (V c) guides (erased u) y tt (er-term (V c) u h.1 eu) k.1))
  sound a_term c (eapp t u) w h = sound-apply (IsFound (V c) a_term (eapp t u)) (V c) guides guides t u all_of _ _ _ _ (put 0 (erased u)) tt tt (λ x k. k) (sound a_term c t w h.0) (sound a_term c u w h.1) (λ x y k. k.0) (λ et eu x y k. ((et, eu), put-term (V c) guides (erased u) y tt (er-term (V c) u h.1 eu) k.1))
  sound a_term c (tapp t u) w h = sound-apply (IsFound (V c) a_term (tapp t u)) (V c) guides guide_kinds t u allt_of _ _ _ _ (put 0 (erased u)) tt tt (λ x k. k) (sound a_term c t w h.0) (sound a_type c u w h.1) (λ x y k. k.0) (λ et eu x y k. ((et, eu), put-type (V c) guides (erased u) y tt (er-type (V c) u h.1 eu) k.1))
  sound a_type c (at_ t u) w h = sound-apply (IsFound (V c) a_type (at_ t u)) (V c) guide_kinds guides t u kpi_of _ _ _ _ (put 0 (erased u)) tt tt (λ x k. k) (sound a_type c t w h.0) (sound a_term c u w h.1) (λ x y k. k.0) (λ et eu x y k. ((et, eu), put-term (V c) guide_kinds (erased u) y tt (er-term (V c) u h.1 eu) k.1))
  sound a_type c (on t u) w h = sound-apply (IsFound (V c) a_type (on t u)) (V c) guide_kinds guide_kinds t u kpit_of _ _ _ _ (put 0 (erased u)) tt tt (λ x k. k) (sound a_type c t w h.0) (sound a_type c u w h.1) (λ x y k. k.0) (λ et eu x y k. ((et, eu), put-type (V c) guide_kinds (erased u) y tt (er-type (V c) u h.1 eu) k.1))
  sound a_term c (fst t) w h = sound-part zs (IsFound (V c) a_term t) (IsFound (V c) a_term (fst t)) 1 _ _ (sound a_term c t w h)
      (λ b x. sound-binder (IsFound (V c) a_term (fst t)) (V c) guides iota_of _ _ b _ tt (λ y k. k) x.1 (λ y z k. sound-deep zs (IsFound (V c) a_term (fst t)) (y) (finds (y)) (x.0, k.0)))
  sound a_term c (snd t) w h = sound-part zs (IsFound (V c) a_term t) (IsFound (V c) a_term (snd t)) 1 _ _ (sound a_term c t w h)
      (λ b x. sound-binder (IsFound (V c) a_term (snd t)) (V c) guides iota_of _ _ b _ tt (λ y k. k) x.1
      (λ y z k. sound-deep zs (IsFound (V c) a_term (snd t)) (put 0 (erased t) z) (finds (put 0 (erased t) z)) (x.0, put-term (V c) guides (erased t) z tt (er-term (V c) t h x.0) k.1)))
  sound a_term c (beta p q) w h = sound-deep zs (IsFound (V c) a_term (beta p q)) (eq p p) (finds (eq p p)) ((has-pure (V c) p h.0, has-pure (V c) q h.1), (h.0, h.0))
  sound a_term c (pair t u b) w h = sound-part zs (IsFound (V c) a_term t) (IsFound (V c) a_term (pair t u b)) 1 _ _ (sound a_term c t w h.0.1)
      (λ a x. sound-star (IsFound (V c) a_term (pair t u b)) (V (term_of a ∷ c)) b 3 _ _ (sound a_type (term_of a ∷ c) b (x.1, w) h.1)
      (λ eb. sound-part zs (IsFound (V c) a_term u) (IsFound (V c) a_term (pair t u b)) 2 _ _ (sound a_term c u w h.0.0)
      (λ d y.
      let f : Fits (within (V c) zs) guides (put 0 (erased t) (erased b)) = put-term (V c) guides (erased t) (erased b) tt (er-term (V c) t h.0.1 x.0) (er-type (OfTerm ∷ V c) b h.1 eb) in
      sound-deep zs (IsFound (V c) a_term (pair t u b)) (put 0 (erased t) (erased b)) _ (sound-same (V c) guides d (put 0 (erased t) (erased b)) tt y.1 f (sound-same (V c) pure_terms (erased t) (erased u) tt (er-term (V c) t h.0.1 x.0) (er-term (V c) u h.0.0 y.0) (sound-deep zs (IsFound (V c) a_term (pair t u b)) (iota a (erased b)) (finds (iota a (erased b))) (((y.0, x.0), eb), (x.1, er-type (OfTerm ∷ V c) b h.1 eb))))))))
  sound a_term c (rho q d a t) w h = sound-part zs (IsFound (V c) a_term q) (IsFound (V c) a_term (rho q d a t)) 1 _ _ (sound a_term c q w h.0.0)
      (λ e x. sound-equation (IsFound (V c) a_term (rho q d a t)) (V c) _ _ e _ x.1
      (λ y z k. sound-star (IsFound (V c) a_term (rho q d a t)) (V c) a 3 _ _ (sound a_type c a w h.1.0)
      (λ ea.
      let f : Fits (within (V c) zs) guides (put 0 y d) = put-term (V c) guides y d tt k.0 h.0.1 in
      let f2 : Fits (within (V c) zs) guides (put 0 z d) = put-term (V c) guides z d tt k.1 h.0.1 in
      let er : Fits (within (V c) zs) guides (erased a) = er-type (V c) a h.1.0 ea in
      sound-deep zs (IsFound (V c) a_term (rho q d a t)) (put 0 y d) _ (sound-same (V c) guides (erased a) (put 0 y d) tt er f (sound-part zs (IsFound (V c) a_term t) (IsFound (V c) a_term (rho q d a t)) 4 _ _ (sound a_term c t w h.1.1)
      (λ b m. sound-deep zs (IsFound (V c) a_term (rho q d a t)) (put 0 z d) _ (sound-same (V c) guides b (put 0 z d) tt m.1 f2 (sound-deep zs (IsFound (V c) a_term (rho q d a t)) (erased a) (finds (erased a)) (((x.0, has-erasure (under OfTerm (within (V c) zs)) guides d tt h.0.1), (ea, m.0)), er)))))))))
  sound a_term c (phi q t p) w h = sound-part zs (IsFound (V c) a_term q) (IsFound (V c) a_term (phi q t p)) 1 _ _ (sound a_term c q w h.0.0)
      (λ e x. sound-equation (IsFound (V c) a_term (phi q t p)) (V c) _ _ e _ x.1
      (λ y z k. sound-part zs (IsFound (V c) a_term t) (IsFound (V c) a_term (phi q t p)) 2 _ _ (sound a_term c t w h.0.1)
      (λ a m. sound-same (V c) pure_terms y (erased t) tt k.0 (er-term (V c) t h.0.1 m.0) (sound-same (V c) pure_terms z p tt k.1 h.1 (sound-deep zs (IsFound (V c) a_term (phi q t p)) (a) (finds (a)) (((x.0, m.0), has-pure (V c) p h.1), m.1))))))
  sound a_term c (delta a q) w h = sound-star (IsFound (V c) a_term (delta a q)) (V c) a 1 _ _ (sound a_type c a w h.0)
      (λ ea. sound-part zs (IsFound (V c) a_term q) (IsFound (V c) a_term (delta a q)) 2 _ _ (sound a_term c q w h.1)
      (λ e x. sound-equation (IsFound (V c) a_term (delta a q)) (V c) _ _ e _ x.1
      (λ y z k. sound-same (V c) pure_terms y true_pure tt k.0 refl (sound-same (V c) pure_terms z false_pure tt k.1 refl (sound-deep zs (IsFound (V c) a_term (delta a q)) (erased a) (finds (erased a)) ((ea, x.0), er-type (V c) a h.0 ea))))))
  sound a_type c (pi a b) w h = sound-star (IsFound (V c) a_type (pi a b)) (V c) a 1 _ _ (sound a_type c a w h.0)
      (λ ea. sound-star (IsFound (V c) a_type (pi a b)) (V (term_of (erased a) ∷ c)) b 2 _ _ (sound a_type (term_of (erased a) ∷ c) b (er-type (V c) a h.0 ea, w) h.1) (λ eb. ((ea, eb), tt)))
  sound a_type c (all a b) w h = sound-star (IsFound (V c) a_type (all a b)) (V c) a 1 _ _ (sound a_type c a w h.0)
      (λ ea. sound-star (IsFound (V c) a_type (all a b)) (V (term_of (erased a) ∷ c)) b 2 _ _ (sound a_type (term_of (erased a) ∷ c) b (er-type (V c) a h.0 ea, w) h.1) (λ eb. ((ea, eb), tt)))
  sound a_type c (iota a b) w h = sound-star (IsFound (V c) a_type (iota a b)) (V c) a 1 _ _ (sound a_type c a w h.0)
      (λ ea. sound-star (IsFound (V c) a_type (iota a b)) (V (term_of (erased a) ∷ c)) b 2 _ _ (sound a_type (term_of (erased a) ∷ c) b (er-type (V c) a h.0 ea, w) h.1) (λ eb. ((ea, eb), tt)))
  sound a_type c (allt a b) w h = sound-part zs (IsFound (V c) a_kind a) (IsFound (V c) a_type (allt a b)) 1 _ _ (sound a_kind c a w h.0)
      (λ s ea. sound-star (IsFound (V c) a_type (allt a b)) (V (type_of (erased a) ∷ c)) b 2 _ _ (sound a_type (type_of (erased a) ∷ c) b (er-kind (V c) a h.0 ea.0, w) h.1) (λ eb. ((ea.0, eb), tt)))
  sound a_type c (tlam a b) w h = sound-star (IsFound (V c) a_type (tlam a b)) (V c) a 1 _ _ (sound a_type c a w h.0)
      (λ ea. sound-part zs (IsFound (V (term_of (erased a) ∷ c)) a_type b) (IsFound (V c) a_type (tlam a b)) 2 _ _ (sound a_type (term_of (erased a) ∷ c) b (er-type (V c) a h.0 ea, w) h.1)
      (λ k x. sound-deep zs (IsFound (V c) a_type (tlam a b)) (kpi (erased a) k) (finds (kpi (erased a) k)) ((ea, x.0), (er-type (V c) a h.0 ea, x.1))))
  sound a_type c (xtlam a b) w h = sound-part zs (IsFound (V c) a_kind a) (IsFound (V c) a_type (xtlam a b)) 1 _ _ (sound a_kind c a w h.0)
      (λ s ea. sound-part zs (IsFound (V (type_of (erased a) ∷ c)) a_type b) (IsFound (V c) a_type (xtlam a b)) 2 _ _ (sound a_type (type_of (erased a) ∷ c) b (er-kind (V c) a h.0 ea.0, w) h.1)
      (λ k x. sound-deep zs (IsFound (V c) a_type (xtlam a b)) (kpit (erased a) k) (finds (kpit (erased a) k)) ((ea.0, x.0), (er-kind (V c) a h.0 ea.0, x.1))))
  sound a_type c (eq p q) w h = ((has-pure (V c) p h.0, has-pure (V c) q h.1), tt)
  sound a_kind c star w h = (tt, tt)
  sound a_kind c (kpi a b) w h = sound-star (IsFound (V c) a_kind (kpi a b)) (V c) a 1 _ _ (sound a_type c a w h.0)
      (λ ea. sound-part zs (IsFound (V (term_of (erased a) ∷ c)) a_kind b) (IsFound (V c) a_kind (kpi a b)) 2 _ _ (sound a_kind (term_of (erased a) ∷ c) b (er-type (V c) a h.0 ea, w) h.1) (λ s x. ((ea, x.0), tt)))
  sound a_kind c (kpit a b) w h = sound-part zs (IsFound (V c) a_kind a) (IsFound (V c) a_kind (kpit a b)) 1 _ _ (sound a_kind c a w h.0)
      (λ s ea. sound-part zs (IsFound (V (type_of (erased a) ∷ c)) a_kind b) (IsFound (V c) a_kind (kpit a b)) 2 _ _ (sound a_kind (type_of (erased a) ∷ c) b (er-kind (V c) a h.0 ea.0, w) h.1) (λ m x. ((ea.0, x.0), tt)))
  sound a_term c (bind pair_of p b) w h = absurd h.0
  sound a_term c (binary rho_of (bind guide_of q d) r) w h = absurd h.1
  sound a_term c (binary rho_of p r) w h = absurd h.0
  sound a_term c (binary phi_of p r) w h = absurd h.0
  sound j c t w h = absurd h
