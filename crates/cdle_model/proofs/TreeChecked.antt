-- The plain check of one tree: what it accepts has a derivation, and what it refuses has none.
use Rattle.std.proofs.Common.{◌≡◌, ℕ, Bool, true, false, cond, List, [], ◌∷◌, Option, Some, None, refl, sym, ◌∙◌}
use Rattle.cdle_model.specs.Trees.{Binder, pi_of, all_of, allt_of, iota_of, kpi_of, kpit_of, Tree, var, name, bind, put, lacks}
use Rattle.cdle_model.specs.Forms.{star, kpi, kpit, pi, all, allt, at_, on, iota, eq, tlam, xtlam, lam, elam, xlam, app, eapp, tapp, pair, fst, snd, beta, rho, phi, delta}
use Rattle.cdle_model.specs.Erasure.{erased}
use Rattle.cdle_model.specs.Steps.{end, Joined}
use Rattle.cdle_model.specs.Derivation.{Entry, term_of, type_of, entry, Item, bodies, item, Judgement, a_term, a_type, a_kind, true_pure, false_pure, var_term, name_term, lam_rule, elam_rule, xlam_rule, app_rule, eapp_rule, tapp_rule, pair_rule, fst_rule, snd_rule, beta_rule, rho_rule, phi_rule, delta_rule, var_type, name_type, pi_rule, all_rule, iota_rule, allt_rule, tlam_rule, xtlam_rule, at_rule, on_rule, eq_rule, star_rule, kpi_rule, kpit_rule, Has, by_rule, converted}
use Rattle.cdle_model.specs.Check.{Reason, not_an_equation, erased_use, Questions, finds, refuse, at_part, binder_then, equation_then, has_then, unless_deep, limited, star_then, found, infer}
use Rattle.cdle_model.proofs.Rewriting.{linked-join, linked-turn}
use Rattle.cdle_model.proofs.Equality.{joined-put}
use Rattle.cdle_model.proofs.UniqueTypes.{bind-parts, two-parts, same-context, types-unique}
use Rattle.cdle_model.proofs.Signatures.{ClosedItems}
use Rattle.cdle_model.proofs.SubstitutedDerivations.{has-same}
use Rattle.cdle_model.proofs.Inversion.{in_lam, in_xlam, in_app, in_eapp, in_tapp, in_fst, in_snd, in_rho, in_phi, in_delta, in_pair, in_pi, in_all, in_iota, in_allt, in_tlam, in_xtlam, in_at, in_on, in_kpi, in_kpit, in_elam, kind-star}
use Rattle.cdle_model.proofs.CheckSteps.{Tells, tells-part, tells-deep, true-false, tells-binder, tells-equation}

module _ (is : List Item) (g' : ClosedItems is) where
  abbrev No : Judgement → List Entry → Tree → Type 0
  No j c t = (b : Tree) → Has is j c t b → ⊥

  abbrev Told : Judgement → List Entry → Tree → Questions → Type 0
  Told j c t q = Tells (bodies is) (Has is j c t) (No j c t) q

  pub uniq : {j : Judgement} (c : List Entry) {t a b : Tree} → Has is j c t a → Has is j c t b → Joined (bodies is) a b
  uniq c h k = types-unique is g'.signed_bodies _ c _ _ _ h k

  -- the questions of a part, and then the rest
  told-part : (j j' : Judgement) (c d : List Entry) (t z : Tree) (i : ℕ) (q : Questions) (f : Tree → Questions) → Told j' d t q → (No j' d t → No j c z) → ((a : Tree) → Has is j' d t a → Told j c z (f a)) → Told j c z (at_part i q f)
  told-part j j' c d t z i q f h k l = tells-part (bodies is) (Has is j' d t) (Has is j c z) (No j' d t) (No j c z) i q f h k l

  -- a question whether two trees are the same
  told-same : {K : Type 0} (j : Judgement) (c : List Entry) (z a b : Tree) → ((Joined (bodies is) a b → ⊥) → No j c z) → (Joined (bodies is) a b → K) → ((Joined (bodies is) a b → ⊥) → No j c z) × (Joined (bodies is) a b → K)
  told-same j c z a b h l = (h, l)

  -- a type with the kind star, and then the rest
  told-star : (j : Judgement) (c d : List Entry) (t a : Tree) (i : ℕ) (r k : Questions) → Told a_type d a r → ((Has is a_type d a star → ⊥) → No j c t) → (Has is a_type d a star → Told j c t k) → Told j c t (star_then i r k)
  told-star j c d t a i r k h x y = told-part j a_type c d a t i r _ h (λ f. x (λ l. f star l))
      (λ b l. told-same j c t b star (λ f. x (λ m. f (uniq d l m))) (λ m. y (converted l m)))

  -- all that an application owes
  told-app : (j j' j'' : Judgement) (c : List Entry) (t u z : Tree) (f : Binder) (v : Tree → Reason) (w : Tree → Tree → Reason) (r r' : Questions) (m : Tree → Tree)
      → Told j' c t r → Told j'' c u r'
      → ((b : Tree) → Has is j c z b → (x y : Tree) × Has is j' c t (bind f x y) × Has is j'' c u x)
      → ((x y : Tree) → Has is j' c t (bind f x y) → Has is j'' c u x → Has is j c z (m y))
      → Told j c z (binder_then 1 f v r (λ x y. has_then 2 (λ d. w d x) r' x (limited (m y))))
  told-app j j' j'' c t u z f v w r r' m h k inverse onward =
      told-part j j' c c t z 1 r _ h (λ no b l. let (x, y, d, e) = inverse b l in no _ d)
      (λ a ha. tells-binder is g' (Has is j c z) (No j c z) f (1 ∷ []) v a _
      (λ no b l. let (x, y, d, e) = inverse b l in no x y (uniq c ha d))
      (λ x y a-is. told-part j j'' c c u z 2 r' _ k (λ no b l. let (x, y, d, e) = inverse b l in no _ e)
      (λ x' hx. told-same j c z x' x
      (λ no b l. let (x1, y1, d, e) = inverse b l in no (linked-join (uniq c hx e) (bind-parts is g'.signed_bodies (linked-join (linked-turn (uniq c ha d)) a-is)).0))
      (λ x-is. tells-deep (bodies is) (Has is j c z) (No j c z) (m y) (finds (m y)) (onward x y (converted ha a-is) (converted hx x-is))))))

  told-limited : (j : Judgement) (c : List Entry) (z a : Tree) → Has is j c z a → Told j c z (limited a)
  told-limited j c z a h = tells-deep (bodies is) (Has is j c z) (No j c z) a (finds a) h

  told-deep : (j : Judgement) (c : List Entry) (z a : Tree) (r : Questions) → Told j c z r → Told j c z (unless_deep a r)
  told-deep j c z a r h = tells-deep (bodies is) (Has is j c z) (No j c z) a r h

  -- a part with a form of a binder
  told-binder : (j j' : Judgement) (c : List Entry) (t z : Tree) (f : Binder) (w : Tree → Reason) (r : Questions) (k : Tree → Tree → Questions) → Told j' c t r
      → ((b : Tree) → Has is j c z b → (x y : Tree) × Has is j' c t (bind f x y)) → ((x y : Tree) → Has is j' c t (bind f x y) → Told j c z (k x y)) → Told j c z (binder_then 1 f w r k)
  told-binder j j' c t z f w r k h inverse onward =
      told-part j j' c c t z 1 r _ h (λ no b l. no _ (inverse b l).2)
      (λ a ha. tells-binder is g' (Has is j c z) (No j c z) f (1 ∷ []) w a k (λ no b l. let (x, y, d) = inverse b l in no x y (uniq c ha d)) (λ x y e. onward x y (converted ha e)))

  -- a part with an equation
  told-equation : (c : List Entry) (i : ℕ) (t z : Tree) (r : Questions) (k : Tree → Tree → Questions) → Told a_term c t r
      → ((b : Tree) → Has is a_term c z b → (x y : Tree) × Has is a_term c t (eq x y)) → ((x y : Tree) → Has is a_term c t (eq x y) → Told a_term c z (k x y)) → Told a_term c z (equation_then i r k)
  told-equation c i t z r k h inverse onward =
      told-part a_term a_term c c t z i r _ h (λ no b l. no _ (inverse b l).2)
      (λ a ha. tells-equation is g' (Has is a_term c z) (No a_term c z) (i ∷ []) not_an_equation a k (λ no b l. let (x, y, d) = inverse b l in no x y (uniq c ha d)) (λ x y e. onward x y (converted ha e)))

  told-lacks : (c : List Entry) (z t : Tree) (k : Questions) → ((b : Tree) → Has is a_term c z b → lacks 0 (erased t) ≡ true) → (lacks 0 (erased t) ≡ true → Told a_term c z k)
      → Told a_term c z (cond (lacks 0 (erased t)) k (refuse [] erased_use))
  told-lacks c z t k y v = by_test (lacks 0 (erased t)) refl
    where
      by_test : (b : Bool) → lacks 0 (erased t) ≡ b → Told a_term c z (cond b k (refuse [] erased_use))
      by_test true e = v e
      by_test false e = λ b h. true-false (sym e ∙ y b h)

  told-entry : (c : List Entry) (i : ℕ) (o : Option Entry) → entry c i ≡ o → Told a_term c (var i) (found a_term o)
  told-entry c i (Some (term_of a)) e = told-limited a_term c (var i) a (by_rule (var_term e))
  told-entry c i (Some (type_of a)) e = tt
  told-entry c i None e = tt

  told-entry_type : (c : List Entry) (i : ℕ) (o : Option Entry) → entry c i ≡ o → Told a_type c (var i) (found a_type o)
  told-entry_type c i (Some (type_of a)) e = told-limited a_type c (var i) a (by_rule (var_type e))
  told-entry_type c i (Some (term_of a)) e = tt
  told-entry_type c i None e = tt

  told-name : (c : List Entry) (i : ℕ) (o : Option Entry) → item is i ≡ o → Told a_term c (name i) (found a_term o)
  told-name c i (Some (term_of a)) e = told-limited a_term c (name i) a (by_rule (name_term e))
  told-name c i (Some (type_of a)) e = tt
  told-name c i None e = tt

  told-name_type : (c : List Entry) (i : ℕ) (o : Option Entry) → item is i ≡ o → Told a_type c (name i) (found a_type o)
  told-name_type c i (Some (type_of a)) e = told-limited a_type c (name i) a (by_rule (name_type e))
  told-name_type c i (Some (term_of a)) e = tt
  told-name_type c i None e = tt

  pub told : (j : Judgement) (c : List Entry) (t : Tree) → Told j c t (infer is j c t)
  told a_term c (var i) = told-entry c i (entry c i) refl
  told a_term c (name i) = told-name c i (item is i) refl
  told a_term c (lam a t) = told-star a_term c c (lam a t) a 1 _ _ (told a_type c a) (λ no b h. no (in_lam h).1)
      (λ ha. told-part a_term a_term c (term_of (erased a) ∷ c) t (lam a t) 2 _ _ (told a_term (term_of (erased a) ∷ c) t) (λ no b h. no _ (in_lam h).2)
      (λ b hb. told-limited a_term c (lam a t) (pi (erased a) b) (by_rule (lam_rule ha hb))))
  told a_term c (elam a t) = told-star a_term c c (elam a t) a 1 _ _ (told a_type c a) (λ no b h. no (in_elam h).1)
      (λ ha. told-part a_term a_term c (term_of (erased a) ∷ c) t (elam a t) 2 _ _ (told a_term (term_of (erased a) ∷ c) t) (λ no b h. no _ (in_elam h).2)
      (λ b hb. told-lacks c (elam a t) t _ (λ x h. (in_elam h).3) (λ p. told-limited a_term c (elam a t) (all (erased a) b) (by_rule (elam_rule ha hb p)))))
  told a_term c (xlam k t) = told-part a_term a_kind c c k (xlam k t) 1 _ _ (told a_kind c k) (λ no b h. no _ (in_xlam h).1)
      (λ s hs. told-part a_term a_term c (type_of (erased k) ∷ c) t (xlam k t) 2 _ _ (told a_term (type_of (erased k) ∷ c) t) (λ no b h. no _ (in_xlam h).2)
      (λ b hb. told-limited a_term c (xlam k t) (allt (erased k) b) (by_rule (xlam_rule (kind-star hs) hb))))
  told a_term c (app t u) = told-app a_term a_term a_term c t u (app t u) pi_of _ _ _ _ (put 0 (erased u)) (told a_term c t) (told a_term c u) (λ b h. in_app h) (λ x y h k. by_rule (app_rule h k))
  told a_term c (eapp t u) = told-app a_term a_term a_term c t u (eapp t u) all_of _ _ _ _ (put 0 (erased u)) (told a_term c t) (told a_term c u) (λ b h. in_eapp h) (λ x y h k. by_rule (eapp_rule h k))
  told a_term c (tapp t u) = told-app a_term a_term a_type c t u (tapp t u) allt_of _ _ _ _ (put 0 (erased u)) (told a_term c t) (told a_type c u) (λ b h. in_tapp h) (λ x y h k. by_rule (tapp_rule h k))
  told a_term c (fst t) = told-binder a_term a_term c t (fst t) iota_of _ _ _ (told a_term c t) (λ b h. in_fst h) (λ x y h. told-limited a_term c (fst t) x (by_rule (fst_rule h)))
  told a_term c (snd t) = told-binder a_term a_term c t (snd t) iota_of _ _ _ (told a_term c t) (λ b h. in_snd h) (λ x y h. told-limited a_term c (snd t) (put 0 (erased t) y) (by_rule (snd_rule h)))
  told a_term c (beta p k) = told-limited a_term c (beta p k) (eq p p) (by_rule beta_rule)
  told a_term c (pair t u b) = told-part a_term a_term c c t (pair t u b) 1 _ _ (told a_term c t) (λ no x h. no _ (in_pair h).1)
      (λ a ha. told-star a_term c (term_of a ∷ c) (pair t u b) b 3 _ _ (told a_type (term_of a ∷ c) b)
      (λ no x h. let (y, d, e, k, l) = in_pair h in no (has-same is g' (uniq c d ha, same-context (bodies is) c) e))
      (λ hb. told-part a_term a_term c c u (pair t u b) 2 _ _ (told a_term c u) (λ no x h. no _ (in_pair h).3)
      (λ d hd. told-deep a_term c (pair t u b) (put 0 (erased t) (erased b)) _ (told-same a_term c (pair t u b) d (put 0 (erased t) (erased b)) (λ no x h. no (uniq c hd (in_pair h).3))
      (λ d-is. told-same a_term c (pair t u b) (erased t) (erased u) (λ no x h. no (in_pair h).4)
      (λ e-is. told-limited a_term c (pair t u b) (iota a (erased b)) (by_rule (pair_rule ha hb (converted hd d-is) e-is))))))))
  told a_term c (rho q g a t) = told-equation c 1 q (rho q g a t) _ _ (told a_term c q) (λ b h. let (x, y, d, e, k, l) = in_rho h in (x, y, d))
      (λ x y hq. told-star a_term c c (rho q g a t) a 3 _ _ (told a_type c a) (λ no b h. no (in_rho h).3)
      (λ ha. told-deep a_term c (rho q g a t) (put 0 x g) _ (told-same a_term c (rho q g a t) (erased a) (put 0 x g)
      (λ no b h. let (x1, y1, d, e, k, l) = in_rho h in no (linked-join k (joined-put (bodies is) g'.signed_bodies 0 {p = g} (two-parts is g'.signed_bodies (uniq c d hq)).0 end)))
      (λ a-is. told-part a_term a_term c c t (rho q g a t) 4 _ _ (told a_term c t) (λ no b h. no _ (in_rho h).5)
      (λ d hd. told-deep a_term c (rho q g a t) (put 0 y g) _ (told-same a_term c (rho q g a t) d (put 0 y g)
      (λ no b h. let (x1, y1, e, e', k, l) = in_rho h in no (linked-join (uniq c hd l) (joined-put (bodies is) g'.signed_bodies 0 {p = g} (two-parts is g'.signed_bodies (uniq c e hq)).1 end)))
      (λ d-is. told-limited a_term c (rho q g a t) (erased a) (by_rule (rho_rule hq ha a-is (converted hd d-is))))))))))
  told a_term c (phi q t p) = told-equation c 1 q (phi q t p) _ _ (told a_term c q) (λ b h. let (x, y, z, d, e, k, l) = in_phi h in (x, y, d))
      (λ x y hq. told-part a_term a_term c c t (phi q t p) 2 _ _ (told a_term c t) (λ no b h. no _ (in_phi h).4)
      (λ a ha. told-same a_term c (phi q t p) x (erased t)
      (λ no b h. let (x1, y1, z, d, e, k, l) = in_phi h in no (linked-join (two-parts is g'.signed_bodies (uniq c hq d)).0 k))
      (λ x-is. told-same a_term c (phi q t p) y p
      (λ no b h. let (x1, y1, z, d, e, k, l) = in_phi h in no (linked-join (two-parts is g'.signed_bodies (uniq c hq d)).1 l))
      (λ y-is. told-limited a_term c (phi q t p) a (by_rule (phi_rule hq ha x-is y-is))))))
  told a_term c (delta a q) = told-star a_term c c (delta a q) a 1 _ _ (told a_type c a) (λ no b h. no (in_delta h).2)
      (λ ha. told-equation c 2 q (delta a q) _ _ (told a_term c q) (λ b h. let (x, y, d, e, k, l) = in_delta h in (x, y, e))
      (λ x y hq. told-same a_term c (delta a q) x true_pure
      (λ no b h. let (x1, y1, d, e, k, l) = in_delta h in no (linked-join (two-parts is g'.signed_bodies (uniq c hq e)).0 k))
      (λ x-is. told-same a_term c (delta a q) y false_pure
      (λ no b h. let (x1, y1, d, e, k, l) = in_delta h in no (linked-join (two-parts is g'.signed_bodies (uniq c hq e)).1 l))
      (λ y-is. told-limited a_term c (delta a q) (erased a) (by_rule (delta_rule ha hq x-is y-is))))))
  told a_type c (var i) = told-entry_type c i (entry c i) refl
  told a_type c (name i) = told-name_type c i (item is i) refl
  told a_type c (at_ a t) = told-app a_type a_type a_term c a t (at_ a t) kpi_of _ _ _ _ (put 0 (erased t)) (told a_type c a) (told a_term c t) (λ b h. in_at h) (λ x y h k. by_rule (at_rule h k))
  told a_type c (on a t) = told-app a_type a_type a_type c a t (on a t) kpit_of _ _ _ _ (put 0 (erased t)) (told a_type c a) (told a_type c t) (λ b h. in_on h) (λ x y h k. by_rule (on_rule h k))
  told a_type c (pi a b) = told-star a_type c c (pi a b) a 1 _ _ (told a_type c a) (λ no x h. no (in_pi h).0)
      (λ ha. told-star a_type c (term_of (erased a) ∷ c) (pi a b) b 2 _ _ (told a_type (term_of (erased a) ∷ c) b) (λ no x h. no (in_pi h).1) (λ hb. by_rule (pi_rule ha hb)))
  told a_type c (all a b) = told-star a_type c c (all a b) a 1 _ _ (told a_type c a) (λ no x h. no (in_all h).0)
      (λ ha. told-star a_type c (term_of (erased a) ∷ c) (all a b) b 2 _ _ (told a_type (term_of (erased a) ∷ c) b) (λ no x h. no (in_all h).1) (λ hb. by_rule (all_rule ha hb)))
  told a_type c (iota a b) = told-star a_type c c (iota a b) a 1 _ _ (told a_type c a) (λ no x h. no (in_iota h).0)
      (λ ha. told-star a_type c (term_of (erased a) ∷ c) (iota a b) b 2 _ _ (told a_type (term_of (erased a) ∷ c) b) (λ no x h. no (in_iota h).1) (λ hb. by_rule (iota_rule ha hb)))
  told a_type c (allt k b) = told-part a_type a_kind c c k (allt k b) 1 _ _ (told a_kind c k) (λ no x h. no _ (in_allt h).0)
      (λ s hs. told-star a_type c (type_of (erased k) ∷ c) (allt k b) b 2 _ _ (told a_type (type_of (erased k) ∷ c) b) (λ no x h. no (in_allt h).1) (λ hb. by_rule (allt_rule (kind-star hs) hb)))
  told a_type c (tlam a b) = told-star a_type c c (tlam a b) a 1 _ _ (told a_type c a) (λ no x h. no (in_tlam h).1)
      (λ ha. told-part a_type a_type c (term_of (erased a) ∷ c) b (tlam a b) 2 _ _ (told a_type (term_of (erased a) ∷ c) b) (λ no x h. no _ (in_tlam h).2)
      (λ k hk. told-limited a_type c (tlam a b) (kpi (erased a) k) (by_rule (tlam_rule ha hk))))
  told a_type c (xtlam k b) = told-part a_type a_kind c c k (xtlam k b) 1 _ _ (told a_kind c k) (λ no x h. no _ (in_xtlam h).1)
      (λ s hs. told-part a_type a_type c (type_of (erased k) ∷ c) b (xtlam k b) 2 _ _ (told a_type (type_of (erased k) ∷ c) b) (λ no x h. no _ (in_xtlam h).2)
      (λ l hl. told-limited a_type c (xtlam k b) (kpit (erased k) l) (by_rule (xtlam_rule (kind-star hs) hl))))
  told a_type c (eq p q) = by_rule eq_rule
  told a_kind c star = by_rule star_rule
  told a_kind c (kpi a k) = told-star a_kind c c (kpi a k) a 1 _ _ (told a_type c a) (λ no x h. no (in_kpi h).0)
      (λ ha. told-part a_kind a_kind c (term_of (erased a) ∷ c) k (kpi a k) 2 _ _ (told a_kind (term_of (erased a) ∷ c) k) (λ no x h. no _ (in_kpi h).1) (λ s hs. by_rule (kpi_rule ha (kind-star hs))))
  told a_kind c (kpit k l) = told-part a_kind a_kind c c k (kpit k l) 1 _ _ (told a_kind c k) (λ no x h. no _ (in_kpit h).0)
      (λ s hs. told-part a_kind a_kind c (type_of (erased k) ∷ c) l (kpit k l) 2 _ _ (told a_kind (type_of (erased k) ∷ c) l) (λ no x h. no _ (in_kpit h).1) (λ s' hs'. by_rule (kpit_rule (kind-star hs) (kind-star hs'))))
  told j c t = tt
