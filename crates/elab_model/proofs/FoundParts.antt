-- What an instance finds for unknowns are parts of the target, each of its class; and what an instance says.
use Rattle.std.proofs.Common.{◌≡◌, ◌⊎◌, inl, inr, ℕ, zero, suc, pred, Bool, true, false, cond, List, [], ◌∷◌, ◌++◌, length, Option, Some, None, refl, sym, ap, ◌∙◌, subst, arith}
use native.Mathlib.Decide.{ℕ_discrete}
use Rattle.cdle_model.specs.declared.grammar.Sort.{Sort}
use Rattle.cdle_model.specs.declared.grammar.Sort.TheVariants.{OfTerm, OfType}
use Rattle.cdle_model.specs.Trees.{of_term, of_type, Function-discrete, Leaf-discrete, Unary-discrete, Binary-discrete, Tree-discrete, star_of, unknown, pi_of, all_of, allt_of, iota_of, kpi_of, kpit_of, tlam_of, xtlam_of, lam_of, elam_of, xlam_of, pair_of, guide_of, Binder, Binder-discrete, Tree, var, name, leaf, unary, fun, apply, binary, bind, lacks}
use Rattle.cdle_model.specs.Classes.{TreeClass, types, kinds, Scope, within, Fits}
use Rattle.cdle_model.specs.Erasure.{erased, lowered, HasErasure}
use Rattle.cdle_model.proofs.Renaming.{ren, ren-ren, sub-vars, sub-var}
use Rattle.cdle_model.proofs.Shifts.{shift-one}
use Rattle.cdle_model.proofs.MissingVariable.{lacks-raised}
use Rattle.cdle_model.proofs.ClassSubstitution.{fits-lowered}
use Rattle.elab_model.specs.Unknowns.{Types, above, fill_written}
use Rattle.elab_model.specs.Instances.{Solution, found_in, solved_in, is_unknown, mentions, Part, or_part, of_domain, of_head, if_is, if_former, first_place, outside, part_outside, with_solved, asked, solved, if_whole, instance}
use Rattle.elab_model.specs.SoundTrees.{Sound}
use Rattle.elab_model.proofs.SoundPuts.{sound-shift, has-erasure-ren}

-- no tree is a type and a kind
type-not-kind : (s z : Scope) (t : Tree) → Fits s types t → Fits z kinds t → ⊥
type-not-kind s z (leaf star_of) h k = h
type-not-kind s z (leaf (unknown n)) h k = h
type-not-kind s z (bind pi_of p q) h k = k
type-not-kind s z (bind all_of p q) h k = k
type-not-kind s z (bind allt_of p q) h k = k
type-not-kind s z (bind iota_of p q) h k = k
type-not-kind s z (bind tlam_of p q) h k = k
type-not-kind s z (bind xtlam_of p q) h k = k
type-not-kind s z (bind kpi_of p q) h k = h
type-not-kind s z (bind kpit_of p q) h k = h
type-not-kind s z (bind lam_of p q) h k = h
type-not-kind s z (bind elam_of p q) h k = h
type-not-kind s z (bind xlam_of p q) h k = h
type-not-kind s z (bind pair_of p q) h k = h
type-not-kind s z (bind guide_of p q) h k = h
type-not-kind s z (var i) h k = k
type-not-kind s z (name n) h k = k
type-not-kind s z (unary j p) h k = k
type-not-kind s z (fun c p) h k = k
type-not-kind s z (apply c p q) h k = k
type-not-kind s z (binary j p q) h k = k

-- ---- the first place

pub or_part-is : (o r : Option Part) (x : Part) → or_part o r ≡ Some x → (o ≡ Some x) ⊎ (r ≡ Some x)
or_part-is (Some y) r x e = inl e
or_part-is None r x e = inr e

pub of_domain-is : (f : Binder) (o r : Option Part) (x : Part) → of_domain f o r ≡ Some x → (o ≡ Some x) ⊎ (r ≡ Some x)
of_domain-is tlam_of o r x e = inr e
of_domain-is xtlam_of o r x e = inr e
of_domain-is f o r x e = or_part-is o r x e

pub of_head-is : (p : Tree) (o : Option Part) (x : Part) → of_head p o ≡ Some x → o ≡ Some x
of_head-is (leaf (unknown n)) o x e = absurd (grind arith)
of_head-is (leaf star_of) o x e = e
of_head-is (var i) o x e = e
of_head-is (name n) o x e = e
of_head-is (unary j p) o x e = e
of_head-is (fun c p) o x e = e
of_head-is (apply c p q) o x e = e
of_head-is (binary j p q) o x e = e
of_head-is (bind f p q) o x e = e

pub if_former-is : (f g : Binder) (o : Option Part) (x : Part) → if_former f g o ≡ Some x → (f ≡ g) × (o ≡ Some x)
if_former-is f g o x = by_test (Binder-discrete f g)
  where
    by_test : (d : Dec (f ≡ g)) → elim d [ yes e ↦ o | no e ↦ None ] ≡ Some x → (f ≡ g) × (o ≡ Some x)
    by_test (yes i) h = (i, h)
    by_test (no i) h = absurd (grind arith)

-- the types that stand for unknowns
abbrev AreTypes : List Sort → List Sort → Types → Type 0
AreTypes xs vs f = (n : ℕ) → Fits (within vs xs) types (f n)

above-types : (xs vs : List Sort) (y : Sort) (f : Types) → ((n : ℕ) → Sound xs vs types (f n)) → (n : ℕ) → Sound xs (y ∷ vs) types (above f n)
above-types xs vs y f h n = sound-shift xs vs y types (f n) (h n)

-- the part is a type over binders of the pattern and what stands outside
pub record IsPart (xs vs : List Sort) (x : Part) : Type 0 where
  pub inner : List Sort
  pub count : length inner ≡ x.binders
  pub sound : Sound xs (inner ++ vs) types x.tree

-- the classes that a walk from a type comes to
abbrev IsWalked : TreeClass → Type 0
IsWalked types = Unit {0}
IsWalked kinds = Unit {0}
IsWalked c = ⊥

pub either : {A B C : Type 0} → A ⊎ B → (A → C) → (B → C) → C
either (inl a) f g = f a
either (inr b) f g = g b

module _ (xs vs : List Sort) (n : ℕ) where
  hit : (us : List Sort) (k : ℕ) → length us ≡ k → (f : Types) → ((m : ℕ) → Sound xs (us ++ vs) types (f m)) → (c : TreeClass) → IsWalked c → (m : ℕ) (t : Tree) (x : Part)
      → Fits (within (us ++ vs) xs) c (f m) → Sound xs (us ++ vs) c t → (b : Bool) → if_is b k t ≡ Some x → IsPart xs vs x
  hit us k e f w types d m t x h g true i = let j : record { binders = k; tree = t } ≡ x = grind arith in rw (← j) (record { inner = us; count = e; sound = g })
  hit us k e f w kinds d m t x h g true i = absurd (type-not-kind (within (us ++ vs) xs) (within (us ++ vs) xs) (f m) (w m).0 h)
  hit us k e f w c d m t x h g b i = absurd (grind arith)

  place-sound : (us : List Sort) (k : ℕ) → length us ≡ k → (f : Types) → ((m : ℕ) → Sound xs (us ++ vs) types (f m)) → (c : TreeClass) → IsWalked c → (p t : Tree) (x : Part)
      → Fits (within (us ++ vs) xs) c (fill_written f p) → Sound xs (us ++ vs) c t → first_place n k p t ≡ Some x → IsPart xs vs x
  place-sound us k e f w c d (leaf (unknown m)) t x h g i = hit us k e f w c d m t x h g (is_unknown n (leaf (unknown m))) i
  place-sound us k e f w types d (apply of_term p q) (apply of_term p' q') x h g i = place-sound us k e f w types tt p p' x h.0 (g.0.0, g.1.0) (of_head-is p _ x i)
  place-sound us k e f w types d (apply of_type p q) (apply of_type p' q') x h g i =
      either (or_part-is _ _ x i) (λ m. place-sound us k e f w types tt p p' x h.0 (g.0.0, g.1.0) (of_head-is p _ x m)) (λ m. place-sound us k e f w types tt q q' x h.1 (g.0.1, g.1.1) m)
  place-sound us k e f w types d (bind pi_of p q) (bind g' p' q') x h g i =
      let (j, l) = if_former-is pi_of g' _ x i in
      let g : Sound xs (us ++ vs) types (bind pi_of p' q') = subst (λ z. Sound xs (us ++ vs) types (bind z p' q')) (sym j) g in
      either (of_domain-is pi_of _ _ x l) (λ m. place-sound us k e f w types tt p p' x h.0 (g.0.0, g.1.0) m)
      (λ m. place-sound (OfTerm ∷ us) (suc k) (ap suc e) (above f) (above-types xs (us ++ vs) OfTerm f w) types tt q q' x h.1 (g.0.1, g.1.1) m)
  place-sound us k e f w types d (bind all_of p q) (bind g' p' q') x h g i =
      let (j, l) = if_former-is all_of g' _ x i in
      let g : Sound xs (us ++ vs) types (bind all_of p' q') = subst (λ z. Sound xs (us ++ vs) types (bind z p' q')) (sym j) g in
      either (of_domain-is all_of _ _ x l) (λ m. place-sound us k e f w types tt p p' x h.0 (g.0.0, g.1.0) m)
      (λ m. place-sound (OfTerm ∷ us) (suc k) (ap suc e) (above f) (above-types xs (us ++ vs) OfTerm f w) types tt q q' x h.1 (g.0.1, g.1.1) m)
  place-sound us k e f w types d (bind iota_of p q) (bind g' p' q') x h g i =
      let (j, l) = if_former-is iota_of g' _ x i in
      let g : Sound xs (us ++ vs) types (bind iota_of p' q') = subst (λ z. Sound xs (us ++ vs) types (bind z p' q')) (sym j) g in
      either (of_domain-is iota_of _ _ x l) (λ m. place-sound us k e f w types tt p p' x h.0 (g.0.0, g.1.0) m)
      (λ m. place-sound (OfTerm ∷ us) (suc k) (ap suc e) (above f) (above-types xs (us ++ vs) OfTerm f w) types tt q q' x h.1 (g.0.1, g.1.1) m)
  place-sound us k e f w types d (bind allt_of p q) (bind g' p' q') x h g i =
      let (j, l) = if_former-is allt_of g' _ x i in
      let g : Sound xs (us ++ vs) types (bind allt_of p' q') = subst (λ z. Sound xs (us ++ vs) types (bind z p' q')) (sym j) g in
      either (of_domain-is allt_of _ _ x l) (λ m. place-sound us k e f w kinds tt p p' x h.0 (g.0.0, g.1.0) m)
      (λ m. place-sound (OfType ∷ us) (suc k) (ap suc e) (above f) (above-types xs (us ++ vs) OfType f w) types tt q q' x h.1 (g.0.1, g.1.1) m)
  place-sound us k e f w types d (bind tlam_of p q) (bind g' p' q') x h g i =
      let (j, l) = if_former-is tlam_of g' _ x i in
      let g : Sound xs (us ++ vs) types (bind tlam_of p' q') = subst (λ z. Sound xs (us ++ vs) types (bind z p' q')) (sym j) g in
      either (of_domain-is tlam_of _ _ x l) (λ m. place-sound us k e f w types tt p p' x h.0 (g.0.0, g.1.0) m)
      (λ m. place-sound (OfTerm ∷ us) (suc k) (ap suc e) (above f) (above-types xs (us ++ vs) OfTerm f w) types tt q q' x h.1 (g.0.1, g.1.1) m)
  place-sound us k e f w types d (bind xtlam_of p q) (bind g' p' q') x h g i =
      let (j, l) = if_former-is xtlam_of g' _ x i in
      let g : Sound xs (us ++ vs) types (bind xtlam_of p' q') = subst (λ z. Sound xs (us ++ vs) types (bind z p' q')) (sym j) g in
      either (of_domain-is xtlam_of _ _ x l) (λ m. place-sound us k e f w kinds tt p p' x h.0 (g.0.0, g.1.0) m)
      (λ m. place-sound (OfType ∷ us) (suc k) (ap suc e) (above f) (above-types xs (us ++ vs) OfType f w) types tt q q' x h.1 (g.0.1, g.1.1) m)
  place-sound us k e f w kinds d (bind kpi_of p q) (bind g' p' q') x h g i =
      let (j, l) = if_former-is kpi_of g' _ x i in
      let g : Sound xs (us ++ vs) kinds (bind kpi_of p' q') = subst (λ z. Sound xs (us ++ vs) kinds (bind z p' q')) (sym j) g in
      either (of_domain-is kpi_of _ _ x l) (λ m. place-sound us k e f w types tt p p' x h.0 (g.0.0, g.1.0) m)
      (λ m. place-sound (OfTerm ∷ us) (suc k) (ap suc e) (above f) (above-types xs (us ++ vs) OfTerm f w) kinds tt q q' x h.1 (g.0.1, g.1.1) m)
  place-sound us k e f w kinds d (bind kpit_of p q) (bind g' p' q') x h g i =
      let (j, l) = if_former-is kpit_of g' _ x i in
      let g : Sound xs (us ++ vs) kinds (bind kpit_of p' q') = subst (λ z. Sound xs (us ++ vs) kinds (bind z p' q')) (sym j) g in
      either (of_domain-is kpit_of _ _ x l) (λ m. place-sound us k e f w kinds tt p p' x h.0 (g.0.0, g.1.0) m)
      (λ m. place-sound (OfType ∷ us) (suc k) (ap suc e) (above f) (above-types xs (us ++ vs) OfType f w) kinds tt q q' x h.1 (g.0.1, g.1.1) m)
  place-sound us k e f w types d (bind b p q) (bind g' p' q') x h g i = absurd h
  place-sound us k e f w kinds d (bind b p q) (bind g' p' q') x h g i = absurd h
  place-sound us k e f w types d (unary j p) t x h g i = absurd h
  place-sound us k e f w kinds d (unary j p) t x h g i = absurd h
  place-sound us k e f w kinds d (apply of_term p q) t x h g i = absurd h
  place-sound us k e f w kinds d (apply of_type p q) t x h g i = absurd h
  place-sound us k e f w types d p t x h g i = absurd (grind arith)
  place-sound us k e f w kinds d p t x h g i = absurd (grind arith)
  place-sound us k e f w c d p t x h g i = absurd d

-- ---- without the binders

pub lowered-is : (t : Tree) → lacks 0 t ≡ true → t ≡ ren suc (lowered t)
lowered-is t h = lacks-raised 0 (leaf star_of) t h ∙ shift-one (lowered t)

ren-still : (t : Tree) → ren (λ i. i) t ≡ t
ren-still t = sym (sub-vars (λ i. i) t) ∙ sub-var t

sound-lowered : (xs vs : List Sort) (y : Sort) (c : TreeClass) (t : Tree) → lacks 0 t ≡ true → Sound xs (y ∷ vs) c t → Sound xs vs c (lowered t)
sound-lowered xs vs y c t e h =
    let k : HasErasure (ren pred (ren suc (lowered t))) = has-erasure-ren pred (ren suc (lowered t)) (subst HasErasure (lowered-is t e) h.1) in
    (fits-lowered xs vs y c t e h.0, subst HasErasure (ren-ren pred suc (lowered t) ∙ ren-still (lowered t)) k)

pub outside-sound : (xs vs us : List Sort) (k : ℕ) (t a : Tree) → length us ≡ k → Sound xs (us ++ vs) types t → outside k t ≡ Some a → Sound xs vs types a
outside-sound xs vs [] zero t a e h i = let j : t ≡ a = grind arith in rw (← j) h
outside-sound xs vs [] (suc k) t a e h i = absurd (grind arith)
outside-sound xs vs (y ∷ us) zero t a e h i = absurd (grind arith)
outside-sound xs vs (y ∷ us) (suc k) t a e h i = by_test (λ l m. outside-sound xs vs us k (lowered t) a (omega arith) l m) (lacks 0 t) refl i
  where
    by_test : (Sound xs (us ++ vs) types (lowered t) → outside k (lowered t) ≡ Some a → Sound xs vs types a) → (b : Bool) → lacks 0 t ≡ b → cond b (outside k (lowered t)) None ≡ Some a → Sound xs vs types a
    by_test f true j l = f (sound-lowered xs (us ++ vs) y types t j h) l
    by_test f false j l = absurd (grind arith)

-- a type found for an unknown of a pattern
pub part-sound : (xs vs : List Sort) (f : Types) → ((m : ℕ) → Sound xs vs types (f m)) → (p t : Tree) → Fits (within vs xs) types (fill_written f p) → Sound xs vs types t
    → (n : ℕ) (a : Tree) → part_outside (first_place n 0 p t) ≡ Some a → Sound xs vs types a
part-sound xs vs f w p t h g n a i = by_place (first_place n 0 p t) refl i
  where
    by_place : (o : Option Part) → first_place n 0 p t ≡ o → part_outside o ≡ Some a → Sound xs vs types a
    by_place (Some x) j l = let r = place-sound xs vs n [] 0 refl f w types tt p t x h g j in outside-sound xs vs r.inner x.binders x.tree a r.count r.sound l
    by_place None j l = absurd (grind arith)

-- ---- what is solved

pub with_solved-is : (o : Option (Option Tree)) (r : Option Solution) (s : Solution) → with_solved o r ≡ Some s → (x : Option Tree) × (ss : Solution) × (o ≡ Some x) × (r ≡ Some ss) × (s ≡ x ∷ ss)
with_solved-is (Some x) (Some ss) s e = (x, ss, refl, refl, grind arith)
with_solved-is (Some x) None s e = absurd (grind arith)
with_solved-is None r s e = absurd (grind arith)

pub solved-length : (n : ℕ) (os : Solution) (p t : Tree) (s : Solution) → solved n os p t ≡ Some s → length s ≡ length os
solved-length n [] p t s e = let j : [] ≡ s = grind arith in rw (← j) refl
solved-length n (Some a ∷ os) p t s e = let (x, ss, i, j, l) = with_solved-is (Some (Some a)) (solved (suc n) os p t) s e in rw l (ap suc (solved-length (suc n) os p t ss j))
solved-length n (None ∷ os) p t s e = let (x, ss, i, j, l) = with_solved-is (cond (mentions n p) (asked (part_outside (first_place n 0 p t))) (Some None)) (solved (suc n) os p t) s e in rw l (ap suc (solved-length (suc n) os p t ss j))

-- what was found stays found
pub solved-keeps : (n : ℕ) (os : Solution) (p t : Tree) (s : Solution) → solved n os p t ≡ Some s → (m : ℕ) (a : Tree) → found_in os m ≡ Some a → found_in s m ≡ Some a
solved-keeps n [] p t s e m a f = absurd (grind arith)
solved-keeps n (Some b ∷ os) p t s e zero a f = let (x, ss, i, j, l) = with_solved-is (Some (Some b)) (solved (suc n) os p t) s e in let z : Some b ≡ x = grind arith in rw (l, ← z) f
solved-keeps n (Some b ∷ os) p t s e (suc m) a f = let (x, ss, i, j, l) = with_solved-is (Some (Some b)) (solved (suc n) os p t) s e in rw l (solved-keeps (suc n) os p t ss j m a f)
solved-keeps n (None ∷ os) p t s e zero a f = absurd (grind arith)
solved-keeps n (None ∷ os) p t s e (suc m) a f = let (x, ss, i, j, l) = with_solved-is (cond (mentions n p) (asked (part_outside (first_place n 0 p t))) (Some None)) (solved (suc n) os p t) s e in rw l (solved-keeps (suc n) os p t ss j m a f)

asked-is : (b : Bool) (o : Option Tree) (x : Option Tree) (a : Tree) → cond b (asked o) (Some None) ≡ Some x → x ≡ Some a → o ≡ Some a
asked-is true (Some b) x a e f = let j : Some b ≡ x = grind arith in j ∙ f
asked-is true None x a e f = absurd (grind arith)
asked-is false o x a e f = absurd (grind arith)

-- what is found has P where that has it which was found, and so have the target's parts
pub solved-all : (P : Tree → Type 0) (n : ℕ) (os : Solution) (p t : Tree) (s : Solution) → solved n os p t ≡ Some s → ((m : ℕ) (a : Tree) → found_in os m ≡ Some a → P a)
    → ((m : ℕ) (a : Tree) → part_outside (first_place m 0 p t) ≡ Some a → P a) → (m : ℕ) (a : Tree) → found_in s m ≡ Some a → P a
solved-all P n [] p t s e h g m a f = let j : [] ≡ s = grind arith in let k : found_in [] m ≡ Some a = subst (λ s. found_in s m ≡ Some a) (sym j) f in absurd (grind arith)
solved-all P n (Some b ∷ os) p t s e h g zero a f = let (x, ss, i, j, l) = with_solved-is (Some (Some b)) (solved (suc n) os p t) s e in let z : Some b ≡ x = grind arith in h zero a (z ∙ subst (λ s. found_in s 0 ≡ Some a) l f)
solved-all P n (Some b ∷ os) p t s e h g (suc m) a f = let (x, ss, i, j, l) = with_solved-is (Some (Some b)) (solved (suc n) os p t) s e in solved-all P (suc n) os p t ss j (λ m. h (suc m)) g m a (subst (λ s. found_in s (suc m) ≡ Some a) l f)
solved-all P n (None ∷ os) p t s e h g zero a f =
    let (x, ss, i, j, l) = with_solved-is (cond (mentions n p) (asked (part_outside (first_place n 0 p t))) (Some None)) (solved (suc n) os p t) s e in g n a (asked-is (mentions n p) (part_outside (first_place n 0 p t)) x a i (subst (λ s. found_in s 0 ≡ Some a) l f))
solved-all P n (None ∷ os) p t s e h g (suc m) a f = let (x, ss, i, j, l) = with_solved-is (cond (mentions n p) (asked (part_outside (first_place n 0 p t))) (Some None)) (solved (suc n) os p t) s e in solved-all P (suc n) os p t ss j (λ m. h (suc m)) g m a (subst (λ s. found_in s (suc m) ≡ Some a) l f)

-- an instance
pub instance-is : (os : Solution) (p t : Tree) (s : Solution) → instance os p t ≡ Some s → (solved 0 os (solved_in os p) t ≡ Some s) × (erased (solved_in s (solved_in os p)) ≡ erased t)
instance-is os p t s = by_solved (solved 0 os (solved_in os p) t)
  where
    by_tree : (r : Solution) (d : Dec (erased (solved_in r (solved_in os p)) ≡ erased t)) → cond (elim d [ yes e ↦ true | no e ↦ false ]) (Some r) None ≡ Some s → (Some r ≡ Some s) × (erased (solved_in s (solved_in os p)) ≡ erased t)
    by_tree r (yes i) e = let j : r ≡ s = grind arith in (e, rw (← j) i)
    by_tree r (no i) e = absurd (grind arith)

    by_solved : (o : Option Solution) → if_whole o (solved_in os p) t ≡ Some s → (o ≡ Some s) × (erased (solved_in s (solved_in os p)) ≡ erased t)
    by_solved (Some r) e = by_tree r (Tree-discrete ℕ_discrete (Leaf-discrete ℕ_discrete) Unary-discrete Function-discrete Binary-discrete Binder-discrete (erased (solved_in r (solved_in os p))) (erased t)) e
    by_solved None e = absurd (grind arith)
