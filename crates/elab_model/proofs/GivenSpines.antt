-- A spine keeps what is known of it. Whatever types are put for its unknowns, its term is of its class and erases to the source's erasure, and its type is of
-- its class; and where H holds, both have a derivation. H is what is known only at the end: that the items and the context are derived, and the type asked
-- for; for a solution is used before it is known to have its kind.
use Rattle.std.proofs.Common.{◌≡◌, ◌⊎◌, inl, inr, ℕ, zero, suc, ◌+◌, ◌<◌, Bool, true, false, List, [], ◌∷◌, ◌++◌, length, Option, Some, None, slice_get, refl, sym, ap, ap₂, ◌∙◌, subst, length-append, arith}
use Rattle.std.proofs.lemmas.Option.{slice_get_within}
use Rattle.cdle_model.specs.declared.grammar.Sort.{Sort}
use Rattle.cdle_model.specs.declared.grammar.Sort.TheVariants.{OfTerm, OfType}
use Rattle.cdle_model.specs.Trees.{Function, of_pure, app_of, eapp_of, tapp_of, pi_of, all_of, allt_of, eq_of, beta_of, phi_of, guide_of, star_of, unknown, Binary, Binder, Tree, var, name, leaf, unary, fun, apply, binary, bind}
use Rattle.cdle_model.specs.Forms.{star, pi, all, allt, tapp}
use Rattle.cdle_model.specs.Classes.{TreeClass, terms, types, kinds, guides, guide_kinds, within, item_sorts}
use Rattle.cdle_model.specs.Erasure.{erased, lowered}
use Rattle.cdle_model.specs.Substitution.{put_written}
use Rattle.cdle_model.specs.Fitting.{entry_sorts}
use Rattle.cdle_model.specs.HeadForms.{deepest}
use Rattle.cdle_model.specs.Steps.{Chain, Joined, end}
use Rattle.cdle_model.specs.Derivation.{Entry, Item, Judgement, bodies, a_term, a_type, a_kind, Has, converted, signature, AreDerived}
use Rattle.cdle_model.proofs.Lists.{get-left, get-snoc}
use Rattle.cdle_model.proofs.Rewriting.{linked-join}
use Rattle.cdle_model.proofs.Inversion.{in_pi, in_all}
use Rattle.cdle_model.proofs.Signatures.{ClosedItems}
use Rattle.cdle_model.proofs.ClassErasure.{erased-fits}
use Rattle.cdle_model.proofs.ClassChecked.{SameClass}
use Rattle.elab_model.specs.declared.codes.Code.TheVariants.{Mismatch}
use Rattle.source_model.specs.Source.{Span}
use Rattle.elab_model.specs.HeadWritten.{Unfolding, all_but}
use Rattle.elab_model.specs.HeadSteps.{AtHead}
use Rattle.elab_model.specs.Unfoldings.{IsSigned, AreKinded}
use Rattle.elab_model.specs.Unknowns.{Types, above, erased_types, fill, fill_written}
use Rattle.elab_model.specs.OpenDerivations.{Agrees, so_far, HasOpen, SpineHas}
use Rattle.elab_model.specs.SourceErasure.{Encodings}
use Rattle.elab_model.specs.SoundTrees.{Sound}
use Rattle.elab_model.specs.Soundness.{EnvSound, ContextSound}
use Rattle.elab_model.specs.Derived.{erased_context}
use Rattle.elab_model.specs.Questions.{Questions, gives, ask_same, then, Env, kept_names}
use Rattle.elab_model.specs.Instances.{Solution, flat, found_in, solved_in, all_found, or_else, has_unknown, instance}
use Rattle.elab_model.specs.Spines.{Typed, Spine, starting, Made, checked, inferred, spine, made_so_far, leaves_out, brought, if_solved, fits_then, applied_at, argument, type_argument, kinds_agree, closes, without_goal, leading_out, led, fitted, against}
use Rattle.elab_model.proofs.Filled.{erased-fill}
use Rattle.elab_model.proofs.FilledWritten.{fill_written-put}
use Rattle.elab_model.proofs.FilledTwice.{fill-so_far}
use Rattle.elab_model.proofs.WholeTrees.{fits-whole}
use Rattle.elab_model.proofs.HeadChains.{head-chain, chain-filled, chain-joined}
use Rattle.elab_model.proofs.KindsKept.{chain-kind}
use Rattle.elab_model.proofs.DerivedBodies.{items-closed, bodies-signed, bodies-kinded}
use Rattle.elab_model.proofs.OpenSpines.{spine-begins, spine-left_out, spine-kept, spine-erased, spine-type, spine-found, spine-ends, spine-headed}
use Rattle.elab_model.proofs.SoundPuts.{two, first, second, sound-put}
use Rattle.elab_model.proofs.HeadClasses.{sound-chain}
use Rattle.elab_model.proofs.SoundItems.{unfolds-sound, env-signed}
use Rattle.elab_model.proofs.FoundParts.{part-sound, solved-length, solved-keeps, solved-all, instance-is}
use Rattle.elab_model.proofs.DerivedTrees.{part-has}
use Rattle.elab_model.proofs.ReadKinds.{kind-read}
use Rattle.elab_model.proofs.Ensures.{IsHead, Ensures, given, refused, stopped, compared, headed, ensures-then, ensures-more, ensures-if, ensures-deep, ensures-binder, ensures-is}

-- ---- trees without unknowns

-- each part of a form stays, so the form does
both-stay : {p q p' q' : Tree} (m : Tree → Tree → Tree) (a b : Bool) → or_else a b ≡ false → (a ≡ false → p' ≡ p) → (b ≡ false → q' ≡ q) → m p' q' ≡ m p q
both-stay m true b e h k = absurd (grind arith)
both-stay m false b e h k = ap₂ m (h refl) (k e)

whole-erased : (f : Types) (t : Tree) → has_unknown t ≡ false → fill f t ≡ t
whole-erased f (var i) e = refl
whole-erased f (name n) e = refl
whole-erased f (leaf star_of) e = refl
whole-erased f (leaf (unknown n)) e = absurd (grind arith)
whole-erased f (unary j p) e = ap (unary j) (whole-erased f p e)
whole-erased f (fun c p) e = ap (fun c) (whole-erased (above f) p e)
whole-erased f (apply c p q) e = both-stay (apply c) _ _ e (whole-erased f p) (whole-erased f q)
whole-erased f (binary j p q) e = both-stay (binary j) _ _ e (whole-erased f p) (whole-erased f q)
whole-erased f (bind b p q) e = both-stay (bind b) _ _ e (whole-erased f p) (whole-erased (above f) q)

whole-written : (f : Types) (t : Tree) → has_unknown t ≡ false → fill_written f t ≡ t
whole-written f (var i) e = refl
whole-written f (name n) e = refl
whole-written f (leaf star_of) e = refl
whole-written f (leaf (unknown n)) e = absurd (grind arith)
whole-written f (unary j p) e = ap (unary j) (whole-written f p e)
whole-written f (fun c p) e = whole-erased (erased_types f) (fun c p) e
whole-written f (apply of_pure p q) e = whole-erased (erased_types f) (apply of_pure p q) e
whole-written f (apply c p q) e = both-stay (apply c) _ _ e (whole-written f p) (whole-written f q)
whole-written f (binary eq_of p q) e = whole-erased (erased_types f) (binary eq_of p q) e
whole-written f (binary beta_of p q) e = whole-erased (erased_types f) (binary beta_of p q) e
whole-written f (binary phi_of p q) e = both-stay (binary phi_of) _ _ e (whole-written f p) (whole-erased (erased_types f) q)
whole-written f (binary j p q) e = both-stay (binary j) _ _ e (whole-written f p) (whole-written f q)
whole-written f (bind guide_of p q) e = both-stay (bind guide_of) _ _ e (whole-written f p) (whole-erased (above (erased_types f)) q)
whole-written f (bind b p q) e = both-stay (bind b) _ _ e (whole-written f p) (whole-written (above f) q)

-- ---- solutions

flat-is : (o : Option (Option Tree)) (a : Tree) → flat o ≡ Some a → o ≡ Some (Some a)
flat-is (Some o) a e = ap Some e
flat-is None a e = absurd (grind arith)

found-left : (os ls : Solution) (n : ℕ) (a : Tree) → found_in os n ≡ Some a → found_in (os ++ ls) n ≡ Some a
found-left os ls n a e = ap flat (get-left os ls n (Some a) (flat-is (slice_get os n) a e))

-- an unknown more has no solution
found-snoc : (os : Solution) (n : ℕ) (a : Tree) → found_in (os ++ (None ∷ [])) n ≡ Some a → found_in os n ≡ Some a
found-snoc [] zero a e = absurd (grind arith)
found-snoc [] (suc n) a e = absurd (grind arith)
found-snoc (o ∷ os) zero a e = e
found-snoc (o ∷ os) (suc n) a e = found-snoc os n a e

all-found : (os : Solution) → all_found os ≡ true → (n : ℕ) → n < length os → (a : Tree) × (found_in os n ≡ Some a)
all-found [] e n h = absurd (grind arith)
all-found (Some a ∷ os) e zero h = (a, refl)
all-found (Some a ∷ os) e (suc n) h = all-found os e n (omega arith)
all-found (None ∷ os) e n h = absurd (grind arith)

-- what is found, and else a type that needs nothing
abbrev some_type : Option Tree → Tree
some_type (Some a) = a
some_type None = binary eq_of (fun of_pure (var 0)) (fun of_pure (var 0))

abbrev some_types : Solution → Types
some_types os n = some_type (found_in os n)

some-agrees : (os : Solution) → Agrees (found_in os) (some_types os)
some-agrees os n a e = rw e refl

so-far-is : (os : Solution) (n : ℕ) (a : Tree) → found_in os n ≡ Some a → so_far (found_in os) n ≡ a
so-far-is os n a e = rw e refl

-- a relation of erased trees that goes under each form: equality where there are no encodings, or being joined
pub record IsLike (f : Encodings) (R : Tree → Tree → Type 0) : Type 0 where
  pub itself : (a : Tree) → R a a
  pub functions : (c : Function) (p q : Tree) → R p q → R (fun c p) (fun c q)
  pub applications : (c : Function) (p q a b : Tree) → R p q → R a b → R (apply c p a) (apply c q b)
  pub binders : (h : Binder) (p q a b : Tree) → R p q → R a b → R (bind h p a) (bind h q b)
  pub lowers : (p q : Tree) → R p q → R (lowered p) (lowered q)
  pub encodings : (n : ℕ) (p : Tree) → f n ≡ Some p → R (name n) p

-- a judgement of Core over the erased context
abbrev Derives : Env → List Entry → Judgement → Tree → Tree → Type 0
Derives e c j t a = Has (signature e.items) j (erased_context c) t a

-- ---- what is known of what is given, over a context; its erasure is like p

module _ (e : Env) (R : Tree → Tree → Type 0) (c : List Entry) (H : Type 0) where
  abbrev Fit : TreeClass → Tree → Type 0
  Fit = Sound (item_sorts e.items) (entry_sorts c)

  -- a term and its type, a term against a type, a type and its kind, a kind
  abbrev pub TypedGiven : Tree → Typed → Type 0
  TypedGiven p x = Fit terms x.0 × R (erased x.0) p × Fit types x.1 × (H → Derives e c a_term x.0 (erased x.1) × Derives e c a_type x.1 star)

  abbrev pub TermGiven : Tree → Tree → Tree → Type 0
  TermGiven p a t = Fit terms t × R (erased t) p × (H → Derives e c a_type a star → Derives e c a_term t (erased a))

  abbrev pub KindedGiven : Tree → Typed → Type 0
  KindedGiven p x = Fit types x.0 × R (erased x.0) p × Fit kinds x.1 × (H → Derives e c a_type x.0 (erased x.1) × Derives e c a_kind x.1 star)

  abbrev pub KindGiven : Tree → Tree → Type 0
  KindGiven p k = Fit kinds k × R (erased k) p × (H → Derives e c a_kind k star)

  -- a spine so far
  pub record SpineGiven (p : Tree) (s : Spine) : Type 0 where
    pub lengths : length s.solution ≡ length s.kinds
    pub solved : (n : ℕ) (a : Tree) → found_in s.solution n ≡ Some a → Fit types a
    pub sound : (f : Types) → Agrees (found_in s.solution) f → ((n : ℕ) → n < length s.kinds → Fit types (f n))
        → Fit terms (fill_written f s.term) × R (erased (fill_written f s.term)) p × Fit types (fill_written f s.type)
    pub kinds_sound : (f : Types) → Agrees (found_in s.solution) f → ((n : ℕ) → n < length s.kinds → Fit types (f n))
        → (n : ℕ) (k : Tree) → slice_get s.kinds n ≡ Some k → Fit kinds (fill_written f k)
    pub has : H → SpineHas (signature e.items) (erased_context c) s.kinds (found_in s.solution) s.term s.type
    pub kinded : H → (n : ℕ) (a : Tree) → found_in s.solution n ≡ Some a → (k : Tree) × Derives e c a_type a k

  -- what a term's rule gives, whether a type is asked for or not
  abbrev CheckedGiven : Tree → Option Tree → Tree → Type 0
  CheckedGiven p (Some a) t = TermGiven p a t
  CheckedGiven p None t = ⊥

  abbrev pub MadeGiven : Tree → Option Tree → Made → Type 0
  MadeGiven p o (checked t) = CheckedGiven p o t
  MadeGiven p o (inferred t a) = TypedGiven p (t, a)
  MadeGiven p o (spine s) = SpineGiven p s

abbrev pub IsGoal : Env → List Entry → Option Tree → Type 0
IsGoal e c None = Unit {0}
IsGoal e c (Some a) = Sound (item_sorts e.items) (entry_sorts c) types a

-- the spine that an argument makes
abbrev applied_spine : Binary → Tree → Tree → Spine → Spine
applied_spine j u b s = record s { term = binary j s.term u; type = put_written 0 u b }

abbrev filled_spine : Solution → Spine → Spine
filled_spine os s = record s { type = solved_in os s.type; solution = os }

abbrev spine_left_out : Spine → Tree → Tree → Spine
spine_left_out s k b = record {
  head = s.head;
  term = tapp s.term (leaf (unknown (length s.kinds)));
  type = put_written 0 (leaf (unknown (length s.kinds))) b;
  kinds = s.kinds ++ (k ∷ []);
  solution = s.solution ++ (None ∷ []);
}

-- two types are compared, and two kinds
pub same-types : (xs vs : List Sort) (a b : Tree) → Sound xs vs types a → Sound xs vs types b → SameClass xs (erased a) (erased b)
same-types xs vs a b h k = (vs, guides, tt, erased-fits xs vs types a h.0 h.1, erased-fits xs vs types b k.0 k.1)

pub same-kinds : (xs vs : List Sort) (a b : Tree) → Sound xs vs kinds a → Sound xs vs kinds b → SameClass xs (erased a) (erased b)
same-kinds xs vs a b h k = (vs, guide_kinds, tt, erased-fits xs vs kinds a h.0 h.1, erased-fits xs vs kinds b k.0 k.1)

-- ---- head forms of what is of its class

module _ (e : Env) (g : EnvSound e) (c : List Entry) where
  abbrev unfolds : Bool → Unfolding
  unfolds d = all_but (kept_names e d) e.items

  chain : (d : Bool) (a b : Tree) → IsHead e d a b → Chain (AtHead (unfolds d)) a b
  chain d a b i = head-chain (unfolds d) i.units a b i.left i.is

  pub head-whole : (d : Bool) (a b : Tree) → IsHead e d a b → Sound (item_sorts e.items) (entry_sorts c) types a → Sound (item_sorts e.items) (entry_sorts c) types b
  head-whole d a b i h = sound-chain (item_sorts e.items) (unfolds d) (unfolds-sound e g d) (entry_sorts c) (chain d a b i) h

  unfolds-signed : (d : Bool) → IsSigned (bodies (signature e.items)) (unfolds d)
  unfolds-signed d = bodies-signed e.items g.items (kept_names e d)

  unfolds-kinded : (d : Bool) → AreDerived e.items → AreKinded (signature e.items) (unfolds d)
  unfolds-kinded d v = bodies-kinded e.items v (kept_names e d)

  pub head-kind : (d : Bool) (a b k : Tree) → AreDerived e.items → IsHead e d a b → Derives e c a_type a k → Derives e c a_type b k
  head-kind d a b k v i h = chain-kind (signature e.items) (items-closed e.items g.items) (unfolds d) (unfolds-signed d) (unfolds-kinded d v) (erased_context c) k (chain d a b i) h

  pub head-joined : (d : Bool) (a b : Tree) → IsHead e d a b → Joined (bodies (signature e.items)) (erased a) (erased b)
  head-joined d a b i = chain-joined (bodies (signature e.items)) (unfolds d) (unfolds-signed d) (chain d a b i)

-- ---- the steps of spines

module _ (e : Env) (g : EnvSound e) (f : Encodings) (R : Tree → Tree → Type 0) (like : IsLike f R) (c : List Entry) (hc : ContextSound (item_sorts e.items) c)
    (H : Type 0) (v : H → AreDerived e.items) where
  abbrev Xs : List Sort
  Xs = item_sorts e.items

  abbrev Is : List Item
  Is = signature e.items

  abbrev closed : ClosedItems (signature e.items)
  closed = items-closed e.items g.items

  abbrev D : List Entry
  D = erased_context c

  abbrev V : List Sort
  V = entry_sorts c

  abbrev S : TreeClass → Tree → Type 0
  S = Sound Xs V

  abbrev L : Tree → Spine → Type 0
  L = SpineGiven e R c H

  abbrev T : Tree → Typed → Type 0
  T = TypedGiven e R c H

  abbrev U : Tree → Tree → Tree → Type 0
  U = TermGiven e R c H

  -- a term, or a type, with the unknowns of a spine, and what stands of it
  abbrev Open : Spine → Judgement → Tree → Tree → Type 0
  Open s = HasOpen Is D s.kinds (found_in s.solution)

  abbrev SpineIs : Spine → Tree → Tree → Type 0
  SpineIs s = SpineHas Is D s.kinds (found_in s.solution)

  -- a type that has a kind
  abbrev HasKind : Tree → Type 0
  HasKind a = (k : Tree) × Derives e c a_type a k

  whole : (k : TreeClass) (t : Tree) → S k t → (t' : Types) → fill_written t' t ≡ t
  whole k t h t' = fits-whole (within V Xs) k t' t h.0

  some-sound : (os : Solution) → ((n : ℕ) (a : Tree) → found_in os n ≡ Some a → S types a) → (n : ℕ) → S types (some_types os n)
  some-sound os h n = by_found (found_in os n) (h n)
    where
      by_found : (o : Option Tree) → ((a : Tree) → o ≡ Some a → S types a) → S types (some_type o)
      by_found (Some a) k = k a refl
      by_found None k = ((refl, refl), (tt, tt))

  pub begins : {p : Tree} (l : Span) (t a : Tree) → T p (t, a) → L p (starting l t a)
  begins l t a h = record {
    lengths = refl;
    solved = λ n b j. absurd (grind arith);
    sound = λ t' x y. rw (whole terms t h.0 t', whole types a h.2 t') (h.0, h.1, h.2);
    kinds_sound = λ t' x y n k j. absurd (grind arith);
    has = λ o. spine-begins Is D (found_in []) t a (whole terms t h.0) (whole types a h.2) (h.3 o).0 (h.3 o).1;
    kinded = λ o n b j. absurd (grind arith);
  }

  so-far : {P : Spine → Type 0} (w : Span) (s : Spine) → P s → Ensures e P (made_so_far w s)
  so-far w s h = ensures-deep w s.term (ensures-deep w s.type (given h))

  so-far-then : {A : Type 0} {P : A → Type 0} (w : Span) (s : Spine) (k : Spine → Questions A) → Ensures e P (k s) → Ensures e P (then (made_so_far w s) k)
  so-far-then {P = P} w s k h = ensures-then (so-far {P = λ z. s ≡ z} w s refl) (λ z i. subst (λ z. Ensures e P (k z)) i h)

  -- the kinds with one more
  kind-snoc : (ks : List Tree) (k l : Tree) (n : ℕ) (t : Types) → ((n : ℕ) (k : Tree) → slice_get ks n ≡ Some k → S kinds (fill_written t k)) → S kinds (fill_written t k)
      → (slice_get ks n ≡ Some l) ⊎ (n ≡ length ks) × (k ≡ l) → S kinds (fill_written t l)
  kind-snoc ks k l n t h m (inl x) = h n l x
  kind-snoc ks k l n t h m (inr x) = rw (← x.1) m

  left-out : {p k b : Tree} {s : Spine} → L p s → s.type ≡ allt k b → L p (spine_left_out s k b)
  left-out {k = k} {b = b} {s = s} h i = record {
    lengths = length-append s.solution (None ∷ []) ∙ ap (λ n. n + 1) h.lengths ∙ sym more;
    solved = λ n a j. h.solved n a (found-snoc s.solution n a j);
    sound = λ t x y.
        let (st, j, a) = h.sound t (fewer t x) (λ n m. y n (omega (arith, more))) in
        let u : S types (t (length s.kinds)) = y (length s.kinds) (omega (arith, more)) in
        let v : S types (allt (fill_written t k) (fill_written (above t) b)) = subst (λ z. S types (fill_written t z)) i a in
        (two st u, j, rw (fill_written-put t (leaf (unknown (length s.kinds))) b) (sound-put Xs V OfType (t (length s.kinds)) (fill_written (above t) b) types tt u (second v)));
    kinds_sound = λ t x y n l j.
        let y' : (n : ℕ) → n < length s.kinds → S types (t n) = λ n o. y n (omega (arith, more)) in
        let v : S types (allt (fill_written t k) (fill_written (above t) b)) = subst (λ z. S types (fill_written t z)) i (h.sound t (fewer t x) y').2 in
        kind-snoc s.kinds k l n t (h.kinds_sound t (fewer t x) y') (first v) (get-snoc s.kinds k l n j);
    has = λ o. spine-found Is D (s.kinds ++ (k ∷ [])) (found_in s.solution) (found_in (s.solution ++ (None ∷ []))) _ _ fewer
        (spine-left_out Is closed D s.kinds (found_in s.solution) s.term k b (subst (SpineIs s s.term) i (h.has o)));
    kinded = λ o n a j. h.kinded o n a (found-snoc s.solution n a j);
  }
    where
      more : length (s.kinds ++ (k ∷ [])) ≡ length s.kinds + 1
      more = length-append s.kinds (k ∷ [])

      fewer : (t : Types) → Agrees (found_in (s.solution ++ (None ∷ []))) t → Agrees (found_in s.solution) t
      fewer t x n a m = x n a (found-left s.solution (None ∷ []) n a m)

  leaves : {p k b : Tree} {s : Spine} (w : Span) → L p s → s.type ≡ allt k b → Ensures e (L p) (leaves_out w s k b)
  leaves {k = k} {b = b} {s = s} w h i = so-far w (spine_left_out s k b) (left-out h i)

  -- ---- head forms

  at-head : {p b : Tree} {s : Spine} → IsHead e false s.type b → L p s → L p (record s { type = b })
  at-head {b = b} {s = s} i h = record {
    lengths = h.lengths;
    solved = h.solved;
    sound = λ t x y. let (st, j, a) = h.sound t x y in
        (st, j, sound-chain Xs (unfolds e g c false) (unfolds-sound e g false) V (chain-filled (bodies Is) (unfolds e g c false) (env-signed e g false) t (chain e g c false s.type b i)) a);
    kinds_sound = h.kinds_sound;
    has = λ o. spine-headed Is closed D (unfolds e g c false) (unfolds-signed e g c false) (unfolds-kinded e g c false (v o)) s.kinds (found_in s.solution) s.term s.type b
        (chain e g c false s.type b i) (h.has o);
    kinded = h.kinded;
  }

  brought-given : {p : Tree} (n : ℕ) (w : Span) (typed : Bool) (s : Spine) → L p s → Ensures e (L p) (brought n w typed s)
  brought-given zero w typed s h = stopped
  brought-given {p = p} (suc n) w typed s h = headed (λ b i.
      let hr : L p (record s { type = b }) = at-head i h in
      ensures-if typed (λ _. given hr) (λ _. ensures-binder allt_of b (λ k d j. ensures-then (leaves w hr j) (brought-given n w typed)) (given hr)))

  -- ---- instances

  -- a pattern, whatever is put, under solutions that have kinds
  record IsPattern (os : Solution) (p : Tree) : Type 0 where
    solved : (n : ℕ) (a : Tree) → found_in os n ≡ Some a → S types a
    sound : (t : Types) → Agrees (found_in os) t → ((n : ℕ) → S types (t n)) → S types (fill_written t p)
    kinded : H → (n : ℕ) (a : Tree) → found_in os n ≡ Some a → HasKind a

  -- more is found, of its class and with kinds, such that the type is joined with the pattern
  record Fitted (os : Solution) (p a : Tree) (s : Solution) : Type 0 where
    lengths : length s ≡ length os
    keeps : (n : ℕ) (b : Tree) → found_in os n ≡ Some b → found_in s n ≡ Some b
    solved : (n : ℕ) (b : Tree) → found_in s n ≡ Some b → S types b
    kinded : H → (n : ℕ) (b : Tree) → found_in s n ≡ Some b → HasKind b
    joined : (t : Types) → Agrees (found_in s) t → Joined (bodies Is) (erased a) (erased (fill_written t p))

  -- what is found is filled with what it stands for
  filled : (os : Solution) (a : Tree) (t : Types) → Agrees (found_in os) t → ((n : ℕ) (b : Tree) → found_in os n ≡ Some b → S types b) → fill_written t (solved_in os a) ≡ fill_written t a
  filled os a t m h = fill-so_far (found_in os) t (λ n b i. whole types b (h n b i)) m a

  instance-fitted : (os : Solution) (p a : Tree) (s : Solution) → IsPattern os p → S types a → (H → HasKind a) → instance os p a ≡ Some s → Fitted os p a s
  instance-fitted os p a s h x hk i =
      let (j, l) = instance-is os p a s i in
      let t : Types = some_types os in
      let y : S types (fill_written t (solved_in os p)) = rw (filled os p t (some-agrees os) h.solved) (h.sound t (some-agrees os) (some-sound os h.solved)) in
      let all = solved-all (λ b. S types b × (H → HasKind b)) 0 os (solved_in os p) a s j (λ n b m. (h.solved n b m, λ o. h.kinded o n b m))
      (λ n b m. let q = part-sound Xs V t (some-sound os h.solved) (solved_in os p) a y.0 x n b m in
      (q, λ o. part-has Is closed (within V Xs) D (solved_in os p) a (hk o).0 (hk o).1 n b m q.0)) in
      let keep : (n : ℕ) (b : Tree) → found_in os n ≡ Some b → found_in s n ≡ Some b = solved-keeps 0 os (solved_in os p) a s j in
      record {
        lengths = solved-length 0 os (solved_in os p) a s j;
        keeps = keep;
        solved = λ n b m. (all n b m).0;
        kinded = λ o n b m. (all n b m).1 o;
        joined = λ t' m.
            let q : fill_written t' (solved_in s (solved_in os p)) ≡ fill_written t' p =
            filled s (solved_in os p) t' m (λ n b i. (all n b i).0) ∙ filled os p t' (λ n b o. m n b (keep n b o)) h.solved in
            let o : erased (fill_written t' p) ≡ erased a =
            ap erased (sym q) ∙ erased-fill t' (solved_in s (solved_in os p)) ∙ ap (fill (erased_types t')) l ∙ sym (erased-fill t' a) ∙ ap erased (whole types a x t') in
            subst (Joined (bodies Is) (erased a)) (sym o) end;
      }

  by_instance : {A : Type 0} {P : A → Type 0} {k : Solution → Questions A} {r : Questions A} (os : Solution) (p a b : Tree)
      → IsPattern os p → S types b → (H → HasKind b) → Joined (bodies Is) (erased a) (erased b)
      → ((s : Solution) → Fitted os p a s → Ensures e P (k s)) → Ensures e P r → Ensures e P (if_solved (instance os p b) k r)
  by_instance {P = P} {k = k} {r = r} os p a b h x hl j u w = by_solved (instance os p b) (λ s i. instance-fitted os p b s h x hl i)
    where
      by_solved : (o : Option Solution) → ((s : Solution) → o ≡ Some s → Fitted os p b s) → Ensures e P (if_solved o k r)
      by_solved (Some s) z = let y = z s refl in u s (record { lengths = y.lengths; keeps = y.keeps; solved = y.solved; kinded = y.kinded; joined = λ t m. linked-join j (y.joined t m) })
      by_solved None z = w

  fits : {A : Type 0} {P : A → Type 0} {k : Solution → Questions A} (w l : Span) (os : Solution) (p a : Tree) → IsPattern os p → S types a → (H → HasKind a)
      → ((s : Solution) → Fitted os p a s → Ensures e P (k s)) → Ensures e P (fits_then w l os p a k)
  fits w l os p a h x hk u = by_instance os p a a h x hk end u (headed (λ b i. by_instance os p a b h (head-whole e g c true a b i x)
      (λ o. ((hk o).0, head-kind e g c true a b (hk o).0 (v o) i (hk o).1)) (head-joined e g c true a b i) u refused))

  refreshed-given : {p x a : Tree} {s : Spine} {os : Solution} → L p s → Fitted s.solution x a os → L p (filled_spine os s)
  refreshed-given {s = s} {os = os} h k = record {
    lengths = k.lengths ∙ h.lengths;
    solved = k.solved;
    sound = λ t m n. let (st, i, b) = h.sound t (more t m) n in (st, i, rw (fill-type t m) b);
    kinds_sound = λ t m. h.kinds_sound t (more t m);
    has = λ o. record { typed = λ t n m. rw (fill-type t m) ((h.has o).typed t n (more t m)); kinded = λ t n m. rw (fill-type t m) ((h.has o).kinded t n (more t m)) };
    kinded = k.kinded;
  }
    where
      more : (t : Types) → Agrees (found_in os) t → Agrees (found_in s.solution) t
      more t m n b i = m n b (k.keeps n b i)

      fill-type : (t : Types) → Agrees (found_in os) t → fill_written t (solved_in os s.type) ≡ fill_written t s.type
      fill-type t m = filled os s.type t m k.solved

  -- ---- arguments

  -- a spine applied to an argument
  applied-given : {p r : Tree} {s : Spine} (j : Binary) (u b : Tree) → L p s
      → ((t : Types) → S terms (fill_written t s.term) → R (erased (fill_written t s.term)) p → S types (fill_written t s.type)
      → S terms (fill_written t (binary j s.term u)) × R (erased (fill_written t (binary j s.term u))) r × S types (fill_written t (put_written 0 u b)))
      → (H → SpineIs s (binary j s.term u) (put_written 0 u b)) → L r (applied_spine j u b s)
  applied-given j u b h k l = record {
    lengths = h.lengths;
    solved = h.solved;
    sound = λ t x y. let (st, i, a) = h.sound t x y in k t st i a;
    kinds_sound = h.kinds_sound;
    has = l;
    kinded = h.kinded;
  }

  applied-kept : {p q : Tree} (s : Spine) (a b u : Tree) → L p s → s.type ≡ pi a b → S terms u → R (erased u) q → (H → Open s a_term u a) → L (apply of_pure p q) (applied_spine app_of u b s)
  applied-kept s a b u h i k j o = applied-given app_of u b h
      (λ t st l z. let v : S types (pi (fill_written t a) (fill_written (above t) b)) = subst (λ z. S types (fill_written t z)) i z in
      rw (fill_written-put t u b, whole terms u k t) (two st k, like.applications of_pure _ _ _ _ l j, sound-put Xs V OfTerm u (fill_written (above t) b) types tt k (second v)))
      (λ x. spine-kept Is closed D s.kinds (found_in s.solution) s.term u a b (subst (SpineIs s s.term) i (h.has x)) (o x))

  applied-erased : {p q : Tree} (s : Spine) (a b u : Tree) → L p s → s.type ≡ all a b → S terms u → R (erased u) q → (H → Open s a_term u a) → L p (applied_spine eapp_of u b s)
  applied-erased s a b u h i k j o = applied-given eapp_of u b h
      (λ t st l z. let v : S types (all (fill_written t a) (fill_written (above t) b)) = subst (λ z. S types (fill_written t z)) i z in
      rw (fill_written-put t u b, whole terms u k t) (two st k, l, sound-put Xs V OfTerm u (fill_written (above t) b) types tt k (second v)))
      (λ x. spine-erased Is closed D s.kinds (found_in s.solution) s.term u a b (subst (SpineIs s s.term) i (h.has x)) (o x))

  applied-type : {p : Tree} (s : Spine) (a b u : Tree) → L p s → s.type ≡ allt a b → S types u → (H → Open s a_type u a) → L p (applied_spine tapp_of u b s)
  applied-type s a b u h i k o = applied-given tapp_of u b h
      (λ t st l z. let v : S types (allt (fill_written t a) (fill_written (above t) b)) = subst (λ z. S types (fill_written t z)) i z in
      rw (fill_written-put t u b, whole types u k t) (two st k, l, sound-put Xs V OfType u (fill_written (above t) b) types tt k (second v)))
      (λ x. spine-type Is closed D s.kinds (found_in s.solution) s.term u a b (subst (SpineIs s s.term) i (h.has x)) (o x))

  -- a product over terms, whatever is put
  record IsProduct (b : Binder) : Type 0 where
    domain : (t : Types) (x y : Tree) → S types (fill_written t (bind b x y)) → S types (fill_written t x)
    kinded : (t : Types) (x y : Tree) → Derives e c a_type (fill_written t (bind b x y)) star → Derives e c a_type (fill_written t x) star
    solved : (os : Solution) (x y : Tree) → (z : Tree) × (solved_in os (bind b x y) ≡ bind b (solved_in os x) z)

  pattern-of : {b : Binder} {p x y : Tree} {s : Spine} → IsProduct b → L p s → s.type ≡ bind b x y → IsPattern s.solution x
  pattern-of {x = x} {y = y} d h i = record {
    solved = h.solved;
    sound = λ t k l. d.domain t x y (subst (λ z. S types (fill_written t z)) i (h.sound t k (λ n m. l n)).2);
    kinded = h.kinded;
  }

  pattern-whole : {os : Solution} {x : Tree} → IsPattern os x → has_unknown x ≡ false → S types x
  pattern-whole {os = os} {x = x} h i = rw (whole-written (some_types os) x i) at (h.sound (some_types os) (some-agrees os) (some-sound os h.solved))

  -- an argument that is inferred has the domain as its type, whatever is put
  open-fits : {os s : Solution} {x a : Tree} (ks : List Tree) (u : Tree) → Fitted os x a s → S terms u → Derives e c a_term u (erased a) → HasOpen Is D ks (found_in s) a_term u (solved_in s x)
  open-fits {s = s} {x = x} ks u k hu h t n o =
      rw (whole terms u hu t, filled s x t o k.solved) (converted h (k.joined t o))

  argument-given : {q r p : Tree} {inferring : Questions Typed} {checking : Tree → Questions Tree} (b : Binder) (j : Binary) (w l : Span) (s : Spine) → IsProduct b
      → ((s : Spine) (x y u : Tree) → L p s → s.type ≡ bind b x y → S terms u → R (erased u) q → (H → Open s a_term u x) → L r (applied_spine j u y s))
      → L p s → Ensures e (T q) inferring → ((a : Tree) → S types a → Ensures e (U q a) (checking a)) → Ensures e (L r) (argument w b j l inferring checking s)
  argument-given {r = r} b j w l s d apply-it h u m =
      ensures-then (brought-given (suc deepest) w false s h) (λ z hz. ensures-binder b z.type (λ x y i.
      let pat : IsPattern z.solution x = pattern-of d hz i in
      ensures-if (has_unknown x)
      (λ _. ensures-then u (λ t ht. fits w l z.solution x t.1 pat ht.2 (λ o. (star, (ht.3 o).1)) (λ os k. so-far-then w (filled_spine os z) _ (by_solved z x y t.0 os i (d.solved os x y)
      (λ y' i'. apply-it (filled_spine os z) (solved_in os x) y' t.0 (refreshed-given hz k) i' ht.0 ht.1 (λ o. open-fits z.kinds t.0 k ht.0 (ht.3 o).0))))))
      (λ n. let hx = pattern-whole pat n in ensures-then (m x hx) (λ t ht. so-far w (applied_spine j t y z) (apply-it z x y t hz i ht.0 ht.1
      (λ o t' x' y'. rw (whole terms t ht.0 t', whole types x hx t') (ht.2 o (rw (whole types x hx t') at
      (d.kinded t' x y (subst (λ q. Derives e c a_type (fill_written t' q) star) i ((hz.has o).kinded t' x' y'))))))))))
      refused)
    where
      by_solved : (z : Spine) (x y t : Tree) (os : Solution) → z.type ≡ bind b x y → (y' : Tree) × (solved_in os (bind b x y) ≡ bind b (solved_in os x) y')
          → ((y' : Tree) → solved_in os z.type ≡ bind b (solved_in os x) y' → L r (applied_spine j t y' (filled_spine os z))) → Ensures e (L r) (applied_at w b j t (filled_spine os z))
      by_solved z x y t os i (y', i') k =
          let i'' = ap (solved_in os) i ∙ i' in
          ensures-is b (solved_in os z.type) (solved_in os x) y' _ _ i'' (so-far w (applied_spine j t y' (filled_spine os z)) (k y' i''))

  pub kept-given : {p q : Tree} {inferring : Questions Typed} {checking : Tree → Questions Tree} (w l : Span) (s : Spine)
      → L p s → Ensures e (T q) inferring → ((a : Tree) → S types a → Ensures e (U q a) (checking a)) → Ensures e (L (apply of_pure p q)) (argument w pi_of app_of l inferring checking s)
  kept-given w l s = argument-given pi_of app_of w l s (record { domain = λ t x y. first; kinded = λ t x y h. (in_pi h).0; solved = λ os x y. (_, refl) }) applied-kept

  pub erased-given : {p q : Tree} {inferring : Questions Typed} {checking : Tree → Questions Tree} (w l : Span) (s : Spine)
      → L p s → Ensures e (T q) inferring → ((a : Tree) → S types a → Ensures e (U q a) (checking a)) → Ensures e (L p) (argument w all_of eapp_of l inferring checking s)
  erased-given w l s = argument-given all_of eapp_of w l s (record { domain = λ t x y. first; kinded = λ t x y h. (in_all h).0; solved = λ os x y. (_, refl) }) applied-erased

  pub type-given : {p q : Tree} {kinding : Questions Typed} (w l : Span) (s : Spine) → L p s → Ensures e (KindedGiven e R c H q) kinding → Ensures e (L p) (type_argument w l kinding s)
  type-given {p = p} w l s h u =
      headed (λ b i'. let z : Spine = record s { type = b } in let hz : L p z = at-head i' h in
      ensures-binder allt_of b (λ x y i. ensures-then u (λ t ht. ensures-if (has_unknown x) (λ _. refused) (λ m.
      let k : S types (allt (fill_written (some_types z.solution) x) (fill_written (above (some_types z.solution)) y)) =
      subst (λ q. S types (fill_written (some_types z.solution) q)) i (hz.sound (some_types z.solution) (some-agrees z.solution) (λ n _. some-sound z.solution hz.solved n)).2 in
      let hx : S kinds x = rw (whole-written (some_types z.solution) x m) at (first k) in
      compared (same-kinds Xs V t.1 x ht.2 hx) (λ j. so-far w (applied_spine tapp_of t.0 y z) (applied-type z x y t.0 hz i ht.0
      (λ o t' x' y'. rw (whole types t.0 ht.0 t', whole-written t' x m) (converted (ht.3 o).0 j)))))))
      refused)

  -- ---- the end

  -- each solution has its kind
  abbrev HaveKinds : Solution → List Tree → Solution → Type 0
  HaveKinds os ks bs = (n : ℕ) (k a : Tree) → slice_get ks n ≡ Some k → found_in bs n ≡ Some a → H → Derives e c a_type a (erased (solved_in os k))

  kinds-agree : {A : Type 0} {P : A → Type 0} {q : Questions A} (w : Span) (os bs : Solution) (ks : List Tree) → all_found bs ≡ true
      → ((n : ℕ) (a : Tree) → found_in bs n ≡ Some a → S types a) → (H → (n : ℕ) (a : Tree) → found_in bs n ≡ Some a → HasKind a)
      → ((n : ℕ) (k : Tree) → slice_get ks n ≡ Some k → S kinds (solved_in os k)) → (HaveKinds os ks bs → Ensures e P q) → Ensures e P (kinds_agree e w c os bs ks q)
  kinds-agree w os (Some a ∷ bs) (k ∷ ks) i h hk l u =
      ensures-then (kind-read e g a c w hc (h 0 a refl)) (λ x hx. ensures-deep w (solved_in os k) (compared (same-kinds Xs V x (solved_in os k) hx.0 (l 0 k refl))
      (λ j. kinds-agree w os bs ks i (λ n. h (suc n)) (λ o n. hk o (suc n)) (λ n. l (suc n)) (λ z. u (λ n. more n (λ o. converted (hx.1 (v o) (hk o 0 a refl).0 (hk o 0 a refl).1) j) z)))))
    where
      more : (n : ℕ) → (H → Derives e c a_type a (erased (solved_in os k))) → HaveKinds os ks bs
          → (k' b : Tree) → slice_get (k ∷ ks) n ≡ Some k' → found_in (Some a ∷ bs) n ≡ Some b → H → Derives e c a_type b (erased (solved_in os k'))
      more zero y z k' b m o = let i : k ≡ k' = grind arith in let j : a ≡ b = grind arith in rw (← i, ← j) y
      more (suc n) y z k' b m o = z n k' b m o
  kinds-agree w os (Some a ∷ bs) [] i h hk l u = u (λ n k a m o. absurd (grind arith))
  kinds-agree w os (None ∷ bs) ks i h hk l u = absurd (grind arith)
  kinds-agree w os [] ks i h hk l u = u (λ n k a m o. absurd (grind arith))

  closes-given : {A : Type 0} {P : A → Type 0} {k : Tree → Tree → Questions A} {p : Tree} (w : Span) (s : Spine)
      → L p s → ((t a : Tree) → T p (t, a) → Ensures e P (k t a)) → Ensures e P (closes e w c s k)
  closes-given w s h u = ensures-if (all_found s.solution) (λ i.
      let t : Types = so_far (found_in s.solution) in
      let here : (n : ℕ) → n < length s.kinds → (a : Tree) × (found_in s.solution n ≡ Some a) = λ n m. all-found s.solution i n (rw h.lengths m) in
      let y : (n : ℕ) → n < length s.kinds → S types (t n) = λ n m. let (a, j) = here n m in rw (so-far-is s.solution n a j) (h.solved n a j) in
      let (st, r, a) = h.sound t (so-far-is s.solution) y in
      kinds-agree w s.solution s.solution s.kinds i h.solved h.kinded (h.kinds_sound t (so-far-is s.solution) y) (λ m.
      ensures-deep w (solved_in s.solution s.term) (u (solved_in s.solution s.term) (solved_in s.solution s.type) (
        st,
        r,
        a,
        λ o. spine-ends Is D s.kinds (found_in s.solution) t s.term s.type (so-far-is s.solution)
            (λ n l j. let (a, x) = here n (slice_get_within s.kinds n l j) in rw (so-far-is s.solution n a x) (m n l a j x o)) (h.has o),
      )))) (λ _. refused)

  pub without-given : {p : Tree} (w : Span) (m : Made) → MadeGiven e R c H p None m → Ensures e (T p) (without_goal e w c m)
  without-given w (checked t) h = absurd h
  without-given w (inferred t a) h = given h
  without-given w (spine s) h = closes-given w s h (λ t a k. given k)

  leading-given : {p : Tree} (n : ℕ) (w : Span) (s : Spine) → L p s → Ensures e (L p) (leading_out e n w s)
  leading-given zero w s h = stopped
  leading-given (suc n) w s h = ensures-binder allt_of s.type (λ k b i. ensures-then (leaves w h i) (leading-given n w)) (given h)

  led-given : {p : Tree} (w : Span) (a : Tree) (s : Spine) → L p s → Ensures e (L p) (led e w a s)
  led-given w a s h = ensures-binder allt_of s.type (λ k b i. headed (λ z j. ensures-binder allt_of z (λ l d m. given h) (leading-given (suc deepest) w s h))) (given h)

  fitted-given : {p : Tree} (w : Span) (a : Tree) (s : Spine) → S types a → (H → HasKind a) → L p s → Ensures e (L p) (fitted e w a s)
  fitted-given w a s x hk h = ensures-if (all_found s.solution) (λ _. given h) (λ _. fits w w s.solution s.type a
      (record { solved = h.solved; sound = λ t k l. (h.sound t k (λ n m. l n)).2; kinded = h.kinded }) x hk (λ os k. so-far w (filled_spine os s) (refreshed-given h k)))

  -- H tells here that the type asked for has the kind `*`
  spine-against : {p : Tree} (w : Span) (a : Tree) (s : Spine) → S types a → (H → Derives e c a_type a star) → L p s → Ensures e (U p a) (against e w c a (spine s))
  spine-against w a s x hk h = ensures-then (led-given w a s h) (λ z hz. ensures-then (fitted-given w a z x (λ o. (star, hk o)) hz) (λ y hy.
      closes-given {k = λ t b. ask_same w w Mismatch (erased b) (erased a) (gives t)} w y hy (λ t b k. compared (same-types Xs V b a k.2 x) (λ j. given (k.0, k.1, λ o l. converted (k.3 o).0 j)))))

-- a spine where more is known
spine-under : {e : Env} {R : Tree → Tree → Type 0} {c : List Entry} {H H' : Type 0} {p : Tree} {s : Spine} → (H' → H) → SpineGiven e R c H p s → SpineGiven e R c H' p s
spine-under k h = record { lengths = h.lengths; solved = h.solved; sound = h.sound; kinds_sound = h.kinds_sound; has = λ o. h.has (k o); kinded = λ o. h.kinded (k o) }

module _ (e : Env) (g : EnvSound e) (f : Encodings) (R : Tree → Tree → Type 0) (like : IsLike f R) (c : List Entry) (hc : ContextSound (item_sorts e.items) c)
    (H : Type 0) (v : H → AreDerived e.items) where
  pub against-given : {p : Tree} (w : Span) (a : Tree) (m : Made)
      → Sound (item_sorts e.items) (entry_sorts c) types a → MadeGiven e R c H p (Some a) m → Ensures e (TermGiven e R c H p a) (against e w c a m)
  against-given w a (checked t) x h = given h
  against-given w a (inferred t b) x h = compared (same-types (item_sorts e.items) (entry_sorts c) b a h.2 x) (λ j. given (h.0, h.1, λ o k. converted (h.3 o).0 j))
  against-given w a (spine s) x h = ensures-more
      (spine-against e g f R like c hc (H × Derives e c a_type a star) (λ o. v o.0) w a s x (λ o. o.1) (spine-under (λ o. o.0) h))
      (λ u z. (z.0, z.1, λ o k. z.2 (o, k) k))
