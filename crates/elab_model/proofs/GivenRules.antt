-- What the surface rules give is of its class over the context, erases to the source's erasure, and has a derivation by Core's rules where the items and
-- the context have; and from a scoped tree that is of its class the rules always have an answer.
use Rattle.std.proofs.Common.{◌≡◌, ◌⊎◌, ℕ, true, false, List, [], ◌∷◌, Option, Some, None, slice_get, refl, sym, ◌∙◌, subst, arith}
use Rattle.cdle_model.specs.declared.grammar.Sort.{Sort}
use Rattle.cdle_model.specs.declared.grammar.Sort.TheVariants.{OfTerm, OfType}
use Rattle.cdle_model.specs.Trees.{of_pure, of_term, of_type, pi_of, all_of, allt_of, iota_of, kpi_of, kpit_of, Binder, Tree, var, name, bind, shift, put, lacks}
use Rattle.cdle_model.specs.Forms.{star, kpi, kpit, pi, all, allt, tlam, xtlam, at_, on, iota, eq, lam, elam, xlam, pair, fst, snd, beta, rho, phi, delta}
use Rattle.cdle_model.specs.Classes.{TreeClass, terms, types, kinds, pure_terms, guides, within, Fits, item_sorts}
use Rattle.cdle_model.specs.Erasure.{erased, lowered, HasErasure}
use Rattle.cdle_model.specs.Substitution.{put_written}
use Rattle.cdle_model.specs.Fitting.{entry_sorts}
use Rattle.cdle_model.specs.Steps.{Joined, end}
use Rattle.cdle_model.specs.Derivation.{Entry, term_of, type_of, Judgement, bodies, a_term, a_type, a_kind, true_pure, false_pure, var_term, name_term, lam_rule, elam_rule, xlam_rule, pair_rule, fst_rule, snd_rule, beta_rule, rho_rule, phi_rule, delta_rule, var_type, name_type, pi_rule, all_rule, iota_rule, allt_rule, tlam_rule, xtlam_rule, at_rule, on_rule, eq_rule, star_rule, kpi_rule, kpit_rule, Has, by_rule, converted, signature, AreDerived}
use Rattle.cdle_model.proofs.Rewriting.{linked-join, linked-turn}
use Rattle.cdle_model.proofs.Equality.{joined_binary}
use Rattle.cdle_model.proofs.Shifts.{put-shift}
use Rattle.cdle_model.proofs.Trees.{shift_zero}
use Rattle.cdle_model.proofs.Signatures.{ClosedItems}
use Rattle.cdle_model.proofs.ErasedSubstitution.{erased-put}
use Rattle.cdle_model.proofs.Inversion.{in_pi, in_all, in_iota, in_allt, in_kpi, in_kpit}
use Rattle.cdle_model.proofs.ClassSubstitution.{fits-put, fits-shift}
use Rattle.cdle_model.proofs.ClassErasure.{has-erasure, erased-fits}
use Rattle.cdle_model.proofs.ClassChecked.{SameClass}
use Rattle.elab_model.specs.declared.codes.Code.{Code}
use Rattle.elab_model.specs.declared.codes.Code.TheVariants.{NotTheTwoBooleans, SidesDiffer}
use Rattle.source_model.specs.Source.{Span}
use Rattle.source_model.specs.Heights.{span_of}
use Rattle.scope_model.specs.Scoped.{Reference, variable, item, cast, Scoped}
use Rattle.elab_model.specs.ScopedForms.{letter, s_name, s_lam, s_elam, s_xlam, s_unclassed, s_app, s_eapp, s_tapp, s_pair, s_fst, s_snd, s_beta, s_rho, s_phi, s_delta, s_chi, s_flip, s_pi, s_all, s_allt, s_tlam, s_xtlam, s_iota, s_at, s_on, s_eq, s_star, s_kpi, s_kpit}
use Rattle.elab_model.specs.SourceErasure.{identity, Encodings, encoded, name_erased, source_erased}
use Rattle.elab_model.specs.SourceClasses.{IsLeftOut, IsUse, SourceFits}
use Rattle.elab_model.specs.Questions.{Questions, gives, ask_same, then, unless_deep, Env}
use Rattle.elab_model.specs.SoundTrees.{Sound}
use Rattle.elab_model.specs.Soundness.{EnvSound, ContextSound, EncodingsFit}
use Rattle.elab_model.specs.Derived.{erased_context, EntryDerived, ContextDerived}
use Rattle.elab_model.specs.Spines.{Typed, Spine, Made, checked, inferred, spine, starting, known_of}
use Rattle.elab_model.specs.Rules.{gives_inferred, gives_checked, gives_type, star_then, if_annotated, agrees_then, binder_then, equation_then, unless_used, by_goal, is_equation, term_name, type_name, infer, check, started, head_then, proof_then, erase, term, type, kind}
use Rattle.elab_model.proofs.WrittenPuts.{has-put}
use Rattle.elab_model.proofs.DerivedBodies.{items-closed}
use Rattle.elab_model.proofs.SoundPuts.{two, first, second, sound-put}
use Rattle.elab_model.proofs.SoundItems.{entry-sound, known-term, known-type, item-sound}
use Rattle.elab_model.proofs.SoundErasures.{ErasureOf, erase-is, erase-optional}
use Rattle.elab_model.proofs.DerivedTrees.{erased-entry, entry-derived, known-item, known-class}
use Rattle.elab_model.proofs.ReadKinds.{term-entry, type-entry, term-item, type-item}
use Rattle.elab_model.proofs.Ensures.{IsHead, Ensures, given, refused, compared, headed, ensures-then, ensures-if, ensures-deep, ensures-written, ensures-binder, ensures-equation}
use Rattle.elab_model.proofs.GivenSpines.{IsLike, TypedGiven, TermGiven, KindedGiven, KindGiven, SpineGiven, MadeGiven, IsGoal, same-types, same-kinds, head-whole, head-kind, head-joined, begins, kept-given, erased-given, type-given, without-given, against-given}

-- a guide that is written as an equation erases to one
equation-erased : (f : Encodings) (d : Scoped) → is_equation d ≡ true → (p q : Tree) × (source_erased f d ≡ eq p q)
equation-erased f (s_eq s t u) i = (source_erased f t, source_erased f u, refl)
equation-erased f d i = absurd (grind arith)

put-raised : (x y : Tree) → put 0 x (shift 0 1 y) ≡ y
put-raised x y = put-shift 0 0 0 x (omega arith) (omega arith) y ∙ shift_zero 0 y

-- what holds of both parts of a form under a binder that is not used
two_lacking : {A B C D E : Type 0} → A × B → C × D → E → (A × C) × (B × D × E)
two_lacking h k i = ((h.0, k.0), (h.1, k.1, i))

-- what is known under one more entry
under : {A B C : Type 0} → A × B → C → A × (C × B)
under h k = (h.0, (k, h.1))

module _ (e : Env) (g : EnvSound e) (f : Encodings) (w : EncodingsFit (item_sorts e.items) f) (R : Tree → Tree → Type 0) (like : IsLike f R) where
  abbrev Xs : List Sort
  Xs = item_sorts e.items

  abbrev V : List Entry → List Sort
  V c = entry_sorts c

  abbrev E : Scoped → Tree
  E t = source_erased f t

  abbrev S : List Entry → TreeClass → Tree → Type 0
  S c k t = Sound Xs (V c) k t

  -- a pure term, or a guide, over variables of these sorts
  abbrev Pure : List Sort → TreeClass → Tree → Type 0
  Pure vs k t = Fits (within vs Xs) k t

  -- by Core's rules
  abbrev Derives : List Entry → Judgement → Tree → Tree → Type 0
  Derives c j t a = Has (signature e.items) j (erased_context c) t a

  closed : ClosedItems (signature e.items)
  closed = items-closed e.items g.items

  -- the items and the context are derived
  abbrev H : List Entry → Type 0
  H c = AreDerived e.items × ContextDerived (signature e.items) c

  -- what is given of a source
  abbrev T : List Entry → Scoped → Typed → Type 0
  T c t = TypedGiven e R c (H c) (E t)

  abbrev U : List Entry → Scoped → Tree → Tree → Type 0
  U c t = TermGiven e R c (H c) (E t)

  abbrev K : List Entry → Scoped → Typed → Type 0
  K c t = KindedGiven e R c (H c) (E t)

  abbrev N : List Entry → Scoped → Tree → Type 0
  N c t = KindGiven e R c (H c) (E t)

  abbrev M : List Entry → Tree → Option Tree → Made → Type 0
  M c = MadeGiven e R c (H c)

  -- a type of the kind `★`
  abbrev IsType : List Entry → Scoped → Tree → Type 0
  IsType c t a = S c types a × R (erased a) (E t) × (H c → Derives c a_type a star)

  -- what a term's rule gives, whatever is asked
  abbrev TermLaw : List Entry → Scoped → Type 0
  TermLaw c t = ContextSound Xs c → SourceFits (V c) Xs terms t → (a : Option Tree) (z : Span) → IsGoal e c a → Ensures e (M c (E t) a) (term e f c t a z)

  -- ---- the parts of a rule

  infers : (c : List Entry) (t : Scoped) → TermLaw c t → ContextSound Xs c → SourceFits (V c) Xs terms t → Ensures e (T c t) (infer e f c t (term e f c t))
  infers c t l hc h = ensures-then (l hc h None (span_of t) tt) (λ m x. without-given e g f R like c hc (H c) (λ o. o.0) (span_of t) m x)

  checks : (c : List Entry) (t : Scoped) (a : Tree) → TermLaw c t → ContextSound Xs c → SourceFits (V c) Xs terms t → S c types a → Ensures e (U c t a) (check e f c t (term e f c t) a)
  checks c t a l hc h x = ensures-then (l hc h (Some a) (span_of t) x) (λ m y. against-given e g f R like c hc (H c) (λ o. o.0) (span_of t) a m x y)

  starts : (c : List Entry) → ContextSound Xs c → (s : Span) (p : Tree) (m : Made) → M c p None m → Ensures e (SpineGiven e R c (H c) p) (started e f s m)
  starts c hc s p (checked t) h = absurd h
  starts c hc s p (inferred t a) h = given (begins e g f R like c hc (H c) (λ o. o.0) s t a h)
  starts c hc s p (spine x) h = given h

  -- the head of an application, and then the argument
  heads : {k : Spine → Questions Spine} {r : Tree} (c : List Entry) (t : Scoped) (a : Option Tree) (s : Span) → TermLaw c t → ContextSound Xs c → SourceFits (V c) Xs terms t
      → ((x : Spine) → SpineGiven e R c (H c) (E t) x → Ensures e (SpineGiven e R c (H c) r) (k x)) → Ensures e (M c r a) (head_then e f t (term e f c t) s k)
  heads c t a s l hc h u = ensures-then (ensures-then (l hc h None s tt) (λ m x. starts c hc (span_of t) (E t) m x)) (λ x hx. ensures-then (u x hx) (λ y hy. given hy))

  -- a type of the kind `★`
  pub stars : {A : Type 0} {P : A → Type 0} {k : Tree → Questions A} (s : Span) (c : List Entry) (a : Scoped)
      → Ensures e (K c a) (type e f c a) → ((b : Tree) → IsType c a b → Ensures e P (k b)) → Ensures e P (star_then s a (type e f c a) k)
  stars s c a h u = ensures-then h (λ x y. compared (same-kinds Xs (V c) x.1 star y.2 (tt, tt)) (λ j. u x.0 (y.0, y.1, λ o. converted (y.3 o).0 j)))

  -- an annotation of a variable agrees with the domain
  annotated : {A : Type 0} {P : A → Type 0} {q : Questions A} (s : Span) (c : List Entry) (a : Scoped) (d : Tree)
      → IsLeftOut a ⊎ SourceFits (V c) Xs types a → (SourceFits (V c) Xs types a → Ensures e (K c a) (type e f c a)) → S c types d
      → Ensures e P q → Ensures e P (if_annotated a (λ q. star_then s a (type e f c a) (λ d'. agrees_then s a d' d q)) q)
  annotated s c a d i h hd k = ensures-written a i (λ fa. stars s c a (h fa) (λ d' hd'. compared (same-types Xs (V c) d' d hd'.0 hd) (λ _. k))) k

  annotated-kind : {A : Type 0} {P : A → Type 0} {q : Questions A} (s : Span) (c : List Entry) (a : Scoped) (d : Tree)
      → IsLeftOut a ⊎ SourceFits (V c) Xs kinds a → (SourceFits (V c) Xs kinds a → Ensures e (N c a) (kind e f c a)) → S c kinds d
      → Ensures e P q → Ensures e P (if_annotated a (λ q. then (kind e f c a) (λ d'. agrees_then s a d' d q)) q)
  annotated-kind s c a d i h hd k = ensures-written a i (λ fa. ensures-then (h fa) (λ d' hd'. compared (same-kinds Xs (V c) d' d hd'.0 hd) (λ _. k))) k

  -- a head form of a type: of its class, joined with it, and of its kind
  record Headed (c : List Entry) (a b : Tree) : Type 0 where
    sound : S c types b
    same : Joined (bodies (signature e.items)) (erased a) (erased b)
    kept : H c → Derives c a_type a star → Derives c a_type b star

  heads-of : (c : List Entry) (a b : Tree) → S c types a → IsHead e false a b → Headed c a b
  heads-of c a b h i = record { sound = head-whole e g c false a b i h; same = head-joined e g c false a b i; kept = λ o k. head-kind e g c false a b star o.0 i k }

  binders : {A : Type 0} {P : A → Type 0} {k : Tree → Tree → Questions A} (s l : Span) (o : Code) (b : Binder) (c : List Entry) (a : Tree)
      → S c types a → ((x y : Tree) → Headed c a (bind b x y) → Ensures e P (k x y)) → Ensures e P (binder_then s l o b a k)
  binders s l o b c a h u = headed (λ z i. ensures-binder b z (λ x y j. u x y (subst (Headed c a) j (heads-of c a z h i))) refused)

  equations : {A : Type 0} {P : A → Type 0} {k : Tree → Tree → Questions A} (s l : Span) (c : List Entry) (a : Tree)
      → S c types a → ((x y : Tree) → Headed c a (eq x y) → Ensures e P (k x y)) → Ensures e P (equation_then s l a k)
  equations s l c a h u = headed (λ z i. ensures-equation z (λ x y j. u x y (subst (Headed c a) j (heads-of c a z h i))) refused)

  -- a term of a type is one of its head form, and the other way round
  at-head : (c : List Entry) (t : Scoped) (x : Typed) (b : Tree) → T c t x → Headed c x.1 b → T c t (x.0, b)
  at-head c t x b h i = (h.0, h.1, i.sound, λ o. let (k, l) = h.3 o in (converted k i.same, i.kept o l))

  from-head : (c : List Entry) (a b t : Tree)
      → Headed c a b → (H c → Derives c a_type b star → Derives c a_term t (erased b)) → H c → Derives c a_type a star → Derives c a_term t (erased a)
  from-head c a b t i h o k = converted (h o (i.kept o k)) (linked-turn i.same)

  -- the proof of an equation
  proofs : {A : Type 0} {P : A → Type 0} {k : Tree → Tree → Tree → Questions A} (s : Span) (c : List Entry) (t : Scoped) → TermLaw c t → ContextSound Xs c → SourceFits (V c) Xs terms t
      → ((q x y : Tree) → T c t (q, eq x y) → Ensures e P (k q x y)) → Ensures e P (proof_then e f s c t (term e f c t) k)
  proofs s c t l hc h u = ensures-then (infers c t l hc h) (λ x hx. equations s (span_of t) c x.1 hx.2 (λ y z i. u x.0 y z (at-head c t x (eq y z) hx i)))

  unused : {A : Type 0} {P : A → Type 0} {q : Questions A} (l : Span) (p : Tree) → (lacks 0 p ≡ true → Ensures e P q) → Ensures e P (unless_used l p q)
  unused l p h = ensures-if (lacks 0 p) h (λ _. refused)

  gives-one : {A : Type 0} {P : A → Type 0} (s : Span) (t : Tree) (x : A) → P x → Ensures e P (unless_deep s t (gives x))
  gives-one s t x h = ensures-deep s t (given h)

  gives-two : {A : Type 0} {P : A → Type 0} (s : Span) (t a : Tree) (x : A) → P x → Ensures e P (unless_deep s t (unless_deep s a (gives x)))
  gives-two s t a x h = ensures-deep s t (gives-one s a _ h)

  -- by the type asked for
  asked : {x : Questions Made} {k : Tree → Questions Made} (c : List Entry) (p : Tree) (a : Option Tree) → IsGoal e c a
      → Ensures e (M c p None) x → ((b : Tree) → S c types b → Ensures e (M c p (Some b)) (k b)) → Ensures e (M c p a) (by_goal a x k)
  asked c p None ha h u = h
  asked c p (Some b) hb h u = u b hb

  -- a spine begins with this term
  gives-start : (c : List Entry) → ContextSound Xs c → (p : Tree) (o : Option Tree) (s : Span) (t a : Tree)
      → TypedGiven e R c (H c) p (t, a) → Ensures e (M c p o) (unless_deep s a (gives (spine (starting s t a))))
  gives-start c hc p o s t a h = ensures-deep s a (given (begins e g f R like c hc (H c) (λ o. o.0) s t a h))

  -- what is compared: pure terms, guides
  pures : (c : List Entry) (a b : Tree) → Pure (V c) pure_terms a → Pure (V c) pure_terms b → SameClass Xs a b
  pures c a b h k = (V c, pure_terms, tt, h, k)

  two-guides : (c : List Entry) (a b : Tree) → Pure (V c) guides a → Pure (V c) guides b → SameClass Xs a b
  two-guides c a b h k = (V c, guides, tt, h, k)

  of-term : (c : List Entry) (t : Tree) → S c terms t → Pure (V c) pure_terms (erased t)
  of-term c t h = erased-fits Xs (V c) terms t h.0 h.1

  of-type : (c : List Entry) (t : Tree) → S c types t → Pure (V c) guides (erased t)
  of-type c t h = erased-fits Xs (V c) types t h.0 h.1

  -- what needs scope only
  erases : (vs : List Sort) (k : TreeClass) (t : Scoped) → SourceFits vs Xs k t → Ensures e (ErasureOf e f Xs w vs k t) (erase e f t)
  erases = erase-is e f Xs w

  erases-kept : (c : List Entry) (t : Scoped) → IsLeftOut t ⊎ SourceFits (V c) Xs terms t → Ensures e (ErasureOf e f Xs w (V c) terms t) (erase e f t)
  erases-kept c = erase-optional e f Xs w (V c)

  pure-whole : (c : List Entry) (x : Tree) → Pure (V c) pure_terms x → HasErasure x
  pure-whole c x h = has-erasure (within (V c) Xs) pure_terms x tt h

  -- an equation of pure terms
  eq-sound : (c : List Entry) (x y : Tree) → Pure (V c) pure_terms x → Pure (V c) pure_terms y → S c types (eq x y)
  eq-sound c x y h k = ((h, k), (pure-whole c x h, pure-whole c y k))

  beta-sound : (c : List Entry) (x y : Tree) → Pure (V c) pure_terms x → Pure (V c) pure_terms y → S c terms (beta x y)
  beta-sound c x y h k = ((h, k), (pure-whole c x h, pure-whole c y k))

  -- ---- names

  encoded-like : (n : ℕ) (o : Option Tree) → f n ≡ o → R (name n) (encoded n o)
  encoded-like n (Some p) i = like.encodings n p i
  encoded-like n None i = like.itself (name n)

  item-derived : (c : List Entry) (n : ℕ) (x : Entry) → AreDerived e.items → known_of (slice_get e.items n) ≡ Some x → EntryDerived (signature e.items) (erased_context c) x
  item-derived c n x v = known-class e g.items v (item-sound e g []) (erased_context c) n x

  term-named : (s : Span) (c : List Entry) (r : Reference) → ContextSound Xs c → IsUse (V c) Xs OfTerm r → (a : Option Tree) → Ensures e (M c (name_erased f r) a) (term_name e f s c r)
  term-named s c (variable i) hc h o =
      let (a, j) = term-entry c i h in
      let (k, l) = entry-sound Xs c i (term_of a) hc j in
      rw j (gives-start c hc (var i) o s (var i) a (
        (k, tt),
        like.itself (var i),
        l,
        λ z. (by_rule (var_term (erased-entry c i (term_of a) j)), entry-derived (signature e.items) closed c i (term_of a) z.1 j),
      ))
  term-named s c (item n) hc h o =
      let (a, j) = term-item e.items n h in
      let (k, l) = known-term e g (V c) n a (slice_get e.items n) refl j in
      rw j (gives-start c hc (encoded n (f n)) o s (name n) a (
        (k, tt),
        encoded-like n (f n) refl,
        l,
        λ z. (by_rule (name_term (known-item e g.items z.0 n (term_of a) j)), item-derived c n (term_of a) z.0 j),
      ))
  term-named s c (cast i) hc h o = absurd h

  type-named : (s : Span) (c : List Entry) (r : Reference) → ContextSound Xs c → IsUse (V c) Xs OfType r → Ensures e (KindedGiven e R c (H c) (name_erased f r)) (type_name e f s c r)
  type-named s c (variable i) hc h =
      let (a, j) = type-entry c i h in
      let (k, l) = entry-sound Xs c i (type_of a) hc j in
      rw j (gives-one s a _ (
        (k, tt),
        like.itself (var i),
        l,
        λ z. (by_rule (var_type (erased-entry c i (type_of a) j)), entry-derived (signature e.items) closed c i (type_of a) z.1 j),
      ))
  type-named s c (item n) hc h =
      let (a, j) = type-item e.items n h in
      let (k, l) = known-type e g (V c) n a (slice_get e.items n) refl j in
      rw j (gives-one s a _ (
        (k, tt),
        encoded-like n (f n) refl,
        l,
        λ z. (by_rule (name_type (known-item e g.items z.0 n (type_of a) j)), item-derived c n (type_of a) z.0 j),
      ))
  type-named s c (cast i) hc h = absurd h

  -- ---- the longer rules

  -- `Λ` against a head form, over a term and over a type
  elam-checked : (s : Span) (c : List Entry) (t : Scoped) (a d b : Tree) → Headed c a (all d b) → TermLaw (term_of d ∷ c) t → ContextSound Xs c → SourceFits (OfTerm ∷ V c) Xs terms t
      → Ensures e (M c (lowered (E t)) (Some a)) (then (check e f (term_of d ∷ c) t (term e f (term_of d ∷ c) t) b) (λ t. unless_used (letter s) (erased t) (gives_checked s (elam d t))))
  elam-checked s c t a d b hb l hc h = let hd : S c types d = first hb.sound in
      ensures-then (checks (term_of d ∷ c) t b l (hd, hc) h (second hb.sound)) (λ r hr. unused (letter s) (erased r) (λ i. gives-one s (elam d r) _ (
        two_lacking hd hr.0 i,
        like.lowers _ _ hr.1,
        from-head c a (all d b) (elam d r) hb (λ o k. let (kd, kb) = in_all k in by_rule (elam_rule kd (hr.2 (under o kd) kb) i)),
      )))

  xlam-checked : (s : Span) (c : List Entry) (t : Scoped) (a d b : Tree) → Headed c a (allt d b) → TermLaw (type_of d ∷ c) t → ContextSound Xs c → SourceFits (OfType ∷ V c) Xs terms t
      → Ensures e (M c (lowered (E t)) (Some a)) (then (check e f (type_of d ∷ c) t (term e f (type_of d ∷ c) t) b) (λ t. unless_used (letter s) (erased t) (gives_checked s (xlam d t))))
  xlam-checked s c t a d b hb l hc h = let hd : S c kinds d = first hb.sound in
      ensures-then (checks (type_of d ∷ c) t b l (hd, hc) h (second hb.sound)) (λ r hr. unused (letter s) (erased r) (λ i. gives-one s (xlam d r) _ (
        two_lacking hd hr.0 i,
        like.lowers _ _ hr.1,
        from-head c a (allt d b) (xlam d r) hb (λ o k. let (kd, kb) = in_allt k in by_rule (xlam_rule kd (hr.2 (under o kd) kb))),
      )))

  -- a guide at the sides of an equation
  put-guide : (c : List Entry) (x d : Tree) → Pure (V c) pure_terms x → Pure (OfTerm ∷ V c) guides d → Pure (V c) guides (put 0 x d)
  put-guide c x d h k = fits-put Xs (V c) OfTerm x h guides d tt k

  put-eq : (c : List Entry) (x m n : Tree) → Pure (V c) pure_terms x → Pure (OfTerm ∷ V c) guides (eq m n) → S c types (eq (put 0 x m) (put 0 x n))
  put-eq c x m n h k = eq-sound c (put 0 x m) (put 0 x n) (fits-put Xs (V c) OfTerm x h pure_terms m tt k.0) (fits-put Xs (V c) OfTerm x h pure_terms n tt k.1)

  rho-sound : (c : List Entry) (q d a t : Tree) → S c terms q → Pure (OfTerm ∷ V c) guides d → S c types a → S c terms t → S c terms (rho q d a t)
  rho-sound c q d a t hq hd ha ht = two (two hq (hd, has-erasure (within (OfTerm ∷ V c) Xs) guides d tt hd)) (two ha ht)

  -- `ρ` with a guide that is an equation
  rho-written : (s : Span) (c : List Entry) (q t : Scoped) (p x y m n : Tree) (a : Option Tree) → T c q (p, eq x y) → TermLaw c t → ContextSound Xs c → SourceFits (V c) Xs terms t
      → IsGoal e c a → let d : Tree = eq m n in Pure (OfTerm ∷ V c) guides d
      → Ensures e (M c (E t) a) (unless_deep s (put 0 x d) (ask_same s (letter s) SidesDiffer (erased (by_goal a (put 0 x d) (λ a. a))) (put 0 x d)
      (unless_deep s (put 0 y d) (then (check e f c t (term e f c t) (put 0 y d)) (λ t. by_goal a (gives_inferred s (rho p d (put 0 x d) t) (put 0 x d)) (λ a. gives_checked s (rho p d a t)))))))
  rho-written s c q t p x y m n a hq l hc h ha hd =
      ensures-deep s (put 0 x d) (compared (two-guides c _ (put 0 x d) (wanted a ha) (put-guide c x d hq.2.0.0 hd)) (λ j. ensures-deep s (put 0 y d)
      (ensures-then (checks c t (put 0 y d) l hc h (put-eq c y m n hq.2.0.1 hd)) (λ r hr. by_asked a ha r hr j))))
    where
      d : Tree
      d = eq m n

      hx : S c types (put 0 x d)
      hx = put-eq c x m n hq.2.0.0 hd

      wanted : (b : Option Tree) → IsGoal e c b → Pure (V c) guides (erased (by_goal b (put 0 x d) (λ a. a)))
      wanted None k = of-type c (put 0 x d) hx
      wanted (Some b) k = of-type c b k

      by_asked : (b : Option Tree) → IsGoal e c b → (r : Tree) → U c t (put 0 y d) r → Joined (bodies (signature e.items)) (erased (by_goal b (put 0 x d) (λ a. a))) (put 0 x d)
          → Ensures e (M c (E t) b) (by_goal b (gives_inferred s (rho p d (put 0 x d) r) (put 0 x d)) (λ a. gives_checked s (rho p d a r)))
      by_asked None hb r hr j = gives-two s (rho p d (put 0 x d) r) (put 0 x d) _ (
        rho-sound c p d (put 0 x d) r hq.0 hd hx hr.0,
        hr.1,
        hx,
        λ o. (by_rule (rho_rule (hq.3 o).0 (by_rule eq_rule) j (hr.2 o (by_rule eq_rule))), by_rule eq_rule),
      )
      by_asked (Some b) hb r hr j = gives-one s (rho p d b r) _ (rho-sound c p d b r hq.0 hd hb hr.0, hr.1, λ o k. by_rule (rho_rule (hq.3 o).0 k j (hr.2 o (by_rule eq_rule))))

  -- the parts of `φ`, and of `δ`
  phis : {A : Type 0} {P : A → Type 0} {k : Tree → Questions A} (s : Span) (c : List Entry) (q p : Scoped) (q' x y v : Tree) → T c q (q', eq x y) → S c terms v → SourceFits (V c) Xs terms p
      → ((u : Tree) → S c terms (phi q' v u) × R u (E p) × ((a : Tree) → H c → Derives c a_term v a → Derives c a_term (phi q' v u) a) → Ensures e P (k u))
      → Ensures e P (then (erase e f p) (λ u. ask_same s (letter s) SidesDiffer x (erased v) (ask_same s (letter s) SidesDiffer y u (k u))))
  phis s c q p q' x y v hq hv h m = ensures-then (erases (V c) terms p h) (λ u hu. compared (pures c x (erased v) hq.2.0.0 (of-term c v hv)) (λ i. compared (pures c y u hq.2.0.1 hu.0) (λ j.
      m u (two (two hq.0 hv) (hu.0, pure-whole c u hu.0), rw (← hu.1) (like.itself u), λ a o l. by_rule (phi_rule (hq.3 o).0 l i j)))))

  deltas : {A : Type 0} {P : A → Type 0} {k : Tree → Questions A} (s : Span) (c : List Entry) (q : Scoped) → TermLaw c q → ContextSound Xs c → SourceFits (V c) Xs terms q
      → ((q' : Tree) → S c terms q' → ((a : Tree) → H c → Derives c a_type a star → Derives c a_term (delta a q') (erased a)) → Ensures e P (k q'))
      → Ensures e P (proof_then e f s c q (term e f c q) (λ q x y. ask_same s (letter s) NotTheTwoBooleans x true_pure (ask_same s (letter s) NotTheTwoBooleans y false_pure (k q))))
  deltas s c q l hc h m = proofs s c q l hc h (λ q' x y hq. compared (pures c x true_pure hq.2.0.0 refl) (λ i. compared (pures c y false_pure hq.2.0.1 refl) (λ j.
      m q' hq.0 (λ a o k. by_rule (delta_rule k (hq.3 o).0 i j)))))

  -- the parts of an intersection
  projected : {A : Type 0} {P : A → Type 0} {k : Tree → Tree → Tree → Questions A} (s : Span) (o : Code) (c : List Entry) (t : Scoped)
      → TermLaw c t → ContextSound Xs c → SourceFits (V c) Xs terms t
      → ((x a b : Tree) → T c t (x, iota a b) → Ensures e P (k x a b)) → Ensures e P (then (infer e f c t (term e f c t)) (λ x. binder_then s (span_of t) o iota_of x.1 (k x.0)))
  projected s o c t l hc h u = ensures-then (infers c t l hc h) (λ x hx. binders s (span_of t) o iota_of c x.1 hx.2 (λ a b i. u x.0 a b (at-head c t x (iota a b) hx i)))

  flip-given : (c : List Entry) (t : Scoped) (q x y : Tree) → T c t (q, eq x y) → T c t (rho q (eq (shift 0 1 y) (var 0)) (eq y x) (beta y (erased q)), eq y x)
  flip-given c t q x y h =
      let hy : S c types (eq y x) = eq-sound c y x h.2.0.1 h.2.0.0 in (
        rho-sound c q (eq (shift 0 1 y) (var 0)) (eq y x) (beta y (erased q)) h.0 (fits-shift Xs (V c) OfTerm pure_terms y h.2.0.1, refl) hy (beta-sound c y (erased q) h.2.0.1 (of-term c q h.0)),
        h.1,
        hy,
        λ o.
            let i : Joined (bodies (signature e.items)) (eq y x) (eq (put 0 x (shift 0 1 y)) x) = rw (put-raised x y) end in
            let k : Derives c a_term (beta y (erased q)) (eq (put 0 y (shift 0 1 y)) y) = rw (put-raised y y) (by_rule beta_rule) in
            (by_rule (rho_rule (h.3 o).0 (by_rule eq_rule) i k), by_rule eq_rule),
      )

  -- a term put for the variable of a type
  put-star : (c : List Entry) (a t b : Tree) → Derives c a_term t (erased a) → Derives (term_of a ∷ c) a_type b star → Derives c a_type (put_written 0 t b) star
  put-star c a t b h k = has-put (signature e.items) closed (term_of (erased a)) t b star h k

  -- `Π`, `∀` and `ι`
  products : (s : Span) (c : List Entry) (a b : Scoped) (m : Binder) → ((x y : Tree) → erased (bind m x y) ≡ bind m (erased x) (erased y))
      → ((x y : Tree) → S c types x → S (term_of x ∷ c) types y → S c types (bind m x y))
      → ((x y : Tree) → Derives c a_type x star → Derives (term_of x ∷ c) a_type y star → Derives c a_type (bind m x y) star)
      → Ensures e (K c a) (type e f c a) → ((x : Tree) → S c types x → Ensures e (K (term_of x ∷ c) b) (type e f (term_of x ∷ c) b))
      → Ensures e (KindedGiven e R c (H c) (bind m (E a) (E b))) (star_then s a (type e f c a) (λ x. star_then s b (type e f (term_of x ∷ c) b) (λ y. gives_type s (bind m x y) star)))
  products s c a b m j i r h u = stars s c a h (λ x hx. stars s (term_of x ∷ c) b (u x hx.0) (λ y hy.
      gives-two s (bind m x y) star _ (i x y hx.0 hy.0, rw (j x y) (like.binders m _ _ _ _ hx.1 hy.1), (tt, tt), λ o. (r x y (hx.2 o) (hy.2 (under o (hx.2 o))), by_rule star_rule))))

  -- ---- the rules

  mutual
    term-given : (c : List Entry) (t : Scoped) → TermLaw c t
    -- a variable, a name
    term-given c (s_name s n) hc h a z ha = term-named s c n hc h a
    -- `λ x : A . t`
    term-given c (s_lam s x a t) hc h None z ha = ensures-written a h.0 (λ fa. stars s c a (kinded-given c a hc fa) (λ d hd.
        ensures-then (infers (term_of d ∷ c) t (term-given (term_of d ∷ c) t) (hd.0, hc) h.1) (λ r hr. gives-two s (lam d r.0) (pi d r.1) _ (
          two hd.0 hr.0,
          like.functions of_pure _ _ hr.1,
          two hd.0 hr.2,
          λ o. let (k, l) = hr.3 (under o (hd.2 o)) in (by_rule (lam_rule (hd.2 o) k), by_rule (pi_rule (hd.2 o) l)),
        )))) refused
    term-given c (s_lam s x a t) hc h (Some y) z ha = binders s (letter s) _ pi_of c y ha (λ d b hb. let hd : S c types d = first hb.sound in
        annotated s c a d h.0 (kinded-given c a hc) hd (ensures-then (checks (term_of d ∷ c) t b (term-given (term_of d ∷ c) t) (hd, hc) h.1 (second hb.sound)) (λ r hr. gives-one s (lam d r) _ (
          two hd hr.0,
          like.functions of_pure _ _ hr.1,
          from-head c y (pi d b) (lam d r) hb (λ o k. let (kd, kb) = in_pi k in by_rule (lam_rule kd (hr.2 (under o kd) kb))),
        ))))
    -- `Λ x : A . t`
    term-given c (s_elam s x a t) hc h None z ha = ensures-written a h.0 (λ fa. stars s c a (kinded-given c a hc fa) (λ d hd.
        ensures-then (infers (term_of d ∷ c) t (term-given (term_of d ∷ c) t) (hd.0, hc) h.1) (λ r hr. unused (letter s) (erased r.0) (λ i. gives-two s (elam d r.0) (all d r.1) _ (
          two_lacking hd.0 hr.0 i,
          like.lowers _ _ hr.1,
          two hd.0 hr.2,
          λ o. let (k, l) = hr.3 (under o (hd.2 o)) in (by_rule (elam_rule (hd.2 o) k i), by_rule (all_rule (hd.2 o) l)),
        ))))) refused
    term-given c (s_elam s x a t) hc h (Some y) z ha = binders s (letter s) _ all_of c y ha (λ d b hb.
        annotated s c a d h.0 (kinded-given c a hc) (first hb.sound) (elam-checked s c t y d b hb (term-given (term_of d ∷ c) t) hc h.1))
    -- `Λ X : κ . t`
    term-given c (s_xlam s x a t) hc h None z ha = ensures-written a h.0 (λ fa. ensures-then (kind-given c a hc fa) (λ d hd.
        ensures-then (infers (type_of d ∷ c) t (term-given (type_of d ∷ c) t) (hd.0, hc) h.1) (λ r hr. unused (letter s) (erased r.0) (λ i. gives-two s (xlam d r.0) (allt d r.1) _ (
          two_lacking hd.0 hr.0 i,
          like.lowers _ _ hr.1,
          two hd.0 hr.2,
          λ o. let (k, l) = hr.3 (under o (hd.2 o)) in (by_rule (xlam_rule (hd.2 o) k), by_rule (allt_rule (hd.2 o) l)),
        ))))) refused
    term-given c (s_xlam s x a t) hc h (Some y) z ha = binders s (letter s) _ allt_of c y ha (λ d b hb.
        annotated-kind s c a d h.0 (kind-given c a hc) (first hb.sound) (xlam-checked s c t y d b hb (term-given (type_of d ∷ c) t) hc h.1))
    -- `Λ x . t` whose variable is not used
    term-given c (s_unclassed s x a t) hc h None z ha = refused
    term-given c (s_unclassed s x a t) hc h (Some y) z ha = headed (λ y' i. let hy : Headed c y y' = heads-of c y y' ha i in
        ensures-binder all_of y' (λ d b j. elam-checked s c t y d b (subst (Headed c y) j hy) (term-given (term_of d ∷ c) t) hc h.0)
        (ensures-binder allt_of y' (λ d b j. xlam-checked s c t y d b (subst (Headed c y) j hy) (term-given (type_of d ∷ c) t) hc h.1) refused))
    -- spines
    term-given c (s_app s t u) hc h a z ha = heads c t a z (term-given c t) hc h.0 (λ x hx. kept-given e g f R like c hc (H c) (λ o. o.0) z (span_of u) x hx
        (infers c u (term-given c u) hc h.1) (λ b hb. checks c u b (term-given c u) hc h.1 hb))
    term-given c (s_eapp s t u) hc h a z ha = heads c t a z (term-given c t) hc h.0 (λ x hx. erased-given e g f R like c hc (H c) (λ o. o.0) z (span_of u) x hx
        (infers c u (term-given c u) hc h.1) (λ b hb. checks c u b (term-given c u) hc h.1 hb))
    term-given c (s_tapp s t u) hc h a z ha = heads c t a z (term-given c t) hc h.0 (λ x hx.
        type-given e g f R like c hc (H c) (λ o. o.0) z (span_of u) x hx (kinded-given c u hc h.1))
    -- `[t, u]`, `t.1`, `t.2`
    term-given c (s_pair s t u) hc h None z ha = refused
    term-given c (s_pair s t u) hc h (Some y) z ha = binders s _ _ iota_of c y ha (λ a b hb.
        ensures-then (checks c t a (term-given c t) hc h.0 (first hb.sound)) (λ p hp. ensures-deep s (put_written 0 p b)
        (ensures-then (checks c u (put_written 0 p b) (term-given c u) hc h.1 (sound-put Xs (V c) OfTerm p b types tt hp.0 (second hb.sound))) (λ q hq.
        compared (pures c (erased p) (erased q) (of-term c p hp.0) (of-term c q hq.0)) (λ j. gives-one s (pair p q b) _ (
          two (two hq.0 hp.0) (second hb.sound),
          hp.1,
          from-head c y (iota a b) (pair p q b) hb (λ o k. let (ka, kb) = in_iota k in let l = hp.2 o ka in
              by_rule (pair_rule l kb (subst (Derives c a_term q) (erased-put 0 p b) (hq.2 o (put-star c a p b l kb))) j)),
        ))))))
    term-given c (s_fst s t) hc h o' z ha = projected s _ c t (term-given c t) hc h (λ x a b hx. ensures-deep s (fst x) (gives-start c hc (E t) o' s (fst x) a
        (hx.0, hx.1, first hx.2, λ o. let (k, l) = hx.3 o in (by_rule (fst_rule k), (in_iota l).0))))
    term-given c (s_snd s t) hc h o' z ha = projected s _ c t (term-given c t) hc h (λ x a b hx. ensures-deep s (snd x) (gives-start c hc (E t) o' s (snd x) (put_written 0 (fst x) b) (
      hx.0,
      hx.1,
      sound-put Xs (V c) OfTerm (fst x) b types tt hx.0 (second hx.2),
      λ o. let (k, l) = hx.3 o in (subst (Derives c a_term (snd x)) (sym (erased-put 0 (fst x) b)) (by_rule (snd_rule k)), put-star c a (fst x) b (by_rule (fst_rule k)) (in_iota l).1),
    )))
    -- `β<x>{p}`
    term-given c (s_beta s x p) hc h a z ha = ensures-written x h.0
        (λ fx. ensures-then (erases (V c) terms x fx) (λ x' hx. ensures-then (erases-kept c p h.1) (λ k hk. gives-two s (beta x' k) (eq x' x') _
        (beta-sound c x' k hx.0 hk.0, rw (← hk.1) (like.itself k), eq-sound c x' x' hx.0 hx.0, λ o. (by_rule beta_rule, by_rule eq_rule)))))
        (asked c (E p) a ha refused (λ b hb. equations s (letter s) c b hb (λ x' y' i. ensures-then (erases-kept c p h.1) (λ k hk. compared (pures c x' y' i.sound.0.0 i.sound.0.1) (λ j.
        gives-one s (beta x' k) _ (
          beta-sound c x' k i.sound.0.0 hk.0,
          rw (← hk.1) (like.itself k),
          λ o l. converted (by_rule beta_rule) (linked-join (joined_binary end j) (linked-turn i.same)),
        ))))))
    -- `ρ q @ x . d - t`
    term-given c (s_rho s r x q d t) hc h a z ha = proofs s c q (term-given c q) hc h.0 (λ q' x' y' hq. ensures-if (is_equation d)
        (λ i. ensures-then (erases (OfTerm ∷ V c) types d h.1) (λ d' hd. let (m, n, j) = equation-erased f d i in
        rw (hd.1 ∙ j) (rho-written s c q t q' x' y' m n a hq (term-given c t) hc h.2 ha (rw (hd.1 ∙ j) at hd.0))))
        (λ _. asked c (E t) a ha refused (λ b hb. ensures-then (erases (OfTerm ∷ V c) types d h.1) (λ d' hd. ensures-deep s (put 0 x' d')
        (compared (two-guides c (erased b) (put 0 x' d') (of-type c b hb) (put-guide c x' d' hq.2.0.0 hd.0)) (λ i.
        ensures-then (infers c t (term-given c t) hc h.2) (λ v hv. ensures-deep s (put 0 y' d')
        (compared (two-guides c (erased v.1) (put 0 y' d') (of-type c v.1 hv.2) (put-guide c y' d' hq.2.0.1 hd.0)) (λ j. gives-one s (rho q' d' b v.0) _
        (rho-sound c q' d' b v.0 hq.0 hd.0 hb hv.0, hv.1, λ o k. by_rule (rho_rule (hq.3 o).0 k i (converted (hv.3 o).0 j))))))))))))
    -- `φ q - t { p }`
    term-given c (s_phi s r q t p) hc h None z ha = proofs s c q (term-given c q) hc h.0 (λ q' x y hq. ensures-then (infers c t (term-given c t) hc h.1) (λ v hv.
        phis s c q p q' x y v.0 hq hv.0 h.2 (λ k hk. gives-two s (phi q' v.0 k) v.1 _ (hk.0, hk.1, hv.2, λ o. (hk.2 (erased v.1) o (hv.3 o).0, (hv.3 o).1)))))
    term-given c (s_phi s r q t p) hc h (Some a) z ha = proofs s c q (term-given c q) hc h.0 (λ q' x y hq. ensures-then (checks c t a (term-given c t) hc h.1 ha) (λ v hv.
        phis s c q p q' x y v hq hv.0 h.2 (λ k hk. gives-one s (phi q' v k) _ (hk.0, hk.1, λ o l. hk.2 (erased a) o (hv.2 o l)))))
    -- `δ A - q`
    term-given c (s_delta s a q) hc h o' z ho = ensures-written a h.0
        (λ fa. stars s c a (kinded-given c a hc fa) (λ a' ha. deltas s c q (term-given c q) hc h.1 (λ q' hq k.
        gives-two s (delta a' q') a' _ (two ha.0 hq, like.itself identity, ha.0, λ o. (k a' o (ha.2 o), ha.2 o)))))
        (asked c identity o' ho refused (λ b hb. deltas s c q (term-given c q) hc h.1 (λ q' hq k. gives-one s (delta b q') _ (two hb hq, like.itself identity, k b))))
    -- `χ A - t`
    term-given c (s_chi s a t) hc h b z hb = stars s c a (kinded-given c a hc h.0) (λ a' ha. ensures-then (checks c t a' (term-given c t) hc h.1 ha.0) (λ x hx.
        gives-two s x a' _ (hx.0, hx.1, ha.0, λ o. (hx.2 o (ha.2 o), ha.2 o))))
    -- `ς q`
    term-given c (s_flip s q) hc h b z hb = proofs s c q (term-given c q) hc h (λ q' x y hq.
        gives-two s (rho q' (eq (shift 0 1 y) (var 0)) (eq y x) (beta y (erased q'))) (eq y x) _ (flip-given c q q' x y hq))
    term-given c t hc h a z ha = absurd h

    pub kinded-given : (c : List Entry) (t : Scoped) → ContextSound Xs c → SourceFits (V c) Xs types t → Ensures e (K c t) (type e f c t)
    kinded-given c (s_name s n) hc h = type-named s c n hc h
    kinded-given c (s_pi s x a b) hc h = products s c a b pi_of (λ x y. refl) (λ x y. two) (λ x y k l. by_rule (pi_rule k l))
        (kinded-given c a hc h.0) (λ x hx. kinded-given (term_of x ∷ c) b (hx, hc) h.1)
    kinded-given c (s_all s x a b) hc h = products s c a b all_of (λ x y. refl) (λ x y. two) (λ x y k l. by_rule (all_rule k l))
        (kinded-given c a hc h.0) (λ x hx. kinded-given (term_of x ∷ c) b (hx, hc) h.1)
    kinded-given c (s_iota s x a b) hc h = products s c a b iota_of (λ x y. refl) (λ x y. two) (λ x y k l. by_rule (iota_rule k l))
        (kinded-given c a hc h.0) (λ x hx. kinded-given (term_of x ∷ c) b (hx, hc) h.1)
    kinded-given c (s_allt s x a b) hc h = ensures-then (kind-given c a hc h.0) (λ a' ha. stars s (type_of a' ∷ c) b (kinded-given (type_of a' ∷ c) b (ha.0, hc) h.1) (λ b' hb.
        gives-two s (allt a' b') star _ (two ha.0 hb.0, like.binders allt_of _ _ _ _ ha.1 hb.1, (tt, tt), λ o. (by_rule (allt_rule (ha.2 o) (hb.2 (under o (ha.2 o)))), by_rule star_rule))))
    -- `λ x : A . B`, `λ X : κ . B`
    kinded-given c (s_tlam s x a b) hc h = stars s c a (kinded-given c a hc h.0) (λ a' ha. ensures-then (kinded-given (term_of a' ∷ c) b (ha.0, hc) h.1) (λ y hy.
        gives-two s (tlam a' y.0) (kpi a' y.1) _ (
          two ha.0 hy.0,
          like.functions of_term _ _ hy.1,
          two ha.0 hy.2,
          λ o. let (k, l) = hy.3 (under o (ha.2 o)) in (by_rule (tlam_rule (ha.2 o) k), by_rule (kpi_rule (ha.2 o) l)),
        )))
    kinded-given c (s_xtlam s x a b) hc h = ensures-then (kind-given c a hc h.0) (λ a' ha. ensures-then (kinded-given (type_of a' ∷ c) b (ha.0, hc) h.1) (λ y hy.
        gives-two s (xtlam a' y.0) (kpit a' y.1) _ (
          two ha.0 hy.0,
          like.functions of_type _ _ hy.1,
          two ha.0 hy.2,
          λ o. let (k, l) = hy.3 (under o (ha.2 o)) in (by_rule (xtlam_rule (ha.2 o) k), by_rule (kpit_rule (ha.2 o) l)),
        )))
    -- `A t`, `A ·B`
    kinded-given c (s_at s a t) hc h = ensures-then (kinded-given c a hc h.0) (λ y hy. ensures-binder kpi_of y.1 (λ b k i. let hk : S c kinds (kpi b k) = subst (S c kinds) i hy.2 in
        ensures-then (checks c t b (term-given c t) hc h.1 (first hk)) (λ t' ht. gives-two s (at_ y.0 t') (put_written 0 t' k) _ (
          two hy.0 ht.0,
          like.applications of_term _ _ _ _ hy.1 ht.1,
          sound-put Xs (V c) OfTerm t' k kinds tt ht.0 (second hk),
          λ o. let (l, m) = subst (λ z. Derives c a_type y.0 (erased z) × Derives c a_kind z star) i (hy.3 o) in let (m0, m1) = in_kpi m in let n = ht.2 o m0 in
              (subst (Derives c a_type (at_ y.0 t')) (sym (erased-put 0 t' k)) (by_rule (at_rule l n)), has-put (signature e.items) closed (term_of (erased b)) t' k star n m1),
        ))) refused)
    kinded-given c (s_on s a b) hc h = ensures-then (kinded-given c a hc h.0) (λ y hy. ensures-binder kpit_of y.1 (λ k p i. let hk : S c kinds (kpit k p) = subst (S c kinds) i hy.2 in
        ensures-then (kinded-given c b hc h.1) (λ t' ht. compared (same-kinds Xs (V c) t'.1 k ht.2 (first hk)) (λ j. gives-two s (on y.0 t'.0) (put_written 0 t'.0 p) _ (
          two hy.0 ht.0,
          like.applications of_type _ _ _ _ hy.1 ht.1,
          sound-put Xs (V c) OfType t'.0 p kinds tt ht.0 (second hk),
          λ o. let (l, m) = subst (λ z. Derives c a_type y.0 (erased z) × Derives c a_kind z star) i (hy.3 o) in let (m0, m1) = in_kpit m in let n = converted (ht.3 o).0 j in
              (subst (Derives c a_type (on y.0 t'.0)) (sym (erased-put 0 t'.0 p)) (by_rule (on_rule l n)), has-put (signature e.items) closed (type_of (erased k)) t'.0 p star n m1),
        )))) refused)
    -- `{ t ≃ u }`
    kinded-given c (s_eq s t u) hc h = ensures-then (erases (V c) terms t h.0) (λ p hp. ensures-then (erases (V c) terms u h.1) (λ q hq.
        gives-two s (eq p q) star _ (eq-sound c p q hp.0 hq.0, rw (← hp.1, ← hq.1) (like.itself (eq p q)), (tt, tt), λ o. (by_rule eq_rule, by_rule star_rule))))
    kinded-given c t hc h = absurd h

    pub kind-given : (c : List Entry) (t : Scoped) → ContextSound Xs c → SourceFits (V c) Xs kinds t → Ensures e (N c t) (kind e f c t)
    kind-given c (s_star s) hc h = given ((tt, tt), like.itself star, λ o. by_rule star_rule)
    kind-given c (s_kpi s x a k) hc h = stars s c a (kinded-given c a hc h.0) (λ a' ha. ensures-then (kind-given (term_of a' ∷ c) k (ha.0, hc) h.1) (λ l hl.
        gives-one s (kpi a' l) _ (two ha.0 hl.0, like.binders kpi_of _ _ _ _ ha.1 hl.1, λ o. by_rule (kpi_rule (ha.2 o) (hl.2 (under o (ha.2 o)))))))
    kind-given c (s_kpit s x a k) hc h = ensures-then (kind-given c a hc h.0) (λ a' ha. ensures-then (kind-given (type_of a' ∷ c) k (ha.0, hc) h.1) (λ l hl.
        gives-one s (kpit a' l) _ (two ha.0 hl.0, like.binders kpit_of _ _ _ _ ha.1 hl.1, λ o. by_rule (kpit_rule (ha.2 o) (hl.2 (under o (ha.2 o)))))))
    kind-given c t hc h = absurd h

  pub inferred-given : (c : List Entry) (t : Scoped) → ContextSound Xs c → SourceFits (V c) Xs terms t → Ensures e (T c t) (infer e f c t (term e f c t))
  inferred-given c t = infers c t (term-given c t)

  pub checked-given : (c : List Entry) (t : Scoped) (a : Tree) → ContextSound Xs c → SourceFits (V c) Xs terms t → S c types a → Ensures e (U c t a) (check e f c t (term e f c t) a)
  checked-given c t a = checks c t a (term-given c t)
