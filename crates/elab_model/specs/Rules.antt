-- The surface rules, read upwards: a term with its type, or against a type that it is to have; a type with its kind; a kind; and what needs scope only.
-- Types are annotated: they hold elaborated terms. Each comparison is of erasures.
use Rattle.std.specs.Prelude.{Bool, true, false, cond, List, ◌∷◌, Option, Some, None, slice_get}
use Rattle.cdle_model.specs.Trees.{app_of, eapp_of, pi_of, all_of, allt_of, iota_of, kpi_of, kpit_of, Binder, Tree, var, name, shift, put, lacks}
use Rattle.cdle_model.specs.Forms.{star, kpi, kpit, pi, all, allt, tlam, xtlam, at_, on, iota, eq, guide_tlam, guide_xtlam, fn, ap, lam, elam, xlam, pair, fst, snd, beta, rho, phi, delta}
use Rattle.cdle_model.specs.Erasure.{erased, lowered}
use Rattle.cdle_model.specs.Substitution.{put_written}
use Rattle.cdle_model.specs.Derivation.{Entry, term_of, type_of, entry, true_pure, false_pure}
use Rattle.elab_model.specs.declared.codes.Code.{Code}
use Rattle.elab_model.specs.declared.codes.Code.TheVariants.{WantedFunction, WantedIntersection, WantedEquation, WantedKind, Mismatch, ErasedVariableUsed, PartsDiffer, NotTheTwoBooleans, SidesDiffer, AnnotationWanted}
use Rattle.source_model.specs.Source.{Span}
use Rattle.source_model.specs.Heights.{span_of, is_none}
use Rattle.scope_model.specs.Scoped.{Reference, variable, item, cast, Scoped}
use Rattle.elab_model.specs.ScopedForms.{letter, bracket, left_out, s_name, s_lam, s_elam, s_xlam, s_unclassed, s_app, s_eapp, s_tapp, s_pair, s_fst, s_snd, s_beta, s_rho, s_phi, s_delta, s_chi, s_flip, s_pi, s_all, s_allt, s_tlam, s_xtlam, s_iota, s_at, s_on, s_eq, s_star, s_kpi, s_kpit}
use Rattle.elab_model.specs.SourceErasure.{identity, Encodings, name_erased}
use Rattle.elab_model.specs.Questions.{Questions, gives, rejects, astray, ask_same, ask_head, then, unless_deep, limited, Env}
use Rattle.elab_model.specs.Spines.{Typed, Made, checked, inferred, spine, starting, binder_parts, equation_parts, argument, type_argument, known_of, without_goal, against, Spine}

-- ---- steps that several rules take

-- a variable or a name, with what is known of it
abbrev pub found_term : Span → Tree → Option Entry → Questions Made
found_term s t (Some (term_of a)) = unless_deep s a (gives (spine (starting s t a)))
found_term s t o = astray

abbrev pub found_type : Span → Tree → Option Entry → Questions Typed
found_type s t (Some (type_of k)) = unless_deep s k (gives (t, k))
found_type s t o = astray

abbrev pub gives_inferred : Span → Tree → Tree → Questions Made
gives_inferred s t a = unless_deep s t (unless_deep s a (gives (inferred t a)))

abbrev pub gives_checked : Span → Tree → Questions Made
gives_checked s t = unless_deep s t (gives (checked t))

abbrev pub gives_spine : Span → Tree → Tree → Questions Made
gives_spine s t a = unless_deep s t (unless_deep s a (gives (spine (starting s t a))))

abbrev pub gives_type : Span → Tree → Tree → Questions Typed
gives_type s a k = unless_deep s a (unless_deep s k (gives (a, k)))

-- a part that is a type with the kind `★`, and then the rest with it; s is the form
abbrev pub star_then : {A : Type 0} → Span → Scoped → Questions Typed → (Tree → Questions A) → Questions A
star_then s a q k = then q (λ x. ask_same s (span_of a) WantedKind (erased x.1) star (k x.0))

-- by the part, where one is written
abbrev pub if_written : {A : Type 0} → Scoped → A → A → A
if_written a x y = cond (is_none a) y x

-- what the annotation asks before the rest, where one is written
abbrev pub if_annotated : {A : Type 0} → Scoped → (A → A) → A → A
if_annotated a f x = if_written a (f x) x

-- an annotation agrees with the domain that is wanted, and then the rest
abbrev pub agrees_then : {A : Type 0} → Span → Scoped → Tree → Tree → Questions A → Questions A
agrees_then s a b d q = ask_same s (span_of a) Mismatch (erased b) (erased d) q

-- the head form of an annotated type is a form of this binder, else the refusal
abbrev pub binder_then : {A : Type 0} → Span → Span → Code → Binder → Tree → (Tree → Tree → Questions A) → Questions A
binder_then s p w f a k = ask_head s p false a (λ h. binder_parts f h k (rejects p w))

abbrev pub equation_then : {A : Type 0} → Span → Span → Tree → (Tree → Tree → Questions A) → Questions A
equation_then s p a k = ask_head s p false a (λ h. equation_parts h k (rejects p WantedEquation))

-- the rest, where the variable is not in the erasure of the body
abbrev pub unless_used : {A : Type 0} → Span → Tree → Questions A → Questions A
unless_used p e q = cond (lacks 0 e) q (rejects p ErasedVariableUsed)

-- with the type asked for, or without
abbrev pub by_goal : {A : Type 0} → Option Tree → A → (Tree → A) → A
by_goal None x f = x
by_goal (Some a) x f = f a

-- a product over terms, or one over types
abbrev pub either_product : {A : Type 0} → Tree → (Tree → Tree → Questions A) → (Tree → Tree → Questions A) → Questions A → Questions A
either_product h k l r = binder_parts all_of h k (binder_parts allt_of h l r)

-- the guide is written as an equation
abbrev pub is_equation : Scoped → Bool
is_equation (s_eq s t u) = true
is_equation t = false

module _ (e : Env) (f : Encodings) where
  -- what a name of a term is, and of a type
  abbrev pub term_name : Span → List Entry → Reference → Questions Made
  term_name s c (variable i) = found_term s (var i) (entry c i)
  term_name s c (item n) = found_term s (name n) (known_of (slice_get e.items n))
  term_name s c (cast i) = astray

  abbrev pub type_name : Span → List Entry → Reference → Questions Typed
  type_name s c (variable i) = found_type s (var i) (entry c i)
  type_name s c (item n) = found_type s (name n) (known_of (slice_get e.items n))
  type_name s c (cast i) = astray

  -- what a term is asked: the goal, and the place of the spine that it is or is the head of
  abbrev pub Asked : Type 0
  Asked = Option Tree → Span → Questions Made

  -- a part is inferred, or checked against a type
  abbrev pub infer : List Entry → Scoped → Asked → Questions Typed
  infer c t q = then (q None (span_of t)) (without_goal e (span_of t) c)

  abbrev pub check : List Entry → Scoped → Asked → Tree → Questions Tree
  check c t q a = then (q (Some a) (span_of t)) (against e (span_of t) c a)

  -- what is made of a spine's head
  abbrev pub started : Span → Made → Questions Spine
  started s (spine x) = gives x
  started s (inferred t a) = gives (starting s t a)
  started s (checked t) = astray

  -- the head of an application, and then the argument
  abbrev pub head_then : Scoped → Asked → Span → (Spine → Questions Spine) → Questions Made
  head_then t q w k = then (then (q None w) (started (span_of t))) (λ s. then (k s) (λ x. gives (spine x)))

  -- the proof of an equation is inferred
  abbrev pub proof_then : {A : Type 0} → Span → List Entry → Scoped → Asked → (Tree → Tree → Tree → Questions A) → Questions A
  proof_then s c t q k = then (infer c t q) (λ x. equation_then s (span_of t) x.1 (k x.0))

  -- a pure position needs scope only; what is dropped is not looked at, and a part that is left out is `λx.x`
  abbrev pub erase : Scoped → Questions Tree
  erase (s_name s n) = limited s (name_erased f n)
  erase (s_lam s x a t) = then (erase t) (λ p. limited s (fn p))
  erase (s_elam s x a t) = then (erase t) (λ p. unless_used (letter s) p (limited s (lowered p)))
  erase (s_xlam s x k t) = then (erase t) (λ p. unless_used (letter s) p (limited s (lowered p)))
  erase (s_unclassed s x a t) = then (erase t) (λ p. unless_used (letter s) p (limited s (lowered p)))
  erase (s_app s t u) = then (erase t) (λ p. then (erase u) (λ q. limited s (ap p q)))
  erase (s_eapp s t u) = erase t
  erase (s_tapp s t a) = erase t
  erase (s_pair s t u) = erase t
  erase (s_fst s t) = erase t
  erase (s_snd s t) = erase t
  erase (left_out s) = gives identity
  erase (s_beta s x p) = erase p
  erase (s_rho s r x q g t) = erase t
  erase (s_phi s r q t p) = erase p
  erase (s_delta s a q) = gives identity
  erase (s_chi s a t) = erase t
  erase (s_flip s q) = erase q
  erase (s_pi s x a b) = then (erase a) (λ p. then (erase b) (λ q. limited s (pi p q)))
  erase (s_all s x a b) = then (erase a) (λ p. then (erase b) (λ q. limited s (all p q)))
  erase (s_allt s x k b) = then (erase k) (λ p. then (erase b) (λ q. limited s (allt p q)))
  erase (s_iota s x a b) = then (erase a) (λ p. then (erase b) (λ q. limited s (iota p q)))
  erase (s_tlam s x a b) = then (erase b) (λ p. limited s (guide_tlam p))
  erase (s_xtlam s x k b) = then (erase b) (λ p. limited s (guide_xtlam p))
  erase (s_at s a t) = then (erase a) (λ p. then (erase t) (λ q. limited s (at_ p q)))
  erase (s_on s a b) = then (erase a) (λ p. then (erase b) (λ q. limited s (on p q)))
  erase (s_eq s t u) = then (erase t) (λ p. then (erase u) (λ q. limited s (eq p q)))
  erase (s_star s) = gives star
  erase (s_kpi s x a k) = then (erase a) (λ p. then (erase k) (λ q. limited s (kpi p q)))
  erase (s_kpit s x k l) = then (erase k) (λ p. then (erase l) (λ q. limited s (kpit p q)))
  erase t = astray

  abbrev mutual
    -- terms: first where no type is asked for, then where one is; the place is that of the spine that the term is or is the head of
    pub term : List Entry → Scoped → Option Tree → Span → Questions Made
    -- a variable, a name: its type
    term c (s_name s n) g w = term_name s c n
    -- `λ x : A . t`
    term c (s_lam s x a t) g w = by_goal g
        (if_written a
        (star_then s a (type c a) (λ d.
        then (infer (term_of d ∷ c) t (term (term_of d ∷ c) t)) (λ r.
        gives_inferred s (lam d r.0) (pi d r.1))))
        (rejects (letter s) AnnotationWanted))
        (λ b. binder_then s (letter s) WantedFunction pi_of b (λ d b.
        if_annotated a (λ q. star_then s a (type c a) (λ d'. agrees_then s a d' d q))
        (then (check (term_of d ∷ c) t (term (term_of d ∷ c) t) b) (λ t.
        gives_checked s (lam d t)))))
    -- `Λ x : A . t`
    term c (s_elam s x a t) g w = by_goal g
        (if_written a
        (star_then s a (type c a) (λ d.
        then (infer (term_of d ∷ c) t (term (term_of d ∷ c) t)) (λ r.
        unless_used (letter s) (erased r.0)
        (gives_inferred s (elam d r.0) (all d r.1)))))
        (rejects (letter s) AnnotationWanted))
        (λ b. binder_then s (letter s) WantedFunction all_of b (λ d b.
        if_annotated a (λ q. star_then s a (type c a) (λ d'. agrees_then s a d' d q))
        (then (check (term_of d ∷ c) t (term (term_of d ∷ c) t) b) (λ t.
        unless_used (letter s) (erased t)
        (gives_checked s (elam d t))))))
    -- `Λ X : κ . t`
    term c (s_xlam s x k t) g w = by_goal g
        (if_written k
        (then (kind c k) (λ d.
        then (infer (type_of d ∷ c) t (term (type_of d ∷ c) t)) (λ r.
        unless_used (letter s) (erased r.0)
        (gives_inferred s (xlam d r.0) (allt d r.1)))))
        (rejects (letter s) AnnotationWanted))
        (λ b. binder_then s (letter s) WantedFunction allt_of b (λ d b.
        if_annotated k (λ q. then (kind c k) (λ d'. agrees_then s k d' d q))
        (then (check (type_of d ∷ c) t (term (type_of d ∷ c) t) b) (λ t.
        unless_used (letter s) (erased t)
        (gives_checked s (xlam d t))))))
    -- `Λ x . t` whose variable is not used: of the class that the head form asks for
    term c (s_unclassed s x a t) g w = by_goal g
        (rejects (letter s) AnnotationWanted)
        (λ b. ask_head s (letter s) false b (λ h. either_product h
        (λ d b.
        then (check (term_of d ∷ c) t (term (term_of d ∷ c) t) b) (λ t.
        unless_used (letter s) (erased t)
        (gives_checked s (elam d t))))
        (λ d b.
        then (check (type_of d ∷ c) t (term (type_of d ∷ c) t) b) (λ t.
        unless_used (letter s) (erased t)
        (gives_checked s (xlam d t))))
        (rejects (letter s) WantedFunction)))
    -- spines: the head, and then an argument
    term c (s_app s t u) g w = head_then t (term c t) w (argument w pi_of app_of (span_of u) (infer c u (term c u)) (check c u (term c u)))
    term c (s_eapp s t u) g w = head_then t (term c t) w (argument w all_of eapp_of (span_of u) (infer c u (term c u)) (check c u (term c u)))
    term c (s_tapp s t a) g w = head_then t (term c t) w (type_argument w (span_of a) (type c a))
    -- `[t, u]`
    term c (s_pair s t u) g w = by_goal g
        (rejects (bracket s) AnnotationWanted)
        (λ a. binder_then s (bracket s) WantedIntersection iota_of a (λ a b.
        then (check c t (term c t) a) (λ t.
        unless_deep s (put_written 0 t b)
        (then (check c u (term c u) (put_written 0 t b)) (λ u.
        ask_same s (bracket s) PartsDiffer (erased t) (erased u)
        (gives_checked s (pair t u b)))))))
    -- `t.1`, `t.2`
    term c (s_fst s t) g w =
        then (infer c t (term c t)) (λ x.
        binder_then s (span_of t) WantedIntersection iota_of x.1 (λ a b.
        gives_spine s (fst x.0) a))
    term c (s_snd s t) g w =
        then (infer c t (term c t)) (λ x.
        binder_then s (span_of t) WantedIntersection iota_of x.1 (λ a b.
        gives_spine s (snd x.0) (put_written 0 (fst x.0) b)))
    -- `β<x>{p}`; without `<x>` the side is the left one of the equation asked for
    term c (s_beta s x p) g w = if_written x
        (then (erase x) (λ x.
        then (erase p) (λ k.
        gives_inferred s (beta x k) (eq x x))))
        (by_goal g
        (rejects (letter s) AnnotationWanted)
        (λ a. equation_then s (letter s) a (λ x y.
        then (erase p) (λ k.
        ask_same s (letter s) SidesDiffer x y
        (gives_checked s (beta x k))))))
    -- `ρ q @ x . d - t`: where the guide is written as an equation, t is checked against it; else there is a type asked for, and t is inferred
    term c (s_rho s r x q d t) g w = proof_then s c q (term c q) (λ q x y. cond (is_equation d)
        (then (erase d) (λ d.
        unless_deep s (put 0 x d)
        (ask_same s (letter s) SidesDiffer (erased (by_goal g (put 0 x d) (λ a. a))) (put 0 x d)
        (unless_deep s (put 0 y d)
        (then (check c t (term c t) (put 0 y d)) (λ t.
        by_goal g
        (gives_inferred s (rho q d (put 0 x d) t) (put 0 x d))
        (λ a. gives_checked s (rho q d a t))))))))
        (by_goal g
        (rejects (letter s) AnnotationWanted)
        (λ a.
        then (erase d) (λ d.
        unless_deep s (put 0 x d)
        (ask_same s (letter s) SidesDiffer (erased a) (put 0 x d)
        (then (infer c t (term c t)) (λ z.
        unless_deep s (put 0 y d)
        (ask_same s (span_of t) Mismatch (erased z.1) (put 0 y d)
        (gives_checked s (rho q d a z.0))))))))))
    -- `φ q - t { p }`
    term c (s_phi s r q t p) g w = proof_then s c q (term c q) (λ q x y. by_goal g
        (then (infer c t (term c t)) (λ z.
        then (erase p) (λ k.
        ask_same s (letter s) SidesDiffer x (erased z.0)
        (ask_same s (letter s) SidesDiffer y k
        (gives_inferred s (phi q z.0 k) z.1)))))
        (λ a.
        then (check c t (term c t) a) (λ t.
        then (erase p) (λ k.
        ask_same s (letter s) SidesDiffer x (erased t)
        (ask_same s (letter s) SidesDiffer y k
        (gives_checked s (phi q t k)))))))
    -- `δ A - q`
    term c (s_delta s a q) g w = if_written a
        (star_then s a (type c a) (λ a.
        proof_then s c q (term c q) (λ q x y.
        ask_same s (letter s) NotTheTwoBooleans x true_pure
        (ask_same s (letter s) NotTheTwoBooleans y false_pure
        (gives_inferred s (delta a q) a)))))
        (by_goal g
        (rejects (letter s) AnnotationWanted)
        (λ a. proof_then s c q (term c q) (λ q x y.
        ask_same s (letter s) NotTheTwoBooleans x true_pure
        (ask_same s (letter s) NotTheTwoBooleans y false_pure
        (gives_checked s (delta a q))))))
    -- `χ A - t`
    term c (s_chi s a t) g w =
        star_then s a (type c a) (λ a.
        then (check c t (term c t) a) (λ t.
        gives_inferred s t a))
    -- `ς q`, for `{x ≃ y}` as `ρ q @ z . {y ≃ z} - β<y>{|q|}`
    term c (s_flip s q) g w = proof_then s c q (term c q) (λ q x y.
        gives_inferred s (rho q (eq (shift 0 1 y) (var 0)) (eq y x) (beta y (erased q))) (eq y x))
    term c t g w = astray

    -- types, with their kinds
    pub type : List Entry → Scoped → Questions Typed
    type c (s_name s n) = type_name s c n
    -- `Π x : A . B`, `∀ x : A . B`, `ι x : A . B`, `∀ X : κ . B`: both have `★`
    type c (s_pi s x a b) =
        star_then s a (type c a) (λ a.
        star_then s b (type (term_of a ∷ c) b) (λ b.
        gives_type s (pi a b) star))
    type c (s_all s x a b) =
        star_then s a (type c a) (λ a.
        star_then s b (type (term_of a ∷ c) b) (λ b.
        gives_type s (all a b) star))
    type c (s_iota s x a b) =
        star_then s a (type c a) (λ a.
        star_then s b (type (term_of a ∷ c) b) (λ b.
        gives_type s (iota a b) star))
    type c (s_allt s x k b) =
        then (kind c k) (λ k.
        star_then s b (type (type_of k ∷ c) b) (λ b.
        gives_type s (allt k b) star))
    -- `λ x : A . B`, `λ X : κ . B`
    type c (s_tlam s x a b) =
        star_then s a (type c a) (λ a.
        then (type (term_of a ∷ c) b) (λ y.
        gives_type s (tlam a y.0) (kpi a y.1)))
    type c (s_xtlam s x k b) =
        then (kind c k) (λ k.
        then (type (type_of k ∷ c) b) (λ y.
        gives_type s (xtlam k y.0) (kpit k y.1)))
    -- `A t`, `A ·B`
    type c (s_at s a t) =
        then (type c a) (λ y. binder_parts kpi_of y.1
        (λ b k.
        then (check c t (term c t) b) (λ t.
        gives_type s (at_ y.0 t) (put_written 0 t k)))
        (rejects (span_of a) WantedKind))
    type c (s_on s a b) =
        then (type c a) (λ y. binder_parts kpit_of y.1
        (λ k l.
        then (type c b) (λ z.
        ask_same s (span_of b) WantedKind (erased z.1) (erased k)
        (gives_type s (on y.0 z.0) (put_written 0 z.0 l))))
        (rejects (span_of a) WantedKind))
    -- `{ t ≃ u }`
    type c (s_eq s t u) =
        then (erase t) (λ p.
        then (erase u) (λ q.
        gives_type s (eq p q) star))
    type c t = astray

    -- kinds
    pub kind : List Entry → Scoped → Questions Tree
    kind c (s_star s) = gives star
    kind c (s_kpi s x a k) =
        star_then s a (type c a) (λ a.
        then (kind (term_of a ∷ c) k) (λ k.
        limited s (kpi a k)))
    kind c (s_kpit s x k l) =
        then (kind c k) (λ k.
        then (kind (type_of k ∷ c) l) (λ l.
        limited s (kpit k l)))
    kind c t = astray
