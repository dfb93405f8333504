-- What needs scope only gives the source's erasure, which is of its class.
use Rattle.std.proofs.Common.{◌≡◌, ◌⊎◌, inl, inr, ℕ, List, ◌∷◌, Option, Some, None, slice_get, refl, sym, ap, ap₂, ◌∙◌, arith}
use Rattle.cdle_model.specs.declared.grammar.Sort.{Sort}
use Rattle.cdle_model.specs.declared.grammar.Sort.TheVariants.{OfTerm, OfType}
use Rattle.cdle_model.specs.Trees.{of_pure, of_term, of_type, pi_of, all_of, allt_of, iota_of, kpi_of, kpit_of, eq_of, Tree, fun, apply, binary, bind, lacks}
use Rattle.cdle_model.specs.Classes.{TreeClass, terms, types, kinds, pure_terms, guides, within, Fits}
use Rattle.cdle_model.specs.Erasure.{lowered}
use Rattle.cdle_model.specs.Fitting.{erased_class}
use Rattle.cdle_model.proofs.ClassSubstitution.{fits-lowered}
use Rattle.source_model.specs.Source.{Span, none_of, leaf}
use Rattle.scope_model.specs.Scoped.{Reference, variable, item, cast, Scoped}
use Rattle.elab_model.specs.ScopedForms.{letter, s_name, s_lam, s_elam, s_xlam, s_unclassed, s_app, s_eapp, s_tapp, s_pair, s_fst, s_snd, s_beta, s_rho, s_phi, s_delta, s_chi, s_flip, s_pi, s_all, s_allt, s_tlam, s_xtlam, s_iota, s_at, s_on, s_eq, s_star, s_kpi, s_kpit}
use Rattle.elab_model.specs.SourceErasure.{Encodings, encoded, name_erased, source_erased}
use Rattle.elab_model.specs.SourceClasses.{IsLeftOut, IsUse, SourceFits}
use Rattle.elab_model.specs.Questions.{Questions, then, limited, Env}
use Rattle.elab_model.specs.Rules.{unless_used, erase}
use Rattle.elab_model.specs.Soundness.{EncodingsFit}
use Rattle.elab_model.proofs.Ensures.{Ensures, given, refused, ensures-then, ensures-if, ensures-deep}

module _ (e : Env) (f : Encodings) (xs : List Sort) (w : EncodingsFit xs f) where
  abbrev pub ErasureOf : List Sort → TreeClass → Scoped → Tree → Type 0
  ErasureOf vs c t p = Fits (within vs xs) (erased_class c) p × (p ≡ source_erased f t)

  item-erased : (vs : List Sort) (n : ℕ) (x : Option Tree) → f n ≡ x → slice_get xs n ≡ Some OfTerm → Fits (within vs xs) pure_terms (encoded n x)
  item-erased vs n (Some p) i h = (w n p i).1 vs
  item-erased vs n None i h = h

  type-item-erased : (vs : List Sort) (n : ℕ) (x : Option Tree) → f n ≡ x → slice_get xs n ≡ Some OfType → Fits (within vs xs) guides (encoded n x)
  type-item-erased vs n (Some p) i h = let k : Some OfTerm ≡ Some OfType = sym (w n p i).0 ∙ h in absurd cc
  type-item-erased vs n None i h = h

  term-name-erased : (vs : List Sort) (r : Reference) → IsUse vs xs OfTerm r → Fits (within vs xs) pure_terms (name_erased f r)
  term-name-erased vs (variable i) h = h
  term-name-erased vs (item n) h = item-erased vs n (f n) refl h
  term-name-erased vs (cast i) h = absurd h

  type-name-erased : (vs : List Sort) (r : Reference) → IsUse vs xs OfType r → Fits (within vs xs) guides (name_erased f r)
  type-name-erased vs (variable i) h = h
  type-name-erased vs (item n) h = type-item-erased vs n (f n) refl h
  type-name-erased vs (cast i) h = absurd h

  -- a form of one part, of two parts, and one under a binder that is not used
  one-part : {F G : Tree → Type 0} {a : Tree} {q : Questions Tree} (s : Span) (m : Tree → Tree) → ((p : Tree) → F p → G (m p))
      → Ensures e (λ p. F p × (p ≡ a)) q → Ensures e (λ p. G p × (p ≡ m a)) (then q (λ p. limited s (m p)))
  one-part s m u h = ensures-then h (λ p x. ensures-deep s (m p) (given (u p x.0, ap m x.1)))

  two-parts : {F G K : Tree → Type 0} {a b : Tree} {q r : Questions Tree} (s : Span) (m : Tree → Tree → Tree) → ((p p' : Tree) → F p → G p' → K (m p p'))
      → Ensures e (λ p. F p × (p ≡ a)) q → Ensures e (λ p. G p × (p ≡ b)) r → Ensures e (λ p. K p × (p ≡ m a b)) (then q (λ p. then r (λ p'. limited s (m p p'))))
  two-parts s m u h k = ensures-then h (λ p x. ensures-then k (λ p' y. ensures-deep s (m p p') (given (u p p' x.0 y.0, ap₂ m x.1 y.1))))

  lowered-part : {a : Tree} {q : Questions Tree} (vs : List Sort) (y : Sort) (s : Span) → Ensures e (λ p. Fits (within (y ∷ vs) xs) pure_terms p × (p ≡ a)) q
      → Ensures e (λ p. Fits (within vs xs) pure_terms p × (p ≡ lowered a)) (then q (λ p. unless_used (letter s) p (limited s (lowered p))))
  lowered-part vs y s h =
      ensures-then h (λ p x. ensures-if (lacks 0 p) (λ j. ensures-deep s (lowered p) (given (fits-lowered xs vs y pure_terms p j x.0, ap lowered x.1))) (λ _. refused))

  -- where nothing is written, it is `λx.x`
  pub erase-none : (vs : List Sort) (t : Scoped) → IsLeftOut t → Ensures e (ErasureOf vs terms t) (erase e f t)
  erase-none vs (leaf s none_of) i = given (refl, refl)
  erase-none vs t i = absurd (grind arith)

  pub erase-is : (vs : List Sort) (c : TreeClass) (t : Scoped) → SourceFits vs xs c t → Ensures e (ErasureOf vs c t) (erase e f t)
  erase-is vs terms (s_name s n) h = ensures-deep s (name_erased f n) (given (term-name-erased vs n h, refl))
  erase-is vs types (s_name s n) h = ensures-deep s (name_erased f n) (given (type-name-erased vs n h, refl))
  erase-is vs terms (s_lam s x a t) h = one-part s (fun of_pure) (λ p k. k) (erase-is (OfTerm ∷ vs) terms t h.1)
  erase-is vs terms (s_elam s x a t) h = lowered-part vs OfTerm s (erase-is (OfTerm ∷ vs) terms t h.1)
  erase-is vs terms (s_xlam s x a t) h = lowered-part vs OfType s (erase-is (OfType ∷ vs) terms t h.1)
  erase-is vs terms (s_unclassed s x a t) h = lowered-part vs OfTerm s (erase-is (OfTerm ∷ vs) terms t h.0)
  erase-is vs terms (s_app s t u) h = two-parts s (apply of_pure) (λ p q k l. (k, l)) (erase-is vs terms t h.0) (erase-is vs terms u h.1)
  erase-is vs terms (s_eapp s t u) h = erase-is vs terms t h.0
  erase-is vs terms (s_tapp s t u) h = erase-is vs terms t h.0
  erase-is vs terms (s_pair s t u) h = erase-is vs terms t h.0
  erase-is vs terms (s_fst s t) h = erase-is vs terms t h
  erase-is vs terms (s_snd s t) h = erase-is vs terms t h
  erase-is vs terms (s_beta s x p) (_, inl i) = erase-none vs p i
  erase-is vs terms (s_beta s x p) (_, inr h) = erase-is vs terms p h
  erase-is vs terms (s_rho s r x q d t) h = erase-is vs terms t h.2
  erase-is vs terms (s_phi s r q t p) h = erase-is vs terms p h.2
  erase-is vs terms (s_delta s a q) h = given (refl, refl)
  erase-is vs terms (s_chi s a t) h = erase-is vs terms t h.1
  erase-is vs terms (s_flip s q) h = erase-is vs terms q h
  erase-is vs types (s_pi s x a b) h = two-parts s (bind pi_of) (λ p q k l. (k, l)) (erase-is vs types a h.0) (erase-is (OfTerm ∷ vs) types b h.1)
  erase-is vs types (s_all s x a b) h = two-parts s (bind all_of) (λ p q k l. (k, l)) (erase-is vs types a h.0) (erase-is (OfTerm ∷ vs) types b h.1)
  erase-is vs types (s_iota s x a b) h = two-parts s (bind iota_of) (λ p q k l. (k, l)) (erase-is vs types a h.0) (erase-is (OfTerm ∷ vs) types b h.1)
  erase-is vs types (s_allt s x a b) h = two-parts s (bind allt_of) (λ p q k l. (k, l)) (erase-is vs kinds a h.0) (erase-is (OfType ∷ vs) types b h.1)
  erase-is vs types (s_tlam s x a b) h = one-part s (fun of_term) (λ p k. k) (erase-is (OfTerm ∷ vs) types b h.1)
  erase-is vs types (s_xtlam s x a b) h = one-part s (fun of_type) (λ p k. k) (erase-is (OfType ∷ vs) types b h.1)
  erase-is vs types (s_at s a t) h = two-parts s (apply of_term) (λ p q k l. (k, l)) (erase-is vs types a h.0) (erase-is vs terms t h.1)
  erase-is vs types (s_on s a b) h = two-parts s (apply of_type) (λ p q k l. (k, l)) (erase-is vs types a h.0) (erase-is vs types b h.1)
  erase-is vs types (s_eq s t u) h = two-parts s (binary eq_of) (λ p q k l. (k, l)) (erase-is vs terms t h.0) (erase-is vs terms u h.1)
  erase-is vs kinds (s_star s) h = given (tt, refl)
  erase-is vs kinds (s_kpi s x a k) h = two-parts s (bind kpi_of) (λ p q k l. (k, l)) (erase-is vs types a h.0) (erase-is (OfTerm ∷ vs) kinds k h.1)
  erase-is vs kinds (s_kpit s x a k) h = two-parts s (bind kpit_of) (λ p q k l. (k, l)) (erase-is vs kinds a h.0) (erase-is (OfType ∷ vs) kinds k h.1)
  erase-is vs c t h = absurd h

  pub erase-optional : (vs : List Sort) (t : Scoped) → IsLeftOut t ⊎ SourceFits vs xs terms t → Ensures e (ErasureOf vs terms t) (erase e f t)
  erase-optional vs t (inl i) = erase-none vs t i
  erase-optional vs t (inr h) = erase-is vs terms t h
