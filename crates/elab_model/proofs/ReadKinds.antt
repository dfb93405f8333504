-- The kind of an annotated type is read off it: it is of its class, and where the type has a kind it has this one.
use Rattle.std.proofs.Common.{◌≡◌, ℕ, zero, suc, List, [], ◌∷◌, Some, slice_get, option_map, refl, ap, subst, arith}
use Rattle.cdle_model.specs.declared.grammar.Sort.TheVariants.{OfTerm, OfType}
use Rattle.cdle_model.specs.Trees.{kpi_of, kpit_of, Tree, var, name}
use Rattle.cdle_model.specs.Forms.{kpi, kpit, pi, all, allt, at_, on, iota, eq, tlam, xtlam, Written, def_item, type_item}
use Rattle.cdle_model.specs.Classes.{TreeClass, types, kinds, item_sorts}
use Rattle.cdle_model.specs.Erasure.{erased}
use Rattle.cdle_model.specs.Substitution.{put_written}
use Rattle.cdle_model.specs.Fitting.{entry_sorts}
use Rattle.cdle_model.specs.Steps.{Joined}
use Rattle.cdle_model.specs.Derivation.{Entry, term_of, type_of, raised, entry, Item, bodies, a_type, var_type, name_type, pi_rule, all_rule, iota_rule, allt_rule, tlam_rule, xtlam_rule, at_rule, on_rule, eq_rule, Has, by_rule, converted, signature, AreDerived}
use Rattle.cdle_model.proofs.ErasedSubstitution.{erased-put}
use Rattle.cdle_model.proofs.UniqueTypes.{types-unique, bind-parts}
use Rattle.cdle_model.proofs.Inversion.{in_pi, in_all, in_iota, in_allt, in_tlam, in_xtlam, in_at, in_on}
use Rattle.source_model.specs.Source.{Span}
use Rattle.elab_model.specs.SoundTrees.{Sound}
use Rattle.elab_model.specs.Soundness.{EnvSound, ContextSound}
use Rattle.elab_model.specs.Derived.{erased_context}
use Rattle.elab_model.specs.Questions.{Env}
use Rattle.elab_model.specs.Spines.{known_of, kind_of}
use Rattle.elab_model.proofs.DerivedBodies.{items-closed}
use Rattle.elab_model.proofs.DerivedTrees.{erased-entry, known-item}
use Rattle.elab_model.proofs.SoundPuts.{two, first, second, sound-put}
use Rattle.elab_model.proofs.SoundItems.{entry-sound, known-type}
use Rattle.elab_model.proofs.Ensures.{Ensures, given, refused, ensures-then, ensures-deep, ensures-binder}

-- ---- a variable or a name of a sort has an entry of it

pub term-entry : (c : List Entry) (i : ℕ) → slice_get (entry_sorts c) i ≡ Some OfTerm → (a : Tree) × (entry c i ≡ Some (term_of a))
term-entry [] i h = absurd (grind arith)
term-entry (term_of a ∷ c) zero h = (_, refl)
term-entry (type_of a ∷ c) zero h = absurd cc
term-entry (x ∷ c) (suc i) h = let (a, p) = term-entry c i h in (_, ap (option_map raised) p)

pub type-entry : (c : List Entry) (i : ℕ) → slice_get (entry_sorts c) i ≡ Some OfType → (k : Tree) × (entry c i ≡ Some (type_of k))
type-entry [] i h = absurd (grind arith)
type-entry (type_of a ∷ c) zero h = (_, refl)
type-entry (term_of a ∷ c) zero h = absurd cc
type-entry (x ∷ c) (suc i) h = let (k, p) = type-entry c i h in (_, ap (option_map raised) p)

pub term-item : (ws : List Written) (n : ℕ) → slice_get (item_sorts ws) n ≡ Some OfTerm → (a : Tree) × (known_of (slice_get ws n) ≡ Some (term_of a))
term-item [] n h = absurd (grind arith)
term-item (def_item x a t ∷ ws) zero h = (a, refl)
term-item (type_item x k a ∷ ws) zero h = absurd cc
term-item (w ∷ ws) (suc n) h = term-item ws n h

pub type-item : (ws : List Written) (n : ℕ) → slice_get (item_sorts ws) n ≡ Some OfType → (k : Tree) × (known_of (slice_get ws n) ≡ Some (type_of k))
type-item [] n h = absurd (grind arith)
type-item (type_item x k a ∷ ws) zero h = (k, refl)
type-item (def_item x a t ∷ ws) zero h = absurd cc
type-item (w ∷ ws) (suc n) h = type-item ws n h

module _ (e : Env) (g : EnvSound e) where
  abbrev Is : List Item
  Is = signature e.items

  abbrev S : List Entry → TreeClass → Tree → Type 0
  S c k t = Sound (item_sorts e.items) (entry_sorts c) k t

  abbrev OfKind : List Entry → Tree → Tree → Type 0
  OfKind c a k = Has Is a_type (erased_context c) a k

  abbrev KindRead : List Entry → Tree → Tree → Type 0
  KindRead c a k = S c kinds k × (AreDerived e.items → (l : Tree) → OfKind c a l → OfKind c a (erased k))

  -- a kind and the one that is read off are one
  same-parts : (c : List Entry) (a k l : Tree) → OfKind c a k → OfKind c a l → Joined (bodies Is) k l
  same-parts c a k l = types-unique Is (items-closed e.items g.items).signed_bodies a_type (erased_context c) a k l

  pub kind-read : (a : Tree) (c : List Entry) (w : Span) → ContextSound (item_sorts e.items) c → S c types a → Ensures e (KindRead c a) (kind_of e w c a)
  kind-read (var i) c w hc h = let (k, j) = type-entry c i h.0 in
      rw j (given ((entry-sound (item_sorts e.items) c i (type_of k) hc j).1, λ v l m. by_rule (var_type (erased-entry c i (type_of k) j))))
  kind-read (name n) c w hc h = let (k, j) = type-item e.items n h.0 in
      rw j (given ((known-type e g (entry_sorts c) n k (slice_get e.items n) refl j).1, λ v l m. by_rule (name_type (known-item e g.items v n (type_of k) j))))
  kind-read (pi x y) c w hc h = given ((tt, tt), λ v l m. let (p, q) = in_pi m in by_rule (pi_rule p q))
  kind-read (all x y) c w hc h = given ((tt, tt), λ v l m. let (p, q) = in_all m in by_rule (all_rule p q))
  kind-read (allt x y) c w hc h = given ((tt, tt), λ v l m. let (p, q) = in_allt m in by_rule (allt_rule p q))
  kind-read (iota x y) c w hc h = given ((tt, tt), λ v l m. let (p, q) = in_iota m in by_rule (iota_rule p q))
  kind-read (eq x y) c w hc h = given ((tt, tt), λ v l m. by_rule eq_rule)
  kind-read (tlam x y) c w hc h = let hx : S c types x = first h in
      ensures-then (kind-read y (term_of x ∷ c) w (hx, hc) (second h)) (λ k n.
      ensures-deep w (kpi x k) (given (two hx n.0, λ v l m. let (z, p, q) = in_tlam m in by_rule (tlam_rule p (n.1 v z q)))))
  kind-read (xtlam x y) c w hc h = let hx : S c kinds x = first h in
      ensures-then (kind-read y (type_of x ∷ c) w (hx, hc) (second h)) (λ k n.
      ensures-deep w (kpit x k) (given (two hx n.0, λ v l m. let (z, p, q) = in_xtlam m in by_rule (xtlam_rule p (n.1 v z q)))))
  kind-read (at_ x t) c w hc h = ensures-then (kind-read x c w hc (first h)) (λ k n. ensures-binder kpi_of k (λ p q i.
      let hk : S c kinds (kpi p q) = subst (S c kinds) i n.0 in
      ensures-deep w (put_written 0 t q) (given (
        sound-put (item_sorts e.items) (entry_sorts c) OfTerm t q kinds tt (second h) (second hk),
        λ v l m.
            let (y, z, hx, ht) = in_at m in
            let o : OfKind c x (kpi (erased p) (erased q)) = subst (λ k. OfKind c x (erased k)) i (n.1 v (kpi y z) hx) in
            let u = bind-parts Is (items-closed e.items g.items).signed_bodies (same-parts c x (kpi y z) (kpi (erased p) (erased q)) hx o) in
            rw (erased-put 0 t q) (by_rule (at_rule o (converted ht u.0))),
      ))) refused)
  kind-read (on x t) c w hc h = ensures-then (kind-read x c w hc (first h)) (λ k n. ensures-binder kpit_of k (λ p q i.
      let hk : S c kinds (kpit p q) = subst (S c kinds) i n.0 in
      ensures-deep w (put_written 0 t q) (given (
        sound-put (item_sorts e.items) (entry_sorts c) OfType t q kinds tt (second h) (second hk),
        λ v l m.
            let (y, z, hx, ht) = in_on m in
            let o : OfKind c x (kpit (erased p) (erased q)) = subst (λ k. OfKind c x (erased k)) i (n.1 v (kpit y z) hx) in
            let u = bind-parts Is (items-closed e.items g.items).signed_bodies (same-parts c x (kpit y z) (kpit (erased p) (erased q)) hx o) in
            rw (erased-put 0 t q) (by_rule (on_rule o (converted ht u.0))),
      ))) refused)
  kind-read t c w hc h = absurd h.0
