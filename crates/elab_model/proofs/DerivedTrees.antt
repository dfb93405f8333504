-- Derivations of what the surface rules read off: entries of contexts and items, parts of types.
use Rattle.std.proofs.Common.{◌≡◌, ℕ, zero, suc, Bool, true, false, cond, List, [], ◌∷◌, ◌++◌, length, Option, Some, None, slice_get, option_map, refl, sym, ap, ◌∙◌, subst, arith}
use Rattle.cdle_model.specs.Trees.{of_term, of_type, pi_of, all_of, allt_of, iota_of, kpi_of, kpit_of, tlam_of, xtlam_of, Tree, leaf, apply, bind, lacks, IsBelow}
use Rattle.cdle_model.specs.Forms.{star, kpi, kpit, Written, def_item, type_item}
use Rattle.cdle_model.specs.Classes.{Scope, types, kinds, Fits, AreScoped, item_sorts}
use Rattle.cdle_model.specs.Erasure.{erased, lowered}
use Rattle.cdle_model.specs.Derivation.{Entry, term_of, type_of, raised, entry, Item, item, Judgement, a_term, a_type, a_kind, Has, signed, signature, AreDerived}
use Rattle.cdle_model.proofs.Renaming.{ren}
use Rattle.cdle_model.proofs.Closed.{ren-closed}
use Rattle.cdle_model.proofs.ErasedSubstitution.{erased-shift}
use Rattle.cdle_model.proofs.ScopedTrees.{fits-inner}
use Rattle.cdle_model.proofs.Signatures.{ClosedItems}
use Rattle.cdle_model.proofs.UniqueTypes.{unconverted}
use Rattle.cdle_model.proofs.RenamedDerivations.{Renames, has-ren}
use Rattle.cdle_model.proofs.Inversion.{in_pi, in_all, in_iota, in_allt, in_tlam, in_xtlam, in_at, in_on, in_kpi, in_kpit}
use Rattle.elab_model.specs.Questions.{Env}
use Rattle.elab_model.specs.Soundness.{ItemSound}
use Rattle.elab_model.specs.Derived.{erased_entry, erased_context, EntryDerived, ContextDerived}
use Rattle.elab_model.specs.Instances.{is_unknown, Part, if_is, first_place, outside, part_outside}
use Rattle.elab_model.specs.Spines.{known_of}
use Rattle.elab_model.proofs.DerivedBodies.{items-closed, item-get, known-items}
use Rattle.elab_model.proofs.Strengthened.{IsRuled, rule-ruled, strengthened, has-raised}
use Rattle.elab_model.proofs.FoundParts.{or_part-is, of_domain-is, of_head-is, if_former-is, either, lowered-is}

-- ---- contexts

erased-raised : (e : Entry) → erased_entry (raised e) ≡ raised (erased_entry e)
erased-raised (term_of a) = ap term_of (erased-shift 0 1 a)
erased-raised (type_of k) = ap type_of (erased-shift 0 1 k)

from-raised : (o : Option Entry) (f : Entry) → option_map raised o ≡ Some f → (m : Entry) × (o ≡ Some m) × (raised m ≡ f)
from-raised (Some m) f h = (m, refl, grind arith)
from-raised None f h = absurd (grind arith)

pub erased-entry : (c : List Entry) (i : ℕ) (f : Entry) → entry c i ≡ Some f → entry (erased_context c) i ≡ Some (erased_entry f)
erased-entry [] i f h = absurd (grind arith)
erased-entry (e ∷ c) zero f h = let k : raised e ≡ f = grind arith in rw (← k) (ap Some (sym (erased-raised e)))
erased-entry (e ∷ c) (suc i) f h =
    let (m, p, q) = from-raised (entry c i) f h in
    ap (option_map raised) (erased-entry c i m p) ∙ ap Some (sym (erased-raised m) ∙ ap erased_entry q)

module _ (is : List Item) (g : ClosedItems is) where
  raised-derived : (d : List Entry) (f e : Entry) → EntryDerived is d e → EntryDerived is (f ∷ d) (raised e)
  raised-derived d f (term_of a) h = has-raised is g a_type f d a star h
  raised-derived d f (type_of k) h = has-raised is g a_kind f d k star h

  pub entry-derived : (c : List Entry) (i : ℕ) (f : Entry) → ContextDerived is c → entry c i ≡ Some f → EntryDerived is (erased_context c) f
  entry-derived [] i f h e = absurd (grind arith)
  entry-derived (u ∷ c) zero f h e = let k : raised u ≡ f = grind arith in rw (← k) (raised-derived (erased_context c) (erased_entry u) u h.0)
  entry-derived (u ∷ c) (suc i) f h e =
      let (m, p, q) = from-raised (entry c i) f e in
      rw (← q) (raised-derived (erased_context c) (erased_entry u) m (entry-derived c i m h.1 p))

  -- a closed derivation stands in each context
  pub in-context : (d : List Entry) (j : Judgement) (t a : Tree) → Has is j [] t a → ((r : ℕ → ℕ) → ren r t ≡ t) → ((r : ℕ → ℕ) → ren r a ≡ a) → Has is j d t a
  in-context d j t a h x y =
      let w : Renames (λ i. i) [] d = λ i f e. absurd (grind arith) in
      rw (x (λ i. i), y (λ i. i)) at (has-ren is g (λ i. i) w h)

  -- ---- parts of a type

  -- a type, or a kind
  abbrev IsTypal : Judgement → Type 0
  IsTypal a_term = ⊥
  IsTypal j = Unit {0}

  record PartHas (d : List Entry) (x : Part) : Type 0 where
    inner : List Entry
    count : length inner ≡ x.binders
    judgement : Judgement
    typal : IsTypal judgement
    given : Tree
    has : Has is judgement (inner ++ d) x.tree given

  hit-has : (d es : List Entry) (k : ℕ) (j : Judgement) (t a : Tree) (x : Part) (b : Bool) → length es ≡ k → IsTypal j → Has is j (es ++ d) t a → if_is b k t ≡ Some x → PartHas d x
  hit-has d es k j t a x true e u h i = let l : record { binders = k; tree = t } ≡ x = grind arith in rw (← l) (record { inner = es; count = e; judgement = j; typal = u; given = a; has = h })
  hit-has d es k j t a x false e u h i = absurd (grind arith)

  place-has : (n : ℕ) (d : List Entry) (p t : Tree) (es : List Entry) (k : ℕ) (j : Judgement) (a : Tree) (x : Part) → length es ≡ k → IsTypal j → Has is j (es ++ d) t a → first_place n k p t ≡ Some x → PartHas d x
  place-has n d (leaf l) t es k j a x e u h i = hit-has d es k j t a x (is_unknown n (leaf l)) e u h i
  place-has n d (apply of_term p q) (apply of_term p' q') es k a_type a x e u h i = let (y, z, hp, hq) = in_at h in place-has n d p p' es k a_type (kpi y z) x e tt hp (of_head-is p _ x i)
  place-has n d (apply of_type p q) (apply of_type p' q') es k a_type a x e u h i = let (y, z, hp, hq) = in_on h in
      either (or_part-is _ _ x i) (λ m. place-has n d p p' es k a_type (kpit y z) x e tt hp (of_head-is p _ x m)) (λ m. place-has n d q q' es k a_type y x e tt hq m)
  place-has n d (bind b p q) (bind pi_of p' q') es k a_type a x e u h i = let (hp, hq) = in_pi h in let (f, l) = if_former-is b pi_of _ x i in
      either (of_domain-is b _ _ x l) (λ m. place-has n d p p' es k a_type star x e tt hp m) (λ m. place-has n d q q' (term_of (erased p') ∷ es) (suc k) a_type star x (ap suc e) tt hq m)
  place-has n d (bind b p q) (bind all_of p' q') es k a_type a x e u h i = let (hp, hq) = in_all h in let (f, l) = if_former-is b all_of _ x i in
      either (of_domain-is b _ _ x l) (λ m. place-has n d p p' es k a_type star x e tt hp m) (λ m. place-has n d q q' (term_of (erased p') ∷ es) (suc k) a_type star x (ap suc e) tt hq m)
  place-has n d (bind b p q) (bind iota_of p' q') es k a_type a x e u h i = let (hp, hq) = in_iota h in let (f, l) = if_former-is b iota_of _ x i in
      either (of_domain-is b _ _ x l) (λ m. place-has n d p p' es k a_type star x e tt hp m) (λ m. place-has n d q q' (term_of (erased p') ∷ es) (suc k) a_type star x (ap suc e) tt hq m)
  place-has n d (bind b p q) (bind allt_of p' q') es k a_type a x e u h i = let (hp, hq) = in_allt h in let (f, l) = if_former-is b allt_of _ x i in
      either (of_domain-is b _ _ x l) (λ m. place-has n d p p' es k a_kind star x e tt hp m) (λ m. place-has n d q q' (type_of (erased p') ∷ es) (suc k) a_type star x (ap suc e) tt hq m)
  place-has n d (bind b p q) (bind tlam_of p' q') es k a_type a x e u h i = let (y, hp, hq) = in_tlam h in let (f, l) = if_former-is b tlam_of _ x i in
      either (of_domain-is b _ _ x l) (λ m. place-has n d p p' es k a_type star x e tt hp m) (λ m. place-has n d q q' (term_of (erased p') ∷ es) (suc k) a_type y x (ap suc e) tt hq m)
  place-has n d (bind b p q) (bind xtlam_of p' q') es k a_type a x e u h i = let (y, hp, hq) = in_xtlam h in let (f, l) = if_former-is b xtlam_of _ x i in
      either (of_domain-is b _ _ x l) (λ m. place-has n d p p' es k a_kind star x e tt hp m) (λ m. place-has n d q q' (type_of (erased p') ∷ es) (suc k) a_type y x (ap suc e) tt hq m)
  place-has n d (bind b p q) (bind kpi_of p' q') es k a_kind a x e u h i = let (hp, hq) = in_kpi h in let (f, l) = if_former-is b kpi_of _ x i in
      either (of_domain-is b _ _ x l) (λ m. place-has n d p p' es k a_type star x e tt hp m) (λ m. place-has n d q q' (term_of (erased p') ∷ es) (suc k) a_kind star x (ap suc e) tt hq m)
  place-has n d (bind b p q) (bind kpit_of p' q') es k a_kind a x e u h i = let (hp, hq) = in_kpit h in let (f, l) = if_former-is b kpit_of _ x i in
      either (of_domain-is b _ _ x l) (λ m. place-has n d p p' es k a_kind star x e tt hp m) (λ m. place-has n d q q' (type_of (erased p') ∷ es) (suc k) a_kind star x (ap suc e) tt hq m)
  place-has n d (apply of_term p q) (apply of_term p' q') es k a_kind a x e u h i = absurd (rule-ruled (unconverted h).1)
  place-has n d (apply of_type p q) (apply of_type p' q') es k a_kind a x e u h i = absurd (rule-ruled (unconverted h).1)
  place-has n d (bind b p q) (bind f p' q') es k a_type a x e u h i = absurd (rule-ruled (unconverted h).1)
  place-has n d (bind b p q) (bind f p' q') es k a_kind a x e u h i = absurd (rule-ruled (unconverted h).1)
  place-has n d p t es k a_term a x e u h i = absurd u
  place-has n d p t es k j a x e u h i = absurd (grind arith)

  outside-has : (d : List Entry) (es : List Entry) (k : ℕ) (j : Judgement) (t b a : Tree) → length es ≡ k → Has is j (es ++ d) t b → outside k t ≡ Some a → (z : Tree) × Has is j d a z
  outside-has d [] zero j t b a e h i = let l : t ≡ a = grind arith in (b, rw (← l) h)
  outside-has d [] (suc k) j t b a e h i = absurd (grind arith)
  outside-has d (y ∷ es) zero j t b a e h i = absurd (grind arith)
  outside-has d (y ∷ es) (suc k) j t b a e h i = by_test (λ c m l. outside-has d es k j (lowered t) c a (omega arith) m l) (lacks 0 t) refl i
    where
      by_test : ((c : Tree) → Has is j (es ++ d) (lowered t) c → outside k (lowered t) ≡ Some a → (z : Tree) × Has is j d a z) → (x : Bool) → lacks 0 t ≡ x → cond x (outside k (lowered t)) None ≡ Some a → (z : Tree) × Has is j d a z
      by_test f true l m = f _ (strengthened is g j y (es ++ d) (lowered t) b (subst (λ z. Has is j (y ∷ es ++ d) z b) (lowered-is t l) h)) m
      by_test f false l m = absurd (grind arith)

  -- a type found for an unknown has a kind
  kind-not-type : (s : Scope) (d : List Entry) (t a : Tree) → Has is a_kind d t a → Fits s types t → ⊥
  kind-not-type s d t a h = no t (rule-ruled (unconverted h).1)
    where
      no : (t : Tree) → IsRuled a_kind t → Fits s types t → ⊥
      no star h k = k
      no (kpi x y) h k = k
      no (kpit x y) h k = k
      no t h k = absurd h

  pub part-has : (s : Scope) (d : List Entry) (p t b : Tree) → Has is a_type d t b → (n : ℕ) (a : Tree) → part_outside (first_place n 0 p t) ≡ Some a → Fits s types a → (k : Tree) × Has is a_type d a k
  part-has s d p t b h n a i w = by_place (first_place n 0 p t) refl i
    where
      by_judgement : (j : Judgement) → IsTypal j → (z : Tree) → Has is j d a z → (k : Tree) × Has is a_type d a k
      by_judgement a_type u z h = (z, h)
      by_judgement a_kind u z h = absurd (kind-not-type s d a z h w)
      by_judgement a_term u z h = absurd u

      by_place : (o : Option Part) → first_place n 0 p t ≡ o → part_outside o ≡ Some a → (k : Tree) × Has is a_type d a k
      by_place (Some x) e l =
          let r : PartHas d x = place-has n d p t [] 0 a_type b x refl tt h e in
          let (z, m) = outside-has d r.inner x.binders r.judgement x.tree r.given a r.count r.has l in
          by_judgement r.judgement r.typal z m
      by_place None e l = absurd (grind arith)

-- ---- the kind of an annotated type

module _ (e : Env) (g : AreScoped e.items) (v : AreDerived e.items) where
  -- what is known of an item, and its class, by the item
  known-is : (o : Option Written) (f : Entry) → known_of o ≡ Some f → (w : Written) × (o ≡ Some w) × ((signed w).known ≡ erased_entry f)
  known-is (Some (def_item x a t)) f i = (def_item x a t, refl, grind arith)
  known-is (Some (type_item x k a)) f i = (type_item x k a, refl, grind arith)
  known-is None f i = absurd (grind arith)

  pub known-item : (n : ℕ) (f : Entry) → known_of (slice_get e.items n) ≡ Some f → item (signature e.items) n ≡ Some (erased_entry f)
  known-item n f i = let (w, j, k) = known-is (slice_get e.items n) f i in (item-get e.items n w j).0 ∙ ap Some k

  -- the class of an item has its kind in each context
  pub known-class : ((n : ℕ) (w : Written) → slice_get e.items n ≡ Some w → ItemSound (item_sorts e.items) [] w) → (d : List Entry) (n : ℕ) (f : Entry) → known_of (slice_get e.items n) ≡ Some f → EntryDerived (signature e.items) d f
  known-class s d n f i = by_item (slice_get e.items n) refl i
    where
      by_item : (o : Option Written) → slice_get e.items n ≡ o → known_of o ≡ Some f → EntryDerived (signature e.items) d f
      by_item (Some (def_item x a t)) j k =
          let m : term_of a ≡ f = grind arith in
          let l : IsBelow 0 a = (fits-inner [] (item_sorts e.items) types a (s n (def_item x a t) j).0.0).0 in
          rw (← m) (in-context (signature e.items) (items-closed e.items g) d a_type a star (known-items e.items v n (def_item x a t) j).0 (λ r. ren-closed r a l) (λ r. refl))
      by_item (Some (type_item x l a)) j k =
          let m : type_of l ≡ f = grind arith in
          let b : IsBelow 0 l = (fits-inner [] (item_sorts e.items) kinds l (s n (type_item x l a) j).0.0).0 in
          rw (← m) (in-context (signature e.items) (items-closed e.items g) d a_kind l star (known-items e.items v n (type_item x l a) j).0 (λ r. ren-closed r l b) (λ r. refl))
      by_item None j k = absurd (grind arith)
