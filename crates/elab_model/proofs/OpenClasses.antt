-- Trees with unknowns stay in their class where types are put for unknowns, or terms and types for variables.
use Rattle.std.proofs.Common.{◌≡◌, ℕ, suc, true, List, ◌∷◌, sym, ap, ◌∙◌, subst}
use Rattle.cdle_model.specs.declared.grammar.Sort.{Sort}
use Rattle.cdle_model.specs.declared.grammar.Sort.TheVariants.{OfTerm, OfType}
use Rattle.cdle_model.specs.Trees.{group_of, rho_of, phi_of, pair_of, guide_of, star_of, unknown, Tree, var, name, leaf, unary, fun, apply, binary, bind, shift, put, lacks}
use Rattle.cdle_model.specs.Forms.{star, kpi, kpit, pi, all, allt, at_, on, iota, eq, tlam, xtlam, lam, elam, xlam, app, eapp, tapp, fst, snd, beta, delta}
use Rattle.cdle_model.specs.Classes.{TreeClass, terms, types, kinds, pure_terms, guides, guide_kinds, term_pairs, guided_proofs, typed_terms, Scope, within, fun_places, apply_places, binary_places, bind_places, Fits}
use Rattle.cdle_model.specs.Erasure.{erased, HasErasure}
use Rattle.cdle_model.specs.Substitution.{put_written}
use Rattle.cdle_model.specs.Fitting.{IsErased}
use Rattle.cdle_model.proofs.Placed.{map_body, map_parts, map_domain, no_unary, fun_erased, apply_erased, binary_erased, bind_erased}
use Rattle.cdle_model.proofs.ClassSubstitution.{fits-shift}
use Rattle.cdle_model.proofs.ClassErasure.{has-erasure, erased-fits}
use Rattle.cdle_model.proofs.Renaming.{ren}
use Rattle.cdle_model.proofs.Shifts.{shift-one}
use Rattle.cdle_model.proofs.MissingVariable.{lacks-raised, raised-lacks}
use Rattle.elab_model.specs.Unknowns.{Types, above, erased_types, fill, fill_written, trivial, FitsOpen}
use Rattle.elab_model.specs.SoundTrees.{Sound, written_class, IsWritten}
use Rattle.elab_model.proofs.Filled.{fill-same, fill-suc, fill-ren, erased-fill, above-erased}
use Rattle.elab_model.proofs.FilledWritten.{fill_written-put}
use Rattle.elab_model.proofs.WholeTrees.{fits-fill}
use Rattle.elab_model.proofs.FilledTwice.{fill_written-twice}
use Rattle.elab_model.proofs.SoundPuts.{has-erasure-ren, sound-put}
use Rattle.elab_model.proofs.Trivial.{written-trivial, has-trivial, had-trivial}

module _ (zs : List Sort) where
  -- a guide for each unknown
  abbrev AreGuides : Types → List Sort → Type 0
  AreGuides f vs = (n : ℕ) → Fits (within vs zs) guides (f n)

  above-guides : (f : Types) (vs : List Sort) (y : Sort) → AreGuides f vs → AreGuides (above f) (y ∷ vs)
  above-guides f vs y w n = fits-shift zs vs y guides (f n) (w n)

  guide-class : (f : Types) (vs : List Sort) (c : TreeClass) (n : ℕ) → AreGuides f vs → IsErased c → Fits (within vs zs) c (trivial n) → Fits (within vs zs) c (f n)
  guide-class f vs guides n w e h = w n
  guide-class f vs pure_terms n w e h = absurd h
  guide-class f vs guide_kinds n w e h = absurd h
  guide-class f vs c n w e h = absurd e

  fits-filled : (f : Types) (vs : List Sort) → AreGuides f vs → (c : TreeClass) (t : Tree) → IsErased c → Fits (within vs zs) c (fill trivial t) → Fits (within vs zs) c (fill f t)
  fits-filled f vs w c (var i) e h = h
  fits-filled f vs w c (name n) e h = h
  fits-filled f vs w c (leaf star_of) e h = h
  fits-filled f vs w c (leaf (unknown n)) e h = guide-class f vs c n w e h
  fits-filled f vs w c (unary j p) e h = absurd (no_unary c j _ e h)
  fits-filled f vs w c (fun k p) e h = map_body (fun_places c k) _ _ (λ v x m. fits-filled (above f) (v ∷ vs) (above-guides f vs v w) x p m.0 m.1) (fun_erased c k _ e h)
  fits-filled f vs w c (apply k p q) e h = map_parts (apply_places c k) _ _ _ _ (λ x m. fits-filled f vs w x p m.0 m.1) (λ x m. fits-filled f vs w x q m.0 m.1) (apply_erased c k _ _ e h)
  fits-filled f vs w c (binary j p q) e h = map_parts (binary_places c j) _ _ _ _ (λ x m. fits-filled f vs w x p m.0 m.1) (λ x m. fits-filled f vs w x q m.0 m.1) (binary_erased c j _ _ e h)
  fits-filled f vs w c (bind b p q) e h =
      map_domain (bind_places c b) _ _ _ _ (λ x m. fits-filled f vs w x p m.0 m.1) (λ v x m. fits-filled (above f) (v ∷ vs) (above-guides f vs v w) x q m.0 m.1) (bind_erased c b _ _ e h)

  -- a type for each unknown
  abbrev pub AreTypes : Types → List Sort → Type 0
  AreTypes f vs = (n : ℕ) → Sound zs vs types (f n)

  above-types : (f : Types) (vs : List Sort) (y : Sort) → AreTypes f vs → AreTypes (above f) (y ∷ vs)
  above-types f vs y w n = let (h, k) = w n in (fits-shift zs vs y types (f n) h, subst HasErasure (sym (shift-one (f n))) (has-erasure-ren suc (f n) k))

  erased-guides : (f : Types) (vs : List Sort) → AreTypes f vs → AreGuides (erased_types f) vs
  erased-guides f vs w n = let (h, k) = w n in erased-fits zs vs types (f n) h k

  side-filled : (f : Types) (vs : List Sort) → AreTypes f vs → (c : TreeClass) (t : Tree) → IsErased c → Fits (within vs zs) c (fill trivial t) → Sound zs vs c (fill (erased_types f) t)
  side-filled f vs w c t e h = let k = fits-filled (erased_types f) vs (erased-guides f vs w) c t e h in (k, has-erasure (within vs zs) c (fill (erased_types f) t) e k)

  guide-filled : (f : Types) (vs : List Sort) → AreTypes f vs → (t : Tree) → Fits (within (OfTerm ∷ vs) zs) guides (fill trivial t) → Sound zs (OfTerm ∷ vs) guides (fill (above (erased_types f)) t)
  guide-filled f vs w t h =
      let k = fits-filled (above (erased_types f)) (OfTerm ∷ vs) (above-guides (erased_types f) vs OfTerm (erased-guides f vs w)) guides t tt h in
      (k, has-erasure (within (OfTerm ∷ vs) zs) guides (fill (above (erased_types f)) t) tt k)

  two : {A B C D : Type 0} → A × B → C × D → (A × C) × (B × D)
  two h k = ((h.0, k.0), (h.1, k.1))

  -- what is put for unknowns under a binder does not have its variable
  lacks-fill : (f : Types) (e : Tree) → lacks 0 e ≡ true → lacks 0 (fill (above f) e) ≡ true
  lacks-fill f e h =
      let p = put 0 star e in
      let i : e ≡ ren suc p = lacks-raised 0 star e h ∙ shift-one p in
      ap (λ x. lacks 0 (fill (above f) x)) i ∙ ap (lacks 0) (fill-suc f p ∙ sym (shift-one (fill f p))) ∙ raised-lacks 0 (fill f p)

  lacks-kept : (f : Types) (t : Tree) → lacks 0 (erased t) ≡ true → lacks 0 (erased (fill_written (above f) t)) ≡ true
  lacks-kept f t h = ap (lacks 0) (erased-fill (above f) t ∙ sym (fill-same (above-erased f) (erased t))) ∙ lacks-fill (erased_types f) (erased t) h

  pub well-filled : (f : Types) (vs : List Sort) → AreTypes f vs → (c : TreeClass) (e : Tree) → IsWritten c → Fits (within vs zs) c (fill trivial e) → HasErasure e → Sound zs vs c (fill_written f e)
  well-filled f vs w terms (var i) g h k = (h, tt)
  well-filled f vs w types (var i) g h k = (h, tt)
  well-filled f vs w types (leaf (unknown n)) g h k = w n
  well-filled f vs w terms (name n) g h k = (h, tt)
  well-filled f vs w types (name n) g h k = (h, tt)
  well-filled f vs w terms (lam a b) g h k = two (well-filled f vs w types a tt h.0 k.0) (well-filled (above f) (OfTerm ∷ vs) (above-types f vs OfTerm w) terms b tt h.1 k.1)
  well-filled f vs w terms (elam a b) g h k =
      let (x, y) = well-filled f vs w types a tt h.0 k.0 in
      let (x', y') = well-filled (above f) (OfTerm ∷ vs) (above-types f vs OfTerm w) terms b tt h.1 k.1 in ((x, x'), (y, y', lacks-kept f b k.2))
  well-filled f vs w terms (xlam a b) g h k =
      let (x, y) = well-filled f vs w kinds a tt h.0 k.0 in
      let (x', y') = well-filled (above f) (OfType ∷ vs) (above-types f vs OfType w) terms b tt h.1 k.1 in ((x, x'), (y, y', lacks-kept f b k.2))
  well-filled f vs w terms (app p q) g h k = two (well-filled f vs w terms p tt h.0 k.0) (well-filled f vs w terms q tt h.1 k.1)
  well-filled f vs w terms (eapp p q) g h k = two (well-filled f vs w terms p tt h.0 k.0) (well-filled f vs w terms q tt h.1 k.1)
  well-filled f vs w terms (tapp p q) g h k = two (well-filled f vs w terms p tt h.0 k.0) (well-filled f vs w types q tt h.1 k.1)
  well-filled f vs w terms (bind pair_of p a) g h k = two (well-filled f vs w term_pairs p tt h.0 k.0) (well-filled (above f) (OfTerm ∷ vs) (above-types f vs OfTerm w) types a tt h.1 k.1)
  well-filled f vs w terms (fst p) g h k = well-filled f vs w terms p tt h k
  well-filled f vs w terms (snd p) g h k = well-filled f vs w terms p tt h k
  well-filled f vs w terms (beta p q) g h k = two (side-filled f vs w pure_terms p tt h.0) (side-filled f vs w pure_terms q tt h.1)
  well-filled f vs w terms (binary rho_of p q) g h k = two (well-filled f vs w guided_proofs p tt h.0 k.0) (well-filled f vs w typed_terms q tt h.1 k.1)
  well-filled f vs w terms (binary phi_of p q) g h k = two (well-filled f vs w term_pairs p tt h.0 k.0) (side-filled f vs w pure_terms q tt h.1)
  well-filled f vs w terms (delta p q) g h k = two (well-filled f vs w types p tt h.0 k.0) (well-filled f vs w terms q tt h.1 k.1)
  well-filled f vs w types (pi a b) g h k = two (well-filled f vs w types a tt h.0 k.0) (well-filled (above f) (OfTerm ∷ vs) (above-types f vs OfTerm w) types b tt h.1 k.1)
  well-filled f vs w types (all a b) g h k = two (well-filled f vs w types a tt h.0 k.0) (well-filled (above f) (OfTerm ∷ vs) (above-types f vs OfTerm w) types b tt h.1 k.1)
  well-filled f vs w types (iota a b) g h k = two (well-filled f vs w types a tt h.0 k.0) (well-filled (above f) (OfTerm ∷ vs) (above-types f vs OfTerm w) types b tt h.1 k.1)
  well-filled f vs w types (allt a b) g h k = two (well-filled f vs w kinds a tt h.0 k.0) (well-filled (above f) (OfType ∷ vs) (above-types f vs OfType w) types b tt h.1 k.1)
  well-filled f vs w types (tlam a b) g h k = two (well-filled f vs w types a tt h.0 k.0) (well-filled (above f) (OfTerm ∷ vs) (above-types f vs OfTerm w) types b tt h.1 k.1)
  well-filled f vs w types (xtlam a b) g h k = two (well-filled f vs w kinds a tt h.0 k.0) (well-filled (above f) (OfType ∷ vs) (above-types f vs OfType w) types b tt h.1 k.1)
  well-filled f vs w types (at_ p q) g h k = two (well-filled f vs w types p tt h.0 k.0) (well-filled f vs w terms q tt h.1 k.1)
  well-filled f vs w types (on p q) g h k = two (well-filled f vs w types p tt h.0 k.0) (well-filled f vs w types q tt h.1 k.1)
  well-filled f vs w types (eq p q) g h k = two (side-filled f vs w pure_terms p tt h.0) (side-filled f vs w pure_terms q tt h.1)
  well-filled f vs w kinds star g h k = (tt, tt)
  well-filled f vs w kinds (kpi a b) g h k = two (well-filled f vs w types a tt h.0 k.0) (well-filled (above f) (OfTerm ∷ vs) (above-types f vs OfTerm w) kinds b tt h.1 k.1)
  well-filled f vs w kinds (kpit a b) g h k = two (well-filled f vs w kinds a tt h.0 k.0) (well-filled (above f) (OfType ∷ vs) (above-types f vs OfType w) kinds b tt h.1 k.1)
  well-filled f vs w term_pairs (binary group_of p q) g h k = two (well-filled f vs w terms p tt h.0 k.0) (well-filled f vs w terms q tt h.1 k.1)
  well-filled f vs w typed_terms (binary group_of p q) g h k = two (well-filled f vs w types p tt h.0 k.0) (well-filled f vs w terms q tt h.1 k.1)
  well-filled f vs w guided_proofs (bind guide_of p q) g h k = two (well-filled f vs w terms p tt h.0 k.0) (guide-filled f vs w q h.1)
  well-filled f vs w pure_terms e g h k = absurd g
  well-filled f vs w guides e g h k = absurd g
  well-filled f vs w guide_kinds e g h k = absurd g
  well-filled f vs w c (leaf star_of) g h k = absurd h
  well-filled f vs w c (leaf (unknown n)) g h k = absurd h
  well-filled f vs w c e g h k = absurd h

  -- the same where unknowns are left in what is put
  abbrev pub OpenWell : List Sort → TreeClass → Tree → Type 0
  OpenWell vs c t = FitsOpen (within vs zs) c t × HasErasure t

  open-well : (vs : List Sort) (c : TreeClass) (t : Tree) → Sound zs vs c (fill_written trivial t) → OpenWell vs c t
  open-well vs c t h = let (x, y) = subst (Sound zs vs c) (written-trivial t) h in (x, had-trivial t y)

  well-open : (vs : List Sort) (c : TreeClass) (t : Tree) → OpenWell vs c t → Sound zs vs c (fill_written trivial t)
  well-open vs c t h = rw (written-trivial t) (h.0, has-trivial t h.1)

  pub open-filled : (vs : List Sort) (c : TreeClass) (f : Types) (t : Tree) → IsWritten c → ((n : ℕ) → OpenWell vs types (f n)) → OpenWell vs c t → OpenWell vs c (fill_written f t)
  open-filled vs c f t g w h = open-well vs c (fill_written f t)
      (rw (fill_written-twice trivial f t) (well-filled (λ n. fill_written trivial (f n)) vs (λ n. well-open vs types (f n) (w n)) c t g h.0 h.1))

  pub open-put : (vs : List Sort) (y : Sort) (c : TreeClass) (a t : Tree) → IsWritten c → OpenWell vs (written_class y) a → OpenWell (y ∷ vs) c t → OpenWell vs c (put_written 0 a t)
  open-put vs y c a t g h k = open-well vs c (put_written 0 a t)
      (rw (fill_written-put trivial a t) (sound-put zs vs y (fill_written trivial a) (fill_written (above trivial) t) c g (well-open vs (written_class y) a h) (well-open (y ∷ vs) c t k)))

  pub open-shift : (vs : List Sort) (y : Sort) (c : TreeClass) (t : Tree) → OpenWell vs c t → OpenWell (y ∷ vs) c (shift 0 1 t)
  open-shift vs y c t h = (rw (shift-one t, fill-ren suc trivial t, ← shift-one (fill trivial t)) (fits-shift zs vs y c (fill trivial t) h.0), rw (shift-one t) (has-erasure-ren suc t h.1))

pub open-whole : (s : Scope) (c : TreeClass) (t : Tree) → Fits s c t → FitsOpen s c t
open-whole s c t h = rw (fits-fill s c trivial t h) h

pub whole-fits : (s : Scope) (c : TreeClass) (t : Tree) → FitsOpen s c t → ((f : Types) → fill_written f t ≡ t) → Fits s c t
whole-fits s c t h w = subst (Fits s c) (sym (written-trivial t) ∙ w trivial) h
