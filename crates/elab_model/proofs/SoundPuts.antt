-- Written trees stay in their class under a substitution of written trees of the variables' classes, and their erasures stay defined.
use Rattle.std.proofs.Common.{◌≡◌, ℕ, zero, suc, true, List, ◌∷◌, Some, slice_get, ap, ◌∙◌, arith}
use Rattle.cdle_model.specs.declared.grammar.Sort.{Sort}
use Rattle.cdle_model.specs.declared.grammar.Sort.TheVariants.{OfTerm, OfType}
use Rattle.cdle_model.specs.Trees.{group_of, rho_of, phi_of, pair_of, guide_of, Tree, var, name, leaf, unary, fun, apply, binary, bind, shift, lacks}
use Rattle.cdle_model.specs.Forms.{star, kpi, kpit, pi, all, allt, at_, on, iota, eq, tlam, xtlam, lam, elam, xlam, app, eapp, tapp, fst, snd, beta, delta}
use Rattle.cdle_model.specs.Classes.{TreeClass, terms, types, kinds, pure_terms, guides, guide_kinds, term_pairs, guided_proofs, typed_terms, within, Fits}
use Rattle.cdle_model.specs.Erasure.{erased, HasErasure}
use Rattle.cdle_model.specs.Substitution.{put_written}
use Rattle.cdle_model.specs.Fitting.{IsErased, class_of}
use Rattle.cdle_model.proofs.Renaming.{up, ren, lift, sub, sub-same, one}
use Rattle.cdle_model.proofs.Shifts.{shift-one}
use Rattle.cdle_model.proofs.MissingVariable.{lacks-sub, lacks-ren}
use Rattle.cdle_model.proofs.ClassSubstitution.{fits-shift, Gives, gives-lift, fits-sub}
use Rattle.cdle_model.proofs.ClassErasure.{has-erasure, erased-fits}
use Rattle.cdle_model.proofs.ErasedSubstitution.{sub_written, erased-ren, erased-lift, erased-sub}
use Rattle.cdle_model.proofs.SubstitutedDerivations.{erasures}
use Rattle.elab_model.specs.SoundTrees.{Sound, written_class, IsWritten}
use Rattle.elab_model.proofs.WrittenPuts.{written-one}

-- an erasure stays defined under a renaming
pub has-erasure-ren : (r : ℕ → ℕ) (t : Tree) → HasErasure t → HasErasure (ren r t)
has-erasure-ren r (var i) h = tt
has-erasure-ren r (name n) h = tt
has-erasure-ren r (leaf l) h = tt
has-erasure-ren r (unary j p) h = has-erasure-ren r p h
has-erasure-ren r (fun c p) h = has-erasure-ren (up r) p h
has-erasure-ren r (apply c p q) h = (has-erasure-ren r p h.0, has-erasure-ren r q h.1)
has-erasure-ren r (binary j p q) h = (has-erasure-ren r p h.0, has-erasure-ren r q h.1)
has-erasure-ren r (elam a t) h = (has-erasure-ren r a h.0, has-erasure-ren (up r) t h.1, ap (lacks 0) (erased-ren (up r) t) ∙ lacks-ren r (erased t) h.2)
has-erasure-ren r (xlam a t) h = (has-erasure-ren r a h.0, has-erasure-ren (up r) t h.1, ap (lacks 0) (erased-ren (up r) t) ∙ lacks-ren r (erased t) h.2)
has-erasure-ren r (bind f p q) h = (has-erasure-ren r p h.0, has-erasure-ren (up r) q h.1)

pub sound-shift : (xs vs : List Sort) (y : Sort) (c : TreeClass) (t : Tree) → Sound xs vs c t → Sound xs (y ∷ vs) c (shift 0 1 t)
sound-shift xs vs y c t h = (fits-shift xs vs y c t h.0, rw (shift-one t) (has-erasure-ren suc t h.1))

-- each variable is replaced by a tree of its sort
abbrev GivesSound : List Sort → (ℕ → Tree) → List Sort → List Sort → Type 0
GivesSound zs t vs us = (i : ℕ) (x : Sort) → slice_get vs i ≡ Some x → Sound zs us (written_class x) (t i)

new-sound : (zs us : List Sort) (y x : Sort) → Some y ≡ Some x → Sound zs (y ∷ us) (written_class x) (var 0)
new-sound zs us y OfTerm e = (e, tt)
new-sound zs us y OfType e = (e, tt)

lift-sound : (zs : List Sort) (t : ℕ → Tree) (vs us : List Sort) (y : Sort) → GivesSound zs t vs us → GivesSound zs (lift t) (y ∷ vs) (y ∷ us)
lift-sound zs t vs us y w zero x e = new-sound zs us y x e
lift-sound zs t vs us y w (suc i) x e = rw (← shift-one (t i)) (sound-shift zs us y (written_class x) (t i) (w i x e))

erased-class : (zs us : List Sort) (x : Sort) (t : Tree) → Sound zs us (written_class x) t → Fits (within us zs) (class_of x) (erased t)
erased-class zs us OfTerm t h = erased-fits zs us terms t h.0 h.1
erased-class zs us OfType t h = erased-fits zs us types t h.0 h.1

gives-erased : (zs : List Sort) (t : ℕ → Tree) (vs us : List Sort) → GivesSound zs t vs us → Gives zs (erasures t) vs us
gives-erased zs t vs us w i x e = erased-class zs us x (t i) (w i x e)

-- the sides and guides
side-sound : (zs : List Sort) (t : ℕ → Tree) (vs us : List Sort) → GivesSound zs t vs us → (c : TreeClass) (e : Tree) → IsErased c → Fits (within vs zs) c e → Sound zs us c (sub (erasures t) e)
side-sound zs t vs us w c e i h = let k = fits-sub zs (erasures t) vs us (gives-erased zs t vs us w) c e i h in (k, has-erasure (within us zs) c (sub (erasures t) e) i k)

guide-sound : (zs : List Sort) (t : ℕ → Tree) (vs us : List Sort) → GivesSound zs t vs us → (e : Tree) → Fits (within (OfTerm ∷ vs) zs) guides e → Sound zs (OfTerm ∷ us) guides (sub (lift (erasures t)) e)
guide-sound zs t vs us w e h =
    let k = fits-sub zs (lift (erasures t)) (OfTerm ∷ vs) (OfTerm ∷ us) (gives-lift zs (erasures t) vs us OfTerm (gives-erased zs t vs us w)) guides e tt h in
    (k, has-erasure (within (OfTerm ∷ us) zs) guides (sub (lift (erasures t)) e) tt k)

lacks-put : (s : ℕ → Tree) (t : Tree) → lacks 0 (erased t) ≡ true → lacks 0 (erased (sub_written (lift s) t)) ≡ true
lacks-put s t h = ap (lacks 0) (erased-sub (lift s) t ∙ sub-same (erased-lift s) (erased t)) ∙ lacks-sub (erasures s) (erased t) h

-- what holds of both parts of a form, and of each
pub two : {A B C D : Type 0} → A × B → C × D → (A × C) × (B × D)
two h k = ((h.0, k.0), (h.1, k.1))

pub first : {A B C D : Type 0} → (A × C) × (B × D) → A × B
first h = (h.0.0, h.1.0)

pub second : {A B C D : Type 0} → (A × C) × (B × D) → C × D
second h = (h.0.1, h.1.1)

module _ (zs : List Sort) where
  pub sound-sub : (t : ℕ → Tree) (vs us : List Sort) → GivesSound zs t vs us → (c : TreeClass) (e : Tree) → IsWritten c → Fits (within vs zs) c e → HasErasure e → Sound zs us c (sub_written t e)
  sound-sub t vs us w terms (var i) g h k = w i OfTerm h
  sound-sub t vs us w types (var i) g h k = w i OfType h
  sound-sub t vs us w terms (name n) g h k = (h, tt)
  sound-sub t vs us w types (name n) g h k = (h, tt)
  sound-sub t vs us w terms (lam a b) g h k = two (sound-sub t vs us w types a tt h.0 k.0) (sound-sub (lift t) (OfTerm ∷ vs) (OfTerm ∷ us) (lift-sound zs t vs us OfTerm w) terms b tt h.1 k.1)
  sound-sub t vs us w terms (elam a b) g h k =
      let (x, y) = sound-sub t vs us w types a tt h.0 k.0 in
      let (x', y') = sound-sub (lift t) (OfTerm ∷ vs) (OfTerm ∷ us) (lift-sound zs t vs us OfTerm w) terms b tt h.1 k.1 in ((x, x'), (y, y', lacks-put t b k.2))
  sound-sub t vs us w terms (xlam a b) g h k =
      let (x, y) = sound-sub t vs us w kinds a tt h.0 k.0 in
      let (x', y') = sound-sub (lift t) (OfType ∷ vs) (OfType ∷ us) (lift-sound zs t vs us OfType w) terms b tt h.1 k.1 in ((x, x'), (y, y', lacks-put t b k.2))
  sound-sub t vs us w terms (app p q) g h k = two (sound-sub t vs us w terms p tt h.0 k.0) (sound-sub t vs us w terms q tt h.1 k.1)
  sound-sub t vs us w terms (eapp p q) g h k = two (sound-sub t vs us w terms p tt h.0 k.0) (sound-sub t vs us w terms q tt h.1 k.1)
  sound-sub t vs us w terms (tapp p q) g h k = two (sound-sub t vs us w terms p tt h.0 k.0) (sound-sub t vs us w types q tt h.1 k.1)
  sound-sub t vs us w terms (bind pair_of p a) g h k = two (sound-sub t vs us w term_pairs p tt h.0 k.0) (sound-sub (lift t) (OfTerm ∷ vs) (OfTerm ∷ us) (lift-sound zs t vs us OfTerm w) types a tt h.1 k.1)
  sound-sub t vs us w terms (fst p) g h k = sound-sub t vs us w terms p tt h k
  sound-sub t vs us w terms (snd p) g h k = sound-sub t vs us w terms p tt h k
  sound-sub t vs us w terms (beta p q) g h k = two (side-sound zs t vs us w pure_terms p tt h.0) (side-sound zs t vs us w pure_terms q tt h.1)
  sound-sub t vs us w terms (binary rho_of p q) g h k = two (sound-sub t vs us w guided_proofs p tt h.0 k.0) (sound-sub t vs us w typed_terms q tt h.1 k.1)
  sound-sub t vs us w terms (binary phi_of p q) g h k = two (sound-sub t vs us w term_pairs p tt h.0 k.0) (side-sound zs t vs us w pure_terms q tt h.1)
  sound-sub t vs us w terms (delta p q) g h k = two (sound-sub t vs us w types p tt h.0 k.0) (sound-sub t vs us w terms q tt h.1 k.1)
  sound-sub t vs us w types (pi a b) g h k = two (sound-sub t vs us w types a tt h.0 k.0) (sound-sub (lift t) (OfTerm ∷ vs) (OfTerm ∷ us) (lift-sound zs t vs us OfTerm w) types b tt h.1 k.1)
  sound-sub t vs us w types (all a b) g h k = two (sound-sub t vs us w types a tt h.0 k.0) (sound-sub (lift t) (OfTerm ∷ vs) (OfTerm ∷ us) (lift-sound zs t vs us OfTerm w) types b tt h.1 k.1)
  sound-sub t vs us w types (iota a b) g h k = two (sound-sub t vs us w types a tt h.0 k.0) (sound-sub (lift t) (OfTerm ∷ vs) (OfTerm ∷ us) (lift-sound zs t vs us OfTerm w) types b tt h.1 k.1)
  sound-sub t vs us w types (allt a b) g h k = two (sound-sub t vs us w kinds a tt h.0 k.0) (sound-sub (lift t) (OfType ∷ vs) (OfType ∷ us) (lift-sound zs t vs us OfType w) types b tt h.1 k.1)
  sound-sub t vs us w types (tlam a b) g h k = two (sound-sub t vs us w types a tt h.0 k.0) (sound-sub (lift t) (OfTerm ∷ vs) (OfTerm ∷ us) (lift-sound zs t vs us OfTerm w) types b tt h.1 k.1)
  sound-sub t vs us w types (xtlam a b) g h k = two (sound-sub t vs us w kinds a tt h.0 k.0) (sound-sub (lift t) (OfType ∷ vs) (OfType ∷ us) (lift-sound zs t vs us OfType w) types b tt h.1 k.1)
  sound-sub t vs us w types (at_ p q) g h k = two (sound-sub t vs us w types p tt h.0 k.0) (sound-sub t vs us w terms q tt h.1 k.1)
  sound-sub t vs us w types (on p q) g h k = two (sound-sub t vs us w types p tt h.0 k.0) (sound-sub t vs us w types q tt h.1 k.1)
  sound-sub t vs us w types (eq p q) g h k = two (side-sound zs t vs us w pure_terms p tt h.0) (side-sound zs t vs us w pure_terms q tt h.1)
  sound-sub t vs us w kinds star g h k = (tt, tt)
  sound-sub t vs us w kinds (kpi a b) g h k = two (sound-sub t vs us w types a tt h.0 k.0) (sound-sub (lift t) (OfTerm ∷ vs) (OfTerm ∷ us) (lift-sound zs t vs us OfTerm w) kinds b tt h.1 k.1)
  sound-sub t vs us w kinds (kpit a b) g h k = two (sound-sub t vs us w kinds a tt h.0 k.0) (sound-sub (lift t) (OfType ∷ vs) (OfType ∷ us) (lift-sound zs t vs us OfType w) kinds b tt h.1 k.1)
  sound-sub t vs us w term_pairs (binary group_of p q) g h k = two (sound-sub t vs us w terms p tt h.0 k.0) (sound-sub t vs us w terms q tt h.1 k.1)
  sound-sub t vs us w typed_terms (binary group_of p q) g h k = two (sound-sub t vs us w types p tt h.0 k.0) (sound-sub t vs us w terms q tt h.1 k.1)
  sound-sub t vs us w guided_proofs (bind guide_of p q) g h k = two (sound-sub t vs us w terms p tt h.0 k.0) (guide-sound zs t vs us w q h.1)
  sound-sub t vs us w pure_terms e g h k = absurd g
  sound-sub t vs us w guides e g h k = absurd g
  sound-sub t vs us w guide_kinds e g h k = absurd g
  sound-sub t vs us w c e g h k = absurd h

  gives-one : (vs : List Sort) (y : Sort) (a : Tree) → Sound zs vs (written_class y) a → GivesSound zs (one a) (y ∷ vs) vs
  gives-one vs y a h zero x e = let k : y ≡ x = grind arith in rw (← k) h
  gives-one vs y a h (suc i) OfTerm e = (e, tt)
  gives-one vs y a h (suc i) OfType e = (e, tt)

  -- a term or a type put for the innermost variable
  pub sound-put : (vs : List Sort) (y : Sort) (a e : Tree) (c : TreeClass) → IsWritten c → Sound zs vs (written_class y) a → Sound zs (y ∷ vs) c e → Sound zs vs c (put_written 0 a e)
  sound-put vs y a e c i k h = rw (written-one a e) (sound-sub (one a) (y ∷ vs) vs (gives-one vs y a k) c e i h.0 h.1)
