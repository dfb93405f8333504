-- The laws of items: what is given for one, and for a list of them in order, is of its class, erases to the source's erasure and has a derivation.
use Rattle.std.proofs.Common.{◌≡◌, ℕ, List, [], ◌∷◌, ◌++◌, refl, sym, ap, subst, arith}
use Rattle.std.proofs.lemmas.List.{append_assoc, append-nil}
use Rattle.cdle_model.specs.Trees.{Tree}
use Rattle.cdle_model.specs.Forms.{Written, name_of}
use Rattle.cdle_model.specs.Classes.{item_sorts, IsScopedOver, AreScopedOver, AreScoped}
use Rattle.cdle_model.specs.Fitting.{ItemHasErasures, HaveErasures}
use Rattle.cdle_model.specs.Derivation.{converted, signature, IsNew, HasItem, DerivedAfter, AreDerived}
use Rattle.cdle_model.proofs.Lists.{sorts-snoc}
use Rattle.source_model.specs.Source.{data_item}
use Rattle.source_model.specs.Heights.{span_of}
use Rattle.scope_model.specs.Scoped.{ScopedItem}
use Rattle.elab_model.specs.SourceErasure.{Encodings}
use Rattle.elab_model.specs.Questions.{Env, Finding, found, rejected, spent_at, too_deep, out_of_scope, answer}
use Rattle.elab_model.specs.Soundness.{EnvSound, EncodingsFit, no_encodings}
use Rattle.elab_model.specs.ScopedForms.{s_def, s_type}
use Rattle.elab_model.specs.Items.{EraseTo, SourceItemFits, source_name, item_of_source, IsFresh, names_of, with_items, behind, found_then, items_of_source, IsItemOf, SourceItemsFit, NamesDiffer}
use Rattle.elab_model.proofs.Ensures.{Ensures, given, compared, ensures-then}
use Rattle.elab_model.proofs.Answered.{ensured}
use Rattle.elab_model.proofs.GivenSpines.{IsLike, same-kinds}
use Rattle.elab_model.proofs.GivenRules.{stars, kinded-given, kind-given, checked-given}
use Rattle.elab_model.proofs.Alike.{like-equal, fit-none}

module _ (e : Env) (f : Encodings) (g : EnvSound e) (v : AreDerived e.items) (w : EncodingsFit (item_sorts e.items) f) (R : Tree → Tree → Type 0) (like : IsLike f R) where
  pub item-ensured : (i : ScopedItem) → SourceItemFits (item_sorts e.items) i → Ensures e (IsItemOf R e f i) (item_of_source e f i)
  item-ensured (s_def s x a t) h = stars e g f w R like (span_of a) [] a (kinded-given e g f w R like [] a tt h.0) (λ b hb.
      ensures-then (checked-given e g f w R like [] t b tt h.1 hb.0) (λ u hu. given (record {
        sort = refl;
        name = refl;
        scoped = (hb.0.0, hu.0.0);
        erasures = (hb.0.1, hu.0.1);
        derived = (hb.2 (v, tt), hu.2 (v, tt) (hb.2 (v, tt)));
        erases = (hb.1, hu.1);
      })))
  item-ensured (s_type s x k a) h = ensures-then (kind-given e g f w R like [] k tt h.0) (λ l hl. ensures-then (kinded-given e g f w R like [] a tt h.1) (λ b hb.
      compared (same-kinds (item_sorts e.items) [] b.1 l hb.2 hl.0) (λ j. given (record {
        sort = refl;
        name = refl;
        scoped = (hl.0.0, hb.0.0);
        erasures = (hl.0.1, hb.0.1);
        derived = (hl.2 (v, tt), converted (hb.3 (v, tt)).0 j);
        erases = (hl.1, hb.1);
      }))))
  item-ensured (data_item s x ps cs) h = absurd h

  pub item-given : (i : ScopedItem) → SourceItemFits (item_sorts e.items) i → (n : ℕ) (x : Written) → answer e n (item_of_source e f i) ≡ found x → IsItemOf R e f i x
  item-given i h n x j = ensured g n (item-ensured i h) j

-- ---- a list of items

over-snoc : (bs es : List Written) (w : Written) → AreScopedOver bs es → IsScopedOver (bs ++ es) w → AreScopedOver bs (es ++ (w ∷ []))
over-snoc bs [] w h k = (rw (append-nil bs) at k, tt)
over-snoc bs (e ∷ es) w h k = (h.0, over-snoc (bs ++ (e ∷ [])) es w h.1 (subst (λ z. IsScopedOver z w) (sym (append_assoc bs (e ∷ []) es)) k))

erasures-snoc : (es : List Written) (w : Written) → HaveErasures es → ItemHasErasures w → HaveErasures (es ++ (w ∷ []))
erasures-snoc [] w h k = (k, tt)
erasures-snoc (e ∷ es) w h k = (h.0, erasures-snoc es w h.1 k)

derived-snoc : (bs es : List Written) (w : Written) → DerivedAfter bs es → IsNew (name_of w) (bs ++ es) → HasItem (signature (bs ++ es)) w → DerivedAfter bs (es ++ (w ∷ []))
derived-snoc bs [] w h k l = (rw (append-nil bs) at k, rw (append-nil bs) at l, tt)
derived-snoc bs (e ∷ es) w h k l = (
  h.0,
  h.1,
  derived-snoc (bs ++ (e ∷ [])) es w h.2 (subst (λ z. IsNew (name_of w) z) (sym (append_assoc bs (e ∷ []) es)) k)
      (subst (λ z. HasItem (signature z) w) (sym (append_assoc bs (e ∷ []) es)) l),
)

new-fresh : (x : List ℕ) (es : List Written) → IsFresh x (names_of es) → IsNew x es
new-fresh x [] h = tt
new-fresh x (e ∷ es) h = (h.0, new-fresh x es h.1)

names-snoc : (es : List Written) (w : Written) → names_of (es ++ (w ∷ [])) ≡ names_of es ++ (name_of w ∷ [])
names-snoc [] w = refl
names-snoc (e ∷ es) w = ap (◌∷◌ (name_of e)) (names-snoc es w)

-- what is known of the items so far with those that are given
pub record ItemsGiven (es : List Written) (is : List ScopedItem) (ws : List Written) : Type 0 where
  pub items : AreScoped (es ++ ws)
  pub erasures : HaveErasures (es ++ ws)
  pub derived : AreDerived (es ++ ws)
  pub erase : EraseTo (λ a b. a ≡ b) no_encodings is ws

found_then-is : {A B : Type 0} (x : Finding A) (k : A → Finding B) (y : B) → found_then x k ≡ found y → (z : A) × (x ≡ found z) × (k z ≡ found y)
found_then-is (found z) k y h = (z, refl, h)
found_then-is (rejected p c) k y h = absurd (grind arith)
found_then-is (spent_at p) k y h = absurd (grind arith)
found_then-is (too_deep p) k y h = absurd (grind arith)
found_then-is out_of_scope k y h = absurd (grind arith)

behind-is : (vs : List Written) (r : Finding (List Written)) (ws : List Written) → behind vs r ≡ found ws → (us : List Written) × (r ≡ found us) × (ws ≡ vs ++ us)
behind-is vs (found us) ws h = (us, refl, grind arith)
behind-is vs (rejected p c) ws h = absurd (grind arith)
behind-is vs (spent_at p) ws h = absurd (grind arith)
behind-is vs (too_deep p) ws h = absurd (grind arith)
behind-is vs out_of_scope ws h = absurd (grind arith)

pub items-given : (is : List ScopedItem) (n : ℕ) (e : Env) → EnvSound e → AreDerived e.items → SourceItemsFit (item_sorts e.items) is → NamesDiffer (names_of e.items) is
    → (ws : List Written) → items_of_source n e no_encodings is ≡ found ws → ItemsGiven e.items is ws
items-given [] n e g v h d ws i =
    let j : [] ≡ ws = grind arith in
    rw (← j) (record {
      items = subst AreScoped (sym (append-nil e.items)) g.items;
      erasures = subst HaveErasures (sym (append-nil e.items)) g.erasures;
      derived = subst AreDerived (sym (append-nil e.items)) v;
      erase = tt;
    })
items-given (s ∷ is) n e g v h d ws i =
    let (w, x, y) = found_then-is (answer e n (item_of_source e no_encodings s)) _ ws i in
    let (us, z, o) = behind-is (w ∷ []) (items_of_source n (with_items e (w ∷ [])) no_encodings is) ws y in
    let k = item-given e no_encodings g v (fit-none e) (λ a b. a ≡ b) like-equal s h.0 n w x in
    let g' : EnvSound (with_items e (w ∷ [])) = record { items = over-snoc [] e.items w g.items k.scoped; erasures = erasures-snoc e.items w g.erasures k.erasures } in
    let v' : AreDerived (e.items ++ (w ∷ [])) = derived-snoc [] e.items w v (rw k.name (new-fresh (source_name s) e.items d.0)) k.derived in
    let h' : SourceItemsFit (item_sorts (e.items ++ (w ∷ []))) is = rw (sorts-snoc e.items w, k.sort) h.1 in
    let d' : NamesDiffer (names_of (e.items ++ (w ∷ []))) is = rw (names-snoc e.items w, k.name) d.1 in
    let r = items-given is n (with_items e (w ∷ [])) g' v' h' d' us z in
    rw o (record {
      items = subst AreScoped (append_assoc e.items (w ∷ []) us) r.items;
      erasures = subst HaveErasures (append_assoc e.items (w ∷ []) us) r.erasures;
      derived = subst AreDerived (append_assoc e.items (w ∷ []) us) r.derived;
      erase = (k.erases, r.erase);
    })
