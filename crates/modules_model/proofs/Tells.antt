-- What the rules say of items that are of their classes and whose names differ: they always say something, and what they give has the items' names and sorts.
use Rattle.std.proofs.Common.{◌≡◌, ℕ, List, [], ◌∷◌, map, refl, ap, ap₂}
use Rattle.cdle_model.specs.Classes.{item_sort, item_sorts}
use Rattle.cdle_model.specs.Derivation.{AreDerived}
use Rattle.cdle_model.specs.Forms.{Written, name_of}
use Rattle.cdle_model.proofs.Lists.{sorts-snoc}
use Rattle.scope_model.specs.Scoped.{ScopedItem}
use Rattle.elab_model.specs.Items.{NamesDiffer, SourceItemsFit, behind, found_then, item_of_source, items_of_source, names_of, source_name, source_sort, with_items}
use Rattle.elab_model.specs.Questions.{Env, Finding, answer, found, rejected, spent_at, too_deep, out_of_scope}
use Rattle.elab_model.specs.Soundness.{EnvSound, no_encodings}
use Rattle.elab_model.proofs.Alike.{fit-none, like-equal}
use Rattle.elab_model.proofs.Answered.{is-answered}
use Rattle.elab_model.proofs.GivenItems.{item-ensured, item-given, items-given}
use Rattle.modules_model.proofs.Lists.{names_append}

-- what the laws of the rules ask of the items so far and of the source items behind them
pub record AreReady (e : Env) (is : List ScopedItem) : Type 0 where
  pub sound : EnvSound e
  pub derived : AreDerived e.items
  pub fit : SourceItemsFit (item_sorts e.items) is
  pub differ : NamesDiffer (names_of e.items) is

ready_next : (n : ℕ) (e : Env) (s : ScopedItem) (is : List ScopedItem) → AreReady e (s ∷ is) → (w : Written) → answer e n (item_of_source e no_encodings s) ≡ found w → AreReady (with_items e (w ∷ [])) is
ready_next n e s is r w g =
    let i = item-given e no_encodings r.sound r.derived (fit-none e) (λ a b. a ≡ b) like-equal s r.fit.0 n w g in
    let one = items-given (s ∷ []) n e r.sound r.derived (r.fit.0, tt) (r.differ.0, tt) (w ∷ []) (ap (λ x. found_then x (λ w. behind (w ∷ []) (found []))) g) in
    record {
      sound = record { items = one.items; erasures = one.erasures };
      derived = one.derived;
      fit = rw (sorts-snoc e.items w, i.sort) r.fit.1;
      differ = rw (names_append e.items (w ∷ []), i.name) r.differ.1;
    }

-- what is given has the names and the sorts of the source items, and there is always an answer
abbrev pub Tells : List ScopedItem → Finding (List Written) → Type 0
Tells is (found ws) = (names_of ws ≡ map source_name is) × (item_sorts ws ≡ map source_sort is)
Tells is (rejected p c) = Unit {0}
Tells is (spent_at p) = Unit {0}
Tells is (too_deep p) = Unit {0}
Tells is out_of_scope = ⊥

tells_behind : (s : ScopedItem) (is : List ScopedItem) (w : Written) → name_of w ≡ source_name s → item_sort w ≡ source_sort s → (r : Finding (List Written)) → Tells is r → Tells (s ∷ is) (behind (w ∷ []) r)
tells_behind s is w e f (found us) h = (ap₂ ◌∷◌ e h.0, ap₂ ◌∷◌ f h.1)
tells_behind s is w e f (rejected p c) h = tt
tells_behind s is w e f (spent_at p) h = tt
tells_behind s is w e f (too_deep p) h = tt
tells_behind s is w e f out_of_scope h = h

module _ (n : ℕ) (e : Env) (s : ScopedItem) (is : List ScopedItem) (r : AreReady e (s ∷ is)) where
  tells_first : ((w : Written) → AreReady (with_items e (w ∷ [])) is → Tells is (items_of_source n (with_items e (w ∷ [])) no_encodings is))
      → (x : Finding Written) → answer e n (item_of_source e no_encodings s) ≡ x → Tells (s ∷ is) (found_then x (λ w. behind (w ∷ []) (items_of_source n (with_items e (w ∷ [])) no_encodings is)))
  tells_first rest (found w) g =
      let i = item-given e no_encodings r.sound r.derived (fit-none e) (λ a b. a ≡ b) like-equal s r.fit.0 n w g in
      tells_behind s is w i.name i.sort (items_of_source n (with_items e (w ∷ [])) no_encodings is) (rest w (ready_next n e s is r w g))
  tells_first rest (rejected p c) g = tt
  tells_first rest (spent_at p) g = tt
  tells_first rest (too_deep p) g = tt
  tells_first rest out_of_scope g = is-answered r.sound n (item-ensured e no_encodings r.sound r.derived (fit-none e) (λ a b. a ≡ b) like-equal s r.fit.0) g

pub tells : (is : List ScopedItem) (n : ℕ) (e : Env) → AreReady e is → Tells is (items_of_source n e no_encodings is)
tells [] n e r = (refl, refl)
tells (s ∷ is) n e r = tells_first n e s is r (λ w q. tells is n (with_items e (w ∷ [])) q) (answer e n (item_of_source e no_encodings s)) refl
