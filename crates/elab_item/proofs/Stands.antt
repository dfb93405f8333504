-- What stands behind sound and derived items, and that the rules always say something.
use Rattle.std.proofs.Common.{◌≡◌, ℕ, List, [], ◌∷◌, ◌++◌, refl, sym, ap, subst, arith}
use Rattle.cdle_model.specs.Forms.{Written, name_of}
use Rattle.cdle_model.specs.Classes.{AreScoped, item_sorts}
use Rattle.cdle_model.specs.Derivation.{AreDerived}
use Rattle.cdle_model.specs.Fitting.{HaveErasures}
use Rattle.cdle_model.proofs.Lists.{sorts-snoc}
use Rattle.scope_model.specs.Scoped.{ScopedItem}
use Rattle.elab_model.specs.Items.{NamesDiffer, SourceItemsFit, behind, found_then, items_of_source, names_of, with_items}
use Rattle.elab_model.specs.Questions.{Env, Finding, found, rejected, spent_at, too_deep, out_of_scope}
use Rattle.elab_model.specs.Soundness.{EnvSound, no_encodings}
use Rattle.elab_model.proofs.Alike.{fit-none, like-equal}
use Rattle.elab_model.proofs.Answered.{is-answered}
use Rattle.elab_model.proofs.GivenItems.{item-ensured, item-given, items-given}
use Rattle.elab_reduce.specs.Items.{env_of, items_of}
use Rattle.elab_tree.specs.Known.{Known}
use Rattle.elab_item.specs.Given.{given_one, given_over, with_given}
use Rattle.elab_item.proofs.KnownMore.{items_more}

pub stand : (k : Known) → EnvSound (env_of k) → AreDerived (items_of k.entries) → (is : List ScopedItem) → SourceItemsFit (item_sorts (items_of k.entries)) is → NamesDiffer (names_of (items_of k.entries)) is
    → (n : ℕ) (ws : List Written) → given_over n k is ≡ found ws → EnvSound (env_of (with_given k ws)) × AreDerived (items_of (with_given k ws).entries)
stand k g v is h d n ws j =
    let r = items-given is n (env_of k) g v h d ws j in (
      record {
        items = subst AreScoped (sym (items_more k.entries ws)) r.items;
        erasures = subst HaveErasures (sym (items_more k.entries ws)) r.erasures;
      },
      subst AreDerived (sym (items_more k.entries ws)) r.derived,
    )

names-snoc : (es : List Written) (w : Written) → names_of (es ++ w ∷ []) ≡ names_of es ++ name_of w ∷ []
names-snoc [] w = refl
names-snoc (e ∷ es) w = ap (λ xs. name_of e ∷ xs) (names-snoc es w)

behind_none : (ws : List Written) (r : Finding (List Written)) → behind ws r ≡ out_of_scope → r ≡ out_of_scope
behind_none ws (found us) h = absurd (grind arith)
behind_none ws (rejected p c) h = absurd (grind arith)
behind_none ws (spent_at p) h = absurd (grind arith)
behind_none ws (too_deep p) h = absurd (grind arith)
behind_none ws out_of_scope h = refl

-- what the laws ask of the items so far and of the source items
pub record AreReady (e : Env) (is : List ScopedItem) : Type 0 where
  pub sound : EnvSound e
  pub derived : AreDerived e.items
  pub fit : SourceItemsFit (item_sorts e.items) is
  pub differ : NamesDiffer (names_of e.items) is

module _ (n : ℕ) (e : Env) (s : ScopedItem) (is : List ScopedItem) (r : AreReady e (s ∷ is)) where
  ready_next : (w : Written) → given_one n e s ≡ found w → AreReady (with_items e (w ∷ [])) is
  ready_next w g =
      let i = item-given e no_encodings r.sound r.derived (fit-none e) (λ a b. a ≡ b) like-equal s r.fit.0 n w g in
      let one = items-given (s ∷ []) n e r.sound r.derived (r.fit.0, tt) (r.differ.0, tt) (w ∷ []) (ap (λ x. found_then x (λ w. behind (w ∷ []) (found []))) g) in
      record {
        sound = record { items = one.items; erasures = one.erasures };
        derived = one.derived;
        fit = rw (sorts-snoc e.items w, i.sort) r.fit.1;
        differ = rw (names-snoc e.items w, i.name) r.differ.1;
      }

  next_answered : ((w : Written) → AreReady (with_items e (w ∷ [])) is → items_of_source n (with_items e (w ∷ [])) no_encodings is ≡ out_of_scope → ⊥)
      → (x : Finding Written) → given_one n e s ≡ x → found_then x (λ w. behind (w ∷ []) (items_of_source n (with_items e (w ∷ [])) no_encodings is)) ≡ out_of_scope → ⊥
  next_answered rest (found w) g h = rest w (ready_next w g) (behind_none (w ∷ []) _ h)
  next_answered rest (rejected p c) g h = grind arith
  next_answered rest (spent_at p) g h = grind arith
  next_answered rest (too_deep p) g h = grind arith
  next_answered rest out_of_scope g h = is-answered r.sound n (item-ensured e no_encodings r.sound r.derived (fit-none e) (λ a b. a ≡ b) like-equal s r.fit.0) g

pub answered : (is : List ScopedItem) (n : ℕ) (e : Env) → AreReady e is → items_of_source n e no_encodings is ≡ out_of_scope → ⊥
answered [] n e r h = grind arith
answered (s ∷ is) n e r h = next_answered n e s is r (λ w q g. answered is n (with_items e (w ∷ [])) q g) (given_one n e s) refl h
