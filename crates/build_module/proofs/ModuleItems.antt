-- What the rules say of the items of a module whose scope is known and that has nothing unbuilt: they always say something, and what they give has its names.
use Rattle.std.proofs.Common.{◌≡◌, ℕ, List, [], ◌∷◌, ◌++◌, map, None, refl, ap, ap₂}
use Rattle.cdle_model.specs.Classes.{item_sorts}
use Rattle.cdle_model.specs.Derivation.{AreDerived}
use Rattle.cdle_model.specs.Forms.{Written, name_of}
use Rattle.cdle_model.proofs.Lists.{sorts-snoc}
use Rattle.source_model.specs.Source.{Module}
use Rattle.scope_model.specs.ItemNames.{called}
use Rattle.scope_model.specs.ScopeNames.{Text}
use Rattle.scope_model.specs.Scoped.{ScopedItem, ScopedModule}
use Rattle.scope_model.proofs.ScopedItems.{module_fits}
use Rattle.elab_model.specs.Items.{NamesDiffer, SourceItemsFit, behind, found_then, item_of_source, items_of_source, names_of, source_name, with_items}
use Rattle.elab_model.specs.Questions.{Env, Finding, answer, found, rejected, spent_at, too_deep, out_of_scope}
use Rattle.elab_model.specs.Soundness.{EnvSound, no_encodings}
use Rattle.elab_model.proofs.Alike.{fit-none, like-equal}
use Rattle.elab_model.proofs.Answered.{is-answered}
use Rattle.elab_model.proofs.GivenItems.{item-ensured, item-given, items-given}
use Rattle.build_model.specs.SourceFiles.{of_file}
use Rattle.build_model.specs.Unbuilt.{unbuilt_items}
use Rattle.build_model.proofs.FormsFit.{items_fit, none_behind}
use Rattle.build_model.proofs.Items.{names_differ}
use Rattle.build_model.proofs.SaidForms.{said_forms}
use Rattle.build_model.proofs.ScopedForms.{module_kept}
use Rattle.build_module.specs.ModuleAnswers.{IsScopedModule, first_import, nothing}

-- what the laws of the rules ask of the items so far and of the source items behind them
pub record AreReady (e : Env) (is : List ScopedItem) : Type 0 where
  pub sound : EnvSound e
  pub derived : AreDerived e.items
  pub fit : SourceItemsFit (item_sorts e.items) is
  pub differ : NamesDiffer (names_of e.items) is

names-snoc : (es : List Written) (w : Written) → names_of (es ++ (w ∷ [])) ≡ names_of es ++ (name_of w ∷ [])
names-snoc [] w = refl
names-snoc (e ∷ es) w = ap (◌∷◌ (name_of e)) (names-snoc es w)

ready_next : (n : ℕ) (e : Env) (s : ScopedItem) (is : List ScopedItem) → AreReady e (s ∷ is) → (w : Written) → answer e n (item_of_source e no_encodings s) ≡ found w → AreReady (with_items e (w ∷ [])) is
ready_next n e s is r w g =
    let i = item-given e no_encodings r.sound r.derived (fit-none e) (λ a b. a ≡ b) like-equal s r.fit.0 n w g in
    let one = items-given (s ∷ []) n e r.sound r.derived (r.fit.0, tt) (r.differ.0, tt) (w ∷ []) (ap (λ x. found_then x (λ w. behind (w ∷ []) (found []))) g) in
    record {
      sound = record { items = one.items; erasures = one.erasures };
      derived = one.derived;
      fit = rw (sorts-snoc e.items w, i.sort) r.fit.1;
      differ = rw (names-snoc e.items w, i.name) r.differ.1;
    }

-- what is given has the names of the source items, and there is always an answer
abbrev pub Tells : List ScopedItem → Finding (List Written) → Type 0
Tells is (found ws) = names_of ws ≡ map source_name is
Tells is (rejected p c) = Unit {0}
Tells is (spent_at p) = Unit {0}
Tells is (too_deep p) = Unit {0}
Tells is out_of_scope = ⊥

tells_behind : (s : ScopedItem) (is : List ScopedItem) (w : Written) → name_of w ≡ source_name s → (r : Finding (List Written)) → Tells is r → Tells (s ∷ is) (behind (w ∷ []) r)
tells_behind s is w e (found us) h = ap₂ ◌∷◌ e h
tells_behind s is w e (rejected p c) h = tt
tells_behind s is w e (spent_at p) h = tt
tells_behind s is w e (too_deep p) h = tt
tells_behind s is w e out_of_scope h = h

module _ (n : ℕ) (e : Env) (s : ScopedItem) (is : List ScopedItem) (r : AreReady e (s ∷ is)) where
  tells_first : ((w : Written) → AreReady (with_items e (w ∷ [])) is → Tells is (items_of_source n (with_items e (w ∷ [])) no_encodings is))
      → (x : Finding Written) → answer e n (item_of_source e no_encodings s) ≡ x → Tells (s ∷ is) (found_then x (λ w. behind (w ∷ []) (items_of_source n (with_items e (w ∷ [])) no_encodings is)))
  tells_first rest (found w) g =
      let i = item-given e no_encodings r.sound r.derived (fit-none e) (λ a b. a ≡ b) like-equal s r.fit.0 n w g in
      tells_behind s is w i.name (items_of_source n (with_items e (w ∷ [])) no_encodings is) (rest w (ready_next n e s is r w g))
  tells_first rest (rejected p c) g = tt
  tells_first rest (spent_at p) g = tt
  tells_first rest (too_deep p) g = tt
  tells_first rest out_of_scope g = is-answered r.sound n (item-ensured e no_encodings r.sound r.derived (fit-none e) (λ a b. a ≡ b) like-equal s r.fit.0) g

pub tells : (is : List ScopedItem) (n : ℕ) (e : Env) → AreReady e is → Tells is (items_of_source n e no_encodings is)
tells [] n e r = refl
tells (s ∷ is) n e r = tells_first n e s is r (λ w q. tells is n (with_items e (w ∷ [])) q) (answer e n (item_of_source e no_encodings s)) refl

module _ (bytes : List ℕ) (name : Text) (m : Module Text) (r : ScopedModule) (s : IsScopedModule bytes name m r) where
  -- no item of it is unbuilt
  pub all_built : unbuilt_items r.items ≡ None
  all_built = none_behind (first_import m.imports) (unbuilt_items r.items) s.built

  pub ready : AreReady nothing r.items
  ready = record {
    sound = record { items = tt; erasures = tt };
    derived = tt;
    fit = items_fit [] r.items (module_kept [] m r s.scoped (said_forms (of_file bytes name) (map (called bytes) s.is.source.tokens) m s.is.source.says)) (module_fits [] m r tt s.scoped) all_built;
    differ = names_differ [] m r s.scoped all_built;
  }
