-- What source items give behind others.
use Rattle.std.proofs.Common.{◌≡◌, ℕ, List, [], ◌∷◌, ◌++◌, refl, sym, ap, ◌∙◌}
use Rattle.std.proofs.lemmas.List.{append-nil}
use Rattle.cdle_model.specs.Forms.{Written}
use Rattle.scope_model.specs.Scoped.{ScopedItem, ScopedModule}
use Rattle.elab_model.specs.Items.{behind, found_then, items_of_source, with_items}
use Rattle.elab_model.specs.Questions.{Env, Finding, found, rejected, spent_at, too_deep, out_of_scope}
use Rattle.elab_model.specs.Soundness.{no_encodings}
use Rattle.elab_model.proofs.ModuleItems.{modules-are}
use Rattle.elab_item.specs.Given.{given_one}

nothing_behind : (r : Finding (List Written)) → found_then r (λ us. found (us ++ [])) ≡ r
nothing_behind (found us) = ap found (append-nil us)
nothing_behind (rejected p c) = refl
nothing_behind (spent_at p) = refl
nothing_behind (too_deep p) = refl
nothing_behind out_of_scope = refl

abbrev with_these : List ScopedItem → ScopedModule
with_these is = record { first = 0; items = is }

module _ (n : ℕ) (e : Env) (is : List ScopedItem) (ws : List Written) (h : items_of_source n e no_encodings is ≡ found ws) where
  following : (js : List ScopedItem) → items_of_source n e no_encodings (is ++ js) ≡ behind ws (items_of_source n (with_items e ws) no_encodings js)
  following js =
      ap (λ ks. items_of_source n e no_encodings (is ++ ks)) (sym (append-nil js))
      ∙ sym (modules-are n e no_encodings (with_these is ∷ with_these js ∷ []))
      ∙ ap (λ r. found_then r (λ us. behind us (found_then (items_of_source n (with_items e us) no_encodings js) (λ vs. found (vs ++ []))))) h
      ∙ ap (behind ws) (nothing_behind (items_of_source n (with_items e ws) no_encodings js))

  -- the next item, by what it gives
  pub next_is : (i : ScopedItem) (js : List ScopedItem) (x : Finding Written) → given_one n (with_items e ws) i ≡ x
      → items_of_source n e no_encodings (is ++ i ∷ js) ≡ behind ws (found_then x (λ w. behind (w ∷ []) (items_of_source n (with_items (with_items e ws) (w ∷ [])) no_encodings js)))
  next_is i js x g = following (i ∷ js) ∙ ap (λ y. behind ws (found_then y (λ w. behind (w ∷ []) (items_of_source n (with_items (with_items e ws) (w ∷ [])) no_encodings js)))) g
