-- The laws of head forms and their erasures, over a list of items.
use Rattle.std.proofs.Common.{◌≡◌, ◌⊎◌, inl, inr, ℕ, ◌+◌, Bool, false, List, refl, sym, ◌∙◌, subst, arith}
use Rattle.cdle_model.specs.declared.grammar.Sort.{Sort}
use Rattle.cdle_model.specs.Trees.{Tree}
use Rattle.cdle_model.specs.Forms.{Written}
use Rattle.cdle_model.specs.Erasure.{HasErasure, erased}
use Rattle.cdle_model.specs.Classes.{AreScoped, item_sorts, types, within}
use Rattle.cdle_model.specs.Derivation.{bodies, signature}
use Rattle.cdle_model.specs.Fitting.{HaveErasures}
use Rattle.cdle_model.specs.Machine.{Budgeted, answered, spent}
use Rattle.cdle_model.specs.HeadForms.{Halt, deep, none, HeadAnswer, value, no_value, head_step, at, head_move, head_form}
use Rattle.cdle_model.proofs.Runs.{stops}
use Rattle.elab_model.specs.HeadWritten.{written_step, all_but, all_names, head_written}
use Rattle.elab_model.specs.Unknowns.{FitsOpen}
use Rattle.elab_model.proofs.HeadChains.{Stopped, head-stopped, head-chain}
use Rattle.elab_model.proofs.HeadClasses.{chain-open}
use Rattle.elab_model.proofs.HeadErases.{HeadErases, head-erases, none-erases}
use Rattle.elab_model.proofs.DerivedBodies.{bodies-signed, bodies-sound, names-full}

module _ (ws : List Written) (g : AreScoped ws) (i : HaveErasures ws) (vs : List Sort) (t : Tree) (f : FitsOpen (within vs (item_sorts ws)) types t) (k : HasErasure t) where
  erases : (kept : ℕ → Bool) (n : ℕ) → HeadErases (bodies (signature ws)) n t (head_written (all_but kept ws) n t)
  erases kept n = head-erases (bodies (signature ws)) (all_but kept ws) (bodies-signed ws g kept) (item_sorts ws) (bodies-sound ws g i kept) vs n t (f, k)

  pub onward : (kept : ℕ → Bool) (n : ℕ) (h : Tree) (left more : ℕ) → head_written (all_but kept ws) n t ≡ answered (value h) left
      → head_form (bodies (signature ws)) (n + more) (erased t) ≡ head_form (bodies (signature ws)) (left + more) (erased h)
  onward kept n h left more e = subst (HeadErases (bodies (signature ws)) n t) e (erases kept n) more

  pub spent_too : (kept : ℕ → Bool) (n : ℕ) → head_written (all_but kept ws) n t ≡ spent → head_form (bodies (signature ws)) n (erased t) ≡ spent
  spent_too kept n e = subst (HeadErases (bodies (signature ws)) n t) e (erases kept n)

  pub by_depth : (kept : ℕ → Bool) (n : ℕ) (z : Halt) (left : ℕ) → head_written (all_but kept ws) n t ≡ answered (no_value z) left → z ≡ deep
  by_depth kept n z left e = subst (HeadErases (bodies (signature ws)) n t) e (erases kept n)

  still-head : (n : ℕ) (h : Tree) → FitsOpen (within vs (item_sorts ws)) types h → written_step (all_names ws) h ≡ none → head_form (bodies (signature ws)) n (erased h) ≡ answered (value (erased h)) n
  still-head n h x e =
      let y : head_step (bodies (signature ws)) (erased h) ≡ none = none-erases (item_sorts ws) (bodies (signature ws)) (all_names ws) (names-full ws) vs h x e in
      stops (head_move (bodies (signature ws))) (at (erased h)) (value (erased h)) (rw y refl) n

  pub exact : (n : ℕ) (h : Tree) (left : ℕ) → head_written (all_names ws) n t ≡ answered (value h) left → head_form (bodies (signature ws)) n (erased t) ≡ answered (value (erased h)) left
  exact n h left e =
      let a : head_form (bodies (signature ws)) (n + 0) (erased t) ≡ head_form (bodies (signature ws)) (left + 0) (erased h) = onward (λ m. false) n h left 0 e in
      let b : n + 0 ≡ n = omega arith in
      let d : left + 0 ≡ left = omega arith in
      let (x, y) = chain-open (item_sorts ws) (all_names ws) (bodies-sound ws g i (λ m. false)) (bodies (signature ws)) (bodies-signed ws g (λ m. false)) vs (head-chain (all_names ws) n t h left e) (f, k) in
      let (o, p) = subst (Stopped (all_names ws)) e (head-stopped (all_names ws) n t) in
      (rw (b, d) at a) ∙ still-head left h x o

  pub found : (n : ℕ) (b : Tree) (left : ℕ) → head_form (bodies (signature ws)) n (erased t) ≡ answered (value b) left
      → ((h : Tree) × (head_written (all_names ws) n t ≡ answered (value h) left) × (erased h ≡ b)) ⊎ ((more : ℕ) × (head_written (all_names ws) n t ≡ answered (no_value deep) more))
  found n b left e = by_outcome (head_written (all_names ws) n t) refl
    where
      by_outcome : (o : Budgeted HeadAnswer) → head_written (all_names ws) n t ≡ o
          → ((h : Tree) × (head_written (all_names ws) n t ≡ answered (value h) left) × (erased h ≡ b)) ⊎ ((more : ℕ) × (head_written (all_names ws) n t ≡ answered (no_value deep) more))
      by_outcome (answered (value h) more) x =
          let y : answered (value (erased h)) more ≡ answered (value b) left = sym (exact n h more x) ∙ e in
          let z : more ≡ left = cc in
          inl (h, rw z at x, cc)
      by_outcome (answered (no_value z) more) x = let y : z ≡ deep = by_depth (λ m. false) n z more x in inr (more, rw y at x)
      by_outcome spent x = let y : spent ≡ answered (value b) left = sym (spent_too (λ m. false) n x) ∙ e in absurd cc
