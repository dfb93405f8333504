-- What is read off a type to tell its kind.
use Rattle.std.proofs.Common.{◌≡◌, ◌⊎◌, inl, inr, ℕ, Bool, true, false, cond, ltb, Option, Some, None, List, Ok, sym, ap, subst, ◌∙◌}
use Rattle.cdle_model.specs.Trees.{Tree}
use Rattle.cdle_model.specs.Forms.{star}
use Rattle.cdle_model.specs.Depth.{depth}
use Rattle.cdle_model.specs.HeadForms.{deepest}
use Rattle.cdle_model.specs.Derivation.{Entry, term_of, type_of}
use Rattle.source_model.specs.Source.{Span}
use Rattle.elab_model.specs.Spines.{kind_in, kind_of}
use Rattle.elab_tree.specs.Known as items
use Rattle.elab_tree.specs.declared.pure.EPure.{EPure}
use Rattle.elab_tree.specs.declared.term.EKind.{EKind}
use Rattle.elab_tree.specs.declared.term.EType.{EType}
use Rattle.elab_tree.specs.declared.term.ETypeForm.{ETypeForm}
use Rattle.elab_tree.specs.declared.term.ETypeForm.TheVariants as y
use Rattle.elab_tree.specs.Forms.{type_tree}
use Rattle.elab_model.specs.Questions.{gives, deep_at}
use Rattle.elab_reduce.specs.Items.{env_of}
use Rattle.elab_rules.specs.Answers.{Meets}
use Rattle.elab_rules.specs.Parts.{kind_known}
use Rattle.elab_rules.proofs.Steps.{given}

-- the kind that is known of a variable or an item, where it is not too deep
pub kind_is_known : (e : items.Known) (n : ℕ) (s : Span) (o : Option Entry) (k : Tree) → Meets e n (kind_known s o) (Ok k) → Meets e n (kind_in o) (Ok k)
unfolding Meets
kind_is_known e n s (Some (type_of a)) k h = by_test (ltb deepest (depth a)) h
  where
    by_test : (b : Bool) → Meets e n (cond b (deep_at s) (gives a)) (Ok k) → Meets e n (gives a) (Ok k)
    by_test true h = absurd cc
    by_test false h = h
kind_is_known e n s (Some (term_of a)) k h = h
kind_is_known e n s None k h = h

-- a form of a type whose kind is `★`
pub has_star : (e : items.Known) (n : ℕ) (w : Span) (c : List Entry) (x : ETypeForm) (t k : Tree) → type_tree x ≡ t → k ≡ star
    → (((a : EType) × (b : EType) × x ≡ y.Pi a b) ⊎ (((a : EType) × (b : EType) × x ≡ y.All a b) ⊎ (((a : EKind) × (b : EType) × x ≡ y.Allt a b) ⊎ (((a : EType) × (b : EType) × x ≡ y.Iota a b) ⊎ ((a : EPure) × (b : EPure) × x ≡ y.Eq a b)))))
    → Meets e n (kind_of (env_of e) w c t) (Ok k)
has_star e n w c x t k h s (inl (a, b, i)) = rw s (subst (λ z. Meets e n (kind_of (env_of e) w c z) (Ok star)) (ap type_tree (sym i) ∙ h) (given e n star))
has_star e n w c x t k h s (inr (inl (a, b, i))) = rw s (subst (λ z. Meets e n (kind_of (env_of e) w c z) (Ok star)) (ap type_tree (sym i) ∙ h) (given e n star))
has_star e n w c x t k h s (inr (inr (inl (a, b, i)))) = rw s (subst (λ z. Meets e n (kind_of (env_of e) w c z) (Ok star)) (ap type_tree (sym i) ∙ h) (given e n star))
has_star e n w c x t k h s (inr (inr (inr (inl (a, b, i))))) = rw s (subst (λ z. Meets e n (kind_of (env_of e) w c z) (Ok star)) (ap type_tree (sym i) ∙ h) (given e n star))
has_star e n w c x t k h s (inr (inr (inr (inr (a, b, i))))) = rw s (subst (λ z. Meets e n (kind_of (env_of e) w c z) (Ok star)) (ap type_tree (sym i) ∙ h) (given e n star))
