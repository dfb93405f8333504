-- The answers of erasures, one after the other.
use Rattle.std.proofs.Common.{◌≡◌, ◌⊎◌, inl, inr, ℕ, Result, Ok, Err, sym, subst}
use Rattle.cdle_model.specs.Trees.{Tree}
use Rattle.source_model.specs.Source.{Span, bind}
use Rattle.scope_model.specs.Scoped.{Scoped}
use Rattle.elab_model.specs.ScopedForms.{s_elam}
use Rattle.elab_model.specs.Questions.{Questions, then, limited}
use Rattle.elab_model.specs.Rules.{erase}
use Rattle.elab_model.specs.Soundness.{no_encodings}
use Rattle.scoped_tree.specs.declared.forms.BindForm.{BindForm}
use Rattle.scoped_tree.specs.declared.forms.BindForm.TheVariants.{Elam, Xlam, Unclassed}
use Rattle.scoped_tree.specs.Trees.{bind_form}
use Rattle.elab_tree.specs.Known.{Known}
use Rattle.elab_reduce.specs.Items.{env_of}
use Rattle.elab_rules.specs.declared.fault.Fault.{Fault}
use Rattle.elab_rules.specs.Answers.{Meets}
use Rattle.elab_rules.proofs.Steps.{goes_on, ends}

module _ (e : Known) (n : ℕ) where
  abbrev pub erasing : Scoped → Questions Tree
  erasing t = erase (env_of e) no_encodings t

  -- along a path of nodes
  pub erased_along : (t u : Scoped) (r : Result Tree Fault) → t ≡ u → Meets e n (erasing t) r → Meets e n (erasing u) r
  erased_along t u r h m = subst (λ z. Meets e n (erasing z) r) h m

  -- an abstraction whose variable is erased, of any class
  pub erased_binder : (s : Span) (a t : Scoped) (x : BindForm) (r : Result Tree Fault) → ((x ≡ Elam) ⊎ ((x ≡ Xlam) ⊎ (x ≡ Unclassed)))
      → Meets e n (erasing (s_elam s (tt {0}) a t)) r → Meets e n (erasing (bind s (bind_form x) (tt {0}) a t)) r
  erased_binder s a t x r (inl h) m = subst (λ z. Meets e n (erasing (bind s (bind_form z) (tt {0}) a t)) r) (sym h) m
  erased_binder s a t x r (inr (inl h)) m = subst (λ z. Meets e n (erasing (bind s (bind_form z) (tt {0}) a t)) r) (sym h) m
  erased_binder s a t x r (inr (inr h)) m = subst (λ z. Meets e n (erasing (bind s (bind_form z) (tt {0}) a t)) r) (sym h) m

  -- two parts, and what is made of their erasures
  module _ (s : Span) (k : Tree → Tree → Tree) (t u : Scoped) where
    abbrev both : Questions Tree
    both = then (erasing t) (λ p. then (erasing u) (λ q. limited s (k p q)))

    pub first_ends : (d : Fault) → Meets e n (erasing t) (Err d) → Meets e n both (Err d)
    first_ends d m = ends e n (erasing t) (λ p. then (erasing u) (λ q. limited s (k p q))) d m

    pub second_ends : (p : Tree) (d : Fault) → Meets e n (erasing t) (Ok p) → Meets e n (erasing u) (Err d) → Meets e n both (Err d)
    second_ends p d m l = goes_on e n (erasing t) (λ p. then (erasing u) (λ q. limited s (k p q))) p (Err d) m (ends e n (erasing u) (λ q. limited s (k p q)) d l)

    pub both_on : (p q : Tree) (r : Result Tree Fault) → Meets e n (erasing t) (Ok p) → Meets e n (erasing u) (Ok q) → Meets e n (limited s (k p q)) r → Meets e n both r
    both_on p q r m l g = goes_on e n (erasing t) (λ p. then (erasing u) (λ q. limited s (k p q))) p r m (goes_on e n (erasing u) (λ q. limited s (k p q)) q r l g)

  -- one part, and what follows
  module _ (t : Scoped) (k : Tree → Questions Tree) where
    pub part_ends : (d : Fault) → Meets e n (erasing t) (Err d) → Meets e n (then (erasing t) k) (Err d)
    part_ends d m = ends e n (erasing t) k d m

    pub part_on : (p : Tree) (r : Result Tree Fault) → Meets e n (erasing t) (Ok p) → Meets e n (k p) r → Meets e n (then (erasing t) k) r
    part_on p r m l = goes_on e n (erasing t) k p r m l
