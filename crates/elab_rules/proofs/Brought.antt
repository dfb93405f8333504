-- How the turns in which a spine is brought to its head form lead to its end.
use Rattle.std.proofs.Common.{◌≡◌, ℕ, suc, Bool, true, false, cond, Option, Some, None, Ok, Err, refl, sym, ap, ◌∙◌, subst}
use Rattle.cdle_model.specs.Trees.{allt_of, Tree}
use Rattle.source_model.specs.Source.{Span}
use Rattle.elab_model.specs.Questions.{Questions, Finding, found, rejected, spent_at, too_deep, out_of_scope, gives, then, answer, head_in}
use Rattle.elab_model.specs.Items.{found_then}
use Rattle.elab_model.specs.Spines.{Spine, binder_parts, brought, leaves_out}
use Rattle.elab_tree.specs.Known.{Known}
use Rattle.elab_reduce.specs.Items.{env_of}
use Rattle.scoped_tree.specs.Trees.{place}
use Rattle.cdle_names.specs.declared.Span as names
use Rattle.elab_rules.specs.declared.fault.Fault.{Fault}
use Rattle.elab_rules.specs.declared.fault.Fault.TheVariants as f
use Rattle.elab_rules.specs.Answers.{IsFound, Meets}
use Rattle.elab_rules.specs.Arguments.{parts_of, with_made, further, turn}
use Rattle.elab_rules.proofs.Steps.{answer_then, ends}
use Rattle.elab_rules.proofs.Taking.{has_parts, has_none, head_alike}

module _ (e : Known) (n : ℕ) (w : Span) (typed : Bool) where
  -- what follows a turn
  rest : ℕ → Bool × Spine → Questions Spine
  rest m x = cond x.0 (gives x.1) (brought m w typed x.1)

  through : (m : ℕ) (o : Finding Spine) → found_then o (λ s. answer (env_of e) n (brought m w typed s)) ≡ found_then (found_then o (λ s. found (false, s))) (λ x. answer (env_of e) n (rest m x))
  unfolding rest
  through m (found s) = refl
  through m (rejected p c) = refl
  through m (spent_at p) = refl
  through m (too_deep p) = refl
  through m out_of_scope = refl

  -- a type is left out, and then the other turns follow
  left-out : (m : ℕ) (q : Questions Spine) → answer (env_of e) n (then q (brought m w typed)) ≡ answer (env_of e) n (then (then q (λ s. gives (false, s))) (rest m))
  unfolding rest
  left-out m q =
      answer_then (env_of e) n q (brought m w typed) ∙ through m (answer (env_of e) n q)
      ∙ ap (λ z. found_then z (λ x. answer (env_of e) n (rest m x))) (sym (answer_then (env_of e) n q (λ s. gives (false, s))))
      ∙ sym (answer_then (env_of e) n (then q (λ s. gives (false, s))) (rest m))

  further-then : (m : ℕ) (r : Spine) → answer (env_of e) n (binder_parts allt_of r.type (λ k b. then (leaves_out w r k b) (brought m w typed)) (gives r)) ≡ answer (env_of e) n (then (further w r) (rest m))
  unfolding rest
  further-then m r = by_parts (parts_of allt_of r.type) refl
    where
      by_parts : (o : Option (Tree × Tree)) → parts_of allt_of r.type ≡ o
          → answer (env_of e) n (binder_parts allt_of r.type (λ k b. then (leaves_out w r k b) (brought m w typed)) (gives r)) ≡ answer (env_of e) n (then (further w r) (rest m))
      by_parts (Some p) h =
          ap (answer (env_of e) n) (has_parts allt_of r.type p.0 p.1 (λ k b. then (leaves_out w r k b) (brought m w typed)) (gives r) h)
          ∙ left-out m (leaves_out w r p.0 p.1)
          ∙ ap (λ z. answer (env_of e) n (then z (rest m))) (sym (has_parts allt_of r.type p.0 p.1 (λ k b. then (leaves_out w r k b) (λ s. gives (false, s))) (gives (true, r)) h))
      by_parts None h =
          ap (answer (env_of e) n) (has_none allt_of r.type (λ k b. then (leaves_out w r k b) (brought m w typed)) (gives r) h)
          ∙ ap (λ z. answer (env_of e) n (then z (rest m))) (sym (has_none allt_of r.type (λ k b. then (leaves_out w r k b) (λ s. gives (false, s))) (gives (true, r)) h))

  by-typed : (t : Bool) (m : ℕ) (r : Spine) → typed ≡ t → answer (env_of e) n (cond t (gives r) (binder_parts allt_of r.type (λ k b. then (leaves_out w r k b) (brought m w typed)) (gives r)))
      ≡ answer (env_of e) n (then (cond t (gives (true, r)) (further w r)) (rest m))
  unfolding rest
  by-typed true m r h = refl
  by-typed false m r h = further-then m r

  turned : (m : ℕ) (s : Spine) → answer (env_of e) n (brought (suc m) w typed s) ≡ answer (env_of e) n (then (turn w typed s) (rest m))
  unfolding rest
  turned m s = head_alike w s.head (head_in (env_of e) false n s.type) _ _ (λ b. by-typed typed m (with_made s s.term b) refl)

  -- so many turns from this spine answer as so many from that one
  pub Toward : ℕ → Spine → ℕ → Spine → Type 0
  Toward m s k r = answer (env_of e) n (brought m w typed s) ≡ answer (env_of e) n (brought k w typed r)

  pub starts : (m k : ℕ) (s : Spine) → m ≡ k → Toward m s k s
  unfolding Toward
  starts m k s h = ap (λ z. answer (env_of e) n (brought z w typed s)) h

  -- a turn after which there are others, one after which the spine is brought, and one that ends
  pub turns_on : (m i k : ℕ) (s t r : Spine) (b : Bool) → m ≡ suc i → b ≡ false → Meets e n (turn w typed s) (Ok (b, t)) → Toward m s k r → Toward i t k r
  unfolding Toward Meets rest
  turns_on m i k s t r b h g l o =
      sym (ap (λ z. answer (env_of e) n (brought z w typed s)) h ∙ turned i s ∙ answer_then (env_of e) n (turn w typed s) (rest i) ∙ ap (λ z. found_then z (λ x. answer (env_of e) n (rest i x))) l
      ∙ ap (λ z. answer (env_of e) n (rest i (z, t))) g)
      ∙ o

  pub comes : (m i k : ℕ) (s t r : Spine) (b : Bool) → m ≡ suc i → b ≡ true → Meets e n (turn w typed s) (Ok (b, t)) → Toward m s k r → Meets e n (brought k w typed r) (Ok t)
  unfolding Toward Meets rest
  comes m i k s t r b h g l o =
      sym o ∙ ap (λ z. answer (env_of e) n (brought z w typed s)) h ∙ turned i s ∙ answer_then (env_of e) n (turn w typed s) (rest i) ∙ ap (λ z. found_then z (λ x. answer (env_of e) n (rest i x))) l
      ∙ ap (λ z. answer (env_of e) n (rest i (z, t))) g

  pub stops : (m i k : ℕ) (s r : Spine) (d : Fault) → m ≡ suc i → Meets e n (turn w typed s) (Err d) → Toward m s k r → Meets e n (brought k w typed r) (Err d)
  unfolding Toward Meets
  stops m i k s r d h l o = subst (λ (z : Finding Spine). IsFound z (Err d)) (sym (sym o ∙ ap (λ z. answer (env_of e) n (brought z w typed s)) h ∙ turned i s)) (ends e n (turn w typed s) (rest i) d l)

  -- no turn is left
  pub runs_out : (m k : ℕ) (s r : Spine) (q : names.Span) → m ≡ 0 → place q ≡ w → Toward m s k r → Meets e n (brought k w typed r) (Err (f.TooDeep q))
  unfolding Toward Meets
  runs_out m k s r q h g o = sym o ∙ ap (λ z. answer (env_of e) n (brought z w typed s)) h ∙ ap too_deep (sym g)
