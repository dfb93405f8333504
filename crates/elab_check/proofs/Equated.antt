-- The rules of pairs, `φ` and `δ`, by the steps of the code.
use Rattle.std.proofs.Common.{◌≡◌, List, Option, Some, cond, ltb}
use Rattle.cdle_model.specs.Trees.{Tree, iota_of}
use Rattle.cdle_model.specs.Depth.{depth}
use Rattle.cdle_model.specs.Derivation.{Entry}
use Rattle.cdle_model.specs.Forms.{delta, phi}
use Rattle.cdle_model.specs.HeadForms.{deepest}
use Rattle.cdle_model.specs.Substitution.{put_written}
use Rattle.source_model.specs.Source.{Span}
use Rattle.source_model.specs.Heights.{is_none}
use Rattle.scope_model.specs.Scoped.{Scoped}
use Rattle.elab_model.specs.declared.codes.Code.TheVariants.{AnnotationWanted, WantedIntersection}
use Rattle.elab_model.specs.ScopedForms.{bracket, letter, s_delta, s_pair}
use Rattle.elab_model.specs.Questions.{Env, Questions, deep_at, gives, limited, rejects, then}
use Rattle.elab_model.specs.Rules.{binder_then, by_goal, check, erase, gives_checked, gives_inferred, infer, star_then, term, type}
use Rattle.elab_model.specs.Soundness.{no_encodings}
use Rattle.elab_model.specs.Spines.{Made, Typed}
use Rattle.elab_rules.specs.Equations.{are_booleans, are_sides, paired}
use Rattle.elab_check.specs.Rewriting.{Proof}
use Rattle.elab_check.proofs.Chains.{cond_then}
use Rattle.elab_check.proofs.Rewriting.{proof_of, proof_falls}

module _ (e : Env) (c : List Entry) (s : Span) where
  -- the second part of a pair, behind the first; and both
  abbrev pub second_checked : Scoped → Tree → Tree → Questions Made
  second_checked u t b = then (limited s (put_written 0 t b)) (λ b'. then (check e no_encodings c u (term e no_encodings c u) b') (λ u. paired s t u b))

  abbrev pub pair_checked : Scoped → Scoped → Tree → Tree → Questions Made
  pair_checked t u a b = then (check e no_encodings c t (term e no_encodings c t) a) (λ t. second_checked u t b)

  pub pair_falls : (t u : Scoped) (a : Tree) (w : Span) → binder_then s (bracket s) WantedIntersection iota_of a (pair_checked t u) ≡ term e no_encodings c (s_pair s t u) (Some a) w
  pair_falls t u a w = λ i. binder_then s (bracket s) WantedIntersection iota_of a (λ a b. then (check e no_encodings c t (term e no_encodings c t) a) (λ t.
      cond_then (λ b'. then (check e no_encodings c u (term e no_encodings c u) b') (λ u. paired s t u b)) (ltb deepest (depth (put_written 0 t b))) (deep_at s) (gives (put_written 0 t b)) i))

  -- `φ`, once its proof is found
  abbrev pub casts : Scoped → Scoped → Option Tree → Proof → Questions Made
  casts t p g x = by_goal g
      (then (infer e no_encodings c t (term e no_encodings c t)) (λ z. then (erase e no_encodings p) (λ k. then (are_sides s x.1 z.0 k) (λ _. gives_inferred s (phi x.0 z.0 k) z.1))))
      (λ a. then (check e no_encodings c t (term e no_encodings c t) a) (λ t. then (erase e no_encodings p) (λ k. then (are_sides s x.1 t k) (λ _. gives_checked s (phi x.0 t k)))))

  -- `δ` whose type is left out, and whose type is written
  abbrev pub absurd_by_goal : Scoped → Option Tree → Questions Made
  absurd_by_goal q g = by_goal g (rejects (letter s) AnnotationWanted) (λ a. then (proof_of e c s q) (λ p. then (are_booleans s p.1) (λ _. gives_checked s (delta a p.0))))

  abbrev pub absurd_of : Scoped → Scoped → Questions Made
  absurd_of a q = star_then s a (type e no_encodings c a) (λ a. then (proof_of e c s q) (λ p. then (are_booleans s p.1) (λ _. gives_inferred s (delta a p.0) a)))

  pub absurd_falls : (a q : Scoped) (g : Option Tree) (w : Span) → cond (is_none a) (absurd_by_goal q g) (absurd_of a q) ≡ term e no_encodings c (s_delta s a q) g w
  absurd_falls a q g w = λ i. cond (is_none a)
      (by_goal g (rejects (letter s) AnnotationWanted) (λ b. proof_falls e c s q (λ p. then (are_booleans s p.1) (λ _. gives_checked s (delta b p.0))) i))
      (star_then s a (type e no_encodings c a) (λ b. proof_falls e c s q (λ p. then (are_booleans s p.1) (λ _. gives_inferred s (delta b p.0) b)) i))
