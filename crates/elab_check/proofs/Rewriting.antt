-- How the rule of `ρ` falls apart: the proof with its sides, and what follows by the guide.
use Rattle.std.proofs.Common.{◌≡◌, ℕ, Bool, true, false, cond, ltb, List, Option, Some, None, Result, Ok, Err, refl, subst, ◌∙◌}
use Rattle.cdle_model.specs.Trees.{eq_of, app_of, eapp_of, tapp_of, group_of, beta_of, rho_of, phi_of, delta_of, Tree, put, var, name, leaf, unary, fun, apply, binary, bind}
use Rattle.cdle_model.specs.Depth.{depth}
use Rattle.cdle_model.specs.Erasure.{erased}
use Rattle.cdle_model.specs.Forms.{rho}
use Rattle.cdle_model.specs.HeadForms.{deepest}
use Rattle.cdle_model.specs.Derivation.{Entry}
use Rattle.source_model.specs.Source.{Span}
use Rattle.source_model.specs.Heights.{span_of}
use Rattle.scope_model.specs.Scoped.{Scoped}
use Rattle.elab_model.specs.declared.codes.Code.TheVariants.{AnnotationWanted, SidesDiffer, WantedEquation}
use Rattle.elab_model.specs.ScopedForms.{letter, s_rho}
use Rattle.elab_model.specs.Questions.{Env, Questions, gives, rejects, deep_at, ask_same, ask_head, then, unless_deep, limited}
use Rattle.elab_model.specs.Rules.{by_goal, check, equation_then, erase, gives_checked, gives_inferred, infer, is_equation, proof_then, term}
use Rattle.elab_model.specs.Soundness.{no_encodings}
use Rattle.elab_model.specs.Spines.{Typed, Made, equation_parts}
use Rattle.elab_tree.specs.Known.{Known}
use Rattle.elab_rules.specs.declared.fault.Fault.{Fault}
use Rattle.elab_rules.specs.Answers.{Meets}
use Rattle.elab_rules.specs.Equations.{is_said, rewritten_from, said_of}
use Rattle.elab_rules.proofs.Steps.{goes_on, ends}
use Rattle.elab_check.specs.Rewriting.{Proof, along_equation, along_guide, rewrites}
use Rattle.elab_check.proofs.Chains.{then_then, cond_then}

module _ {A B : Type 0} (k : A → Questions B) where
  -- the sides of an equation, and what follows
  sides_then : (h : Tree) (g : Tree → Tree → Questions A) (r : Questions A) → then (equation_parts h g r) k ≡ equation_parts h (λ a b. then (g a b) k) (then r k)
  sides_then (binary eq_of p q) g r = refl
  sides_then (binary app_of p q) g r = refl
  sides_then (binary eapp_of p q) g r = refl
  sides_then (binary tapp_of p q) g r = refl
  sides_then (binary group_of p q) g r = refl
  sides_then (binary beta_of p q) g r = refl
  sides_then (binary rho_of p q) g r = refl
  sides_then (binary phi_of p q) g r = refl
  sides_then (binary delta_of p q) g r = refl
  sides_then (var i) g r = refl
  sides_then (name i) g r = refl
  sides_then (leaf l) g r = refl
  sides_then (unary j p) g r = refl
  sides_then (fun c p) g r = refl
  sides_then (apply c p q) g r = refl
  sides_then (bind f a b) g r = refl

  pub equation_falls : (s p : Span) (a : Tree) (g : Tree → Tree → Questions A) → then (equation_then s p a g) k ≡ equation_then s p a (λ x y. then (g x y) k)
  equation_falls s p a g = λ i. ask_head s p false a (λ h. sides_then h g (rejects p WantedEquation) i)

-- the sides of the equation that a head form is, and what follows
module _ {A : Type 0} (s p : Span) (a : Tree) (k : Tree → Tree → Questions A) where
  pub equation_on : (e : Known) (n : ℕ) (x : Typed) (r : Result A Fault) → Meets {A = Typed} e n (equation_then s p a (λ x y. gives (x, y))) (Ok x) → Meets e n (k x.0 x.1) r → Meets e n (equation_then s p a k) r
  equation_on e n x r h g = subst (λ z. Meets e n z r) (equation_falls (λ (x : Typed). k x.0 x.1) s p a (λ x y. gives (x, y))) (goes_on e n (equation_then s p a (λ x y. gives (x, y))) (λ (x : Typed). k x.0 x.1) x r h g)

  pub equation_ends : (e : Known) (n : ℕ) (d : Fault) → Meets {A = Typed} e n (equation_then s p a (λ x y. gives (x, y))) (Err d) → Meets e n (equation_then s p a k) (Err d)
  equation_ends e n d h = subst (λ z. Meets e n z (Err d)) (equation_falls (λ (x : Typed). k x.0 x.1) s p a (λ x y. gives (x, y))) (ends e n (equation_then s p a (λ x y. gives (x, y))) (λ (x : Typed). k x.0 x.1) d h)

module _ (e : Env) (c : List Entry) (s : Span) where
  -- the proof of an equation with its sides, and what follows
  abbrev pub proof_of : Scoped → Questions Proof
  proof_of q = proof_then e no_encodings s c q (term e no_encodings c q) (λ q x y. gives (q, (x, y)))

  pub proof_falls : (q : Scoped) (k : Proof → Questions Made) → then (proof_of q) k ≡ proof_then e no_encodings s c q (term e no_encodings c q) (λ q x y. k (q, (x, y)))
  proof_falls q k =
      then_then (λ (x : Typed). equation_then s (span_of q) x.1 (λ a b. gives (x.0, (a, b)))) k (infer e no_encodings c q (term e no_encodings c q))
      ∙ (λ i. then (infer e no_encodings c q (term e no_encodings c q)) (λ (x : Typed). equation_falls k s (span_of q) x.1 (λ a b. gives (x.0, (a, b))) i))

  module _ (t : Scoped) where
    -- by a guide that is written as an equation
    by_equation : (g : Option Tree) (p : Proof) (d : Tree) → along_equation e c s t g p d
        ≡ unless_deep s (put 0 p.1.0 d) (ask_same s (letter s) SidesDiffer (erased (by_goal g (put 0 p.1.0 d) (λ a. a))) (put 0 p.1.0 d)
        (unless_deep s (put 0 p.1.1 d) (then (check e no_encodings c t (term e no_encodings c t) (put 0 p.1.1 d)) (λ t.
        by_goal g (gives_inferred s (rho p.0 d (put 0 p.1.0 d) t) (put 0 p.1.0 d)) (λ a. gives_checked s (rho p.0 d a t))))))
    by_equation g p d =
        let L : Tree → Tree → Questions Made = λ b b'. then (check e no_encodings c t (term e no_encodings c t) b') (λ t. by_goal g (gives_inferred s (rho p.0 d b t) b) (λ a. gives_checked s (rho p.0 d a t))) in
        let K : Tree → Questions Made = λ b. then (limited s (put 0 p.1.1 d)) (L b) in
        cond_then K (ltb deepest (depth (put 0 p.1.0 d))) (deep_at s) (ask_same s (letter s) SidesDiffer (erased (by_goal g (put 0 p.1.0 d) (λ a. a))) (put 0 p.1.0 d) (gives (put 0 p.1.0 d)))
        ∙ (λ i. unless_deep s (put 0 p.1.0 d) (ask_same s (letter s) SidesDiffer (erased (by_goal g (put 0 p.1.0 d) (λ a. a))) (put 0 p.1.0 d)
        (cond_then (L (put 0 p.1.0 d)) (ltb deepest (depth (put 0 p.1.1 d))) (deep_at s) (gives (put 0 p.1.1 d)) i)))

    -- by another guide
    by_guide : (a : Tree) (p : Proof) (d : Tree) → along_guide e c s t a p d
        ≡ unless_deep s (put 0 p.1.0 d) (ask_same s (letter s) SidesDiffer (erased a) (put 0 p.1.0 d) (then (infer e no_encodings c t (term e no_encodings c t)) (λ z. rewritten_from s (span_of t) p d a z)))
    by_guide a p d = cond_then (λ _. then (infer e no_encodings c t (term e no_encodings c t)) (λ z. rewritten_from s (span_of t) p d a z)) (ltb deepest (depth (put 0 p.1.0 d))) (deep_at s) (ask_same s (letter s) SidesDiffer (erased a) (put 0 p.1.0 d) (gives (tt {0})))

    pub rewriting_falls : (r w : Span) (q d : Scoped) (g : Option Tree) → then (proof_of q) (rewrites e c s d t g) ≡ term e no_encodings c (s_rho s r (tt {0}) q d t) g w
    rewriting_falls r w q d g =
        proof_falls q (rewrites e c s d t g)
        ∙ (λ i. proof_then e no_encodings s c q (term e no_encodings c q) (λ q x y. cond (is_equation d)
        (then (erase e no_encodings d) (λ b. by_equation g (q, (x, y)) b i))
        (by_goal g (rejects (letter s) AnnotationWanted) (λ a. then (erase e no_encodings d) (λ b. by_guide a (q, (x, y)) b i)))))
