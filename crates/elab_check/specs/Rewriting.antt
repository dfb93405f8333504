-- `ρ`, once its proof is found: the proof with the sides of its equation.
use Rattle.std.specs.Prelude.{List, Option, cond}
use Rattle.cdle_model.specs.Trees.{Tree, put}
use Rattle.cdle_model.specs.Forms.{rho}
use Rattle.cdle_model.specs.Derivation.{Entry}
use Rattle.source_model.specs.Source.{Span}
use Rattle.source_model.specs.Heights.{span_of}
use Rattle.scope_model.specs.Scoped.{Scoped}
use Rattle.elab_model.specs.declared.codes.Code.TheVariants.{AnnotationWanted, SidesDiffer}
use Rattle.elab_model.specs.ScopedForms.{letter}
use Rattle.elab_model.specs.Questions.{Env, Questions, rejects, then, limited}
use Rattle.elab_model.specs.Rules.{by_goal, check, erase, gives_checked, gives_inferred, infer, is_equation, term}
use Rattle.elab_model.specs.Soundness.{no_encodings}
use Rattle.elab_model.specs.Spines.{Made}
use Rattle.elab_rules.specs.Equations.{is_said, rewritten_from, said_of}

-- a proof with the sides of its equation
abbrev pub Proof : Type 0
Proof = Tree × (Tree × Tree)

module _ (e : Env) (c : List Entry) (s : Span) (t : Scoped) where
  -- by a guide d that is written as an equation: t is checked against what it says of the right side
  abbrev pub along_equation : Option Tree → Proof → Tree → Questions Made
  along_equation g p d =
      then (said_of s (by_goal g (put 0 p.1.0 d) (λ a. a)) d p.1.0) (λ b.
      then (limited s (put 0 p.1.1 d)) (λ b'.
      then (check e no_encodings c t (term e no_encodings c t) b') (λ t.
      by_goal g (gives_inferred s (rho p.0 d b t) b) (λ a. gives_checked s (rho p.0 d a t)))))

  -- by another guide d against the type a: t is inferred
  abbrev pub along_guide : Tree → Proof → Tree → Questions Made
  along_guide a p d =
      then (is_said s (letter s) SidesDiffer a d p.1.0) (λ _.
      then (infer e no_encodings c t (term e no_encodings c t)) (λ z.
      rewritten_from s (span_of t) p d a z))

-- by the guide d as it is written
abbrev pub rewrites : Env → List Entry → Span → Scoped → Scoped → Option Tree → Proof → Questions Made
rewrites e c s d t g p = cond (is_equation d)
    (then (erase e no_encodings d) (along_equation e c s t g p))
    (by_goal g (rejects (letter s) AnnotationWanted) (λ a. then (erase e no_encodings d) (along_guide e c s t a p)))
