-- The questions, by what is answered to them.
use Rattle.std.proofs.Common.{ℕ, Bool, Result, subst}
use Rattle.cdle_model.specs.Trees.{Tree}
use Rattle.cdle_model.specs.Comparison.{compare}
use Rattle.elab_model.specs.declared.codes.Code.{Code}
use Rattle.source_model.specs.Source.{Span}
use Rattle.elab_model.specs.Questions.{ask_same, ask_head, gives, found, by_answer, by_head, head_in}
use Rattle.elab_tree.specs.Known.{Known}
use Rattle.elab_reduce.specs.Items.{env_of}
use Rattle.elab_convert.specs.Bodies.{erased_bodies}
use Rattle.elab_rules.specs.declared.fault.Fault.{Fault}
use Rattle.elab_rules.specs.Answers.{IsFound, Meets}
use Rattle.elab_rules.proofs.Bodies.{erased_bodies_are}

pub same_meets : (k : Known) (n : ℕ) (f p : Span) (w : Code) (a b : Tree) (r : Result (Unit {0}) Fault) → IsFound (by_answer f p w (compare (erased_bodies k) n a b) (found (tt {0}))) r → Meets k n (ask_same f p w a b (gives (tt {0}))) r
unfolding Meets
same_meets k n f p w a b r h = subst (λ s. IsFound (by_answer f p w (compare s n a b) (found (tt {0}))) r) (erased_bodies_are k) h

pub head_meets : (k : Known) (n : ℕ) (f p : Span) (d : Bool) (a : Tree) (r : Result Tree Fault) → IsFound (by_head f p (head_in (env_of k) d n a) (λ h. found h)) r → Meets k n (ask_head f p d a (λ h. gives h)) r
unfolding Meets
head_meets k n f p d a r h = h
