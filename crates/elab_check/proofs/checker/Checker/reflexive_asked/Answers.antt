use Rattle.std.proofs.Common.{Option, ap, sym}
use Rattle.std.specs.Borrow.{Bor}
use Rattle.cdle_model.specs.Trees.{Tree}
use Rattle.elab_model.specs.declared.codes.Code.TheVariants.{AnnotationWanted}
use Rattle.elab_model.specs.Questions.{rejects, then}
use Rattle.elab_model.specs.Rules.{by_goal, equation_then, erase}
use Rattle.elab_model.specs.ScopedForms.{letter}
use Rattle.elab_model.specs.Soundness.{no_encodings}
use Rattle.elab_model.specs.Spines.{Made}
use Rattle.elab_reduce.specs.Items.{env_of}
use Rattle.elab_rules.specs.declared.place.At.TheVariants.{Letter}
use Rattle.elab_rules.specs.Equations.{reflexive_against}
use Rattle.scoped_tree.specs.Trees.{place}
use Rattle.elab_check.specs.Forms.{seen_goal}
use Rattle.elab_check.proofs.Chains.{along, refused}
use Rattle.elab_check.proofs.checker.Checker.reflexive_asked.Goals as goal

pub returns-in-Some : goal.returns-in-Some
returns-in-Some c = along c.args.self.now.rules.env.now c.args.self.now.rules.budget _ _ _ (ap (λ (z : Option (Bor Tree)). (by_goal (seen_goal z) (rejects (letter (place c.args.span)) AnnotationWanted) (λ (a : Tree). equation_then (place c.args.span) (letter (place c.args.span)) a (λ (x y : Tree). then (erase (env_of c.args.self.now.rules.env.now) no_encodings c.args.kept.now) (λ (k : Tree). reflexive_against (place c.args.span) (x, y) k))))) (sym c.in-Some.is)) c.reflexive_against.ensures

pub returns-in-None : goal.returns-in-None
returns-in-None c = along c.args.self.now.rules.env.now c.args.self.now.rules.budget _ _ _ (ap (λ (z : Option (Bor Tree)). (by_goal (seen_goal z) (rejects (letter (place c.args.span)) AnnotationWanted) (λ (a : Tree). equation_then (place c.args.span) (letter (place c.args.span)) a (λ (x y : Tree). then (erase (env_of c.args.self.now.rules.env.now) no_encodings c.args.kept.now) (λ (k : Tree). reflexive_against (place c.args.span) (x, y) k))))) (sym c.in-None.is)) (refused Made c.args.self.now.rules.env.now c.args.self.now.rules.budget (Letter c.args.span) AnnotationWanted)
