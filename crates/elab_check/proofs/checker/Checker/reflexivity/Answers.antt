use Rattle.std.proofs.Common.{Option, ◌∙◌}
use Rattle.cdle_model.specs.Trees.{Tree}
use Rattle.source_model.specs.Heights.{is_none}
use Rattle.elab_model.specs.declared.codes.Code.TheVariants.{AnnotationWanted}
use Rattle.elab_model.specs.Questions.{rejects, then}
use Rattle.elab_model.specs.Rules.{by_goal, equation_then, erase}
use Rattle.elab_model.specs.ScopedForms.{letter}
use Rattle.elab_model.specs.Soundness.{no_encodings}
use Rattle.elab_reduce.specs.Items.{env_of}
use Rattle.elab_rules.specs.Equations.{reflexive, reflexive_against}
use Rattle.scoped_tree.specs.Trees.{place}
use Rattle.elab_check.specs.Forms.{seen_goal}
use Rattle.elab_check.proofs.Chains.{where_true, where_false}
use Rattle.elab_check.proofs.checker.Checker.reflexivity.Goals as goal

pub returns-then-is_left_out : goal.returns-then-is_left_out
returns-then-is_left_out c = λ d w. where_true c.args.self.now.rules.env.now c.args.self.now.rules.budget (is_none c.args.side.now) (by_goal (seen_goal c.args.goal) (rejects (letter (place c.args.span)) AnnotationWanted) (λ (a : Tree). equation_then (place c.args.span) (letter (place c.args.span)) a (λ (x y : Tree). then (erase (env_of c.args.self.now.rules.env.now) no_encodings c.args.kept.now) (λ (k : Tree). reflexive_against (place c.args.span) (x, y) k)))) (then (erase (env_of c.args.self.now.rules.env.now) no_encodings c.args.side.now) (λ (x : Tree). then (erase (env_of c.args.self.now.rules.env.now) no_encodings c.args.kept.now) (λ (k : Tree). reflexive (place c.args.span) x k))) _ (c.is_left_out.ensures ∙ c.if-is_left_out.true) c.reflexive_asked.ensures

pub returns : goal.returns
returns c = λ d w. where_false c.args.self.now.rules.env.now c.args.self.now.rules.budget (is_none c.args.side.now) (by_goal (seen_goal c.args.goal) (rejects (letter (place c.args.span)) AnnotationWanted) (λ (a : Tree). equation_then (place c.args.span) (letter (place c.args.span)) a (λ (x y : Tree). then (erase (env_of c.args.self.now.rules.env.now) no_encodings c.args.kept.now) (λ (k : Tree). reflexive_against (place c.args.span) (x, y) k)))) (then (erase (env_of c.args.self.now.rules.env.now) no_encodings c.args.side.now) (λ (x : Tree). then (erase (env_of c.args.self.now.rules.env.now) no_encodings c.args.kept.now) (λ (k : Tree). reflexive (place c.args.span) x k))) _ (c.is_left_out.ensures ∙ c.if-is_left_out.false) c.reflexive_written.ensures
