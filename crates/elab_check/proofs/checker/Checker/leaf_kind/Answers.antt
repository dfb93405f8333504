use Rattle.std.proofs.Common.{ap, sym}
use Rattle.std.proofs.lemmas.Result.{err_from_is_err_and}
use Rattle.elab_model.specs.Rules.{kind}
use Rattle.elab_model.specs.Soundness.{no_encodings}
use Rattle.source_model.specs.Source.{leaf}
use Rattle.scoped_tree.specs.declared.forms.LeafForm.{LeafForm}
use Rattle.scoped_tree.specs.Trees.{leaf_form}
use Rattle.elab_reduce.specs.Items.{env_of}
use Rattle.elab_rules.proofs.Steps.{no_memory, given}
use Rattle.elab_check.proofs.Chains.{along}
use Rattle.elab_check.proofs.checker.Checker.leaf_kind.Goals as goal

pub returns-in_err-star-in-Star : goal.returns-in_err-star-in-Star
returns-in_err-star-in-Star c = let p = err_from_is_err_and c.from_residual.result c.from_residual.ensures.1 in rw (p.1, p.2) (λ d s. no_memory _ _ _)

pub returns-in_ok-star-in-Star : goal.returns-in_ok-star-in-Star
returns-in_ok-star-in-Star c = λ d s. along c.args.self.now.rules.env.now c.args.self.now.rules.budget _ _ _ (ap (λ (z : LeafForm). kind (env_of c.args.self.now.rules.env.now) no_encodings d (leaf s (leaf_form z))) (sym c.in-Star.is)) (rw c.in_ok-star-in-Star.ensures (given _ _ _))

pub returns-in-LeftOut : goal.returns-in-LeftOut
returns-in-LeftOut c = λ d s. no_memory _ _ _
