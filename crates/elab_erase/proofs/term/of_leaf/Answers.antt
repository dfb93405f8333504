use Rattle.std.proofs.Common.{ap, sym}
use Rattle.std.proofs.lemmas.Result.{err_from_is_err_and}
use Rattle.source_model.specs.Source.{leaf}
use Rattle.scoped_tree.specs.declared.forms.LeafForm.{LeafForm}
use Rattle.scoped_tree.specs.Trees.{leaf_form}
use Rattle.elab_rules.proofs.Steps.{no_memory, given}
use Rattle.elab_erase.proofs.Chains.{erased_along}
use Rattle.elab_erase.proofs.term.of_leaf.Goals as goal

pub returns-in_err-identity-in-LeftOut : goal.returns-in_err-identity-in-LeftOut
returns-in_err-identity-in-LeftOut c = let p = err_from_is_err_and c.from_residual.result c.from_residual.ensures.1 in rw (p.1, p.2) (λ s. no_memory _ _ _)

pub returns-in_ok-identity-in-LeftOut : goal.returns-in_ok-identity-in-LeftOut
returns-in_ok-identity-in-LeftOut c = λ s. erased_along c.args.rules.now.env.now c.args.rules.now.budget _ _ _ (ap (λ (z : LeafForm). leaf s (leaf_form z)) (sym c.in-LeftOut.is)) (rw c.in_ok-identity-in-LeftOut.ensures (given c.args.rules.now.env.now c.args.rules.now.budget _))

pub returns-in-Star : goal.returns-in-Star
returns-in-Star c = λ s. no_memory _ _ _
