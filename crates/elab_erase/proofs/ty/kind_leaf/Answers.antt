use Rattle.std.proofs.Common.{ap, sym}
use Rattle.std.proofs.lemmas.Result.{err_from_is_err_and}
use Rattle.source_model.specs.Source.{leaf}
use Rattle.scoped_tree.specs.declared.forms.LeafForm.{LeafForm}
use Rattle.scoped_tree.specs.Trees.{leaf_form}
use Rattle.elab_rules.proofs.Steps.{no_memory, given}
use Rattle.elab_erase.proofs.Chains.{erased_along}
use Rattle.elab_erase.proofs.ty.kind_leaf.Goals as goal

pub returns-in_err-star-in-Star : goal.returns-in_err-star-in-Star
returns-in_err-star-in-Star c = let p = err_from_is_err_and c.from_residual.result c.from_residual.ensures.1 in rw (p.1, p.2) (λ s. no_memory _ _ _)

pub returns-in_ok-star-in-Star : goal.returns-in_ok-star-in-Star
returns-in_ok-star-in-Star c = λ s. erased_along c.args.rules.now.env.now c.args.rules.now.budget _ _ _ (ap (λ (z : LeafForm). leaf s (leaf_form z)) (sym c.in-Star.is)) (rw c.in_ok-star-in-Star.ensures (given c.args.rules.now.env.now c.args.rules.now.budget _))

pub returns-in-LeftOut : goal.returns-in-LeftOut
returns-in-LeftOut c = λ s. no_memory _ _ _
