use Rattle.std.proofs.Common.{subst}
use Rattle.cdle_model.proofs.ClassSteps.{HeadFits, head-fits, compare-halts}
use Rattle.cdle_model.proofs.ClassItems.{list-ends}
use Rattle.cdle_model.proofs.core_laws.only_depth_ends_early.Goals as goal

pub returns : goal.returns
returns c = record {
  head_form = λ vs xs s w d g n a h left k e. subst (HeadFits xs s w vs d) e (head-fits xs s w n vs d a g k);
  comparison = λ vs xs s w d g n a b h left k l. compare-halts xs s w n vs d a b h left g k l;
  list = list-ends;
}
