use Rattle.build_model.proofs.Together.{fit_together, differ_together}
use Rattle.build_model.proofs.laws.items_stand_together.Goals as goal

pub returns-clause-fit : goal.returns-clause-fit
returns-clause-fit c = fit_together

pub returns-clause-differ : goal.returns-clause-differ
returns-clause-differ c = differ_together
