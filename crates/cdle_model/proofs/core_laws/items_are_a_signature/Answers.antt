use Rattle.cdle_model.proofs.ClassItems.{items-fit, items-signature}
use Rattle.cdle_model.proofs.core_laws.items_are_a_signature.Goals as goal

pub returns : goal.returns
returns c = record { closed = items-signature; classes = items-fit }
