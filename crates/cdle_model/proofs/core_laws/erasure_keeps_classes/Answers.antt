use Rattle.std.proofs.Common.{◌∷◌}
use Rattle.cdle_model.specs.declared.grammar.Sort.TheVariants.{OfType}
use Rattle.cdle_model.specs.Erasure.{erased}
use Rattle.cdle_model.specs.Classes.{terms, within}
use Rattle.cdle_model.proofs.ClassErasure.{has-erasure, erased-itself, lacks-type, erased-fits}
use Rattle.cdle_model.proofs.core_laws.erasure_keeps_classes.Goals as goal

pub returns : goal.returns
returns c = record { classes = λ vs xs. erased-fits xs vs; xlam_lacks = λ vs xs k t h e. lacks-type xs vs (erased t) (erased-fits xs (OfType ∷ vs) terms t h.1 e); itself = λ vs xs d t e f. (has-erasure (within vs xs) d t e f, erased-itself (within vs xs) d t e f) }
