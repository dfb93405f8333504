-- How a caller of a put into a pure term knows in which class a variable is used.
use Rattle.std.proofs.Common.{ℕ, suc, refl}
use Rattle.cdle_model.specs.declared.grammar.Sort.TheVariants.{OfTerm}
use Rattle.cdle_model.specs.Trees.{Tree, var, name}
use Rattle.cdle_model.specs.Forms.{fn, ap}
use Rattle.cdle_model.specs.Classes.{pure_terms, IsOf, UsedAs}

-- in a pure term every variable is a term's
pub pure_used : (at : ℕ) (t : Tree) → IsOf pure_terms t → UsedAs OfTerm at pure_terms t
pure_used at (var i) h = λ e. refl
pure_used at (name n) h = tt
pure_used at (fn p) h = pure_used (suc at) p h
pure_used at (ap p q) h = (pure_used at p h.0, pure_used at q h.1)
pure_used at t h = absurd h
