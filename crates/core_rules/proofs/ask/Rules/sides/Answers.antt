use Rattle.std.proofs.Common.{◌∷◌, [], subst}
use Rattle.std.proofs.lemmas.Result.{err_from_is_err_and}
use Rattle.cdle_model.specs.Check.{not_an_equation}
use Rattle.core_reduce.specs.declared.side.SideClass.TheVariants.{OfType}
use Rattle.core_reduce.specs.declared.value.Value.{Value}
use Rattle.core_reduce.specs.Values.{value_tree}
use Rattle.core_rules.specs.Faults.{IsRefusal}
use Rattle.core_rules.proofs.Asked.{sides_found, sides_fit, no_sides}
use Rattle.core_rules.proofs.ask.Rules.sides.Goals as goal

pub returns-in_err-value-clause-finds : goal.returns-in_err-value-clause-finds
returns-in_err-value-clause-finds c = let p = err_from_is_err_and c.from_residual.result c.from_residual.ensures.1 in rw (p.1, p.2) (λ g. c.in_err-value.ensures _)

pub returns-in-Ok-clause-finds : goal.returns-in-Ok-clause-finds
returns-in-Ok-clause-finds c = sides_found c.args.self.now.items.now c.args.self.now.budget c.args.number c.args.found.now c.in_ok-value.value c.in-Ok.parts c.in_ok-value.ensures c.in-Ok.ensures

pub returns-in-Ok-clause-fits : goal.returns-in-Ok-clause-fits
returns-in-Ok-clause-fits c = sides_fit c.args.self.now.items.now c.args.self.now.budget c.args.number c.args.found.now c.in_ok-value.value c.in-Ok.parts c.in_ok-value.ensures c.in-Ok.ensures

pub returns-in-Err-clause-finds : goal.returns-in-Err-clause-finds
returns-in-Err-clause-finds c =
    no_sides c.args.self.now.items.now c.args.self.now.budget c.args.number c.args.found.now c.in_ok-value.value c.other_than_equation.result c.in_ok-value.ensures c.in-Err.ensures.1
    (subst (λ (z : Value). IsRefusal (c.args.number ∷ []) (not_an_equation (value_tree OfType z)) c.other_than_equation.result) c.in-Err.ensures.0 c.other_than_equation.ensures)
