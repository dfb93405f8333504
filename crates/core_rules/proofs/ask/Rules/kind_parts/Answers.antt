use Rattle.std.proofs.Common.{◌∷◌, [], None, sym, subst}
use Rattle.std.proofs.lemmas.Result.{err_from_is_err_and}
use Rattle.core_reduce.specs.declared.side.SideClass.TheVariants.{OfKind}
use Rattle.core_reduce.specs.declared.value.Value.{Value}
use Rattle.core_reduce.specs.Values.{value_tree}
use Rattle.cdle_model.specs.Check.{Reason, wrong_kind}
use Rattle.core_rules.specs.Faults.{IsRefusal}
use Rattle.core_rules.proofs.Asked.{parts_found, other_refuses}
use Rattle.core_rules.proofs.Splits.{kind_other}
use Rattle.core_rules.proofs.ask.Rules.kind_parts.Goals as goal

pub returns-in_err-value-clause-finds : goal.returns-in_err-value-clause-finds
returns-in_err-value-clause-finds c = let p = err_from_is_err_and c.from_residual.result c.from_residual.ensures.1 in rw (p.1, p.2) (λ g. c.in_err-value.ensures _)

pub returns-in-Ok-clause-finds : goal.returns-in-Ok-clause-finds
returns-in-Ok-clause-finds c = parts_found c.args.self.now.items.now c.args.self.now.budget c.args.number c.args.former OfKind c.args.found.now c.in_ok-value.value c.requires.former c.requires.class c.in-Ok.parts c.in_ok-value.ensures c.in-Ok.ensures

pub returns-in-Err-clause-finds : goal.returns-in-Err-clause-finds
returns-in-Err-clause-finds c =
    other_refuses c.args.self.now.items.now c.args.self.now.budget c.args.number c.args.former OfKind c.args.found.now c.in_ok-value.value c.requires.former c.requires.class c.other_kind.result c.in_ok-value.ensures c.in-Err.ensures.1
    (subst (λ (z : Reason). IsRefusal (c.args.number ∷ []) z c.other_kind.result) (sym (kind_other c.args.former (value_tree OfKind c.in_ok-value.value) c.requires.former c.requires.class))
    (subst (λ (z : Value). IsRefusal (c.args.number ∷ []) (wrong_kind (value_tree OfKind z) None) c.other_kind.result) c.in-Err.ensures.0 c.other_kind.ensures))
