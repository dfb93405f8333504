use Rattle.std.proofs.Common.{subst, sym}
use Rattle.cdle_model.specs.Check.{infer_item}
use Rattle.cdle_model.specs.Derivation.{signature}
use Rattle.core_tree.specs.Items.{written}
use Rattle.core_tree.specs.declared.items.CoreItem.{CoreItem}
use Rattle.core_check.specs.Answer.{MeetsItem}
use Rattle.core_check.proofs.item.Checker.item.Goals as goal

pub returns-in-Def-clause-meets : goal.returns-in-Def-clause-meets
returns-in-Def-clause-meets c =
    subst (λ (z : CoreItem). MeetsItem c.args.self.now.rules.items.now c.args.self.now.rules.budget (infer_item (signature c.args.self.now.rules.items.now) (written z)) c.definition.result) (sym c.in-Def.is) (c.definition.ensures.meets c.in-Def.name)

pub returns-in-TypeDef-clause-meets : goal.returns-in-TypeDef-clause-meets
returns-in-TypeDef-clause-meets c =
    subst (λ (z : CoreItem). MeetsItem c.args.self.now.rules.items.now c.args.self.now.rules.budget (infer_item (signature c.args.self.now.rules.items.now) (written z)) c.type_definition.result) (sym c.in-TypeDef.is) (c.type_definition.ensures.meets c.in-TypeDef.name)
