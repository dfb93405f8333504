use Rattle.std.proofs.Common.{◌≡◌, Some, ap, subst, sym, ◌∙◌}
use Rattle.std.proofs.lemmas.Result.{err_from_is_err_and}
use Rattle.cdle_model.specs.declared.grammar.Sort.TheVariants.{OfType}
use Rattle.cdle_model.specs.Classes.{item_sort}
use Rattle.cdle_model.specs.Derivation.{type_of, item, signature, signed}
use Rattle.cdle_model.specs.Fitting.{ItemHasErasures}
use Rattle.core_tree.specs.Items.{written}
use Rattle.core_tree.specs.declared.items.CoreItem.{CoreItem}
use Rattle.core_rules.specs.Context.{entries}
use Rattle.core_rules.proofs.Known.{have_erasures, item_sort_is, known_item, known_type, sort_below}
use Rattle.core_rules.proofs.Results.{no_memory}
use Rattle.core_rules.proofs.ask.Rules.item_kind.Goals as goal

pub get-requires : goal.get-requires
get-requires c = sort_below c.args.self.now.items.now c.args.item OfType c.requires.fits

pub erase-requires : goal.erase-requires
erase-requires c =
    (subst (λ (z : CoreItem). ItemHasErasures (written z)) c.in-TypeDef.is (have_erasures c.args.self.now.items.now c.args.item (written c.get.result.now) c.known.ensures.erasures c.get.ensures)).0

pub returns-in_err-erase-in-TypeDef : goal.returns-in_err-erase-in-TypeDef
returns-in_err-erase-in-TypeDef c = let p = err_from_is_err_and c.from_residual.result c.from_residual.ensures.1 in rw (p.1, p.2) (no_memory _ _ _)

pub unreachable-requires : goal.unreachable-requires
unreachable-requires c =
    let e = item_sort_is c.args.self.now.items.now c.args.item OfType (written c.get.result.now) c.requires.fits c.get.ensures in
    let f = subst (λ (z : CoreItem). item_sort (written z) ≡ OfType) c.in-Def.is e in cc

pub returns : goal.returns
returns c = known_type c.args.self.now.items.now c.args.self.now.budget (entries c.args.context.now) (item (signature c.args.self.now.items.now) c.args.item) _ _
    (known_item c.args.self.now.items.now c.args.item (written c.get.result.now) c.get.ensures ∙ ap (λ (z : CoreItem). Some (signed (written z)).known) c.in-TypeDef.is ∙ ap (λ z. Some (type_of z)) (sym c.in_ok-erase-in-TypeDef.ensures.is)) c.limited_kind.ensures
