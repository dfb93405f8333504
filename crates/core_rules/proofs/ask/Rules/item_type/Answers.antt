use Rattle.std.proofs.Common.{◌≡◌, Some, ap, subst, sym, ◌∙◌}
use Rattle.std.proofs.lemmas.Result.{err_from_is_err_and}
use Rattle.cdle_model.specs.declared.grammar.Sort.TheVariants.{OfTerm}
use Rattle.cdle_model.specs.Classes.{item_sort}
use Rattle.cdle_model.specs.Derivation.{term_of, item, signature, signed}
use Rattle.cdle_model.specs.Fitting.{ItemHasErasures}
use Rattle.core_tree.specs.Items.{written}
use Rattle.core_tree.specs.declared.items.CoreItem.{CoreItem}
use Rattle.core_rules.specs.Context.{entries}
use Rattle.core_rules.proofs.Known.{have_erasures, item_sort_is, known_item, known_term, sort_below}
use Rattle.core_rules.proofs.Results.{no_memory}
use Rattle.core_rules.proofs.ask.Rules.item_type.Goals as goal

pub get-requires : goal.get-requires
get-requires c = sort_below c.args.self.now.items.now c.args.item OfTerm c.requires.fits

pub erase-requires : goal.erase-requires
erase-requires c =
    (subst (λ (z : CoreItem). ItemHasErasures (written z)) c.in-Def.is (have_erasures c.args.self.now.items.now c.args.item (written c.get.result.now) c.known.ensures.erasures c.get.ensures)).0

pub returns-in_err-erase-in-Def : goal.returns-in_err-erase-in-Def
returns-in_err-erase-in-Def c = let p = err_from_is_err_and c.from_residual.result c.from_residual.ensures.1 in rw (p.1, p.2) (no_memory _ _ _)

pub unreachable-requires : goal.unreachable-requires
unreachable-requires c =
    let e = item_sort_is c.args.self.now.items.now c.args.item OfTerm (written c.get.result.now) c.requires.fits c.get.ensures in
    let f = subst (λ (z : CoreItem). item_sort (written z) ≡ OfTerm) c.in-TypeDef.is e in cc

pub returns : goal.returns
returns c = known_term c.args.self.now.items.now c.args.self.now.budget (entries c.args.context.now) (item (signature c.args.self.now.items.now) c.args.item) _ _
    (known_item c.args.self.now.items.now c.args.item (written c.get.result.now) c.get.ensures ∙ ap (λ (z : CoreItem). Some (signed (written z)).known) c.in-Def.is ∙ ap (λ z. Some (term_of z)) (sym c.in_ok-erase-in-Def.ensures.is)) c.limited.ensures
