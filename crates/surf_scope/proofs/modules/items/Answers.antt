use Rattle.std.proofs.Common.{◌≡◌, ℕ, ◌+◌, ◌<◌, ◌^◌, ◌++◌, List, [], length, map, refl, sym, ap, subst, ◌∙◌, arith}
use Rattle.cdle_model.specs.CoreNames.{Name}
use Rattle.scope_model.specs.Scope.{all_names, around, count, item_names, scoped_items}
use Rattle.scoped_tree.specs.Items as scoped
use Rattle.scoped_tree.specs.declared.items.ScopedItem.{ScopedItem}
use Rattle.surf_tree.specs.Items.{item_of, module_of}
use Rattle.surf_tree.specs.declared.items.SrcItem.{SrcItem}
use Rattle.surf_scope.specs.Exports.{known}
use Rattle.scope_part.specs.Index.{names_of}
use Rattle.surf_scope.specs.Modules.{spelled_item, spelled_items, spelled_module}
use Rattle.surf_scope.specs.Modulewise.{around_behind}
use Rattle.surf_scope.proofs.ItemScope.{total}
use Rattle.surf_scope.proofs.ModuleScope.{items_on, items_start}
use Rattle.surf_scope.proofs.Passing.{all_end, all_next, items_end, items_fail, items_next, numbers_next, total_next}
use Rattle.surf_scope.proofs.modules.items.Goals as goal

pub items-init : goal.items-init
items-init c =
    let own : names_of c.new-own.result ≡ [] = c.new-own.ensures in
    let none : c.new-items.result.items ≡ [] = c.new-items.ensures.items in
    let known_modules = known c.args.exports.now in
    let written = spelled_module c.args.names.now (module_of c.args.«module».now) in
    let size : length (names_of c.new-own.result) ≡ 0 = ap length own in
    let few = c.count-first.ensures.fits in
    record {
      same = ap (λ (l : List SrcItem). items_on (around_behind known_modules written (names_of c.new-own.result)) (map scoped.item_of c.new-items.result.items) (spelled_items c.args.names.now (map item_of l))) c.as_slice-rest.ensures.value
          ∙ ap (λ (o : List Name). items_on (around_behind known_modules written o) (map scoped.item_of c.new-items.result.items) written.items) own ∙ ap (λ (l : List ScopedItem). items_on (around_behind known_modules written []) (map scoped.item_of l) written.items) none ∙ items_start (around known_modules written) written.items;
      given = ap (λ (l : List SrcItem). names_of c.new-own.result ++ all_names (spelled_items c.args.names.now (map item_of l))) c.as_slice-rest.ensures.value ∙ ap (λ (o : List Name). o ++ all_names written.items) own;
      numbers = subst (λ (l : List ScopedItem). scoped.AreNumbered (count known_modules) l) (sym none) tt;
      counted = ap total none ∙ sym size;
      first = c.count-first.ensures.is;
      few = omega (arith, size, few);
    }

pub items-preserved : goal.items-preserved
items-preserved c =
    let here = c.in-Some.ensures.cases.0 in
    let known_modules = known c.args.exports.now in
    let written = spelled_module c.args.names.now (module_of c.args.«module».now) in
    let a = around_behind known_modules written (names_of c.items.own) in
    let i = spelled_item c.args.names.now (item_of c.in-Some.item.now) in
    let is = spelled_items c.args.names.now (map item_of c.in-Some.others.now) in
    let names : names_of c.add_item.new.own ≡ names_of c.items.own ++ item_names i = c.in-Ok-add_item.ensures.names ∙ ap (λ (l : List Name). names_of c.items.own ++ l) c.in-Ok.ensures.1 in
    record {
      same = items_next a c.items.items.items c.add_item.new.items.items c.in-Ok.new.item i is (names_of c.add_item.new.own) (scoped_items (around known_modules written) written.items)
          (subst (λ (l : List SrcItem). items_on a (map scoped.item_of c.items.items.items) (spelled_items c.args.names.now (map item_of l)) ≡ scoped_items (around known_modules written) written.items) here c.items.invariant.same) c.in-Ok.ensures.0 c.in-Ok-add_item.ensures.items names;
      given = all_next (names_of c.items.own) (names_of c.add_item.new.own) i is (all_names written.items) (subst (λ (l : List SrcItem). names_of c.items.own ++ all_names (spelled_items c.args.names.now (map item_of l)) ≡ all_names written.items) here c.items.invariant.given) names;
      numbers = numbers_next a (count known_modules) c.items.items.items c.add_item.new.items.items c.in-Ok.new.item c.items.invariant.numbers c.in-Ok.ensures.2 c.items.invariant.counted c.in-Ok-add_item.ensures.items;
      counted = total_next a c.items.items.items c.add_item.new.items.items c.in-Ok.new.item i (names_of c.add_item.new.own) c.in-Ok.ensures.0 c.items.invariant.counted c.in-Ok-add_item.ensures.items names;
      first = c.items.invariant.first;
      few = subst (λ (n : ℕ). n + length (names_of c.add_item.new.own) < 2 ^ 32) c.items.invariant.first c.in-Ok-add_item.ensures.few;
    }

pub returns-in-Err : goal.returns-in-Err
returns-in-Err c =
    let here = c.in-Some.ensures.cases.0 in
    let known_modules = known c.args.exports.now in
    let written = spelled_module c.args.names.now (module_of c.args.«module».now) in
    let a = around_behind known_modules written (names_of c.items.own) in
    items_fail a c.in-Err.fault (map scoped.item_of c.items.items.items) (spelled_item c.args.names.now (item_of c.in-Some.item.now)) (spelled_items c.args.names.now (map item_of c.in-Some.others.now)) (scoped_items (around known_modules written) written.items)
    (subst (λ (l : List SrcItem). items_on a (map scoped.item_of c.items.items.items) (spelled_items c.args.names.now (map item_of l)) ≡ scoped_items (around known_modules written) written.items) here c.items.invariant.same) c.in-Err.ensures

pub returns : goal.returns
returns c =
    let known_modules = known c.args.exports.now in
    let written = spelled_module c.args.names.now (module_of c.args.«module».now) in
    let a = around_behind known_modules written (names_of c.items.own) in (
      items_end a (λ (l : List SrcItem). spelled_items c.args.names.now (map item_of l)) refl c.items.rest.now (map scoped.item_of c.items.items.items) (scoped_items (around known_modules written) written.items) c.in_default.ensures.cases c.items.invariant.same,
      all_end (λ (l : List SrcItem). spelled_items c.args.names.now (map item_of l)) refl c.items.rest.now (names_of c.items.own) (all_names written.items) c.in_default.ensures.cases c.items.invariant.given,
      c.items.invariant.numbers,
    )
