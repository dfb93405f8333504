use Rattle.std.proofs.Common.{◌≡◌, ℕ, List, Some, refl, slice_get, subst}
use Rattle.std.proofs.lemmas.Option.{slice_get_read}
use Rattle.modules_model.specs.ModuleTexts.{deepens}
use Rattle.scoped_tree.specs.Items.{item_of, module_of}
use Rattle.scoped_tree.specs.declared.items.ScopedItem.{ScopedItem}
use Rattle.build_modules.specs.Answers.{IsBuildFault}
use Rattle.build_modules.proofs.Given.{of_deep}
use Rattle.build_modules.proofs.InOrder.{there_map}
use Rattle.build_modules.proofs.items.too_deep.Goals as goal

pub returns-in-Some : goal.returns-in-Some
returns-in-Some c =
    let l = c.in-Some.ensures.lookup in
    let there = subst (λ (xs : List ScopedItem). slice_get xs c.args.number ≡ Some c.in-Some.item.now) c.deref.ensures.value (slice_get_read _ _ _ _ refl l.3.0 l.1) in
    λ n old es h. of_deep n old es (module_of c.args.scoped.now).items c.args.place c.args.number (item_of c.in-Some.item.now) c.named.result h
    (there_map item_of c.args.scoped.now.items.items c.args.number c.in-Some.item.now there) (subst (λ (w : List ℕ). IsBuildFault (λ a. a ≡ deepens w) c.named.result) c.written_name.ensures c.named.ensures)
