-- From what the calls below answer to what the file of a module comes to.
use Rattle.std.proofs.Common.{◌≡◌, ◌∙◌, ◌<◌, ◌≤◌, ℕ, false, List, [], ◌∷◌, ◌++◌, Option, Some, None, Result, Ok, Err, length, map, refl, sym, ap, ap₂, subst, get_or, slice_get, take, arith}
use Rattle.std.specs.Global.{Vec}
use Rattle.std.specs.Option.{option_map}
use Rattle.cdle_model.specs.Forms.{Written, name_of}
use Rattle.source_model.specs.Source.{Module, Span}
use Rattle.scope_model.specs.Scope.{ScopeFault as Faulty, all_names, scoped_module}
use Rattle.scope_model.specs.ScopeNames.{Text}
use Rattle.scope_model.specs.Scoped.{ScopedItem, ScopedModule}
use Rattle.elab_model.specs.Items.{items_of_source, names_of, source_name, with_items}
use Rattle.elab_model.specs.Questions.{Env, Finding, found, rejected, spent_at, too_deep}
use Rattle.elab_model.specs.Soundness.{no_encodings}
use Rattle.elab_reduce.specs.Items.{env_of}
use Rattle.elab_tree.specs.Known.{Entry, empty}
use Rattle.elab_item.specs.Answers.{EndsAt, IsRefusal}
use Rattle.elab_item.specs.Given.{given_one, given_over}
use Rattle.elab_item.specs.declared.fault.ItemFault.TheVariants as item
use Rattle.print_model.specs.Printed.{file_text}
use Rattle.scoped_tree.specs.Trees.{place}
use Rattle.build_model.specs.SourceFiles.{IsSource}
use Rattle.build_module.specs.Answers.{Answers, IsDeepAt, IsModuleFault, OfItems, OfPrinted}
use Rattle.build_module.specs.ModuleAnswers.{IsModule, IsModuleAnswer, IsScopedModule, ModuleAnswer, answer_of, answered, gives, refuses, spends, deepens, nothing, printed, stuck_at, unbuilt_in}
use Rattle.build_module.specs.declared.fault.ModuleFault.{ModuleFault}
use Rattle.build_module.specs.declared.fault.ModuleFault.TheVariants as faults
use Rattle.build_module.proofs.Stuck.{stuck}
use Rattle.std.proofs.Common.{zero, suc, true≢false}
use Rattle.elab_tree.specs.Items.{written}
use Rattle.elab_tree.specs.Known.{Known}
use Rattle.elab_tree.specs.declared.items.OutItem.{OutItem}
use Rattle.elab_item.specs.Answers as item_answers
use Rattle.elab_item.specs.declared.fault.ItemFault.{ItemFault}
use Rattle.elab_print.specs.Layouts.{all_written}
use Rattle.build_model.specs.Renamed.{renamed_item}
use Rattle.build_model.specs.Unbuilt.{first_place, unbuilt_items}
use Rattle.build_module.specs.Counts.{items_count}
use Rattle.build_module.specs.ModuleAnswers.{first_import}
use Rattle.build_module.proofs.Counted.{named, renamed}
use Rattle.cdle_names.specs.declared.Span as names_of_code
use Rattle.cdle_names.specs.declared.table.NameId as table
use Rattle.scope_part.specs.Around.{spelled_import}
use Rattle.scope_part.specs.Names.{text_of}
use Rattle.scope_part.specs.declared.fault.ScopeFault.{ScopeFault}
use Rattle.scope_part.specs.declared.fault.ScopeFault.TheVariants as scope
use Rattle.surf_scope.specs.Modules.{spelled_module}
use Rattle.surf_scope.specs.Resolved.{IsResolved}
use Rattle.surf_source.specs.Answers.{IsRead}
use Rattle.surf_source.specs.declared.fault.SourceFault.{SourceFault}
use Rattle.surf_source.specs.declared.fault.SourceFault.TheVariants as source
use Rattle.surf_source.proofs.Spelled.{module_same}
use Rattle.surf_tree.specs.Items.{import_of, item_of, module_of}
use Rattle.surf_tree.specs.declared.items.SrcModule.{SrcModule}

-- ---- from the items to the module

-- what the items come to, the module's file comes to
pub of_items : (n : ℕ) (bytes : List ℕ) (name : Text) (m : Module Text) (r : ScopedModule) (a : Result (Vec ℕ) ModuleFault) → IsScopedModule bytes name m r → OfItems n r a → Answers n bytes name a
of_items n bytes name m r (Ok text) s h = (h.0, (m, r, s, h.1))
of_items n bytes name m r (Err faults.NoMemory) s h = tt
of_items n bytes name m r (Err (faults.Refused p c)) s h = (m, r, s, h)
of_items n bytes name m r (Err (faults.Spent p)) s h = (m, r, s, h)
of_items n bytes name m r (Err (faults.TooDeep w)) s h = (m, r, s, h)
of_items n bytes name m r (Err f) s h = absurd h

-- ---- the items

over_nothing : env_of empty ≡ nothing
over_nothing = refl

-- the answer by what is found for the items
found_so : (n : ℕ) (r : ScopedModule) (x : Finding (List Written)) (a : Option ModuleAnswer) → given_over n empty r.items ≡ x → answered (stuck_at n nothing r.items) x ≡ a → answer_of n r ≡ a
found_so n r x a e h = ap (answered (stuck_at n nothing r.items)) e ∙ h

-- the items are given, and then printed
pub of_printed : (n : ℕ) (r : ScopedModule) (ws : List Written) (a : Result (Vec ℕ) ModuleFault) → given_over n empty r.items ≡ found ws → OfPrinted ws a → OfItems n r a
of_printed n r ws (Ok text) e h = (ws, found_so n r (found ws) _ e (ap (λ (t : Result (List ℕ) ℕ). Some (printed ws t)) h))
of_printed n r ws (Err faults.NoMemory) e h = tt
of_printed n r ws (Err (faults.TooDeep w)) e h = found_so n r (found ws) _ e (ap (λ (t : Result (List ℕ) ℕ). Some (printed ws t)) h.1 ∙ ap (λ (x : Text). Some (deepens x)) (sym h.2))
of_printed n r ws (Err f) e h = absurd h

pub of_rejected : (n : ℕ) (r : ScopedModule) (es : List Entry) (i : ℕ) (p : _) (w : _) → IsRefusal n empty es r.items (item.Reject i p w) → answer_of n r ≡ Some (refuses (place p) w)
of_rejected n r es i p w h = found_so n r (rejected (place p) w) _ h.all refl

pub of_spent : (n : ℕ) (r : ScopedModule) (es : List Entry) (i : ℕ) (p : _) → IsRefusal n empty es r.items (item.Spent i p) → answer_of n r ≡ Some (spends (place p))
of_spent n r es i p h = found_so n r (spent_at (place p)) _ h.all refl

-- the item of that number is too deep, and this is its name
pub of_deep : (n : ℕ) (r : ScopedModule) (es : List Entry) (i : ℕ) (s : ScopedItem) (f : ModuleFault) → IsRefusal n empty es r.items (item.TooDeep i) → slice_get r.items i ≡ Some s → IsDeepAt (source_name s) f → OfItems n r (Err f)
of_deep n r es i s faults.NoMemory h there named = tt
of_deep n r es i s (faults.TooDeep w) h there named =
    let e = h.1 in
    let same : e.item ≡ s = some_one (sym e.there ∙ there) in
    let name : stuck_at n nothing r.items ≡ w = stuck n nothing r.items i e.item e.before h.0 e.there e.given e.answered ∙ ap source_name same ∙ sym named in
    found_so n r (too_deep h.0) _ e.all (ap (λ (x : Text). Some (deepens x)) name)
  where
    some_one : {A : Type 0} {x y : A} → Some x ≡ Some y → x ≡ y
    some_one e = cc
of_deep n r es i s f h there named = absurd named

-- ---- what is printed, and what was elaborated

pub there_map : {A B : Type 0} (f : A → B) (xs : List A) (i : ℕ) (x : A) → slice_get xs i ≡ Some x → slice_get (map f xs) i ≡ Some (f x)
there_map f [] i x e = absurd (grind arith)
there_map f (y ∷ ys) zero x e = let same : y ≡ x = cc in ap (λ z. Some (f z)) same
there_map f (y ∷ ys) (suc i) x e = there_map f ys i x e

pub named_there : (xs : List OutItem) (i : ℕ) (x : OutItem) → slice_get xs i ≡ Some x → name_of (written x) ≡ get_or (names_of (map written xs)) i []
named_there [] i x e = absurd (grind arith)
named_there (y ∷ ys) zero x e = let same : y ≡ x = cc in ap (λ z. name_of (written z)) (sym same)
named_there (y ∷ ys) (suc i) x e = named_there ys i x e

names_map : (xs : List OutItem) → map (λ item. name_of (written item)) xs ≡ names_of (map written xs)
names_map [] = refl
names_map (x ∷ xs) = ap (λ ys. name_of (written x) ∷ ys) (names_map xs)

all_map : (xs : List OutItem) → all_written xs ≡ map written xs
all_map [] = refl
all_map (x ∷ xs) = ap (λ ys. written x ∷ ys) (all_map xs)

same_text : (xs : List OutItem) (names : List Text) → names ≡ map (λ item. name_of (written item)) xs → file_text names (all_written xs) ≡ file_text (names_of (map written xs)) (map written xs)
same_text xs names e = ap₂ file_text (e ∙ names_map xs) (all_map xs)

pub printed_ok : (xs : List OutItem) (names : List Text) (text : Vec ℕ) → names ≡ map (λ item. name_of (written item)) xs → file_text names (all_written xs) ≡ Ok text.items → OfPrinted (map written xs) (Ok text)
printed_ok xs names text e h = sym (same_text xs names e) ∙ h

pub printed_deep : (xs : List OutItem) (names : List Text) (i : ℕ) (f : ModuleFault) → names ≡ map (λ item. name_of (written item)) xs → file_text names (all_written xs) ≡ Err i
    → IsDeepAt (get_or (names_of (map written xs)) i []) f → OfPrinted (map written xs) (Err f)
printed_deep xs names i faults.NoMemory e h d = tt
printed_deep xs names i (faults.TooDeep w) e h d = (i, sym (same_text xs names e) ∙ h, d)
printed_deep xs names i f e h d = absurd d

pub elaborated : (n : ℕ) (r : ScopedModule) (old new : Known) (items : Vec OutItem) (a : Result (Vec ℕ) ModuleFault) → old ≡ empty → item_answers.Answers n old new r.items (Ok items) → OfPrinted (map written items.items) a → OfItems n r a
elaborated n r old new items a e h p = of_printed n r (map written items.items) a (subst (λ (k : Known). given_over n k r.items ≡ found (map written items.items)) e h.1) p

pub not_elaborated : (n : ℕ) (r : ScopedModule) (old new : Known) (fault : ItemFault) (f : ModuleFault) → old ≡ empty → item_answers.Answers n old new r.items (Err fault)
    → ((n : ℕ) (es : List Entry) → IsRefusal n empty es r.items fault → OfItems n r (Err f)) → OfItems n r (Err f)
not_elaborated n r old new item.Failed f e h g = absurd (true≢false (sym h.0 ∙ ap (λ (k : Known). k.failed) e))
not_elaborated n r old new (item.Reject i p w) f e h g = g n new.entries (subst (λ (k : Known). IsRefusal n k new.entries r.items (item.Reject i p w)) e h.2)
not_elaborated n r old new (item.Spent i p) f e h g = g n new.entries (subst (λ (k : Known). IsRefusal n k new.entries r.items (item.Spent i p)) e h.2)
not_elaborated n r old new (item.TooDeep i) f e h g = g n new.entries (subst (λ (k : Known). IsRefusal n k new.entries r.items (item.TooDeep i)) e h.2)
not_elaborated n r old new item.NoMemory f e h g = g n new.entries tt

-- ---- the module

-- what stands there is not built
pub of_unbuilt : (n : ℕ) (bytes : List ℕ) (name : Text) (m : Module Text) (r : ScopedModule) (found_at : Option _) (span : _) → IsModule bytes name m → scoped_module [] m ≡ Ok r → option_map place found_at ≡ unbuilt_in m r → found_at ≡ Some span
    → Answers n bytes name (Err (faults.NotBuilt span))
of_unbuilt n bytes name m r found_at span s e h g = (m, s, r, e, sym h ∙ ap (option_map place) g)

pub all_built : (n : ℕ) (bytes : List ℕ) (name : Text) (m : Module Text) (r : ScopedModule) (a : Result (Vec ℕ) ModuleFault) (found_at : Option _) → IsModule bytes name m → scoped_module [] m ≡ Ok r → option_map place found_at ≡ unbuilt_in m r → found_at ≡ None
    → OfItems n r a → Answers n bytes name a
all_built n bytes name m r a found_at s e h g o = of_items n bytes name m r a (record { is = s; scoped = e; built = sym h ∙ ap (option_map place) g }) o

-- a fault of the scope
pub of_scope : (n : ℕ) (bytes : List ℕ) (name : Text) (m : Module Text) (f : ScopeFault) → IsModule bytes name m → IsResolved [] m (Err f) → Answers n bytes name (Err (faults.Scope f))
of_scope n bytes name m scope.NoMemory s h = tt
of_scope n bytes name m (scope.Unbound p) s h = (m, s, h)
of_scope n bytes name m (scope.WrongClass p) s h = (m, s, h)
of_scope n bytes name m (scope.Twice p) s h = (m, s, h)

-- a fault of the file
pub of_source : (n : ℕ) (bytes : List ℕ) (name : Text) (names : List Text) (f : SourceFault) → IsRead bytes name names (Err f) → Answers n bytes name (Err (faults.Source f))
of_source n bytes name names source.NoMemory h = tt
of_source n bytes name names (source.NotUtf8 at) h = h
of_source n bytes name names (source.BadCharacter at) h = h
of_source n bytes name names (source.OpenComment at) h = h
of_source n bytes name names (source.Unexpected at w) h = h
of_source n bytes name names (source.TooDeep at) h = h
of_source n bytes name names (source.TooMany at w) h = h

-- how many Core items there are
counted : (names : List Text) (m : SrcModule) → length (all_names (spelled_module names (module_of m)).items) ≡ items_count (map item_of m.items.items)
counted names m = ap (λ (x : Module Text). length (all_names x.items)) (module_same names (module_of m)) ∙ named (map (renamed_item (text_of names)) (module_of m).items) ∙ renamed (text_of names) (module_of m).items

pub of_few : (bytes : List ℕ) (name : Text) (names : List Text) (m : SrcModule) → IsSource bytes name (spelled_module names (module_of m)) → items_count (map item_of m.items.items) ≤ 10000 → IsModule bytes name (spelled_module names (module_of m))
of_few bytes name names m s h = record { source = s; few = let e = counted names m in omega (arith, h, e) }

pub of_many : (n : ℕ) (bytes : List ℕ) (name : Text) (names : List Text) (m : SrcModule) → IsSource bytes name (spelled_module names (module_of m)) → 10000 < items_count (map item_of m.items.items) → Answers n bytes name (Err faults.ManyItems)
of_many n bytes name names m s h = (spelled_module names (module_of m), s, let e = counted names m in omega (arith, h, e))

-- where the first unbuilt form stands, by the imports or the items
pub by_import : (names : List Text) (m : SrcModule) (r : ScopedModule) (i : table.NameId × names_of_code.Span) (is : List (table.NameId × names_of_code.Span)) → m.imports.items ≡ i ∷ is → Some (place i.1) ≡ unbuilt_in (spelled_module names (module_of m)) r
by_import names m r i is e = ap (λ (xs : List (table.NameId × names_of_code.Span)). first_place (first_import (map (spelled_import names) (map import_of xs))) (unbuilt_items r.items)) (sym e)

pub by_items : (names : List Text) (m : SrcModule) (r : ScopedModule) (x : Option Span) → m.imports.items ≡ [] → x ≡ unbuilt_items r.items → x ≡ unbuilt_in (spelled_module names (module_of m)) r
by_items names m r x e h = h ∙ ap (λ (xs : List (table.NameId × names_of_code.Span)). first_place (first_import (map (spelled_import names) (map import_of xs))) (unbuilt_items r.items)) (sym e)
