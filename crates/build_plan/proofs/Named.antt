-- The names and numbers that the code finds.
use Rattle.std.proofs.Common.{◌≡◌, ℕ, zero, suc, ◌+◌, ◌<◌, List, [], ◌∷◌, ◌++◌, Contains, Some, get_or, length, map, slice_get, take, refl, sym, ap, subst, arith}
use Rattle.std.specs.List.{AllZip}
use Rattle.std.specs.Global.{Vec}
use Rattle.std.proofs.lemmas.List.{length-map, map-append, map_more, take_more}
use Rattle.cdle_names.specs.declared.Span as spans
use Rattle.cdle_names.specs.declared.table.NameId as table
use Rattle.surf_tree.specs.Items.{import_of, module_of}
use Rattle.surf_tree.specs.declared.items.SrcModule.{SrcModule}
use Rattle.plan_model.specs.Reading.{AreNumbered, IsCalled, imported}
use Rattle.plan_model.specs.Orders.{Imports}
use Rattle.plan_model.specs.Cycles.{IsCycle, IsCycleOf}
use Rattle.plan_model.proofs.Answered.{cycle_imported}
use Rattle.plan_model.proofs.Lists.{contained_here, contained_there}
use Rattle.plan_model.proofs.Numbered.{Numbers, import_below, import_called}
use Rattle.build_plan.specs.Tables.{names_in, needs_of}
use Rattle.build_plan.proofs.Places.{map_next, name_below, zip_push}

abbrev pub Imported : Type 0
Imported = table.NameId × spans.Span

twice : (is : List Imported) → map (λ i. i.0.0) is ≡ map (λ (x : ℕ × _). x.0) (map import_of is)
twice [] = refl
twice (i ∷ is) = ap (λ xs. i.0.0 ∷ xs) (twice is)

module _ (names : List ℕ) where
  -- one more import has its number
  pub import_more : (js : List ℕ) (is : List Imported) (k : ℕ) (d : Imported) (j : ℕ) → AllZip (IsCalled names) js (map (λ i. i.0.0) (take k is)) → k < length is
      → IsCalled names j (get_or is k d).0.0 → AllZip (IsCalled names) (js ++ j ∷ []) (map (λ i. i.0.0) (take (k + 1) is))
  import_more js is k d j h l c =
      subst (λ xs. AllZip (IsCalled names) (js ++ j ∷ []) xs) (sym (map_more (λ (i : Imported). i.0.0) is k d l)) (zip_push (IsCalled names) js (map (λ i. i.0.0) (take k is)) j (get_or is k d).0.0 h c)

  -- one more module has the numbers of its imports
  pub module_more : (ms : List SrcModule) (needs : List (Vec ℕ)) (k : ℕ) (m : SrcModule) (js : Vec ℕ) → Numbers names (map module_of (take k ms)) (needs_of needs) → k < length ms → m ≡ get_or ms k m
      → AllZip (IsCalled names) js.items (map (λ i. i.0.0) m.imports.items) → Numbers names (map module_of (take (k + 1) ms)) (needs_of (needs ++ js ∷ []))
  module_more ms needs k m js h l e c =
      rw (map_next module_of ms k m l e, map-append (λ (js : Vec ℕ). js.items) needs (js ∷ []))
      (zip_push (λ m js. AllZip (IsCalled names) js (imported m)) (map module_of (take k ms)) (needs_of needs) (module_of m) js.items h (subst (λ xs. AllZip (IsCalled names) js.items xs) (twice m.imports.items) c))

  -- numbers that are called, with the names at them
  called_all : (ks xs : List ℕ) → ((k : ℕ) → Contains ks k → (x : ℕ) × IsCalled names k x) → AllZip (λ k x. slice_get names k ≡ Some x) ks xs → AllZip (IsCalled names) ks xs
  called_all [] [] c h = tt
  called_all [] (x ∷ xs) c h = absurd h
  called_all (k ∷ ks) [] c h = absurd h
  called_all (k ∷ ks) (x ∷ xs) c h =
      let r = c k (contained_here k ks) in
      let s = r.1.called in
      let t = h.0 in
      let e : r.0 ≡ x = cc in
      (subst (λ y. IsCalled names k y) e r.1, called_all ks xs (λ j m. c j (contained_there k j ks m)) h.1)

-- one more name
pub names_more : (ms : List SrcModule) (ks : List ℕ) (xs : List table.NameId) (i : ℕ) (x : table.NameId) → AllZip (λ k x. slice_get (names_in ms) k ≡ Some x) (take i ks) (map (λ x. x.0) xs) → i < length ks
    → slice_get (names_in ms) (get_or ks i 0) ≡ Some x.0 → AllZip (λ k x. slice_get (names_in ms) k ≡ Some x) (take (i + 1) ks) (map (λ x. x.0) (xs ++ x ∷ []))
names_more ms ks xs i x h l e =
    rw (take_more ks i 0 l, map-append (λ (x : table.NameId). x.0) xs (x ∷ []))
    (zip_push (λ k x. slice_get (names_in ms) k ≡ Some x) (take i ks) (map (λ x. x.0) xs) (get_or ks i 0) x.0 h e)

-- the numbers of a cycle with the names of their modules
pub cycle_named : (ms : List SrcModule) (needs : List (Vec ℕ)) (ks xs : List ℕ) → AreNumbered (map module_of ms) (needs_of needs) → IsCycleOf (needs_of needs) ks
    → AllZip (λ k x. slice_get (names_in ms) k ≡ Some x) ks xs → IsCycle (map module_of ms) xs
cycle_named ms needs ks xs n c h = record {
  needs = needs_of needs;
  numbered = n;
  numbers = ks;
  cycle = c;
  called = called_all (names_in ms) ks xs (λ k t. let i = cycle_imported (needs_of needs) ks c k t in import_called (map module_of ms) (needs_of needs) n i.0 k i.1) h;
}

-- what a module imports
pub needs_at : (needs : List (Vec ℕ)) (i : ℕ) (js : Vec ℕ) → i < length needs → js ≡ get_or needs i js → get_or (needs_of needs) i [] ≡ js.items
needs_at [] i js l e = absurd (omega arith)
needs_at (ks ∷ needs) zero js l e = ap (λ (v : Vec ℕ). v.items) (sym e)
needs_at (ks ∷ needs) (suc i) js l e = needs_at needs i js (omega arith) e

pub needs_each : (needs : List (Vec ℕ)) → length (needs_of needs) ≡ length needs
needs_each needs = length-map needs (λ (v : Vec ℕ). v.items)

pub imports_below : (ms : List SrcModule) (needs : List (Vec ℕ)) → AreNumbered (map module_of ms) (needs_of needs) → (i j : ℕ) → Imports (needs_of needs) i j → j < length needs
imports_below ms needs n i j m = let l = import_below (map module_of ms) (needs_of needs) n i j m in let e = needs_each needs in omega arith

pub cycle_below : (ms : List SrcModule) (needs : List (Vec ℕ)) (ks : List ℕ) → AreNumbered (map module_of ms) (needs_of needs) → IsCycleOf (needs_of needs) ks → (k : ℕ) → Contains ks k → k < length ms
cycle_below ms needs ks n c k t =
    let i = cycle_imported (needs_of needs) ks c k t in
    let r = import_called (map module_of ms) (needs_of needs) n i.0 k i.1 in
    name_below ms k r.0 r.1.called
