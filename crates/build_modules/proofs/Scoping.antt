-- The scope of one module more, and its first fault.
use Rattle.std.proofs.Common.{◌≡◌, ℕ, suc, ◌+◌, Some, List, [], ◌∷◌, ◌++◌, Result, Ok, Err, length, map, sym, ap, ap₂, ◌∙◌, arith}
use Rattle.std.proofs.lemmas.List.{append_assoc, length-append, length-map, map_push}
use Rattle.source_model.specs.Source.{Module}
use Rattle.scope_model.specs.Scope as scope_model
use Rattle.scope_model.specs.Scope.{scoped_module, with_module}
use Rattle.scope_model.specs.ScopeNames.{Exported, Text}
use Rattle.scoped_tree.specs.Items.{module_of}
use Rattle.scoped_tree.specs.Trees.{place}
use Rattle.scoped_tree.specs.declared.items.ScopedModule.{ScopedModule}
use Rattle.scope_part.specs.declared.fault.ScopeFault.{ScopeFault}
use Rattle.scope_part.specs.declared.fault.ScopeFault.TheVariants as scope
use Rattle.surf_scope.specs.Resolved.{IsResolved}
use Rattle.modules_model.specs.ModuleTexts.{by_scope, scoped_modules, scoped_then, unscoped, with_first}
use Rattle.build_modules.specs.Answers.{IsScopeFault}
use Rattle.build_modules.specs.Steps.{before_rest}

one_more : {A E : Type 0} (xs : List A) (x : A) (r : Result (List A) (ℕ × E)) → before_rest xs (with_first x r) ≡ before_rest (xs ++ x ∷ []) r
one_more xs x (Ok ys) = ap Ok (sym (append_assoc xs (x ∷ []) ys))
one_more xs x (Err e) =
    let many = length-append xs (x ∷ []) in
    let at : length xs + suc e.0 ≡ length (xs ++ x ∷ []) + e.0 = omega (arith, many) in
    ap (λ i. Err (i, e.1)) at

-- the modules come to what is done, before what the rest come to behind those that are known
abbrev pub AreScoped : List (Module Text) → List ScopedModule → List Exported → List (Module Text) → Type 0
AreScoped all done known rest = scoped_modules [] all ≡ before_rest (map module_of done) (scoped_modules known rest)

-- by what the next module comes to
by_scope_of : (all rest others : List (Module Text)) (m : Module Text) (known : List Exported) (done : List ScopedModule) (r : Result _ scope_model.ScopeFault) → AreScoped all done known rest → rest ≡ m ∷ others → scoped_module known m ≡ r
    → scoped_modules [] all ≡ before_rest (map module_of done) (scoped_then r (scoped_modules (with_module known m) others))
by_scope_of all rest others m known done r s e h =
    s ∙ ap (λ ms. before_rest (map module_of done) (scoped_modules known ms)) e ∙ ap (λ r. before_rest (map module_of done) (scoped_then r (scoped_modules (with_module known m) others))) h

pub scope_goes_on : (all rest others : List (Module Text)) (m : Module Text) (known next : List Exported) (done more : List ScopedModule) (x : ScopedModule) → AreScoped all done known rest → rest ≡ m ∷ others → scoped_module known m ≡ Ok (module_of x)
    → next ≡ with_module known m → more ≡ done ++ x ∷ [] → AreScoped all more next others
scope_goes_on all rest others m known next done more x s e h q p =
    by_scope_of all rest others m known done (Ok (module_of x)) s e h
    ∙ one_more (map module_of done) (module_of x) (scoped_modules (with_module known m) others)
    ∙ ap₂ (λ ds k. before_rest ds (scoped_modules k others)) (sym (ap (map module_of) p ∙ map_push module_of done x)) (sym q)

-- the fault of the next module is the first of all
scope_stops : (all rest others : List (Module Text)) (m : Module Text) (known : List Exported) (done : List ScopedModule) (f : scope_model.ScopeFault) (n i : ℕ) → AreScoped all done known rest → rest ≡ m ∷ others → scoped_module known m ≡ Err f → i ≡ length done
    → by_scope n (scoped_modules [] all) ≡ Some (unscoped i f)
scope_stops all rest others m known done f n i s e h at =
    let many = length-map done module_of in
    let here : length (map module_of done) + 0 ≡ i = omega (arith, many, at) in
    ap (by_scope n) (by_scope_of all rest others m known done (Err f) s e h) ∙ ap (λ k. Some (unscoped k f)) here

pub scope_fault : (all rest others : List (Module Text)) (m : Module Text) (known : List Exported) (done : List ScopedModule) (f : ScopeFault) (i : ℕ) → AreScoped all done known rest → rest ≡ m ∷ others → IsResolved known m (Err f) → i ≡ length done
    → (n : ℕ) → IsScopeFault (λ a. by_scope n (scoped_modules [] all) ≡ Some a) i f
scope_fault all rest others m known done scope.NoMemory i s e h at = λ n. tt
scope_fault all rest others m known done (scope.Unbound p) i s e h at = λ n. scope_stops all rest others m known done (scope_model.Unbound (place p)) n i s e h at
scope_fault all rest others m known done (scope.WrongClass p) i s e h at = λ n. scope_stops all rest others m known done (scope_model.WrongClass (place p)) n i s e h at
scope_fault all rest others m known done (scope.Twice p) i s e h at = λ n. scope_stops all rest others m known done (scope_model.Twice (place p)) n i s e h at
