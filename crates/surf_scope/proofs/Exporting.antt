-- Modules are counted as they are added.
use Rattle.std.proofs.Common.{◌≡◌, ℕ, ◌+◌, List, [], ◌∷◌, ◌++◌, length, sym, ap, ◌∙◌, arith}
use Rattle.scope_model.specs.Scope.{count}
use Rattle.scope_model.specs.ScopeNames.{Exported}
use Rattle.scope_part.specs.Known.{exported_all, exported_as}
use Rattle.scope_part.specs.declared.exported.ExportedModule.{ExportedModule}

count_push : (xs : List ExportedModule) (m : ExportedModule) → count (exported_all (xs ++ m ∷ [])) ≡ count (exported_all xs) + length (exported_as m).items
count_push [] m = omega arith
count_push (x ∷ xs) m = let others = count_push xs m in omega (arith, others)

pub exports_push : (xs ys : List ExportedModule) (m : ExportedModule) (x : Exported) (n k : ℕ) → ys ≡ xs ++ m ∷ [] → exported_as m ≡ x → length x.items ≡ k → n ≡ count (exported_all xs) + k → n ≡ count (exported_all ys)
exports_push xs ys m x n k p q r h =
    let pushed = count_push xs m in
    let items : length (exported_as m).items ≡ length x.items = ap (λ (e : Exported). length e.items) q in
    let sum : count (exported_all (xs ++ m ∷ [])) ≡ n = omega (arith, pushed, items, r, h) in
    sym sum ∙ ap (λ (l : List ExportedModule). count (exported_all l)) (sym p)
