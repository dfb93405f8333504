-- A module whose names are numbers of a table, in a larger table.
use Rattle.std.proofs.Common.{◌≡◌, ℕ, List, [], ◌++◌, length, get_or, refl, sym, ap, ◌∙◌, arith, length-append}
use Rattle.std.proofs.lemmas.List.{get_or_append_left}
use Rattle.scope_model.specs.ScopeNames.{Text}
use Rattle.source_model.specs.Source.{Module}
use Rattle.build_model.specs.ByText.{Below, IsOfTable}
use Rattle.build_model.specs.Renamed.{renamed_module}
use Rattle.build_model.proofs.RenamedTwice.{module_twice}

pub stays : (table more : List Text) (m : Module ℕ) → IsOfTable table m → renamed_module (λ x. get_or (table ++ more) x []) m ≡ renamed_module (λ x. get_or table x []) m
stays table more m h =
    let b : Module (Below (length table)) = h.0 in
    ap (renamed_module (λ x. get_or (table ++ more) x [])) h.1
    ∙ module_twice (λ (x : Below (length table)). x.0) (λ x. get_or (table ++ more) x []) (λ (x : Below (length table)). get_or table x.0 []) (λ x. get_or_append_left table more [] x.0 x.1) b
    ∙ sym (module_twice (λ (x : Below (length table)). x.0) (λ x. get_or table x []) (λ (x : Below (length table)). get_or table x.0 []) (λ x. refl) b)
    ∙ ap (renamed_module (λ x. get_or table x [])) (sym h.1)

pub grows : (table more : List Text) (m : Module ℕ) → IsOfTable table m → IsOfTable (table ++ more) m
grows table more m h =
    let wider : Below (length table) → Below (length (table ++ more)) = λ x. (x.0, omega (arith, x.1, length-append table more)) in
    (renamed_module wider h.0, h.1 ∙ sym (module_twice wider (λ (x : Below (length (table ++ more))). x.0) (λ (x : Below (length table)). x.0) (λ x. refl) h.0))
