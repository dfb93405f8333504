-- What a stage gives for modules of which the first are done: that of these, before what it gives for the rest.
use Rattle.std.specs.Prelude.{ℕ, ◌+◌, List, ◌++◌, Option, Result, Ok, Err, length}
use Rattle.std.specs.Option.{option_map}
use Rattle.scope_model.specs.ScopeNames.{Text}

-- a place in the rest as one in all modules, behind so many
abbrev pub placed : ℕ → Option ℕ → Option ℕ
placed k found = option_map (λ i. k + i) found

abbrev pub placed_with : {A : Type 0} → ℕ → Option (ℕ × A) → Option (ℕ × A)
placed_with k found = option_map (λ x. (k + x.0, x.1)) found

-- what is done, before what the rest gives, or where it ends
abbrev pub before_rest : {A E : Type 0} → List A → Result (List A) (ℕ × E) → Result (List A) (ℕ × E)
before_rest xs (Ok ys) = Ok (xs ++ ys)
before_rest xs (Err e) = Err (length xs + e.0, e.1)

-- the texts that are done, before those of the rest, or the item in it that has none
abbrev pub texts_before : List (List ℕ) → Result (List (List ℕ)) Text → Result (List (List ℕ)) Text
texts_before xs (Ok ys) = Ok (xs ++ ys)
texts_before xs (Err w) = Err w
