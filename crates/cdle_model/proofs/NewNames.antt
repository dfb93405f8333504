-- The search for an item of a name tells whether the name is new.
use Rattle.std.proofs.Common.{◌≡◌, ℕ, suc, Bool, true, false, cond, Decides, List, [], ◌∷◌, Option, Some, None, option_map, refl, arith}
use Rattle.std.specs.Str.{bytes_eq}
use Rattle.std.proofs.lemmas.Slice.Eq.{bytes_eq-Decides}
use Rattle.cdle_model.specs.Forms.{Written, name_of}
use Rattle.cdle_model.specs.Derivation.{IsNew}
use Rattle.cdle_model.specs.Check.{first_of}

abbrev pub NameTells : List ℕ → List Written → Option ℕ → Type 0
NameTells x es (Some e) = IsNew x es → ⊥
NameTells x es None = IsNew x es

pub name-tells : (x : List ℕ) (es : List Written) → NameTells x es (first_of x es)
name-tells x [] = tt
name-tells x (w ∷ es) = by_test (bytes_eq (name_of w) x) (bytes_eq-Decides (name_of w) x) (first_of x es) (name-tells x es)
  where
    by_test : (b : Bool) → Decides b (name_of w ≡ x) → (o : Option ℕ) → NameTells x es o → NameTells x (w ∷ es) (cond b (Some 0) (option_map suc o))
    by_test true e o h = λ k. k.0 (e.0 refl)
    by_test false e (Some i) h = λ k. h k.1
    by_test false e None h = ((λ i. let f : false ≡ true = e.1 i in absurd (grind arith)), h)
