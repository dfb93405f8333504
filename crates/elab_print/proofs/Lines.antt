-- Lines behind each other.
use Rattle.std.proofs.Common.{◌≡◌, ℕ, List, [], ◌∷◌, ◌++◌, Some, None, Result, Ok, Err, codes, refl, sym, ap, ◌∙◌, append_assoc, append-nil}
use Rattle.print_model.specs.Printed.{Text, line_before, item_before}
use Rattle.elab_print.specs.Layouts.{joined, before_lines}

pub first_line : (r : Result (List ℕ) ℕ) → before_lines (codes "core 1\n") r ≡ line_before (codes "core 1") r
first_line (Ok y) = refl
first_line (Err n) = refl

pub line_step : (old now : List ℕ) (n : ℕ) (a : Text) (r : Result (List ℕ) ℕ) → joined (Some old) (joined a (Some (10 ∷ []))) ≡ Some now → before_lines old (item_before n a r) ≡ before_lines now r
line_step old now n (Some x) (Ok y) h =
    let same : old ++ (x ++ (10 ∷ [])) ≡ now = cc in
    ap Ok (ap (λ z. old ++ z) (sym (append_assoc x (10 ∷ []) y)) ∙ sym (append_assoc old (x ++ (10 ∷ [])) y) ∙ ap (λ z. z ++ y) same)
line_step old now n (Some x) (Err m) h = refl
line_step old now n None r h = absurd cc

pub line_too_deep : (old : List ℕ) (n : ℕ) (a : Text) (r : Result (List ℕ) ℕ) → joined a (Some (10 ∷ [])) ≡ None → before_lines old (item_before n a r) ≡ Err n
line_too_deep old n (Some x) r h = absurd cc
line_too_deep old n None r h = refl

pub last_line : (old : List ℕ) → before_lines old (Ok []) ≡ Ok old
last_line old = ap Ok (append-nil old)
