-- A head form and an answer of the comparison stay with more units, with as many more left.
use Rattle.std.proofs.Common.{◌≡◌, ℕ, ◌+◌, List, [], ◌∷◌, refl, arith}
use Rattle.cdle_model.specs.Trees.{Tree}
use Rattle.cdle_model.specs.Machine.{answered}
use Rattle.cdle_model.specs.HeadForms.{at, HeadAnswer, head_move, head_form}
use Rattle.cdle_model.specs.Comparison.{Answer, pairs, move, compare}
use Rattle.cdle_model.proofs.Runs.{answered_above}

pub head_form_more : (s : List Tree) (n : ℕ) (p : Tree) (x : HeadAnswer) (left more : ℕ) → head_form s n p ≡ answered x left → head_form s (n + more) p ≡ answered x (left + more)
head_form_more s n p x left more h = answered_above (head_move s) n (at p) (head_move s (at p)) refl x left h (n + more) (omega arith) (left + more) (omega arith)

pub compare_more : (s : List Tree) (n : ℕ) (a b : Tree) (x : Answer) (left more : ℕ) → compare s n a b ≡ answered x left → compare s (n + more) a b ≡ answered x (left + more)
compare_more s n a b x left more h =
    answered_above (move s) n (pairs ((a, b) ∷ [])) (move s (pairs ((a, b) ∷ []))) refl x left h (n + more) (omega arith) (left + more) (omega arith)
