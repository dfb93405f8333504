-- What is spent stays spent with fewer units; ways that take no unit; and two budgets with an answer of the comparison have the same.
use Rattle.std.proofs.Common.{◌≡◌, ℕ, zero, suc, ◌+◌, ◌≤◌, List, refl, arith, sym, ◌∙◌, subst}
use Rattle.cdle_model.specs.Trees.{Tree}
use Rattle.cdle_model.specs.Machine.{Move, stop, go, answered, spent, run}
use Rattle.cdle_model.specs.Comparison.{Answer, compare}
use Rattle.cdle_model.proofs.Runs.{stops, goes}
use Rattle.cdle_model.proofs.LargerBudget.{compare_more}
use Rattle.cdle_model.proofs.Leads.{Leads}

module _ {A S : Type 0} (move : S → Move A S) where
  stays : (s t : S) → move s ≡ move t → (n : ℕ) → run move n s ≡ run move n t
  stays s t e zero = rw (e, run) refl
  stays s t e (suc n) = rw (e, run) refl

  pub leads_free : (s t : S) → move s ≡ move t → Leads move s 0 t
  leads_free s t h = record { runs = λ n m e. let f : n ≡ m = omega arith in rw f (stays s t h m) }

  pub spent_below : (n : ℕ) (s : S) (v : Move A S) → move s ≡ v → run move n s ≡ spent → (m : ℕ) → m ≤ n → run move m s ≡ spent
  spent_below n s (stop a) e h m l = let f : answered a n ≡ spent = sym (stops move s a e n) ∙ h in cc
  spent_below n s (go t) e h zero l = rw (e, run) refl
  spent_below zero s (go t) e h (suc m) l = absurd (omega arith)
  spent_below (suc n) s (go t) e h (suc m) l =
      let f : run move n t ≡ spent = sym (goes move s t e n) ∙ h in
      goes move s t e m ∙ spent_below n t (move t) refl f m (omega arith)

pub one_answer : (s : List Tree) (a b : Tree) (m n : ℕ) (x y : Answer) (i j : ℕ) → compare s m a b ≡ answered x i → compare s n a b ≡ answered y j → x ≡ y
one_answer s a b m n x y i j e f =
    let g = compare_more s m a b x i n e in
    let h = compare_more s n a b y j m f in
    let k : n + m ≡ m + n = omega arith in
    let c : answered x (i + n) ≡ answered y (j + m) = sym g ∙ (subst (λ z. compare s z a b ≡ answered y (j + m)) k h) in cc
