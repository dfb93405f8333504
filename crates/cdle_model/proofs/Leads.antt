-- So many units lead a machine from one state to another; and two budgets with an answer have the same.
use Rattle.std.proofs.Common.{◌≡◌, ℕ, suc, ◌+◌, List, arith, sym, ◌∙◌, subst, refl}
use Rattle.cdle_model.specs.Trees.{Tree}
use Rattle.cdle_model.specs.Machine.{Move, go, answered, run}
use Rattle.cdle_model.specs.HeadForms.{HeadAnswer, head_form}
use Rattle.cdle_model.proofs.Runs.{goes}
use Rattle.cdle_model.proofs.LargerBudget.{head_form_more}

-- from s, k units lead to t
pub record Leads {A S : Type 0} (move : S → Move A S) (s : S) (k : ℕ) (t : S) : Type 0 where
  pub runs : (n m : ℕ) → n ≡ k + m → run move n s ≡ run move m t

module _ {A S : Type 0} (move : S → Move A S) where
  pub leads_none : (s : S) → Leads move s 0 s
  leads_none s = record { runs = λ n m e. let f : n ≡ m = omega arith in rw f refl }

  pub leads_one : (s t : S) → move s ≡ go t → Leads move s 1 t
  leads_one s t h = record { runs = λ n m e. let f : n ≡ suc m = omega arith in rw f (goes move s t h m) }

  pub leads_on : (s t u : S) (j k : ℕ) → Leads move s j t → Leads move t k u → Leads move s (j + k) u
  leads_on s t u j k f g = record { runs = λ n m e. f.runs n (k + m) (omega arith) ∙ g.runs (k + m) m refl }

pub one_head : (s : List Tree) (p : Tree) (m n : ℕ) (x y : HeadAnswer) (i j : ℕ) → head_form s m p ≡ answered x i → head_form s n p ≡ answered y j → x ≡ y
one_head s p m n x y i j e f =
    let a = head_form_more s m p x i n e in
    let b = head_form_more s n p y j m f in
    let k : n + m ≡ m + n = omega arith in
    let c : answered x (i + n) ≡ answered y (j + m) = sym a ∙ (subst (λ z. head_form s z p ≡ answered y (j + m)) k b) in cc
