-- Modules taken by the table.
use Rattle.std.proofs.Common.{◌≡◌, ℕ, ◌-◌, ◌<◌, ◌⊎◌, inl, inr, Bool, true, false, List, [], ◌∷◌, ◌++◌, Contains, Option, Some, None, MatchOption, IsTrue, is_some, not, get_or, length, set, refl, sym, ap, subst, ◌∙◌, arith, eqb}
use Rattle.std.proofs.lemmas.Bool.Decides.{eqb_tells}
use Rattle.std.proofs.lemmas.List.{get_or-set_other, get_or-set_same, length-set, length_push}
use Rattle.std.proofs.lemmas.List.Elements.{Contains-append_left, Contains-push, Contains-push_cases}
use Rattle.plan_model.specs.Reading.{Needs}
use Rattle.plan_model.proofs.Along.{along_push}
use Rattle.plan_model.proofs.Finished.{left_stuck}
use Rattle.plan_model.proofs.Lists.{contained_inside}
use Rattle.plan_model.proofs.Taking.{AreTaken, IsFree, IsNext, few_taken, free_can, frees, taken_first}
use Rattle.build_plan.specs.Tables.{AllTaken, CanBeNext, IsFirstLeft, IsTaken}

-- these modules were taken, each as the lowest that is free, and the table has just them
pub record IsTaking (needs : Needs) (order : List ℕ) (taken : List Bool) : Type 0 where
  pub each : length taken ≡ length needs
  pub order_of : (i : ℕ) → IsTaken taken i → Contains order i
  pub table_of : (i : ℕ) → Contains order i → IsTaken taken i
  pub are : AreTaken needs order

module _ (needs : Needs) where
  module _ (order : List ℕ) (taken : List Bool) (h : IsTaking needs order taken) where
    next_free : (i : ℕ) → CanBeNext needs taken i → IsFree needs order i
    next_free i n = record { below = n.there; fresh = λ c. n.left (h.table_of i c); ready = λ j m. h.order_of j (n.ready j m) }

    free_next : (i : ℕ) → IsFree needs order i → CanBeNext needs taken i
    free_next i f = record { there = f.below; left = λ t. f.fresh (h.order_of i t); ready = λ j m. h.table_of j (f.ready j m) }

    module _ (i : ℕ) (n : CanBeNext needs taken i) (first : (j : ℕ) → j < i → CanBeNext needs taken j → ⊥) where
      more_taken : AreTaken needs (order ++ i ∷ [])
      more_taken = along_push (IsNext needs) [] order i h.are (record { free = next_free i n; lowest = λ j l f. first j l (free_next j f) })

      order_more : (j : ℕ) → ((eqb j i ≡ true) × (j ≡ i)) ⊎ ((eqb j i ≡ false) × (j ≡ i → ⊥)) → IsTaken (set taken i true) j → Contains (order ++ i ∷ []) j
      order_more j (inl e) t = subst (λ k. Contains (order ++ i ∷ []) k) (sym e.1) (Contains-push order i)
      order_more j (inr f) t = Contains-append_left order (i ∷ []) j (h.order_of j (sym (get_or-set_other taken i j true false f.1) ∙ t))

      in_table : i < length taken
      in_table = let l = n.there in let e = h.each in omega arith

      table_more : (j : ℕ) → ((eqb j i ≡ true) × (j ≡ i)) ⊎ ((eqb j i ≡ false) × (j ≡ i → ⊥)) → Contains (order ++ i ∷ []) j → IsTaken (set taken i true) j
      table_more j (inl e) c = ap (λ k. get_or (set taken i true) k false) e.1 ∙ get_or-set_same taken i true false in_table
      table_more j (inr f) c = elim (Contains-push_cases order i j c) [
        | inl t ↦ get_or-set_other taken i j true false f.1 ∙ h.table_of j t
        | inr e ↦ absurd (f.1 (sym e))
      ]

      -- one more is taken
      pub taking_more : IsTaking needs (order ++ i ∷ []) (set taken i true)
      taking_more = record {
        each = length-set taken i true ∙ h.each;
        order_of = λ j. order_more j (eqb_tells j i);
        table_of = λ j. table_more j (eqb_tells j i);
        are = more_taken;
      }

      -- and fewer are left
      pub fewer_left : length needs - length (order ++ i ∷ []) < length needs - length order
      fewer_left = let l = few_taken needs (order ++ i ∷ []) more_taken in let e = length_push order i in omega arith

    -- none is free
    pub taking_all : ((i : ℕ) → CanBeNext needs taken i → ⊥) → AllTaken needs order taken
    taking_all none = record {
      each = h.each;
      can = λ i t. free_can needs order (frees needs order h.are) i (h.order_of i t);
      stuck = λ i l n. left_stuck needs order h.are (λ j f. none j (free_next j f)) i l (λ c. n (h.table_of i c));
      first = λ all. taken_first needs order h.are (λ i l. h.order_of i (all i l));
    }

-- the module can be the next where nothing that it imports is left
pub next_by : (needs : Needs) (taken : List Bool) (i : ℕ) (js : List ℕ) (o : Option ℕ) (b : Bool) → get_or needs i [] ≡ js → i < length needs → (IsTaken taken i → ⊥)
    → MatchOption o ((j : ℕ) → Contains js j → IsTaken taken j) (IsFirstLeft taken js) → is_some o ≡ not b → (IsTrue b → CanBeNext needs taken i) × (CanBeNext needs taken i → IsTrue b)
next_by needs taken i js None true e l n h s = ((λ t. record { there = l; left = n; ready = λ j c. h j (subst (λ xs. Contains xs j) e c) }), (λ f. refl))
next_by needs taken i js None false e l n h s = absurd cc
next_by needs taken i js (Some j) true e l n h s = absurd cc
next_by needs taken i js (Some j) false e l n h s =
    ((λ t. absurd cc), (λ f. absurd (h.left (f.ready j (subst (λ xs. Contains xs j) (sym e) (subst (λ xs. Contains xs j) (sym h.is) (contained_inside h.before j h.after)))))))
