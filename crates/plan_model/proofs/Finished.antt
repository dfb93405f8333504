-- Free modules are taken until none is free.
use Rattle.std.proofs.Common.{ℕ, zero, suc, ◌+◌, ◌<◌, ◌⊎◌, inl, inr, List, [], ◌∷◌, ◌++◌, Contains, get_or, length, sym, subst, arith}
use Rattle.std.proofs.lemmas.Bool.Decides.{leb_tells}
use Rattle.std.proofs.lemmas.List.{length_push}
use Rattle.plan_model.specs.Reading.{Needs}
use Rattle.plan_model.specs.Orders.{Imports}
use Rattle.plan_model.specs.Cycles.{IsFirstStuck, IsStuck, IsStuckAt, can_be_taken}
use Rattle.plan_model.proofs.Lists.{Lowest, contained_inside, contained_or, first_or, lowest_or}
use Rattle.plan_model.proofs.Along.{along_push}
use Rattle.plan_model.proofs.Taking.{AreTaken, IsFree, IsNext, can_taken, few_taken, free_can, frees}

-- it is decided whether an element is missing
missing_or : (taken : List ℕ) (k : ℕ) → (Contains taken k → ⊥) ⊎ ((Contains taken k → ⊥) → ⊥)
missing_or taken k = elim (contained_or taken k) [ inl c ↦ inr (λ n. n c) | inr n ↦ inl n ]

-- what is not missing is there
pub not_missing : (taken : List ℕ) (k : ℕ) → ((Contains taken k → ⊥) → ⊥) → Contains taken k
not_missing taken k h = elim (contained_or taken k) [ inl c ↦ c | inr n ↦ absurd (h n) ]

module _ (needs : Needs) where
  free_or : (taken : List ℕ) (i : ℕ) → IsFree needs taken i ⊎ (IsFree needs taken i → ⊥)
  free_or taken i = elim (leb_tells (length needs) i) [
    | inl l ↦ inr (λ f. let a = l.1 in let b = f.below in omega arith)
    | inr l ↦ elim (contained_or taken i) [
      | inl c ↦ inr (λ f. f.fresh c)
      | inr n ↦ elim (first_or (λ k. Contains taken k → ⊥) (missing_or taken) (get_or needs i [])) [
        | inl r ↦ inr (λ f. r.holds (f.ready r.number (subst (λ xs. Contains xs r.number) (sym r.is) (contained_inside r.before r.number r.after))))
        | inr all ↦ inl (record { below = l.1; fresh = n; ready = λ j m. not_missing taken j (all j m) })
      ]
    ]
  ]

  -- modules taken until none is free
  pub record Finished : Type 0 where
    pub order : List ℕ
    pub taken : AreTaken needs order
    pub none : (i : ℕ) → IsFree needs order i → ⊥

  go_on : (k : ℕ) (o : List ℕ) → AreTaken needs o → length needs < length o + k → Finished
  go_on zero o h l = let m = few_taken needs o h in absurd (omega arith)
  go_on (suc k) o h l = elim (lowest_or (IsFree needs o) (free_or o) (length needs)) [
    | inl r ↦ go_on k (o ++ r.number ∷ []) (along_push (IsNext needs) [] o r.number h (record { free = r.holds; lowest = r.first })) (omega (arith, length_push o r.number))
    | inr none ↦ record { order = o; taken = h; none = λ i f. none i f.below f }
  ]

  pub finished : Finished
  finished = go_on (suc (length needs)) [] tt (omega arith)

  -- all are taken, or one that is not is the first
  pub all_or : (o : List ℕ) → ((i : ℕ) → i < length needs → Contains o i) ⊎ Lowest (λ i. Contains o i → ⊥) (length needs)
  all_or o = elim (lowest_or (λ i. Contains o i → ⊥) (missing_or o) (length needs)) [ inl r ↦ inr r | inr none ↦ inl (λ i l. not_missing o i (none i l)) ]

  module _ (o : List ℕ) (taken : AreTaken needs o) (none : (i : ℕ) → IsFree needs o i → ⊥) where
    pub left_stuck : (i : ℕ) → i < length needs → (Contains o i → ⊥) → IsStuck needs i
    left_stuck i l n = record { there = l; never = λ c. n (can_taken needs o none i c) }

    pub left_first : (i : ℕ) → i < length needs → (Contains o i → ⊥) → ((j : ℕ) → j < i → Contains o j) → IsFirstStuck needs i
    left_first i l n f = record { stuck = left_stuck i l n; first = λ j m. free_can needs o (frees needs o taken) j (f j m) }

    -- a stuck module has a first import that is stuck
    pub stuck_import : ((i j : ℕ) → Imports needs i j → j < length needs) → (i : ℕ) → IsStuck needs i → (j : ℕ) × IsStuckAt needs i j
    stuck_import below i s = elim (first_or (λ k. Contains o k → ⊥) (missing_or o) (get_or needs i [])) [
      | inl r ↦ (
        r.number,
        record {
          before = r.before;
          after = r.after;
          imports = r.is;
          stuck = left_stuck r.number (below i r.number (subst (λ xs. Contains xs r.number) (sym r.is) (contained_inside r.before r.number r.after))) r.holds;
          first = λ k c. free_can needs o (frees needs o taken) k (not_missing o k (r.first k c));
        },
      )
      | inr all ↦ absurd (s.never (can_be_taken i s.there (λ j m. free_can needs o (frees needs o taken) j (not_missing o j (all j m)))))
    ]
