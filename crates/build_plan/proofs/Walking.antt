-- The walk by the table.
use Rattle.std.proofs.Common.{◌≡◌, ℕ, suc, ◌-◌, ◌<◌, Bool, List, [], ◌∷◌, ◌++◌, Contains, Result, Ok, Err, IfOk, drop, get_or, length, take, sym, ap, subst, ◌∙◌, arith}
use Rattle.std.proofs.lemmas.List.{length_push}
use Rattle.plan_model.specs.Reading.{Needs}
use Rattle.plan_model.specs.Orders.{Differ, Imports}
use Rattle.plan_model.specs.Cycles.{CanBeTaken, can_be_taken, IsCycleOf, IsStuck, IsStuckAt}
use Rattle.plan_model.proofs.Along.{Along, along_push}
use Rattle.plan_model.proofs.Lists.{contained_inside}
use Rattle.plan_model.proofs.Walks.{WalkAt, differ_push, few_walked, walk_cycle, walk_next, walk_stuck}
use Rattle.build_plan.specs.Tables.{IsFirstLeft, IsTaken}
use Rattle.build_plan.proofs.Places.{drop_at, split_at}

-- the walk has come along this path, and stands there
pub record IsWalking (needs : Needs) (path : List ℕ) (at : ℕ) : Type 0 where
  pub along : Along (WalkAt needs) [] path
  pub differ : Differ path
  pub here : WalkAt needs path at

module _ (needs : Needs) where
  module _ (path : List ℕ) (at : ℕ) (h : IsWalking needs path at) where
    pub walking_stuck : IsStuck needs at
    walking_stuck = walk_stuck needs path at h.here

    pub walking_there : at < length needs
    walking_there = (walk_stuck needs path at h.here).there

    -- the cycle, where the walk has been there before
    pub walking_ends : (k : ℕ) → k < length path → get_or path k 0 ≡ at → (c : List ℕ) → c ≡ drop k path ++ at ∷ [] → IsCycleOf needs c
    walking_ends k l e c is =
        let s : path ≡ take k path ++ at ∷ drop (suc k) path = split_at path k l ∙ ap (λ x. take k path ++ x ∷ drop (suc k) path) e in
        let d : c ≡ at ∷ (drop (suc k) path ++ at ∷ []) = is ∙ ap (λ xs. xs ++ at ∷ []) (drop_at path k l ∙ ap (λ x. x ∷ drop (suc k) path) e) in
        subst (λ xs. IsCycleOf needs xs) (sym d)
        (walk_cycle needs (take k path) (drop (suc k) path) at (subst (λ xs. Along (WalkAt needs) [] (xs ++ at ∷ [])) s (along_push (WalkAt needs) [] path at h.along h.here))
        (subst (λ (xs : List ℕ). Differ xs) s h.differ))

    module _ (fresh : Contains path at → ⊥) where
      walked : Along (WalkAt needs) [] (path ++ at ∷ [])
      walked = along_push (WalkAt needs) [] path at h.along h.here

      pub walking_more : (next : ℕ) → IsStuckAt needs at next → IsWalking needs (path ++ at ∷ []) next
      walking_more next s = record { along = walked; differ = differ_push path at h.differ fresh; here = walk_next needs path at next s }

      pub fewer_steps : length needs - length (path ++ at ∷ []) < length needs - length path
      fewer_steps = let l = few_walked needs (path ++ at ∷ []) walked (differ_push path at h.differ fresh) in let e = length_push path at in omega arith

  -- the first import that is left in the table is the first that is stuck
  pub stuck_at : (n : ℕ) (taken : List Bool) (i j : ℕ) → ((k : ℕ) → IsTaken taken k → CanBeTaken needs k) → ((k : ℕ) → k < n → (IsTaken taken k → ⊥) → IsStuck needs k)
      → ((k m : ℕ) → Imports needs k m → m < n) → IsFirstLeft taken (get_or needs i []) j → IsStuckAt needs i j
  stuck_at n taken i j can stuck below f = record {
    before = f.before;
    after = f.after;
    imports = f.is;
    stuck = stuck j (below i j (subst (λ xs. Contains xs j) (sym f.is) (contained_inside f.before j f.after))) f.left;
    first = λ k c. can k (f.first k c);
  }

  -- where the walk stands, not all imports are taken
  pub left_import : (taken : List Bool) (i : ℕ) → ((k : ℕ) → IsTaken taken k → CanBeTaken needs k) → IsStuck needs i → ((k : ℕ) → Contains (get_or needs i []) k → IsTaken taken k) → ⊥
  left_import taken i can s all = s.never (can_be_taken i s.there (λ k c. can k (all k c)))

-- what holds of a value that is answered
pub ok_weaker : {T E : Type 0} (P Q : T → Type 0) (r : Result T E) → ((x : T) → P x → Q x) → IfOk r P → IfOk r Q
ok_weaker P Q (Ok x) w h = w x h
ok_weaker P Q (Err e) w h = h
