-- Modules taken one after the other, each the lowest that is free.
use Rattle.std.proofs.Common.{◌≡◌, ℕ, ◌<◌, ◌≤◌, ◌⊎◌, inl, inr, List, [], ◌∷◌, ◌++◌, Contains, length, sym, ap, subst, ◌∙◌, arith}
use Rattle.std.proofs.lemmas.List.{append-nil, append_assoc}
use Rattle.std.proofs.lemmas.Bool.Decides.{eqb_tells, leb_tells}
use Rattle.std.proofs.lemmas.List.Elements.{Contains-push_cases}
use Rattle.plan_model.specs.Reading.{Needs}
use Rattle.plan_model.specs.Orders.{AtMost, Differ, Imports, IsFirstOrderOf, IsOrderOf}
use Rattle.plan_model.specs.Cycles.{CanBeTaken, can_be_taken}
use Rattle.plan_model.proofs.Lists.{contained_inside, contained_or, few_below, none_contained, place}
use Rattle.plan_model.proofs.Along.{Along, along, along_weaker, split_along}

-- where these modules are taken, this one can be the next
pub record IsFree (needs : Needs) (taken : List ℕ) (i : ℕ) : Type 0 where
  pub below : i < length needs
  pub fresh : Contains taken i → ⊥
  pub ready : (j : ℕ) → Imports needs i j → Contains taken j

-- and is the lowest that can
pub record IsNext (needs : Needs) (taken : List ℕ) (i : ℕ) : Type 0 where
  pub free : IsFree needs taken i
  pub lowest : (j : ℕ) → j < i → IsFree needs taken j → ⊥

-- these modules were taken, each as the lowest that is free
abbrev pub AreTaken : Needs → List ℕ → Type 0
AreTaken needs o = Along (IsNext needs) [] o

pub order_of : (i j : ℕ) → (i < j) ⊎ ((i ≡ j) ⊎ (j < i))
order_of i j = elim (leb_tells j i) [
  | inr l ↦ inl l.1
  | inl l ↦ elim (eqb_tells i j) [ inl e ↦ inr (inl e.1) | inr e ↦ inr (inr (let f = e.1 in let m = l.1 in omega arith)) ]
]

module _ (needs : Needs) where
  pub frees : (o : List ℕ) → AreTaken needs o → Along (IsFree needs) [] o
  frees o h = along_weaker (IsNext needs) (IsFree needs) (λ before i n. n.free) [] o h

  free_at : (o : List ℕ) → Along (IsFree needs) [] o → (before : List ℕ) (i : ℕ) (after : List ℕ) → o ≡ before ++ i ∷ after → IsFree needs before i
  free_at o h before i after e = split_along (IsFree needs) [] o h before i after e

  pub free_below : (o : List ℕ) → Along (IsFree needs) [] o → (i : ℕ) → Contains o i → i < length needs
  free_below o h i c = let p = place o i c in (free_at o h p.before i p.after p.is).below

  pub free_once : (o : List ℕ) → Along (IsFree needs) [] o → Differ o
  free_once o h before i after e c = (free_at o h before i after e).fresh c

  -- never more than there are
  pub few_taken : (o : List ℕ) → AreTaken needs o → length o ≤ length needs
  few_taken o h = few_below o (length needs) (free_once o (frees o h)) (free_below o (frees o h))

  -- an order is taken by free modules
  pub order_frees : (p : List ℕ) → IsOrderOf needs p → Along (IsFree needs) [] p
  order_frees p h = along (IsFree needs) [] p (λ before i after e. record {
    below = (h.each i).0 (subst (λ xs. Contains xs i) (sym e) (contained_inside before i after));
    fresh = h.once before i after e;
    ready = h.earlier before i after e;
  })

  pub frees_order : (o : List ℕ) → Along (IsFree needs) [] o → ((i : ℕ) → i < length needs → Contains o i) → IsOrderOf needs o
  frees_order o h all = record {
    each = λ i. (free_below o h i, all i);
    once = free_once o h;
    earlier = λ before i after e. (free_at o h before i after e).ready;
  }

  -- ---- the first order

  at_most_next : (taken : List ℕ) (i j : ℕ) (o p : List ℕ) → IsNext needs taken i → IsFree needs taken j → (i ≡ j → AtMost o p) → AtMost (i ∷ o) (j ∷ p)
  at_most_next taken i j o p n f rest = elim (order_of i j) [
    | inl l ↦ inl l
    | inr r ↦ elim r [ inl e ↦ inr (e, rest e) | inr l ↦ absurd (n.lowest j l f) ]
  ]

  at_most : (taken o p : List ℕ) → Along (IsNext needs) taken o → Along (IsFree needs) taken p → ((i : ℕ) → i < length needs → Contains (taken ++ p) i) → AtMost o p
  at_most taken [] p h f all = tt
  at_most taken (i ∷ o) [] h f all = h.0.free.fresh (subst (λ xs. Contains xs i) (append-nil taken) (all i h.0.free.below))
  at_most taken (i ∷ o) (j ∷ p) h f all = at_most_next taken i j o p h.0 f.0 (λ e.
      at_most (taken ++ i ∷ []) o p h.1 (subst (λ k. Along (IsFree needs) (taken ++ k ∷ []) p) (sym e) f.1)
      (λ k l. subst (λ xs. Contains xs k) (ap (λ m. taken ++ m ∷ p) (sym e) ∙ sym (append_assoc taken (i ∷ []) p)) (all k l)))

  pub taken_first : (o : List ℕ) → AreTaken needs o → ((i : ℕ) → i < length needs → Contains o i) → IsFirstOrderOf needs o
  taken_first o h all = record {
    order = frees_order o (frees o h) all;
    first = λ p q. at_most [] o p h (order_frees p q) (λ i l. (q.each i).1 l);
  }

  -- ---- what can be taken

  can_along : (taken o : List ℕ) → Along (IsFree needs) taken o → ((i : ℕ) → Contains taken i → CanBeTaken needs i) → (i : ℕ) → Contains (taken ++ o) i → CanBeTaken needs i
  can_along taken [] f h i c = h i (subst (λ xs. Contains xs i) (append-nil taken) c)
  can_along taken (k ∷ o) f h i c =
      let can : CanBeTaken needs k = can_be_taken k f.0.below (λ j m. h j (f.0.ready j m)) in
      can_along (taken ++ k ∷ []) o f.1 (λ j d. elim (Contains-push_cases taken k j d) [ inl e ↦ h j e | inr e ↦ subst (λ m. CanBeTaken needs m) e can ]) i
      (subst (λ xs. Contains xs i) (sym (append_assoc taken (k ∷ []) o)) c)

  pub free_can : (o : List ℕ) → Along (IsFree needs) [] o → (i : ℕ) → Contains o i → CanBeTaken needs i
  free_can o f i c = can_along [] o f (λ j d. absurd (none_contained j d)) i c

  -- where no module is free, all that can be taken are
  taken_or : (o : List ℕ) → ((i : ℕ) → IsFree needs o i → ⊥) → (i : ℕ) → i < length needs → ((j : ℕ) → Imports needs i j → Contains o j) → Contains o i ⊎ (Contains o i → ⊥) → Contains o i
  taken_or o none i l r (inl c) = c
  taken_or o none i l r (inr n) = absurd (none i (record { below = l; fresh = n; ready = r }))

  pub can_taken : (o : List ℕ) → ((i : ℕ) → IsFree needs o i → ⊥) → (i : ℕ) → CanBeTaken needs i → Contains o i
  can_taken o none _ (can_be_taken i l f) = taken_or o none i l (λ j m. can_taken o none j (f j m)) (contained_or o i)
