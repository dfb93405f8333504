-- Elements of lists, and where they stand.
use Rattle.std.proofs.Common.{◌≡◌, ℕ, zero, suc, ◌<◌, ◌≤◌, ◌⊎◌, inl, inr, true, false, ◌||◌, List, [], ◌∷◌, ◌++◌, Contains, length, get_or, refl, sym, ap, subst, arith, eqb}
use Rattle.std.proofs.lemmas.Bool.Decides.{eqb_tells}
use Rattle.std.proofs.lemmas.List.Elements.{Contains-append_right}
use Rattle.std.proofs.lemmas.Map.Steps.{length-le_from_distinct_below}
use Rattle.std.specs.List.{AllByRecursion, IsDistinct, list_any}
use Rattle.plan_model.specs.Orders.{Differ}

module _ {A : Type 0} where
  pub none_contained : (x : A) → Contains [] x → ⊥
  none_contained x h = let l = h.1 in omega arith

  pub contained_here : (x : A) (xs : List A) → Contains (x ∷ xs) x
  contained_here x xs = (0, omega arith, refl)

  pub contained_there : (y x : A) (xs : List A) → Contains xs x → Contains (y ∷ xs) x
  contained_there y x xs h = let l = h.1 in (suc h.0, omega arith, h.2)

  at_cases : (y x : A) (xs : List A) (k : ℕ) → k < suc (length xs) → get_or (y ∷ xs) k x ≡ x → (y ≡ x) ⊎ Contains xs x
  at_cases y x xs zero l e = inl e
  at_cases y x xs (suc k) l e = inr (k, omega arith, e)

  pub contained_cases : (y x : A) (xs : List A) → Contains (y ∷ xs) x → (y ≡ x) ⊎ Contains xs x
  contained_cases y x xs h = at_cases y x xs h.0 h.1 h.2

  pub contained_equal : (y x : A) (xs : List A) → y ≡ x → Contains (y ∷ xs) x
  contained_equal y x xs e = subst (λ z. Contains (y ∷ xs) z) e (contained_here y xs)

  pub contained_inside : (before : List A) (x : A) (after : List A) → Contains (before ++ x ∷ after) x
  contained_inside before x after = Contains-append_right before (x ∷ after) x (contained_here x after)

  -- where an element stands
  pub record Place (xs : List A) (x : A) : Type 0 where
    pub before : List A
    pub after : List A
    pub is : xs ≡ before ++ x ∷ after

  place_next : (y : A) (xs : List A) (x : A) → (Contains xs x → Place xs x) → (y ≡ x) ⊎ Contains xs x → Place (y ∷ xs) x
  place_next y xs x rest (inl e) = record { before = []; after = xs; is = ap (λ z. z ∷ xs) e }
  place_next y xs x rest (inr h) = let p = rest h in record { before = y ∷ p.before; after = p.after; is = ap (λ zs. y ∷ zs) p.is }

  pub place : (xs : List A) (x : A) → Contains xs x → Place xs x
  place [] x h = absurd (none_contained x h)
  place (y ∷ xs) x h = place_next y xs x (place xs x) (contained_cases y x xs h)

  pub differ_tail : (y : A) (xs : List A) → Differ (y ∷ xs) → Differ xs
  differ_tail y xs d before x after e h = d (y ∷ before) x after (ap (λ zs. y ∷ zs) e) (contained_there y x before h)

  -- the first of them does not come again
  pub differ_head : (y : A) (xs : List A) → Differ (y ∷ xs) → Contains xs y → ⊥
  differ_head y xs d h = let p = place xs y h in d (y ∷ p.before) y p.after (ap (λ zs. y ∷ zs) p.is) (contained_here y p.before)

  -- a list ends with an element, or has none
  last_next : (y : A) (xs : List A) → (xs ≡ []) ⊎ ((before : List A) × ((x : A) × (xs ≡ before ++ x ∷ []))) → (y ∷ xs ≡ []) ⊎ ((before : List A) × ((x : A) × (y ∷ xs ≡ before ++ x ∷ [])))
  last_next y xs (inl e) = inr ([], (y, ap (λ zs. y ∷ zs) e))
  last_next y xs (inr h) = inr (y ∷ h.0, (h.1.0, ap (λ zs. y ∷ zs) h.1.1))

  pub last_or_none : (xs : List A) → (xs ≡ []) ⊎ ((before : List A) × ((x : A) × (xs ≡ before ++ x ∷ [])))
  last_or_none [] = inl refl
  last_or_none (y ∷ xs) = last_next y xs (last_or_none xs)

  -- an element has one place in a list in which nothing comes twice
  pub one_place : (us bs cs ds : List A) (x : A) → Differ (us ++ x ∷ bs) → us ++ x ∷ bs ≡ cs ++ x ∷ ds → (us ≡ cs) × (bs ≡ ds)
  one_place [] bs [] ds x d e = (refl, cc)
  one_place [] bs (c ∷ cs) ds x d e = let h : x ≡ c = cc in absurd (d (c ∷ cs) x ds e (contained_equal c x cs (sym h)))
  one_place (a ∷ us) bs [] ds x d e = let h : a ≡ x = cc in absurd (d (a ∷ us) x bs refl (contained_equal a x us h))
  one_place (a ∷ us) bs (c ∷ cs) ds x d e =
      let r = one_place us bs cs ds x (differ_tail a (us ++ x ∷ bs) d) cc in
      let first = r.0 in
      let h : a ≡ c = cc in (cc, r.1)

  pub no_end : (xs : List A) (x : A) → [] ≡ xs ++ x ∷ [] → ⊥
  no_end [] x e = cc
  no_end (y ∷ xs) x e = cc

  pub same_ends : (us bs : List A) (x y : A) → us ++ x ∷ [] ≡ bs ++ y ∷ [] → (us ≡ bs) × (x ≡ y)
  same_ends [] [] x y e = (refl, cc)
  same_ends [] (b ∷ bs) x y e = absurd (no_end bs y cc)
  same_ends (a ∷ us) [] x y e = absurd (no_end us x cc)
  same_ends (a ∷ us) (b ∷ bs) x y e =
      let r = same_ends us bs x y cc in
      let first = r.0 in
      let h : a ≡ b = cc in (cc, r.1)

-- ---- numbers

contained_next : (y : ℕ) (xs : List ℕ) (x : ℕ) → ((eqb y x ≡ true) × (y ≡ x)) ⊎ ((eqb y x ≡ false) × (y ≡ x → ⊥)) → Contains xs x ⊎ (Contains xs x → ⊥) → Contains (y ∷ xs) x ⊎ (Contains (y ∷ xs) x → ⊥)
contained_next y xs x (inl e) r = inl (contained_equal y x xs e.1)
contained_next y xs x (inr n) (inl h) = inl (contained_there y x xs h)
contained_next y xs x (inr n) (inr m) = inr (λ h. elim (contained_cases y x xs h) [ inl e ↦ n.1 e | inr t ↦ m t ])

pub contained_or : (xs : List ℕ) (x : ℕ) → Contains xs x ⊎ (Contains xs x → ⊥)
contained_or [] x = inr (none_contained x)
contained_or (y ∷ xs) x = contained_next y xs x (eqb_tells y x) (contained_or xs x)

apart_next : (x y : ℕ) (xs : List ℕ) → (Contains (y ∷ xs) x → ⊥) → ((eqb x y ≡ true) × (x ≡ y)) ⊎ ((eqb x y ≡ false) × (x ≡ y → ⊥)) → eqb x y ≡ false
apart_next x y xs n (inl e) = absurd (n (contained_equal y x xs (sym e.1)))
apart_next x y xs n (inr e) = e.0

apart : (x : ℕ) (xs : List ℕ) → (Contains xs x → ⊥) → AllByRecursion (λ y. eqb x y ≡ false) xs
apart x [] n = tt
apart x (y ∷ xs) n = (apart_next x y xs n (eqb_tells x y), apart x xs (λ h. n (contained_there y x xs h)))

distinct : (xs : List ℕ) → Differ xs → IsDistinct eqb xs
unfolding IsDistinct
distinct [] d = tt
distinct (x ∷ xs) d = (apart x xs (differ_head x xs d), distinct xs (differ_tail x xs d))

any_next : (q y : ℕ) (xs : List ℕ) → (list_any (eqb q) xs ≡ true → Contains xs q) → ((eqb q y ≡ true) × (q ≡ y)) ⊎ ((eqb q y ≡ false) × (q ≡ y → ⊥)) → (eqb q y || list_any (eqb q) xs) ≡ true → Contains (y ∷ xs) q
any_next q y xs rest (inl e) h = contained_equal y q xs (sym e.1)
any_next q y xs rest (inr e) h = contained_there y q xs (rest (subst (λ b. (b || list_any (eqb q) xs) ≡ true) e.0 h))

any_contained : (q : ℕ) (xs : List ℕ) → list_any (eqb q) xs ≡ true → Contains xs q
any_contained q [] h = absurd cc
any_contained q (y ∷ xs) h = any_next q y xs (any_contained q xs) (eqb_tells q y) h

-- so many numbers are not below a smaller one
pub few_below : (xs : List ℕ) (n : ℕ) → Differ xs → ((k : ℕ) → Contains xs k → k < n) → length xs ≤ n
few_below xs n d below = length-le_from_distinct_below xs n (distinct xs d) (λ q h. below q (any_contained q xs h))

-- ---- searches

-- the lowest number of which P holds
pub record Lowest (P : ℕ → Type 0) (n : ℕ) : Type 0 where
  pub number : ℕ
  pub below : number < n
  pub holds : P number
  pub first : (j : ℕ) → j < number → P j → ⊥

module _ (P : ℕ → Type 0) (decide : (k : ℕ) → P k ⊎ (P k → ⊥)) where
  below_or : (n : ℕ) (j : ℕ) → ((j : ℕ) → j < n → P j → ⊥) → (P n → ⊥) → j < suc n → ((eqb j n ≡ true) × (j ≡ n)) ⊎ ((eqb j n ≡ false) × (j ≡ n → ⊥)) → P j → ⊥
  below_or n j none m l (inl e) h = m (subst P e.1 h)
  below_or n j none m l (inr e) h = let f = e.1 in none j (omega arith) h

  lowest_next : (n : ℕ) → Lowest P n ⊎ ((j : ℕ) → j < n → P j → ⊥) → P n ⊎ (P n → ⊥) → Lowest P (suc n) ⊎ ((j : ℕ) → j < suc n → P j → ⊥)
  lowest_next n (inl r) d = inl (record { number = r.number; below = (let l = r.below in omega arith); holds = r.holds; first = r.first })
  lowest_next n (inr none) (inl h) = inl (record { number = n; below = omega arith; holds = h; first = none })
  lowest_next n (inr none) (inr m) = inr (λ j l h. below_or n j none m l (eqb_tells j n) h)

  pub lowest_or : (n : ℕ) → Lowest P n ⊎ ((j : ℕ) → j < n → P j → ⊥)
  lowest_or zero = inr (λ j l h. omega arith)
  lowest_or (suc n) = lowest_next n (lowest_or n) (decide n)

  -- the first element of which P holds
  pub record FirstIn (xs : List ℕ) : Type 0 where
    pub before : List ℕ
    pub number : ℕ
    pub after : List ℕ
    pub is : xs ≡ before ++ number ∷ after
    pub holds : P number
    pub first : (k : ℕ) → Contains before k → P k → ⊥

  not_in : (y : ℕ) (xs : List ℕ) → (P y → ⊥) → ((k : ℕ) → Contains xs k → P k → ⊥) → (k : ℕ) → (y ≡ k) ⊎ Contains xs k → P k → ⊥
  not_in y xs n none k (inl e) h = n (subst P (sym e) h)
  not_in y xs n none k (inr t) h = none k t h

  first_next : (y : ℕ) (xs : List ℕ) → P y ⊎ (P y → ⊥) → FirstIn xs ⊎ ((k : ℕ) → Contains xs k → P k → ⊥) → FirstIn (y ∷ xs) ⊎ ((k : ℕ) → Contains (y ∷ xs) k → P k → ⊥)
  first_next y xs (inl h) r = inl (record { before = []; number = y; after = xs; is = refl; holds = h; first = λ k c p. none_contained k c })
  first_next y xs (inr n) (inl r) = inl (record {
    before = y ∷ r.before;
    number = r.number;
    after = r.after;
    is = ap (λ zs. y ∷ zs) r.is;
    holds = r.holds;
    first = λ k c. not_in y r.before n r.first k (contained_cases y k r.before c);
  })
  first_next y xs (inr n) (inr none) = inr (λ k c. not_in y xs n none k (contained_cases y k xs c))

  pub first_or : (xs : List ℕ) → FirstIn xs ⊎ ((k : ℕ) → Contains xs k → P k → ⊥)
  first_or [] = inr (λ k c p. none_contained k c)
  first_or (y ∷ xs) = first_next y xs (decide y) (first_or xs)
