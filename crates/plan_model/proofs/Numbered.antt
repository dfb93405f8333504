-- The numbers of what modules import: there is one list of them at most, and one where the modules stand as they are read.
use Rattle.std.proofs.Common.{◌≡◌, ℕ, zero, suc, ◌<◌, ◌⊎◌, inl, inr, List, [], ◌∷◌, ◌++◌, Contains, Some, get_or, length, slice_get, refl, sym, ap, subst, ◌∙◌, arith}
use Rattle.std.specs.List.{AllZip, flat_map}
use Rattle.std.proofs.lemmas.List.{length-map}
use Rattle.std.proofs.lemmas.List.Elements.{Contains-append_left, Contains-append_right, Contains-push_cases}
use Rattle.source_model.specs.Source.{Module}
use Rattle.plan_model.specs.Reading.{AreNew, no_more, known_name, new_name, AreNumbered, IsCalled, IsReading, Needs, imported, mentioned, names_of}
use Rattle.plan_model.specs.Orders.{Differ, Imports}
use Rattle.plan_model.proofs.Along.{Along, split_along}
use Rattle.plan_model.proofs.Lists.{contained_cases, contained_equal, contained_there, differ_head, differ_tail, none_contained}
use Rattle.plan_model.proofs.Taking.{order_of}

module _ {A : Type 0} where
  -- ---- one list of numbers at most

  called_one : (names : List A) (i j : ℕ) (x : A) → IsCalled names i x → IsCalled names j x → i ≡ j
  called_one names i j x c d = elim (order_of i j) [
    | inl l ↦ absurd (d.first i l c.called)
    | inr r ↦ elim r [ inl e ↦ e | inr l ↦ absurd (c.first j l d.called) ]
  ]

  calls_one : (names : List A) (is js : List ℕ) (xs : List A) → AllZip (IsCalled names) is xs → AllZip (IsCalled names) js xs → is ≡ js
  calls_one names [] [] xs h g = refl
  calls_one names [] (j ∷ js) [] h g = absurd g
  calls_one names [] (j ∷ js) (x ∷ xs) h g = absurd h
  calls_one names (i ∷ is) [] [] h g = absurd h
  calls_one names (i ∷ is) [] (x ∷ xs) h g = absurd g
  calls_one names (i ∷ is) (j ∷ js) [] h g = absurd h
  calls_one names (i ∷ is) (j ∷ js) (x ∷ xs) h g = let e = called_one names i j x h.0 g.0 in let r = calls_one names is js xs h.1 g.1 in cc

  -- the numbers of these modules' imports
  abbrev pub Numbers : List A → List (Module A) → Needs → Type 0
  Numbers names ms g = AllZip (λ m js. AllZip (IsCalled names) js (imported m)) ms g

  numbers_one : (names : List A) (ms : List (Module A)) (g h : Needs) → Numbers names ms g → Numbers names ms h → g ≡ h
  numbers_one names [] [] [] p q = refl
  numbers_one names [] [] (js ∷ h) p q = absurd q
  numbers_one names [] (is ∷ g) h p q = absurd p
  numbers_one names (m ∷ ms) [] h p q = absurd p
  numbers_one names (m ∷ ms) (is ∷ g) [] p q = absurd q
  numbers_one names (m ∷ ms) (is ∷ g) (js ∷ h) p q = let e = calls_one names is js (imported m) p.0 q.0 in let r = numbers_one names ms g h p.1 q.1 in cc

  pub numbered_one : (ms : List (Module A)) (g h : Needs) → AreNumbered ms g → AreNumbered ms h → g ≡ h
  numbered_one ms g h p q = numbers_one (names_of ms) ms g h p q

  pub names_one : (names : List A) (is : List ℕ) (xs ys : List A) → AllZip (IsCalled names) is xs → AllZip (IsCalled names) is ys → xs ≡ ys
  names_one names [] [] [] h g = refl
  names_one names [] [] (y ∷ ys) h g = absurd g
  names_one names [] (x ∷ xs) ys h g = absurd h
  names_one names (i ∷ is) [] ys h g = absurd h
  names_one names (i ∷ is) (x ∷ xs) [] h g = absurd g
  names_one names (i ∷ is) (x ∷ xs) (y ∷ ys) h g =
      let c = h.0.called in
      let d = g.0.called in
      let e : x ≡ y = cc in
      let r = names_one names is xs ys h.1 g.1 in cc

  -- ---- numbers are those of modules

  pub called_below : (names : List A) (i : ℕ) (x : A) → slice_get names i ≡ Some x → i < length names
  called_below [] i x e = absurd cc
  called_below (n ∷ names) zero x e = omega arith
  called_below (n ∷ names) (suc i) x e = let l = called_below names i x e in omega arith

  call_of : (names : List A) (js : List ℕ) (xs : List A) → AllZip (IsCalled names) js xs → (j : ℕ) → Contains js j → (x : A) × IsCalled names j x
  call_of names [] xs h j c = absurd (none_contained j c)
  call_of names (i ∷ js) [] h j c = absurd h
  call_of names (i ∷ js) (x ∷ xs) h j c = elim (contained_cases i j js c) [
    | inl e ↦ (x, subst (λ k. IsCalled names k x) e h.0)
    | inr t ↦ call_of names js xs h.1 j t
  ]

  number_call : (names : List A) (ms : List (Module A)) (g : Needs) → Numbers names ms g → (i j : ℕ) → Imports g i j → (x : A) × IsCalled names j x
  number_call names [] [] h i j c = absurd (none_contained j c)
  number_call names [] (js ∷ g) h i j c = absurd h
  number_call names (m ∷ ms) [] h i j c = absurd h
  number_call names (m ∷ ms) (js ∷ g) h zero j c = call_of names js (imported m) h.0 j c
  number_call names (m ∷ ms) (js ∷ g) h (suc i) j c = number_call names ms g h.1 i j c

  -- each module has them
  pub number_each : (names : List A) (ms : List (Module A)) (g : Needs) → Numbers names ms g → length ms ≡ length g
  number_each names [] [] h = refl
  number_each names [] (js ∷ g) h = absurd h
  number_each names (m ∷ ms) [] h = absurd h
  number_each names (m ∷ ms) (js ∷ g) h = ap suc (number_each names ms g h.1)

  -- what is imported is the first module of its name
  pub import_called : (ms : List (Module A)) (g : Needs) → AreNumbered ms g → (i j : ℕ) → Imports g i j → (x : A) × IsCalled (names_of ms) j x
  import_called ms g h i j c = number_call (names_of ms) ms g h i j c

  pub import_below : (ms : List (Module A)) (g : Needs) → AreNumbered ms g → (i j : ℕ) → Imports g i j → j < length g
  import_below ms g h i j c =
      let r = import_called ms g h i j c in
      let l = called_below (names_of ms) j r.0 r.1.called in
      let m = length-map ms (λ (m : Module A). m.name) in
      let n = number_each (names_of ms) ms g h in
      omega arith

  -- ---- modules as they are read have numbers

  -- x is not among those before it
  abbrev IsUnseen : List A → A → Type 0
  IsUnseen before x = Contains before x → ⊥

  new_along : (known xs ys : List A) → AreNew known xs ys → Along IsUnseen known ys
  new_along _ _ _ (no_more known) = tt
  new_along _ _ _ (known_name known xs ys x c r) = new_along known xs ys r
  new_along _ _ _ (new_name known xs ys x n r) = (n, new_along (known ++ x ∷ []) xs ys r)

  pub reading_differ : (ms : List (Module A)) → IsReading ms → Differ (names_of ms)
  reading_differ ms r = split_along IsUnseen [] (names_of ms) (new_along [] (mentioned ms) (names_of ms) r.new)

  new_there : (known xs ys : List A) → AreNew known xs ys → (x : A) → Contains xs x → Contains known x ⊎ Contains ys x
  new_there _ _ _ (no_more known) x h = inl (absurd (none_contained x h))
  new_there _ _ _ (known_name known xs ys y c r) x h = elim (contained_cases y x xs h) [
    | inl e ↦ inl (subst (λ z. Contains known z) e c)
    | inr t ↦ new_there known xs ys r x t
  ]
  new_there _ _ _ (new_name known xs ys y n r) x h = elim (contained_cases y x xs h) [
    | inl e ↦ inr (contained_equal y x ys e)
    | inr t ↦ elim (new_there (known ++ y ∷ []) xs ys r x t) [
      | inl k ↦ elim (Contains-push_cases known y x k) [ inl a ↦ inl a | inr e ↦ inr (contained_equal y x ys e) ]
      | inr k ↦ inr (contained_there y x ys k)
    ]
  ]

  pub at_there : (names : List A) (k : ℕ) (x : A) → slice_get names k ≡ Some x → Contains names x
  at_there [] k x e = absurd cc
  at_there (n ∷ names) zero x e = contained_equal n x names cc
  at_there (n ∷ names) (suc k) x e = contained_there n x names (at_there names k x e)

  first_next : (n : A) (names : List A) (k : ℕ) (x : A) → Differ (n ∷ names) → IsCalled names k x → (j : ℕ) → j < suc k → slice_get (n ∷ names) j ≡ Some x → ⊥
  first_next n names k x d c zero l e = differ_head n names d (let h : n ≡ x = cc in subst (λ y. Contains names y) (sym h) (at_there names k x c.called))
  first_next n names k x d c (suc j) l e = c.first j (omega arith) e

  name_at : (names : List A) → Differ names → (k : ℕ) → k < length names → (x : A) × IsCalled names k x
  name_at [] d k l = absurd (omega arith)
  name_at (n ∷ names) d zero l = (n, record { called = refl; first = λ j m e. omega arith })
  name_at (n ∷ names) d (suc k) l =
      let r = name_at names (differ_tail n names d) k (omega arith) in
      (r.0, record { called = r.1.called; first = first_next n names k r.0 d r.1 })

  pub got : (names : List A) (k : ℕ) (x y : A) → slice_get names k ≡ Some y → get_or names k x ≡ y
  got [] k x y e = absurd cc
  got (n ∷ names) zero x y e = cc
  got (n ∷ names) (suc k) x y e = got names k x y e

  called_from : (names : List A) → Differ names → (x : A) → Contains names x → (i : ℕ) × IsCalled names i x
  called_from names d x h =
      let r = name_at names d h.0 h.1 in
      (h.0, subst (λ y. IsCalled names h.0 y) (sym (got names h.0 x r.0 r.1.called) ∙ h.2) r.1)

  call_all : (names : List A) (xs : List A) → ((x : A) → Contains xs x → (i : ℕ) × IsCalled names i x) → (js : List ℕ) × AllZip (IsCalled names) js xs
  call_all names [] h = ([], tt)
  call_all names (x ∷ xs) h =
      let c = h x (contained_equal x x xs refl) in
      let r = call_all names xs (λ y t. h y (contained_there x y xs t)) in
      (c.0 ∷ r.0, (c.1, r.1))

  number_all : (names : List A) (ms : List (Module A)) → ((x : A) → Contains (flat_map imported ms) x → (i : ℕ) × IsCalled names i x) → (g : Needs) × Numbers names ms g
  number_all names [] h = ([], tt)
  number_all names (m ∷ ms) h =
      let c = call_all names (imported m) (λ x t. h x (Contains-append_left (imported m) (flat_map imported ms) x t)) in
      let r = number_all names ms (λ x t. h x (Contains-append_right (imported m) (flat_map imported ms) x t)) in
      (c.0 ∷ r.0, (c.1, r.1))

  mentioned_there : (ms : List (Module A)) (x : A) → Contains (flat_map imported ms) x → Contains (mentioned ms) x
  mentioned_there [] x h = h
  mentioned_there (m ∷ ms) x h = contained_there m.name x (flat_map imported (m ∷ ms)) h

  pub reading_numbered : (ms : List (Module A)) → IsReading ms → (g : Needs) × AreNumbered ms g
  reading_numbered ms r = number_all (names_of ms) ms (λ x t. called_from (names_of ms) (reading_differ ms r) x
      (elim (new_there [] (mentioned ms) (names_of ms) r.new x (mentioned_there ms x t)) [ inl k ↦ absurd (none_contained x k) | inr k ↦ k ]))
