-- Modules with other names have the same numbers.
use Rattle.std.proofs.Common.{◌≡◌, ℕ, zero, suc, ◌↔◌, inl, inr, List, [], ◌∷◌, Contains, Some, map, slice_get, refl, sym, ap, subst, ◌∙◌}
use Rattle.std.specs.List.{AllZip, flat_map}
use Rattle.std.proofs.lemmas.List.Elements.{Contains-append_left, Contains-append_right}
use Rattle.source_model.specs.Source.{Module}
use Rattle.plan_model.specs.Reading.{AreNumbered, IsCalled, Needs, imported, names_of}
use Rattle.plan_model.specs.Orders.{IsFirstOrder, IsOrder}
use Rattle.plan_model.specs.Cycles.{IsCycle}
use Rattle.plan_model.specs.Renamed.{AreRenamed}
use Rattle.plan_model.proofs.Answered.{call_each, cycle_imported}
use Rattle.plan_model.proofs.Lists.{contained_cases, contained_here, contained_there, none_contained}
use Rattle.plan_model.proofs.Numbered.{Numbers, at_there, import_called, names_one}

module _ {A B : Type 0} (f : A → B) where
  get_map : (xs : List A) (i : ℕ) (x : A) → slice_get xs i ≡ Some x → slice_get (map f xs) i ≡ Some (f x)
  get_map [] i x e = absurd cc
  get_map (y ∷ xs) zero x e = let h : y ≡ x = cc in ap (λ z. Some (f z)) h
  get_map (y ∷ xs) (suc i) x e = get_map xs i x e

  got_map : (xs : List A) (i : ℕ) (z : B) → slice_get (map f xs) i ≡ Some z → (x : A) × (slice_get xs i ≡ Some x) × (f x ≡ z)
  got_map [] i z e = absurd cc
  got_map (y ∷ xs) zero z e = let h : f y ≡ z = cc in (y, refl, h)
  got_map (y ∷ xs) (suc i) z e = got_map xs i z e

  module _ (names : List A) where
    -- f of x is f of no other of the names
    abbrev IsApart : A → Type 0
    IsApart x = (y : A) → Contains names y → f x ≡ f y → x ≡ y

    called_forth : (i : ℕ) (x : A) → IsApart x → IsCalled names i x → IsCalled (map f names) i (f x)
    called_forth i x a c = record {
      called = get_map names i x c.called;
      first = λ j l e. let r = got_map names j (f x) e in c.first j l (r.1 ∙ ap (λ z. Some z) (sym (a r.0 (at_there names j r.0 r.1) (sym r.2))));
    }

    called_back : (i : ℕ) (x : A) → IsApart x → IsCalled (map f names) i (f x) → IsCalled names i x
    called_back i x a c = record {
      called = (let r = got_map names i (f x) c.called in r.1 ∙ ap (λ z. Some z) (sym (a r.0 (at_there names i r.0 r.1) (sym r.2))));
      first = λ j l e. c.first j l (get_map names j x e);
    }

    calls_forth : (js : List ℕ) (xs : List A) → ((x : A) → Contains xs x → IsApart x) → AllZip (IsCalled names) js xs → AllZip (IsCalled (map f names)) js (map f xs)
    calls_forth [] [] a h = tt
    calls_forth [] (x ∷ xs) a h = absurd h
    calls_forth (j ∷ js) [] a h = absurd h
    calls_forth (j ∷ js) (x ∷ xs) a h = (called_forth j x (a x (contained_here x xs)) h.0, calls_forth js xs (λ y t. a y (contained_there x y xs t)) h.1)

    calls_back : (js : List ℕ) (xs : List A) → ((x : A) → Contains xs x → IsApart x) → AllZip (IsCalled (map f names)) js (map f xs) → AllZip (IsCalled names) js xs
    calls_back [] [] a h = tt
    calls_back [] (x ∷ xs) a h = absurd h
    calls_back (j ∷ js) [] a h = absurd h
    calls_back (j ∷ js) (x ∷ xs) a h = (called_back j x (a x (contained_here x xs)) h.0, calls_back js xs (λ y t. a y (contained_there x y xs t)) h.1)

    abbrev Alike : Module A → Module B → Type 0
    Alike m n = (n.name ≡ f m.name) × (imported n ≡ map f (imported m))

    numbers_forth : (ms : List (Module A)) (ns : List (Module B)) (g : Needs) → AllZip Alike ms ns → ((x : A) → Contains (flat_map imported ms) x → IsApart x) → Numbers names ms g → Numbers (map f names) ns g
    numbers_forth [] [] [] e a h = tt
    numbers_forth [] [] (js ∷ g) e a h = absurd h
    numbers_forth [] (n ∷ ns) g e a h = absurd e
    numbers_forth (m ∷ ms) [] g e a h = absurd e
    numbers_forth (m ∷ ms) (n ∷ ns) [] e a h = absurd h
    numbers_forth (m ∷ ms) (n ∷ ns) (js ∷ g) e a h = (
      subst (λ xs. AllZip (IsCalled (map f names)) js xs) (sym e.0.1) (calls_forth js (imported m) (λ x t. a x (Contains-append_left (imported m) (flat_map imported ms) x t)) h.0),
      numbers_forth ms ns g e.1 (λ x t. a x (Contains-append_right (imported m) (flat_map imported ms) x t)) h.1,
    )

    numbers_back : (ms : List (Module A)) (ns : List (Module B)) (g : Needs) → AllZip Alike ms ns → ((x : A) → Contains (flat_map imported ms) x → IsApart x) → Numbers (map f names) ns g → Numbers names ms g
    numbers_back [] [] [] e a h = tt
    numbers_back [] [] (js ∷ g) e a h = absurd h
    numbers_back [] (n ∷ ns) g e a h = absurd e
    numbers_back (m ∷ ms) [] g e a h = absurd e
    numbers_back (m ∷ ms) (n ∷ ns) [] e a h = absurd h
    numbers_back (m ∷ ms) (n ∷ ns) (js ∷ g) e a h = (
      calls_back js (imported m) (λ x t. a x (Contains-append_left (imported m) (flat_map imported ms) x t)) (subst (λ xs. AllZip (IsCalled (map f names)) js xs) e.0.1 h.0),
      numbers_back ms ns g e.1 (λ x t. a x (Contains-append_right (imported m) (flat_map imported ms) x t)) h.1,
    )

  names_alike : (ms : List (Module A)) (ns : List (Module B)) → AllZip (λ m n. (n.name ≡ f m.name) × (imported n ≡ map f (imported m))) ms ns → names_of ns ≡ map f (names_of ms)
  names_alike [] [] e = refl
  names_alike [] (n ∷ ns) e = absurd e
  names_alike (m ∷ ms) [] e = absurd e
  names_alike (m ∷ ms) (n ∷ ns) e = let h = e.0.0 in let r = names_alike ms ns e.1 in cc

  module _ (ms : List (Module A)) (ns : List (Module B)) (r : AreRenamed f ms ns) where
    same_names : names_of ns ≡ map f (names_of ms)
    same_names = names_alike ms ns r.each

    name_apart : (x : A) → Contains (names_of ms) x → IsApart (names_of ms) x
    name_apart x t y u e = r.apart x y (Contains-append_left (names_of ms) (flat_map imported ms) x t) (Contains-append_left (names_of ms) (flat_map imported ms) y u) e

    import_apart : (x : A) → Contains (flat_map imported ms) x → IsApart (names_of ms) x
    import_apart x t y u e = r.apart x y (Contains-append_right (names_of ms) (flat_map imported ms) x t) (Contains-append_left (names_of ms) (flat_map imported ms) y u) e

    forth : (g : Needs) → AreNumbered ms g → AreNumbered ns g
    forth g h = subst (λ names. Numbers names ns g) (sym same_names) (numbers_forth (names_of ms) ms ns g r.each import_apart h)

    back : (g : Needs) → AreNumbered ns g → AreNumbered ms g
    back g h = numbers_back (names_of ms) ms ns g r.each import_apart (subst (λ names. Numbers names ns g) same_names h)

    pub orders_kept : (o : List ℕ) → IsOrder ms o ↔ IsOrder ns o
    orders_kept o = (
      (λ h. record { needs = h.needs; numbered = forth h.needs h.numbered; order = h.order }),
      (λ h. record { needs = h.needs; numbered = back h.needs h.numbered; order = h.order }),
    )

    pub first_kept : (o : List ℕ) → IsFirstOrder ms o ↔ IsFirstOrder ns o
    first_kept o = (
      (λ h. record { needs = h.needs; numbered = forth h.needs h.numbered; first = h.first }),
      (λ h. record { needs = h.needs; numbered = back h.needs h.numbered; first = h.first }),
    )

    calls_there : (ks : List ℕ) (xs : List A) → AllZip (IsCalled (names_of ms)) ks xs → (x : A) → Contains xs x → Contains (names_of ms) x
    calls_there [] [] h x t = absurd (none_contained x t)
    calls_there [] (y ∷ xs) h x t = absurd h
    calls_there (k ∷ ks) [] h x t = absurd h
    calls_there (k ∷ ks) (y ∷ xs) h x t = elim (contained_cases y x xs t) [
      | inl e ↦ subst (λ z. Contains (names_of ms) z) e (at_there (names_of ms) k y h.0.called)
      | inr u ↦ calls_there ks xs h.1 x u
    ]

    names_forth : (ks : List ℕ) (xs : List A) → AllZip (IsCalled (names_of ms)) ks xs → AllZip (IsCalled (names_of ns)) ks (map f xs)
    names_forth ks xs h = subst (λ names. AllZip (IsCalled names) ks (map f xs)) (sym same_names) (calls_forth (names_of ms) ks xs (λ x t. name_apart x (calls_there ks xs h x t)) h)

    pub cycle_forth : (names : List A) → IsCycle ms names → IsCycle ns (map f names)
    cycle_forth names h = record { needs = h.needs; numbered = forth h.needs h.numbered; numbers = h.numbers; cycle = h.cycle; called = names_forth h.numbers names h.called }

    pub cycle_back : (names : List B) → IsCycle ns names → (others : List A) × (IsCycle ms others × (names ≡ map f others))
    cycle_back names h =
        let n = back h.needs h.numbered in
        let c = call_each (names_of ms) h.numbers (λ k t. let i = cycle_imported h.needs h.numbers h.cycle k t in import_called ms h.needs n i.0 k i.1) in
        (c.0, (record { needs = h.needs; numbered = n; numbers = h.numbers; cycle = h.cycle; called = c.1 }, names_one (names_of ns) h.numbers names (map f c.0) h.called (names_forth h.numbers c.0 c.1)))
