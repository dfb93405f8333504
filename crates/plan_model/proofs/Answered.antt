-- The laws, for names of any type.
use Rattle.std.proofs.Common.{◌≡◌, ℕ, ◌⊎◌, inl, inr, List, [], ◌∷◌, ◌++◌, Contains, refl, sym, ap, subst, ◌∙◌, arith}
use Rattle.std.specs.List.{AllZip}
use Rattle.std.proofs.lemmas.List.{append_assoc}
use Rattle.std.proofs.lemmas.List.Elements.{Contains-push}
use Rattle.source_model.specs.Source.{Module}
use Rattle.plan_model.specs.Reading.{AreNumbered, IsCalled, IsReading, Needs, names_of}
use Rattle.plan_model.specs.Orders.{AtMost, Imports, IsFirstOrder, IsOrder, IsOrderOf}
use Rattle.plan_model.specs.Cycles.{IsCycle, IsCycleOf, IsStuckAt}
use Rattle.plan_model.proofs.Lists.{contained_cases, contained_equal, contained_inside, contained_there, last_or_none, place}
use Rattle.plan_model.proofs.Along.{split_along}
use Rattle.plan_model.proofs.Taking.{free_can, order_frees, taken_first}
use Rattle.plan_model.proofs.Finished.{Finished, all_or, finished, left_first, not_missing, stuck_import}
use Rattle.plan_model.proofs.Walks.{WalkAt, a_cycle, cycle_walk, one_cycle as one_cycle_of, turn_stuck}
use Rattle.plan_model.proofs.Numbered.{import_below, import_called, names_one, numbered_one, reading_numbered}

pub at_most_both : (o p : List ℕ) → AtMost o p → AtMost p o → o ≡ p
at_most_both [] [] h g = refl
at_most_both [] (j ∷ p) h g = absurd g
at_most_both (i ∷ o) [] h g = absurd h
at_most_both (i ∷ o) (j ∷ p) (inl l) (inl m) = absurd (omega arith)
at_most_both (i ∷ o) (j ∷ p) (inl l) (inr m) = let e = m.0 in absurd (omega arith)
at_most_both (i ∷ o) (j ∷ p) (inr l) (inl m) = let e = l.0 in absurd (omega arith)
at_most_both (i ∷ o) (j ∷ p) (inr l) (inr m) = let e = l.0 in let r = at_most_both o p l.1 m.1 in cc

-- ---- the modules of a cycle are imported

not_none : (before : List ℕ) (x : ℕ) (after : List ℕ) → before ++ x ∷ after ≡ [] → ⊥
not_none [] x after e = cc
not_none (b ∷ before) x after e = cc

module _ (needs : Needs) where
  imported_at : (i j : ℕ) → IsStuckAt needs i j → Imports needs i j
  imported_at i j s = subst (λ xs. Contains xs j) (sym s.imports) (contained_inside s.before j s.after)

  imported_behind : (before : List ℕ) (turn : ℕ) (round : List ℕ) (k : ℕ) → WalkAt needs (before ++ turn ∷ round) k → (i : ℕ) × Imports needs i k
  imported_behind before turn round k w = elim (last_or_none (before ++ turn ∷ round)) [
    | inl e ↦ absurd (not_none before turn round e)
    | inr r ↦ (r.1.0, imported_at r.1.0 k (w.step r.0 r.1.0 r.1.1))
  ]

  pub cycle_imported : (cycle : List ℕ) → IsCycleOf needs cycle → (k : ℕ) → Contains cycle k → (i : ℕ) × Imports needs i k
  cycle_imported cycle r k c =
      let t : Contains (r.round ++ r.turn ∷ []) k = elim (contained_cases r.turn k (r.round ++ r.turn ∷ []) (subst (λ xs. Contains xs k) r.is c)) [
        | inl e ↦ subst (λ m. Contains (r.round ++ r.turn ∷ []) m) e (Contains-push r.round r.turn)
        | inr t ↦ t
      ] in
      let p = place (r.round ++ r.turn ∷ []) k t in
      imported_behind r.lead r.turn p.before k (split_along (WalkAt needs) [] (r.lead ++ cycle) (cycle_walk needs cycle r) (r.lead ++ r.turn ∷ p.before) k p.after
      (ap (λ c. r.lead ++ c) (r.is ∙ ap (λ xs. r.turn ∷ xs) p.is) ∙ sym (append_assoc r.lead (r.turn ∷ p.before) (k ∷ p.after))))

module _ {A : Type 0} (names : List A) where
  pub call_each : (ks : List ℕ) → ((k : ℕ) → Contains ks k → (x : A) × IsCalled names k x) → (xs : List A) × AllZip (IsCalled names) ks xs
  call_each [] h = ([], tt)
  call_each (k ∷ ks) h =
      let c = h k (contained_equal k k ks refl) in
      let r = call_each ks (λ j t. h j (contained_there k j ks t)) in
      (c.0 ∷ r.0, (c.1, r.1))

module _ {A : Type 0} (ms : List (Module A)) where
  named_cycle : (g : Needs) → AreNumbered ms g → (c : List ℕ) → IsCycleOf g c → (names : List A) × IsCycle ms names
  named_cycle g n c r =
      let named = call_each (names_of ms) c (λ k t. let i = cycle_imported g c r k t in import_called ms g n i.0 k i.1) in
      (named.0, record { needs = g; numbered = n; numbers = c; cycle = r; called = named.1 })

  pub there : IsReading ms → ((o : List ℕ) × IsFirstOrder ms o) ⊎ ((names : List A) × IsCycle ms names)
  there r =
      let n = reading_numbered ms r in
      let f : Finished n.0 = finished n.0 in
      elim (all_or n.0 f.order) [
        | inl all ↦ inl (f.order, record { needs = n.0; numbered = n.1; first = taken_first n.0 f.order f.taken all })
        | inr l ↦
            let s = left_first n.0 f.order f.taken f.none l.number l.below l.holds (λ j m. not_missing f.order j (l.first j m)) in
            let c = a_cycle n.0 (stuck_import n.0 f.order f.taken f.none (import_below ms n.0 n.1)) l.number s in
            inr (named_cycle n.0 n.1 c.0 c.1)
      ]

  pub never_both : (o : List ℕ) (names : List A) → IsOrder ms o → IsCycle ms names → ⊥
  never_both o names h c =
      let e = numbered_one ms c.needs h.needs c.numbered h.numbered in
      let r : IsCycleOf h.needs c.numbers = subst (λ g. IsCycleOf g c.numbers) e c.cycle in
      let s = turn_stuck h.needs c.numbers r in
      s.never (free_can h.needs o (order_frees h.needs o h.order) r.turn ((h.order.each r.turn).1 s.there))

  pub one_order : (o p : List ℕ) → IsFirstOrder ms o → IsFirstOrder ms p → o ≡ p
  one_order o p h g =
      let e = numbered_one ms h.needs g.needs h.numbered g.numbered in
      at_most_both o p
      (h.first.first p (subst (λ n. IsOrderOf n p) (sym e) g.first.order))
      (g.first.first o (subst (λ n. IsOrderOf n o) e h.first.order))

  pub one_cycle : (names others : List A) → IsCycle ms names → IsCycle ms others → names ≡ others
  one_cycle names others h g =
      let e = numbered_one ms g.needs h.needs g.numbered h.numbered in
      let same = one_cycle_of h.needs g.numbers h.numbers (subst (λ n. IsCycleOf n g.numbers) e g.cycle) h.cycle in
      names_one (names_of ms) h.numbers names others h.called (subst (λ ks. AllZip (IsCalled (names_of ms)) ks others) same g.called)
