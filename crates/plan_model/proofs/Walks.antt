-- The walk from the first stuck module, and the cycle at its end.
use Rattle.std.proofs.Common.{◌≡◌, ℕ, zero, suc, ◌+◌, ◌<◌, ◌≤◌, inl, inr, List, [], ◌∷◌, ◌++◌, Contains, length, refl, sym, ap, subst, ◌∙◌, arith}
use Rattle.std.proofs.lemmas.List.{append-nil, append_assoc, length_push}
use Rattle.plan_model.specs.Reading.{Needs}
use Rattle.plan_model.specs.Orders.{Differ}
use Rattle.plan_model.specs.Cycles.{CanBeTaken, IsCycleOf, IsFirstStuck, IsStuck, IsStuckAt}
use Rattle.plan_model.proofs.Lists.{contained_here, contained_inside, contained_there, contained_or, few_below, last_or_none, no_end, none_contained, one_place, place, same_ends}
use Rattle.plan_model.proofs.Along.{Along, along, along_push, split_along}
use Rattle.plan_model.proofs.Taking.{order_of}

-- x is not among those before it
abbrev pub Fresh : List ℕ → ℕ → Type 0
Fresh before x = Contains before x → ⊥

pub differ_push : (xs : List ℕ) (x : ℕ) → Differ xs → (Contains xs x → ⊥) → Differ (xs ++ x ∷ [])
differ_push xs x d n = split_along Fresh [] (xs ++ x ∷ []) (along_push Fresh [] xs x (along Fresh [] xs d) n)

pub none_before : (before : List ℕ) (x : ℕ) (after : List ℕ) → [] ≡ before ++ x ∷ after → Contains before x → ⊥
none_before [] x after e c = cc
none_before (b ∷ before) x after e c = cc

-- the walk stands at j behind these
pub record WalkAt (needs : Needs) (before : List ℕ) (j : ℕ) : Type 0 where
  pub start : before ≡ [] → IsFirstStuck needs j
  pub step : (bs : List ℕ) (i : ℕ) → before ≡ bs ++ i ∷ [] → IsStuckAt needs i j

-- the last of the path is behind these, or on the path, and no other comes twice
abbrev Closes : List ℕ → List ℕ → Type 0
Closes seen [] = ⊥
Closes seen (x ∷ []) = Contains seen x
Closes seen (x ∷ (y ∷ p)) = (Contains seen x → ⊥) × Closes (seen ++ x ∷ []) (y ∷ p)

closes_cons : (seen : List ℕ) (x : ℕ) (p : List ℕ) → (Contains seen x → ⊥) → Closes (seen ++ x ∷ []) p → Closes seen (x ∷ p)
closes_cons seen x [] n c = absurd c
closes_cons seen x (y ∷ p) n c = (n, c)

closes_at : (seen xs : List ℕ) (t : ℕ) → Along Fresh seen xs → Contains (seen ++ xs) t → Closes seen (xs ++ t ∷ [])
closes_at seen [] t h c = subst (λ zs. Contains zs t) (append-nil seen) c
closes_at seen (x ∷ xs) t h c = closes_cons seen x (xs ++ t ∷ []) h.0 (closes_at (seen ++ x ∷ []) xs t h.1 (subst (λ zs. Contains zs t) (sym (append_assoc seen (x ∷ []) xs)) c))

module _ (needs : Needs) where
  first_one : (i j : ℕ) → IsFirstStuck needs i → IsFirstStuck needs j → i ≡ j
  first_one i j f g = elim (order_of i j) [
    | inl l ↦ absurd (f.stuck.never (g.first i l))
    | inr r ↦ elim r [ inl e ↦ e | inr l ↦ absurd (g.stuck.never (f.first j l)) ]
  ]

  import_one : (bs us cs vs : List ℕ) (i j : ℕ) → bs ++ i ∷ us ≡ cs ++ j ∷ vs → IsStuck needs i → IsStuck needs j
      → ((k : ℕ) → Contains bs k → CanBeTaken needs k) → ((k : ℕ) → Contains cs k → CanBeTaken needs k) → i ≡ j
  import_one [] us [] vs i j e s t f g = cc
  import_one [] us (c ∷ cs) vs i j e s t f g = let h : c ≡ i = cc in absurd (s.never (subst (λ k. CanBeTaken needs k) h (g c (contained_here c cs))))
  import_one (b ∷ bs) us [] vs i j e s t f g = let h : b ≡ j = cc in absurd (t.never (subst (λ k. CanBeTaken needs k) h (f b (contained_here b bs))))
  import_one (b ∷ bs) us (c ∷ cs) vs i j e s t f g =
      import_one bs us cs vs i j (cc) s t (λ k m. f k (contained_there b k bs m)) (λ k m. g k (contained_there c k cs m))

  stuck_at_one : (h i j : ℕ) → IsStuckAt needs h i → IsStuckAt needs h j → i ≡ j
  stuck_at_one h i j s t = import_one s.before s.after t.before t.after i j (sym s.imports ∙ t.imports) s.stuck t.stuck s.first t.first

  one_step : (seen : List ℕ) (i j : ℕ) → WalkAt needs seen i → WalkAt needs seen j → i ≡ j
  one_step seen i j s t = elim (last_or_none seen) [
    | inl e ↦ first_one i j (s.start e) (t.start e)
    | inr r ↦ stuck_at_one r.1.0 i j (s.step r.0 r.1.0 r.1.1) (t.step r.0 r.1.0 r.1.1)
  ]

  pub walk_stuck : (seen : List ℕ) (i : ℕ) → WalkAt needs seen i → IsStuck needs i
  walk_stuck seen i s = elim (last_or_none seen) [ inl e ↦ (s.start e).stuck | inr r ↦ (s.step r.0 r.1.0 r.1.1).stuck ]

  -- ---- there is one walk at most

  one_walk : (seen p q : List ℕ) → Along (WalkAt needs) seen p → Along (WalkAt needs) seen q → Closes seen p → Closes seen q → p ≡ q
  one_walk seen [] q h g c d = absurd c
  one_walk seen (x ∷ p) [] h g c d = absurd d
  one_walk seen (x ∷ []) (y ∷ []) h g c d = ap (λ k. k ∷ []) (one_step seen x y h.0 g.0)
  one_walk seen (x ∷ []) (y ∷ (z ∷ q)) h g c d = absurd (d.0 (subst (λ k. Contains seen k) (one_step seen x y h.0 g.0) c))
  one_walk seen (x ∷ (w ∷ p)) (y ∷ []) h g c d = absurd (c.0 (subst (λ k. Contains seen k) (sym (one_step seen x y h.0 g.0)) d))
  one_walk seen (x ∷ (w ∷ p)) (y ∷ (z ∷ q)) h g c d =
      let e = one_step seen x y h.0 g.0 in
      let r = one_walk (seen ++ x ∷ []) (w ∷ p) (z ∷ q) h.1 (subst (λ k. Along (WalkAt needs) (seen ++ k ∷ []) (z ∷ q)) (sym e) g.1) c.1 (subst (λ k. Closes (seen ++ k ∷ []) (z ∷ q)) (sym e) d.1) in cc

  -- ---- a cycle's walk

  module _ (cycle : List ℕ) (r : IsCycleOf needs cycle) where
    path_is : r.lead ++ cycle ≡ (r.lead ++ r.turn ∷ r.round) ++ r.turn ∷ []
    path_is = ap (λ c. r.lead ++ c) r.is ∙ sym (append_assoc r.lead (r.turn ∷ r.round) (r.turn ∷ []))

    pub cycle_walk : Along (WalkAt needs) [] (r.lead ++ cycle)
    cycle_walk = along (WalkAt needs) [] (r.lead ++ cycle) (λ before x after e. record {
      start = λ b. r.starts x after (e ∙ ap (λ bs. bs ++ x ∷ after) b);
      step = λ bs i b. r.steps bs after i x (e ∙ ap (λ zs. zs ++ x ∷ after) b ∙ append_assoc bs (i ∷ []) (x ∷ after));
    })

    cycle_closes : Closes [] (r.lead ++ cycle)
    cycle_closes = subst (λ p. Closes [] p) (sym path_is) (closes_at [] (r.lead ++ r.turn ∷ r.round) r.turn (along Fresh [] (r.lead ++ r.turn ∷ r.round) r.once) (contained_inside r.lead r.turn r.round))

    pub turn_stuck : IsStuck needs r.turn
    turn_stuck = walk_stuck r.lead r.turn (split_along (WalkAt needs) [] (r.lead ++ cycle) cycle_walk r.lead r.turn (r.round ++ r.turn ∷ []) (ap (λ c. r.lead ++ c) r.is))

  pub one_cycle : (c d : List ℕ) → IsCycleOf needs c → IsCycleOf needs d → c ≡ d
  one_cycle c d r s =
      let same = one_walk [] (r.lead ++ c) (s.lead ++ d) (cycle_walk c r) (cycle_walk d s) (cycle_closes c r) (cycle_closes d s) in
      let ends = same_ends (r.lead ++ r.turn ∷ r.round) (s.lead ++ s.turn ∷ s.round) r.turn s.turn (sym (path_is c r) ∙ same ∙ path_is d s) in
      let places = one_place r.lead r.round s.lead s.round r.turn r.once (ends.0 ∙ ap (λ t. s.lead ++ t ∷ s.round) (sym ends.1)) in
      r.is ∙ (λ i. ends.1 i ∷ (places.1 i ++ ends.1 i ∷ [])) ∙ sym s.is

  -- ---- there is a walk

  pub walk_next : (before : List ℕ) (i j : ℕ) → IsStuckAt needs i j → WalkAt needs (before ++ i ∷ []) j
  walk_next before i j s = record {
    start = λ e. absurd (no_end before i (sym e));
    step = λ bs k e. subst (λ m. IsStuckAt needs m j) (same_ends before bs i k e).1 s;
  }

  pub walk_start : (i : ℕ) → IsFirstStuck needs i → WalkAt needs [] i
  walk_start i s = record { start = λ e. s; step = λ bs k e. absurd (no_end bs k e) }

  pub walk_cycle : (lead round : List ℕ) (turn : ℕ) → Along (WalkAt needs) [] ((lead ++ turn ∷ round) ++ turn ∷ []) → Differ (lead ++ turn ∷ round) → IsCycleOf needs (turn ∷ (round ++ turn ∷ []))
  walk_cycle lead round turn h d =
      let e = append_assoc lead (turn ∷ round) (turn ∷ []) in
      let w : Along (WalkAt needs) [] (lead ++ (turn ∷ (round ++ turn ∷ []))) = subst (λ p. Along (WalkAt needs) [] p) e h in
      record {
        lead = lead;
        turn = turn;
        round = round;
        is = refl;
        starts = λ i after s. (split_along (WalkAt needs) [] (lead ++ (turn ∷ (round ++ turn ∷ []))) w [] i after s).start refl;
        steps = λ before after i j s. (split_along (WalkAt needs) [] (lead ++ (turn ∷ (round ++ turn ∷ []))) w (before ++ i ∷ []) j after (s ∙ sym (append_assoc before (i ∷ []) (j ∷ after)))).step before i refl;
        once = d;
      }

  -- all on the walk are below the number of modules
  pub few_walked : (path : List ℕ) → Along (WalkAt needs) [] path → Differ path → length path ≤ length needs
  few_walked path h d = few_below path (length needs) d (λ k c. let p = place path k c in (walk_stuck p.before k (split_along (WalkAt needs) [] path h p.before k p.after p.is)).there)

  -- the walk comes to this module, which is on it already
  pub walk_turns : (path : List ℕ) (j : ℕ) → Along (WalkAt needs) [] path → Differ path → WalkAt needs path j → Contains path j → (c : List ℕ) × IsCycleOf needs c
  walk_turns path j h d w c =
      let p = place path j c in
      (_, walk_cycle p.before p.after j (subst (λ zs. Along (WalkAt needs) [] (zs ++ j ∷ [])) p.is (along_push (WalkAt needs) [] path j h w)) (subst (λ (zs : List ℕ). Differ zs) p.is d))

  module _ (next : (i : ℕ) → IsStuck needs i → (j : ℕ) × IsStuckAt needs i j) where
    walk_on : (k : ℕ) (before : List ℕ) (i : ℕ) → Along (WalkAt needs) [] (before ++ i ∷ []) → Differ (before ++ i ∷ []) → IsStuck needs i → length needs < length (before ++ i ∷ []) + k → (c : List ℕ) × IsCycleOf needs c
    walk_on zero before i h d s l = let m = few_walked (before ++ i ∷ []) h d in absurd (omega arith)
    walk_on (suc k) before i h d s l =
        let n = next i s in
        let w = walk_next before i n.0 n.1 in
        elim (contained_or (before ++ i ∷ []) n.0) [
          | inl c ↦ walk_turns (before ++ i ∷ []) n.0 h d w c
          | inr f ↦ walk_on k (before ++ i ∷ []) n.0 (along_push (WalkAt needs) [] (before ++ i ∷ []) n.0 h w) (differ_push (before ++ i ∷ []) n.0 d f) n.1.stuck (omega (arith, length_push (before ++ i ∷ []) n.0))
        ]

    pub a_cycle : (i : ℕ) → IsFirstStuck needs i → (c : List ℕ) × IsCycleOf needs c
    a_cycle i s = walk_on (length needs) [] i (walk_start i s, tt) (differ_push [] i none_before (none_contained i)) s.stuck (omega arith)
