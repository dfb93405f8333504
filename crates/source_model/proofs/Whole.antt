-- Whatever is read without a fault is a module: each row keeps the shapes of the values that stand.
use Rattle.std.proofs.Common.{◌≡◌, ℕ, List, [], ◌∷◌, ◌++◌, Some, None, Result, Ok, Err, ◌⊎◌, inl, inr, refl, sym, ap, subst, ◌∙◌}
use Rattle.source_model.specs.Source.{Module}
use Rattle.source_model.specs.Grammar.{Token, Value, token, part, nothing, module_so_far, Making, Symbol, The, Owner, Annotation, Side, KeptTerm, TypeGiven, Motive, MaybeArrow, Projections, Patterns, Arguments, TypeArguments, Branches, Imports, Items, Parameters, Constructors, Want, Test_, Make, Read}
use Rattle.source_model.specs.Grammar as m
use Rattle.source_model.specs.Rows.{Row, row, leaving, MustStand, a_module}
use Rattle.source_model.specs.Made.{made, left_out}
use Rattle.source_model.specs.Parsing.{Given, Fault, run, ended, parsed, IsFirstFault}
use Rattle.source_model.specs.SurfaceText.{Reads, begins, left, makes, tests, ReadsAll, end, more, Says}
use Rattle.source_model.proofs.Said.{bind_ok, run_is, ended_is, parsed_is_said}
use Rattle.source_model.proofs.Shapes.{Shape, a_token, an_owner, a_module_so_far, is_token, is_part, is_owner, no_owner, no_option, is_module, Stand, bottom, on, taken, given, made_stand}
use Rattle.source_model.proofs.RowShapes.{grown, left_by, left_by_row, Shapes, without, without_is, with_one, with_one_is, given_from, behind_making, behind_want, behind_all, and_then, Leads, row_leads}

and_then_is : (r : Shapes) (f : List Shape → Shapes) (xs : List Shape) → and_then r f ≡ Some xs → (us : List Shape) × (r ≡ Some us) × (f us ≡ Some xs)
and_then_is None f xs e = absurd cc
and_then_is (Some us) f xs e = (us, refl, e)

module _ {A : Type 0} where
  -- what stands behind a prefix that is taken off
  stand_without : (ps us xs : List Shape) (vs : List (Value A)) → without ps us ≡ Some xs → Stand us vs → Stand (ps ++ xs) vs
  stand_without ps us xs vs e h = subst (λ (ss : List Shape). Stand ss vs) (without_is ps us xs e) h

  given_stand : (text : A → List ℕ) (us xs : List Shape) {vs : List (Value A)} → given_from us ≡ Some xs → Stand us vs → Stand xs (made text m.Given vs)
  unfolding made
  given_stand text (s ∷ a_token ∷ ss) xs e (on {v = v} i (on {vs = vs} is_token h)) = let k : s ∷ ss ≡ xs = cc in subst (λ (us : List Shape). Stand us (v ∷ vs)) k (on i h)
  given_stand text us xs e h = absurd cc

  some_made_stand : (text : A → List ℕ) (f : Making) (us xs : List Shape) (vs : List (Value A))
      → with_one (given f) (without (taken f) us) ≡ Some xs → Stand us vs → Stand xs (made text f vs)
  some_made_stand text f us xs vs e h =
      let o = with_one_is (given f) (without (taken f) us) xs e in
      subst (λ (ss : List Shape). Stand ss (made text f vs)) (sym o.2) (made_stand text f (stand_without (taken f) us o.0 vs o.1 h))

  making_stands : (text : A → List ℕ) (f : Making) (us xs : List Shape) (vs : List (Value A)) → behind_making f us ≡ Some xs → Stand us vs → Stand xs (made text f vs)
  making_stands text m.Given us xs vs e h = given_stand text us xs e h
  making_stands text f us xs vs e h = some_made_stand text f us xs vs e h

  -- an option or a repetition that is left out
  left_stands : (s : Symbol) (ss : List Shape) {vs : List (Value A)} → ¬ (leaving s ≡ MustStand) → Stand (grown s ++ ss) vs → Stand (left_by s ∷ ss) (left_out (leaving s) vs)
  left_stands Owner ss n h = on no_owner h
  left_stands (Annotation c need) ss n h = on is_part h
  left_stands (Side c) ss n h = on no_option h
  left_stands (KeptTerm c) ss n h = on no_option h
  left_stands (TypeGiven c) ss n h = on is_part h
  left_stands (Motive c) ss n h = on is_part h
  left_stands (MaybeArrow c l) ss n h = h
  left_stands Projections ss n h = h
  left_stands Patterns ss n h = h
  left_stands (Arguments c) ss n h = h
  left_stands (TypeArguments c) ss n h = h
  left_stands (Branches c) ss n h = h
  left_stands Imports ss n h = h
  left_stands Items ss n h = h
  left_stands (Parameters c) ss n h = h
  left_stands (Constructors c) ss n h = h
  left_stands s ss n h = absurd (n refl)

  owner_stands : (ss : List Shape) {vs : List (Value A)} → Stand (a_token ∷ ss) vs → Stand (an_owner ∷ ss) vs
  owner_stands ss (on is_token h) = on is_owner h

  -- what a row leaves is what the symbol does
  row_stands : (s : Symbol) (ss : List Shape) (vs : List (Value A)) → Stand (left_by_row s ∷ ss) vs → Stand (left_by s ∷ ss) vs
  row_stands Owner ss vs h = owner_stands ss h
  row_stands s ss vs h = h

  row_is : (s : Symbol) (vs : List (Value A)) (t : Token A) (ss : List Shape) (front : List Want)
      → row s vs t.kind ≡ Some front → behind_all front (a_token ∷ grown s ++ ss) ≡ Some (left_by_row s ∷ ss)
  row_is s vs t ss front e = subst (λ (r : Row). Leads r (a_token ∷ grown s ++ ss) (left_by_row s ∷ ss)) e (row_leads s vs t.kind ss)

mutual
  want_stands : {A : Type 0} {g : Given A} {w : Want} {at to : ℕ} {ts rest : List (Token A)} {vs ys : List (Value A)}
      → Reads g w at ts vs to rest ys → (us xs : List Shape) → behind_want w us ≡ Some xs → Stand us vs → Stand xs ys
  want_stands {ys = ys} (begins {s = s} {ws = front} {t = t} {vs = vs} r d) us xs e h =
      let o = with_one_is (left_by s) (without (grown s) us) xs e in
      let k = all_stand d (a_token ∷ grown s ++ o.0) (left_by_row s ∷ o.0) (row_is s vs t o.0 front r) (on is_token (stand_without (grown s) us o.0 vs o.1 h)) in
      subst (λ (ss : List Shape). Stand ss ys) (sym o.2) (row_stands s o.0 ys k)
  want_stands (left {s = s} {vs = vs} n b) us xs e h =
      let o = with_one_is (left_by s) (without (grown s) us) xs e in
      subst (λ (ss : List Shape). Stand ss (left_out (leaving s) vs)) (sym o.2) (left_stands s o.0 n (stand_without (grown s) us o.0 vs o.1 h))
  want_stands {g = g} (makes {f = f} {vs = vs}) us xs e h = making_stands g.text f us xs vs e h
  want_stands (tests {vs = vs} c) us xs e h = let k : us ≡ xs = cc in subst (λ (ss : List Shape). Stand ss vs) k h

  all_stand : {A : Type 0} {g : Given A} {ws : List Want} {at to : ℕ} {ts rest : List (Token A)} {vs ys : List (Value A)}
      → ReadsAll g ws at ts vs to rest ys → (us xs : List Shape) → behind_all ws us ≡ Some xs → Stand us vs → Stand xs ys
  all_stand (end {vs = vs}) us xs e h = let k : us ≡ xs = cc in subst (λ (ss : List Shape). Stand ss vs) k h
  all_stand (more {w = w} {ws = ws} d i) us xs e h =
      let o = and_then_is (behind_want w us) (λ zs. behind_all ws zs) xs e in
      all_stand i o.0 xs o.2 (want_stands d us o.0 o.1 h)

module _ {A : Type 0} (g : Given A) where
  one_module_stands : {vs : List (Value A)} → Stand (a_module_so_far ∷ []) vs → (m : Module A) × (vs ≡ module_so_far m ∷ [])
  one_module_stands (on (is_module {b = b}) bottom) = (b, refl)

  pub whatever_is_read : (ts : List (Token A)) (vs : List (Value A)) → parsed g ts ≡ Ok vs → (m : Module A) × (vs ≡ module_so_far m ∷ [])
  unfolding parsed
  whatever_is_read ts vs e =
      let b = bind_ok (run g a_module 0 ts []) (λ s. ended s.values s.tokens) vs e in
      let d = ended_is g b.0.values vs b.0.tokens b.2 in
      let o = one_module_stands (all_stand (run_is g a_module 0 ts [] b.0 b.1) [] (a_module_so_far ∷ []) refl bottom) in
      (o.0, sym d.0 ∙ o.1)

  said_or_faulty : (ts : List (Token A)) (r : Result (List (Value A)) Fault) → parsed g ts ≡ r → ((m : Module A) × Says g ts m) ⊎ ((f : Fault) × IsFirstFault g ts f)
  said_or_faulty ts (Ok vs) e = let o = whatever_is_read ts vs e in inl (o.0, parsed_is_said g ts o.0 (e ∙ ap (λ (us : List (Value A)). Ok us) o.1))
  said_or_faulty ts (Err f) e = inr (f, e)

  pub either : (ts : List (Token A)) → ((m : Module A) × Says g ts m) ⊎ ((f : Fault) × IsFirstFault g ts f)
  either ts = said_or_faulty ts (parsed g ts) refl

  pub one_fault : (ts : List (Token A)) (e f : Fault) → IsFirstFault g ts e → IsFirstFault g ts f → e ≡ f
  one_fault ts e f h k = let q : Err e ≡ Err f = sym h ∙ k in cc
