-- Reading leaves the values that stand below alone, and puts one on top.
use Rattle.std.proofs.Common.{◌≡◌, ℕ, List, [], ◌∷◌, ◌++◌, Option, Some, None, refl, sym, ap, subst, ◌∙◌, append_assoc}
use Rattle.std.proofs.lemmas.List.{append-nil}
use Rattle.cdle_model.specs.declared.grammar.Mode.TheVariants.{Kept, Erased, OfType}
use Rattle.source_model.specs.Source.{Tree, NameUse, Parameter}
use Rattle.source_model.specs.Grammar.{Token, Value, token, part, parameters, Need, Making, Symbol, The, Class, Body, Owner, Annotation, Side, KeptTerm, TypeGiven, Motive, MaybeArrow, Projections, Patterns, Arguments, TypeArguments, Branches, Imports, Items, Parameters, Constructors, Want, Test_, Make, Read}
use Rattle.source_model.specs.Grammar as m
use Rattle.source_model.specs.Rows.{Row, row, leaving, Leaving, MustStand, LeftOut, NotGiven, Ends}
use Rattle.source_model.specs.Made.{made, left_out}
use Rattle.source_model.specs.Parsing.{Given}
use Rattle.source_model.specs.SurfaceText.{Reads, begins, left, makes, tests, ReadsAll, end, more}
use Rattle.source_model.proofs.Shapes.{Shape, a_token, a_part, an_owner, some_parameters, is_token, is_part, no_option, is_owner, no_owner, is_patterns, is_branches, is_parameters, is_constructors, is_module, Stand, bottom, on, taken, given, made_stand}
use Rattle.source_model.proofs.RowShapes.{grown, left_by, left_by_row, Shapes, without, without_is, with_one, with_one_is, given_from, behind_making, behind_want, behind_all, and_then, Leads, row_leads}

and_then_is : (r : Shapes) (f : List Shape → Shapes) (xs : List Shape) → and_then r f ≡ Some xs → (us : List Shape) × (r ≡ Some us) × (f us ≡ Some xs)
and_then_is None f xs e = absurd cc
and_then_is (Some us) f xs e = (us, refl, e)

module _ {A : Type 0} where
  -- ---- shapes of values

  split : (ss us : List Shape) {vs : List (Value A)} → Stand (ss ++ us) vs → (front : List (Value A)) × (mid : List (Value A)) × (vs ≡ front ++ mid) × Stand ss front × Stand us mid
  split [] us {vs = vs} h = ([], vs, refl, bottom, h)
  split (s ∷ ss) us (on {v = v} i h) = let b = split ss us h in (v ∷ b.0, b.1, ap (λ (l : List (Value A)). v ∷ l) b.2, on i b.3, b.4)

  join : (ss us : List Shape) {vs ws : List (Value A)} → Stand ss vs → Stand us ws → Stand (ss ++ us) (vs ++ ws)
  join [] us bottom k = k
  join (s ∷ ss) us (on i h) k = on i (join ss us h k)

  stand_without : (ps us xs : List Shape) (vs : List (Value A)) → without ps us ≡ Some xs → Stand us vs → Stand (ps ++ xs) vs
  stand_without ps us xs vs e h = subst (λ (ss : List Shape). Stand ss vs) (without_is ps us xs e) h

  -- ---- makings

  made_below : (text : A → List ℕ) (f : Making) (ss : List Shape) {vs : List (Value A)} → Stand (taken f ++ ss) vs → (below : List (Value A)) → made text f (vs ++ below) ≡ made text f vs ++ below
  unfolding made
  made_below text m.Named ss (on is_owner (on is_token h)) below = refl
  made_below text m.Named ss (on no_owner (on is_token h)) below = refl
  made_below text m.Parenthesized ss (on is_token (on is_part (on is_token h))) below = refl
  made_below text m.Given ss (on i (on is_token h)) below = refl
  made_below text m.Enclosed ss (on is_token (on is_part (on is_token h))) below = refl
  made_below text m.NoPatterns ss h below = refl
  made_below text m.NoBranches ss h below = refl
  made_below text m.NoParameters ss h below = refl
  made_below text m.NoConstructors ss h below = refl
  made_below text m.Star ss (on is_token h) below = refl
  made_below text m.Equation ss (on is_token (on is_part (on is_token (on is_part (on is_token h))))) below = refl
  made_below text m.Product ss (on is_part (on is_token (on is_part (on is_token (on is_token (on is_token h)))))) below = refl
  made_below text m.Forall ss (on is_part (on is_token (on is_part (on is_token (on is_token (on is_token h)))))) below = refl
  made_below text m.Lambda ss (on is_part (on is_token (on is_part (on is_token (on is_token (on is_token h)))))) below = refl
  made_below text m.Iota ss (on is_part (on is_token (on is_part (on is_token (on is_token (on is_token h)))))) below = refl
  made_below text m.Arrow ss (on is_part (on is_token (on is_part h))) below = refl
  made_below text m.ErasedArrow ss (on is_part (on is_token (on is_part h))) below = refl
  made_below text m.At ss (on is_part (on is_part h)) below = refl
  made_below text m.On ss (on is_part (on is_token (on is_part h))) below = refl
  made_below text m.Lam ss (on is_part (on is_token (on is_part (on is_token (on is_token h))))) below = refl
  made_below text m.Elam ss (on is_part (on is_token (on is_part (on is_token (on is_token h))))) below = refl
  made_below text m.Rho ss (on is_part (on is_token (on is_part (on is_token (on is_token (on is_token (on is_part (on is_token h)))))))) below = refl
  made_below text m.Phi ss (on is_token (on is_part (on is_token (on is_part (on is_token (on is_part (on is_token h))))))) below = refl
  made_below text m.Delta ss (on is_part (on is_token (on is_part (on is_token h)))) below = refl
  made_below text m.Chi ss (on is_part (on is_token (on is_part (on is_token h)))) below = refl
  made_below text m.Flip ss (on is_part (on is_token h)) below = refl
  made_below text m.Mu ss (on is_token (on is_branches (on is_token (on is_part (on is_part (on is_token (on is_token (on is_token h)))))))) below = refl
  made_below text m.Sigma ss (on is_token (on is_branches (on is_token (on is_part (on is_part (on is_token h)))))) below = refl
  made_below text m.Pair ss (on is_token (on is_part (on is_token (on is_part (on is_token h))))) below = refl
  made_below text m.Beta ss (on i (on j (on is_token h))) below = refl
  made_below text m.Fst ss (on is_token (on is_part h)) below = refl
  made_below text m.Snd ss (on is_token (on is_part h)) below = refl
  made_below text m.App ss (on is_part (on is_part h)) below = refl
  made_below text m.Eapp ss (on is_part (on is_token (on is_part h))) below = refl
  made_below text m.Tapp ss (on is_part (on is_token (on is_part h))) below = refl
  made_below text m.ABranch ss (on is_part (on is_token (on is_patterns (on is_part (on is_token (on is_branches h)))))) below = refl
  made_below text (m.APattern Kept) ss (on is_token (on is_patterns h)) below = refl
  made_below text (m.APattern Erased) ss (on is_token (on is_token (on is_patterns h))) below = refl
  made_below text (m.APattern OfType) ss (on is_token (on is_token (on is_patterns h))) below = refl
  made_below text m.TheModule ss (on is_token (on is_token (on is_token h))) below = refl
  made_below text m.AnImport ss (on is_token (on is_token (on is_token (on is_module h)))) below = refl
  made_below text m.AnItem ss (on is_token (on is_part (on is_token (on is_part (on is_token (on is_token (on is_module h))))))) below = refl
  made_below text m.AParameter ss (on is_token (on is_part (on is_token (on is_token (on is_token (on is_parameters h)))))) below = refl
  made_below text m.AConstructor ss (on is_part (on is_token (on is_token (on is_token (on is_constructors h))))) below = refl
  made_below text m.ADatatype ss (on is_token (on is_constructors (on is_token (on is_token (on is_token (on is_parameters (on is_token (on is_token (on is_module h))))))))) below = refl

  -- a making gives its shape, and leaves what is below
  abbrev MakesFrame : (A → List ℕ) → Making → List Shape → List (Value A) → Type 0
  MakesFrame text f xs vs = Stand xs (made text f vs) × ((below : List (Value A)) → made text f (vs ++ below) ≡ made text f vs ++ below)

  given_frame : (text : A → List ℕ) (us xs : List Shape) {vs : List (Value A)} → given_from us ≡ Some xs → Stand us vs → MakesFrame text m.Given xs vs
  unfolding made
  given_frame text (s ∷ a_token ∷ ss) xs e (on {v = v} i (on {vs = vs} is_token h)) = let k : s ∷ ss ≡ xs = cc in (subst (λ (us : List Shape). Stand us (v ∷ vs)) k (on i h), λ below. refl)
  given_frame text us xs e h = absurd cc

  some_frame : (text : A → List ℕ) (f : Making) (us xs : List Shape) (vs : List (Value A)) → with_one (given f) (without (taken f) us) ≡ Some xs → Stand us vs → MakesFrame text f xs vs
  some_frame text f us xs vs e h =
      let o = with_one_is (given f) (without (taken f) us) xs e in
      let k = stand_without (taken f) us o.0 vs o.1 h in
      (subst (λ (ss : List Shape). Stand ss (made text f vs)) (sym o.2) (made_stand text f k), made_below text f o.0 k)

  making_frame : (text : A → List ℕ) (f : Making) (us xs : List Shape) (vs : List (Value A)) → behind_making f us ≡ Some xs → Stand us vs → MakesFrame text f xs vs
  making_frame text m.Given us xs vs e h = given_frame text us xs e h
  making_frame text f us xs vs e h = some_frame text f us xs vs e h

  -- ---- options, repetitions and rows

  left_stands : (s : Symbol) (ss : List Shape) {vs : List (Value A)} → ¬ (leaving s ≡ MustStand) → Stand (grown s ++ ss) vs → Stand (left_by s ∷ ss) (left_out (leaving s) vs)
  left_stands Owner ss n h = on no_owner h
  left_stands (Annotation c need) ss n h = on is_part h
  left_stands (Side c) ss n h = on no_option h
  left_stands (KeptTerm c) ss n h = on no_option h
  left_stands (TypeGiven c) ss n h = on is_part h
  left_stands (Motive c) ss n h = on is_part h
  left_stands (MaybeArrow c l) ss n h = h
  left_stands Projections ss n h = h
  left_stands Patterns ss n h = h
  left_stands (Arguments c) ss n h = h
  left_stands (TypeArguments c) ss n h = h
  left_stands (Branches c) ss n h = h
  left_stands Imports ss n h = h
  left_stands Items ss n h = h
  left_stands (Parameters c) ss n h = h
  left_stands (Constructors c) ss n h = h
  left_stands s ss n h = absurd (n refl)

  left_below : (l : Leaving) (vs below : List (Value A)) → left_out l (vs ++ below) ≡ left_out l vs ++ below
  left_below MustStand vs below = refl
  left_below LeftOut vs below = refl
  left_below NotGiven vs below = refl
  left_below Ends vs below = refl

  owner_stands : (ss : List Shape) {vs : List (Value A)} → Stand (a_token ∷ ss) vs → Stand (an_owner ∷ ss) vs
  owner_stands ss (on is_token h) = on is_owner h

  row_stands : (s : Symbol) (ss : List Shape) (vs : List (Value A)) → Stand (left_by_row s ∷ ss) vs → Stand (left_by s ∷ ss) vs
  row_stands Owner ss vs h = owner_stands ss h
  row_stands s ss vs h = h

  row_is : (s : Symbol) (vs : List (Value A)) (t : Token A) (ss : List Shape) (front : List Want)
      → row s vs t.kind ≡ Some front → behind_all front (a_token ∷ grown s ++ ss) ≡ Some (left_by_row s ∷ ss)
  row_is s vs t ss front e = subst (λ (r : Row). Leads r (a_token ∷ grown s ++ ss) (left_by_row s ∷ ss)) e (row_leads s vs t.kind ss)

-- what is read of the first values is of these shapes, and the others are left
abbrev Leaves : {A : Type 0} → List Shape → List (Value A) → List (Value A) → Type 0
Leaves {A} xs below ys = (zs : List (Value A)) × (ys ≡ zs ++ below) × Stand xs zs

row_frame : {A : Type 0} (s : Symbol) (ss xs : List Shape) (mid below ys : List (Value A)) → xs ≡ left_by s ∷ ss → Stand ss mid → Leaves (left_by_row s ∷ []) (mid ++ below) ys → Leaves xs below ys
row_frame {A} s ss xs mid below ys e h l = (l.0 ++ mid, l.1 ∙ sym (append_assoc l.0 mid below), subst (λ (zs : List Shape). Stand zs (l.0 ++ mid)) (sym e) (row_stands s ss (l.0 ++ mid) (join (left_by_row s ∷ []) ss l.2 h)))

mutual
  want_frame : {A : Type 0} {g : Given A} {w : Want} {at to : ℕ} {ts rest : List (Token A)} {ws ys : List (Value A)}
      → Reads g w at ts ws to rest ys → (us xs : List Shape) (vs below : List (Value A)) → ws ≡ vs ++ below → behind_want w us ≡ Some xs → Stand us vs → Leaves xs below ys
  want_frame {A} {ys = ys} (begins {s = s} {ws = front} {t = t} {vs = ws} r d) us xs vs below q e h =
      let o = with_one_is (left_by s) (without (grown s) us) xs e in
      let b = split (grown s) o.0 (stand_without (grown s) us o.0 vs o.1 h) in
      let whole : ws ≡ b.0 ++ (b.1 ++ below) = q ∙ ap (λ (l : List (Value A)). l ++ below) b.2 ∙ append_assoc b.0 b.1 below in
      let first : Stand (grown s ++ []) b.0 = subst (λ (ss : List Shape). Stand ss b.0) (sym (append-nil (grown s))) b.3 in
      let k = all_frame d (a_token ∷ grown s ++ []) (left_by_row s ∷ []) (token t ∷ b.0) (b.1 ++ below) (ap (λ (l : List (Value A)). token t ∷ l) whole) (row_is s ws t [] front r) (on is_token first) in
      row_frame s o.0 xs b.1 below ys o.2 b.4 k
  want_frame (left {s = s} {vs = ws} n b) us xs vs below q e h =
      let o = with_one_is (left_by s) (without (grown s) us) xs e in
      (left_out (leaving s) vs, ap (left_out (leaving s)) q ∙ left_below (leaving s) vs below, subst (λ (ss : List Shape). Stand ss (left_out (leaving s) vs)) (sym o.2) (left_stands s o.0 n (stand_without (grown s) us o.0 vs o.1 h)))
  want_frame {g = g} (makes {f = f} {vs = ws}) us xs vs below q e h = let k = making_frame g.text f us xs vs e h in (made g.text f vs, ap (made g.text f) q ∙ k.1 below, k.0)
  want_frame (tests c) us xs vs below q e h = let k : us ≡ xs = cc in (vs, q, subst (λ (ss : List Shape). Stand ss vs) k h)

  all_frame : {A : Type 0} {g : Given A} {wants : List Want} {at to : ℕ} {ts rest : List (Token A)} {ws ys : List (Value A)}
      → ReadsAll g wants at ts ws to rest ys → (us xs : List Shape) (vs below : List (Value A)) → ws ≡ vs ++ below → behind_all wants us ≡ Some xs → Stand us vs → Leaves xs below ys
  all_frame end us xs vs below q e h = let k : us ≡ xs = cc in (vs, q, subst (λ (ss : List Shape). Stand ss vs) k h)
  all_frame (more {w = w} {ws = wants} d i) us xs vs below q e h =
      let o = and_then_is (behind_want w us) (λ zs. behind_all wants zs) xs e in
      let l = want_frame d us o.0 vs below q o.1 h in
      all_frame i o.0 xs l.0 below l.1 o.2 l.2

-- ---- symbols that leave a part, or the parameters of a datatype

part_is : {A : Type 0} (below ys : List (Value A)) → Leaves (a_part ∷ []) below ys → (f : ℕ) × (t : Tree A) × (ys ≡ part f t ∷ below)
part_is below ys (zs, q, on (is_part {f = f} {t = t}) bottom) = (f, t, q)

parameters_are : {A : Type 0} (below ys : List (Value A)) → Leaves (some_parameters ∷ []) below ys → (ps : List (Parameter (Option A) (NameUse A))) × (ys ≡ parameters ps ∷ below)
parameters_are below ys (zs, q, on (is_parameters {ps = ps}) bottom) = (ps, q)

pub class_read : {A : Type 0} {g : Given A} {n : ℕ} {need : Need} {l : Option ℕ} {at to : ℕ} {ts rest : List (Token A)} {vs us : List (Value A)}
    → Reads g (Read (Class n need l)) at ts vs to rest us → (f : ℕ) × (t : Tree A) × (us ≡ part f t ∷ vs)
class_read {vs = vs} {us = us} d = part_is vs us (want_frame d [] (a_part ∷ []) [] vs refl refl bottom)

pub body_read : {A : Type 0} {g : Given A} {at to : ℕ} {ts rest : List (Token A)} {vs us : List (Value A)} → Reads g (Read Body) at ts vs to rest us → (f : ℕ) × (t : Tree A) × (us ≡ part f t ∷ vs)
body_read {vs = vs} {us = us} d = part_is vs us (want_frame d [] (a_part ∷ []) [] vs refl refl bottom)

pub parameters_read : {A : Type 0} {g : Given A} {n : ℕ} {at to : ℕ} {ts rest : List (Token A)} {ps : List (Parameter (Option A) (NameUse A))} {vs us : List (Value A)}
    → Reads g (Read (Parameters n)) at ts (parameters ps ∷ vs) to rest us → (qs : List (Parameter (Option A) (NameUse A))) × (us ≡ parameters qs ∷ vs)
parameters_read {ps = ps} {vs = vs} {us = us} d = parameters_are vs us (want_frame d (some_parameters ∷ []) (some_parameters ∷ []) (parameters ps ∷ []) vs refl refl (on is_parameters bottom))
