-- How the questions at an argument are met by the steps that the code takes.
use Rattle.std.proofs.Common.{◌≡◌, ◌||◌, ℕ, ◌≤◌, Bool, true, false, ltb, cond, Option, Some, None, Result, Ok, Err, refl, sym, ap, ◌∙◌, subst}
use Rattle.std.proofs.lemmas.Bool.{lt-ltb}
use Rattle.cdle_model.specs.Trees.{star_of, unknown, Binder, Binder-discrete, Tree, var, name, leaf, unary, fun, apply, binary, bind}
use Rattle.cdle_model.specs.Depth.{depth}
use Rattle.cdle_model.specs.HeadForms.{deepest, HeadAnswer, value, no_value}
use Rattle.cdle_model.specs.Machine.{Budgeted, answered, spent}
use Rattle.source_model.specs.Source.{Span}
use Rattle.elab_model.specs.Questions.{Questions, Finding, too_deep, gives, rejects, deep_at, ask_head, then, unless_deep, answer, by_head, head_in}
use Rattle.elab_model.specs.declared.codes.Code.{Code}
use Rattle.elab_model.specs.declared.codes.Code.TheVariants.{ArgumentLeftOpen}
use Rattle.elab_model.specs.Instances.{Solution, instance, solved_in, or_else}
use Rattle.elab_model.specs.Instances as model
use Rattle.elab_model.specs.Spines.{Spine, binder_parts, if_solved, fits_then, made_so_far}
use Rattle.elab_tree.specs.Known.{Known}
use Rattle.elab_tree.specs.Sizes as sizes
use Rattle.elab_tree.specs.Answers.{Gives}
use Rattle.elab_tree.specs.Solved.{solved, solutions}
use Rattle.elab_tree.specs.declared.stop.TreeStop.{TreeStop}
use Rattle.elab_reduce.specs.Items.{env_of}
use Rattle.elab_match.specs.Answers.{Finds}
use Rattle.elab_rules.specs.declared.fault.Fault.{Fault}
use Rattle.elab_rules.specs.declared.fault.Fault.TheVariants as f
use Rattle.elab_rules.specs.declared.place.At.{At}
use Rattle.elab_rules.specs.Places.{spot}
use Rattle.elab_rules.specs.Answers.{IsLow, Meets, seen}
use Rattle.elab_rules.specs.Arguments.{parts_of, IsChanged, with_made}
use Rattle.elab_rules.proofs.Steps.{goes_on, ends, given, is_low, is_deep, alike}

-- ---- parts

by_parts : {A : Type 0} → Option (Tree × Tree) → (Tree → Tree → Questions A) → Questions A → Questions A
by_parts (Some p) k r = k p.0 p.1
by_parts None k r = r

parts-by : {A : Type 0} (b : Binder) (t : Tree) (k : Tree → Tree → Questions A) (r : Questions A) → binder_parts b t k r ≡ by_parts (parts_of b t) k r
unfolding by_parts
parts-by b (bind g x y) k r = by_test (Binder-discrete b g)
  where
    by_test : (d : Dec (b ≡ g)) → elim d [ yes e ↦ k x y | no e ↦ r ] ≡ by_parts (elim d [ yes e ↦ Some (x, y) | no e ↦ None ]) k r
    by_test (yes e) = refl
    by_test (no e) = refl
parts-by b (var i) k r = refl
parts-by b (name n) k r = refl
parts-by b (leaf l) k r = refl
parts-by b (unary j p) k r = refl
parts-by b (fun c p) k r = refl
parts-by b (apply c p q) k r = refl
parts-by b (binary j p q) k r = refl

pub has_parts : {A : Type 0} (b : Binder) (t x y : Tree) (k : Tree → Tree → Questions A) (r : Questions A) → parts_of b t ≡ Some (x, y) → binder_parts b t k r ≡ k x y
unfolding by_parts
has_parts b t x y k r h = parts-by b t k r ∙ ap (λ o. by_parts o k r) h

pub has_none : {A : Type 0} (b : Binder) (t : Tree) (k : Tree → Tree → Questions A) (r : Questions A) → parts_of b t ≡ None → binder_parts b t k r ≡ r
unfolding by_parts
has_none b t k r h = parts-by b t k r ∙ ap (λ o. by_parts o k r) h

module _ {A : Type 0} (e : Known) (n : ℕ) where
  pub parts_on : (b : Binder) (t x y : Tree) (k : Tree → Tree → Questions A) (q : Questions A) (r : Result A Fault) → parts_of b t ≡ Some (x, y) → Meets e n (k x y) r → Meets e n (binder_parts b t k q) r
  parts_on b t x y k q r h m = subst (λ z. Meets e n z r) (sym (has_parts b t x y k q h)) m

  pub parts_off : (b : Binder) (t : Tree) (k : Tree → Tree → Questions A) (q : Questions A) (r : Result A Fault) → parts_of b t ≡ None → Meets e n q r → Meets e n (binder_parts b t k q) r
  parts_off b t k q r h m = subst (λ z. Meets e n z r) (sym (has_none b t k q h)) m

-- ---- unknowns

either : (a b c d : Bool) → a ≡ c → b ≡ d → (a || b) ≡ or_else c d
either true b c d h g = rw (← h) refl
either false b c d h g = rw (← h) g

-- the trees' code and the rules see unknowns alike
pub unknowns_alike : (t : Tree) → sizes.has_unknown t ≡ model.has_unknown t
unknowns_alike (var i) = refl
unknowns_alike (name n) = refl
unknowns_alike (leaf star_of) = refl
unknowns_alike (leaf (unknown n)) = refl
unknowns_alike (unary j p) = unknowns_alike p
unknowns_alike (fun c p) = unknowns_alike p
unknowns_alike (apply c p q) = either (sizes.has_unknown p) (sizes.has_unknown q) (model.has_unknown p) (model.has_unknown q) (unknowns_alike p) (unknowns_alike q)
unknowns_alike (binary j p q) = either (sizes.has_unknown p) (sizes.has_unknown q) (model.has_unknown p) (model.has_unknown q) (unknowns_alike p) (unknowns_alike q)
unknowns_alike (bind b p q) = either (sizes.has_unknown p) (sizes.has_unknown q) (model.has_unknown p) (model.has_unknown q) (unknowns_alike p) (unknowns_alike q)

-- ---- instances

pub finds_one : (E : Type 0) (o : Option Solution) (b a : Solution) (x : Bool) → Finds {E = E} o b a (Ok x) → x ≡ true → o ≡ Some a
finds_one E (Some s) b a true h e = ap Some (sym h)
finds_one E None b a true h e = absurd h
finds_one E o b a false h e = absurd cc

pub finds_none : (E : Type 0) (o : Option Solution) (b a : Solution) (x : Bool) → Finds {E = E} o b a (Ok x) → x ≡ false → (o ≡ None) × (a ≡ b)
finds_none E None b a false h e = (refl, h)
finds_none E (Some s) b a false h e = absurd h
finds_none E o b a true h e = absurd cc

-- the head form's answer, and what is asked of it
pub head_alike : {A : Type 0} (m p : Span) (o : Budgeted HeadAnswer) (r s : Tree → Finding A) → ((b : Tree) → r b ≡ s b) → by_head m p o r ≡ by_head m p o s
head_alike m p (answered (value a) i) r s h = h a
head_alike m p (answered (no_value u) i) r s h = refl
head_alike m p spent r s h = refl

module _ {A B : Type 0} (e : Known) (n : ℕ) (w at : Span) (os : Solution) (p : Tree) (k : Solution → Questions A) (g : A → Questions B) where
  solved-then : (o : Option Solution) → then (if_solved o k (rejects at ArgumentLeftOpen)) g ≡ if_solved o (λ s. then (k s) g) (rejects at ArgumentLeftOpen)
  solved-then (Some s) = refl
  solved-then None = refl

  -- what follows a fitting follows what is asked in it
  pub fits_onward : (a : Tree) → answer (env_of e) n (then (fits_then w at os p a k) g) ≡ answer (env_of e) n (fits_then w at os p a (λ s. then (k s) g))
  fits_onward a = by_case (instance os p a)
    where
      by_case : (o : Option Solution) → answer (env_of e) n (then (if_solved o k (ask_head w at true a (λ h. if_solved (instance os p h) k (rejects at ArgumentLeftOpen)))) g)
          ≡ answer (env_of e) n (if_solved o (λ s. then (k s) g) (ask_head w at true a (λ h. if_solved (instance os p h) (λ s. then (k s) g) (rejects at ArgumentLeftOpen))))
      by_case (Some s) = refl
      by_case None =
          head_alike w at (head_in (env_of e) true n a) (λ h. answer (env_of e) n (then (if_solved (instance os p h) k (rejects at ArgumentLeftOpen)) g))
          (λ h. answer (env_of e) n (if_solved (instance os p h) (λ s. then (k s) g) (rejects at ArgumentLeftOpen))) (λ b. ap (answer (env_of e) n) (solved-then (instance os p b)))

module _ {A : Type 0} (e : Known) (n : ℕ) where
  -- a solution, or none
  pub solved_on : (o : Option Solution) (s : Solution) (k : Solution → Questions A) (q : Questions A) (r : Result A Fault) → o ≡ Some s → Meets e n (k s) r → Meets e n (if_solved o k q) r
  solved_on o s k q r h m = rw h m

  -- the first of two, or the second
  pub first_on : (b : Bool) (q q' : Questions A) (r : Result A Fault) → b ≡ true → Meets e n q r → Meets e n (cond b q q') r
  first_on b q q' r h m = rw h m

  pub second_on : (b : Bool) (q q' : Questions A) (r : Result A Fault) → b ≡ false → Meets e n q' r → Meets e n (cond b q q') r
  second_on b q q' r h m = rw h m

  pub solved_off : (o : Option Solution) (k : Solution → Questions A) (q : Questions A) (r : Result A Fault) → o ≡ None → Meets e n q r → Meets e n (if_solved o k q) r
  solved_off o k q r h m = rw h m

-- what is returned is the fault
pub failed : {A B : Type 0} (e : Known) (n : ℕ) (q : Questions A) (g : B → A) (r : Result B Fault) (y d : Fault) → r ≡ Err y → y ≡ d → Meets e n q (Err d) → Meets e n q (seen g r)
failed e n q g r y d h i m = rw (h, i) m

pub refused : (A : Type 0) (e : Known) (n : ℕ) (p : At) (c : Code) → Meets {A = A} e n (rejects (spot p) c) (Err (f.Rejected p c))
unfolding Meets
refused A e n p c = refl

-- ---- what is too deep

module _ (e : Known) (n : ℕ) where
  both-deep : (b : Bool) (w : Span) → answer {A = Spine} (env_of e) n (cond b (deep_at w) (deep_at w)) ≡ too_deep w
  both-deep true w = refl
  both-deep false w = refl

  pub deep_type : (w : Span) (s : Spine) (d : Fault) → IsChanged w s.type (Err d) → Meets e n (made_so_far w s) (Err d)
  unfolding Meets
  deep_type w s (f.TooDeep q) (g, l) = let c : ltb deepest (depth s.type) ≡ true = lt-ltb deepest (depth s.type) l in rw c (both-deep (ltb deepest (depth s.term)) w ∙ ap too_deep (sym g))
  deep_type w s (f.Rejected q c) h = absurd h
  deep_type w s (f.Undecided q) h = absurd h
  deep_type w s f.NoMemory h = tt

module _ (e : Known) (n : ℕ) (w : Span) (s : Spine) where
  -- the term is too deep, the type so far is, or neither
  pub first_deep : (x : ℕ) (d : Fault) → x ≡ depth s.term → IsLow w x (Err d) → Meets e n (made_so_far w s) (Err d)
  first_deep x d h l = is_deep e n w s.term (unless_deep w s.type (gives s)) d (subst (λ z. IsLow w z (Err d)) h l)

  pub second_deep : (x y : ℕ) (d : Fault) → x ≡ depth s.term → x ≤ 4096 → y ≡ depth s.type → IsLow w y (Err d) → Meets e n (made_so_far w s) (Err d)
  second_deep x y d h l g m = is_low e n w s.term (unless_deep w s.type (gives s)) (Err d) (subst (λ z. z ≤ 4096) h l) (is_deep e n w s.type (gives s) d (subst (λ z. IsLow w z (Err d)) g m))

  pub both_low : (x y : ℕ) → x ≡ depth s.term → x ≤ 4096 → y ≡ depth s.type → y ≤ 4096 → Meets e n (made_so_far w s) (Ok s)
  both_low x y h l g m = is_low e n w s.term (unless_deep w s.type (gives s)) (Ok s) (subst (λ z. z ≤ 4096) h l) (is_low e n w s.type (gives s) (Ok s) (subst (λ z. z ≤ 4096) g m) (given e n s))

  -- the same through what the parts are
  pub made_of : (z : Spine) (t u a b : Tree) (r : Result Spine Fault) → z ≡ with_made s t a → t ≡ u → a ≡ b → Meets e n (made_so_far w z) r → Meets e n (made_so_far w (with_made s u b)) r
  made_of z t u a b r h g l m = subst (λ x. Meets e n (made_so_far w (with_made s u x)) r) l (subst (λ x. Meets e n (made_so_far w (with_made s x a)) r) g (subst (λ x. Meets e n (made_so_far w x) r) h m))

-- ---- solving

pub gives_solved : (os xs : Solution) (t : Tree) (r : Result Tree TreeStop) → xs ≡ os → solved (solutions os) t ≡ solved_in os t → Gives (solved (solutions xs) t) r → Gives (solved_in os t) r
gives_solved os xs t r h g m = subst (λ z. Gives z r) g (subst (λ z. Gives (solved (solutions z) t) r) h m)

module _ {A : Type 0} (e : Known) (n : ℕ) (w at : Span) (os : Solution) (p a : Tree) where
  -- what follows where the target fits, and where it does not
  pub fits_goes : (s : Solution) (k : Solution → Questions A) (r : Result A Fault) → Meets e n (fits_then w at os p a (λ s. gives s)) (Ok s) → Meets e n (k s) r → Meets e n (fits_then w at os p a k) r
  fits_goes s k r h m =
      alike e n (then (fits_then w at os p a (λ s. gives s)) k) (fits_then w at os p a k) r (fits_onward e n w at os p (λ s. gives s) k a) (goes_on e n (fits_then w at os p a (λ s. gives s)) k s r h m)

  pub fits_ends : (k : Solution → Questions A) (d : Fault) → Meets e n (fits_then w at os p a (λ s. gives s)) (Err d) → Meets e n (fits_then w at os p a k) (Err d)
  fits_ends k d h =
      alike e n (then (fits_then w at os p a (λ s. gives s)) k) (fits_then w at os p a k) (Err d) (fits_onward e n w at os p (λ s. gives s) k a) (ends e n (fits_then w at os p a (λ s. gives s)) k d h)

module _ {A B : Type 0} (e : Known) (n : ℕ) (w at : Span) (os : Solution) (p a : Tree) (k : Solution → Questions A) (g : A → Questions B) where
  pub fits_then_goes : (x : A) (r : Result B Fault) → Meets e n (fits_then w at os p a k) (Ok x) → Meets e n (g x) r → Meets e n (fits_then w at os p a (λ s. then (k s) g)) r
  fits_then_goes x r h m =
      alike e n (then (fits_then w at os p a k) g) (fits_then w at os p a (λ s. then (k s) g)) r (fits_onward e n w at os p k g a) (goes_on e n (fits_then w at os p a k) g x r h m)

  pub fits_then_ends : (d : Fault) → Meets e n (fits_then w at os p a k) (Err d) → Meets e n (fits_then w at os p a (λ s. then (k s) g)) (Err d)
  fits_then_ends d h =
      alike e n (then (fits_then w at os p a k) g) (fits_then w at os p a (λ s. then (k s) g)) (Err d) (fits_onward e n w at os p k g a) (ends e n (fits_then w at os p a k) g d h)
