-- How spines end: questions that begin as others do, and go on otherwise.
use Rattle.std.proofs.Common.{◌≡◌, ℕ, zero, suc, ◌≤◌, ◌<◌, Bool, true, false, ltb, cond, List, [], ◌∷◌, length, get_or, drop, Option, Some, None, Result, Ok, Err, refl, sym, ap, ◌∙◌, subst, arith}
use Rattle.cdle_names.specs.declared.Span as names
use Rattle.cdle_model.specs.Trees.{allt_of, pi_of, all_of, iota_of, kpi_of, kpit_of, tlam_of, xtlam_of, lam_of, elam_of, xlam_of, pair_of, guide_of, Tree, var, name, leaf, unary, fun, apply, binary, bind}
use Rattle.cdle_model.specs.Depth.{depth}
use Rattle.cdle_model.specs.Derivation.{Entry}
use Rattle.cdle_model.specs.Erasure.{erased}
use Rattle.cdle_model.specs.HeadForms.{deepest}
use Rattle.source_model.specs.Source.{Span}
use Rattle.elab_model.specs.declared.codes.Code.{Code}
use Rattle.elab_model.specs.declared.codes.Code.TheVariants.{ArgumentLeftOpen, WantedKind}
use Rattle.elab_model.specs.Questions.{Env, Questions, Finding, found, rejected, spent_at, too_deep, out_of_scope, gives, rejects, deep_at, ask_same, then, unless_deep, limited, answer}
use Rattle.elab_model.specs.Instances.{Solution, solved_in, all_found, found_in}
use Rattle.elab_model.specs.Items.{found_then}
use Rattle.elab_model.specs.Spines.{Typed, Spine, binder_parts, leaves_out, leading_out, kind_of, kinds_agree, closes}
use Rattle.elab_tree.specs.Known.{Known}
use Rattle.elab_tree.specs.Answers.{Gives}
use Rattle.elab_tree.specs.Solved.{solved, solutions}
use Rattle.elab_tree.specs.declared.stop.TreeStop.{TreeStop}
use Rattle.elab_tree.specs.declared.stop.TreeStop.TheVariants as stop
use Rattle.elab_tree.specs.declared.term.EKind.{EKind}
use Rattle.elab_tree.specs.declared.term.EType.{EType}
use Rattle.elab_tree.specs.declared.term.EKindForm.{EKindForm}
use Rattle.elab_tree.specs.declared.term.EKindForm.TheVariants as kind
use Rattle.elab_tree.specs.Forms.{kind_tree}
use Rattle.elab_reduce.specs.Items.{env_of}
use Rattle.scoped_tree.specs.Trees.{place}
use Rattle.elab_match.proofs.Solving.{solving}
use Rattle.elab_rules.specs.declared.fault.Fault.{Fault}
use Rattle.elab_rules.specs.declared.fault.Fault.TheVariants as f
use Rattle.elab_rules.specs.declared.place.At.{At}
use Rattle.elab_rules.specs.Answers.{Meets, fault_of, seen}
use Rattle.elab_rules.specs.Places.{spot}
use Rattle.elab_rules.specs.TypeProducts.{is_type_product, type_product}
use Rattle.elab_rules.specs.declared.spine.Spine as code
use Rattle.elab_rules.specs.Spines.{spine_of}
use Rattle.elab_rules.proofs.Steps.{answer_then, goes_on, ends, given, no_memory, is_low, is_deep, alike}

-- ---- questions that begin as others do

-- what is found leads to what follows in two steps, or in one
alike_then : {A B C : Type 0} (s : Finding A) (f : A → Finding B) (g : A → Finding C) (h : C → Finding B) → ((x : A) → f x ≡ found_then (g x) h) → found_then s f ≡ found_then (found_then s g) h
alike_then (found x) f g h e = e x
alike_then (rejected p w) f g h e = refl
alike_then (spent_at p) f g h e = refl
alike_then (too_deep p) f g h e = refl
alike_then out_of_scope f g h e = refl

module _ {A B : Type 0} (e : Known) (n : ℕ) where
  pub begun_on : (q' : Questions B) (q : Questions A) (k : A → Questions B) (x : A) (r : Result B Fault) → answer (env_of e) n q' ≡ found_then (answer (env_of e) n q) (λ x. answer (env_of e) n (k x))
      → Meets e n q (Ok x) → Meets e n (k x) r → Meets e n q' r
  begun_on q' q k x r h m l = alike e n (then q k) q' r (answer_then (env_of e) n q k ∙ sym h) (goes_on e n q k x r m l)

  pub begun_ends : (q' : Questions B) (q : Questions A) (k : A → Questions B) (d : Fault) → answer (env_of e) n q' ≡ found_then (answer (env_of e) n q) (λ x. answer (env_of e) n (k x)) → Meets e n q (Err d) → Meets e n q' (Err d)
  begun_ends q' q k d h m = alike e n (then q k) q' (Err d) (answer_then (env_of e) n q k ∙ sym h) (ends e n q k d m)

-- a fault that is passed on
pub passed : {A : Type 0} (e : Known) (n : ℕ) (q : Questions A) (r : Result A Fault) (x d : Fault) → r ≡ Err x → x ≡ d → Meets e n q (Err d) → Meets e n q r
passed e n q r x d h g m = rw (h, g) m

pub passed_spine : (e : Known) (n : ℕ) (q : Questions Spine) (r : Result code.Spine Fault) (x d : Fault) → r ≡ Err x → x ≡ d → Meets e n q (Err d) → Meets e n q (seen spine_of r)
passed_spine e n q r x d h g m = rw (h, g) m

-- a comparison, and then what begins as other questions do
module _ {A B : Type 0} (e : Env) (n : ℕ) (w : Span) (x y : Tree) (q : Questions B) (r : Questions A) (h : A → Finding B) (same : answer e n q ≡ found_then (answer e n r) h) where
  same_begun : (b : Bool) → answer e n (cond b (deep_at w) (ask_same w w WantedKind x y q)) ≡ found_then (answer e n (cond b (deep_at w) (ask_same w w WantedKind x y r))) h
  same_begun true = refl
  same_begun false =
      answer_then e n (ask_same w w WantedKind x y (gives (tt {0}))) (λ _. q)
      ∙ alike_then (answer e n (ask_same w w WantedKind x y (gives (tt {0})))) (λ _. answer e n q) (λ _. answer e n r) h (λ _. same)
      ∙ ap (λ z. found_then z h) (sym (answer_then e n (ask_same w w WantedKind x y (gives (tt {0}))) (λ _. r)))

-- ---- trees that are too deep

module _ {A : Type 0} (e : Known) (n : ℕ) (p : Span) (t : Tree) (k : Tree → Questions A) where
  limited_begun : (b : Bool) → answer (env_of e) n (cond b (deep_at p) (k t)) ≡ found_then (answer (env_of e) n (cond b (deep_at p) (gives t))) (λ x. answer (env_of e) n (k x))
  limited_begun true = refl
  limited_begun false = refl

  pub limited_on : (x : Tree) (r : Result A Fault) → Meets e n (limited p t) (Ok x) → Meets e n (k x) r → Meets e n (unless_deep p t (k t)) r
  limited_on x r m l = begun_on e n (unless_deep p t (k t)) (limited p t) k x r (limited_begun (ltb deepest (depth t))) m l

  pub limited_ends : (d : Fault) → Meets e n (limited p t) (Err d) → Meets e n (unless_deep p t (k t)) (Err d)
  limited_ends d m = begun_ends e n (unless_deep p t (k t)) (limited p t) k d (limited_begun (ltb deepest (depth t))) m

pub refused : (A : Type 0) (e : Known) (n : ℕ) (p : At) (w : Code) → Meets {A = A} e n (rejects (spot p) w) (Err (f.Rejected p w))
unfolding Meets
refused A e n p w = refl

module _ (e : Known) (n : ℕ) where
  -- a change of a tree gave one, or it was stopped
  pub limited_gives : (p : Span) (t a : Tree) → a ≡ t → depth t ≤ 4096 → Meets e n (limited p t) (Ok a)
  limited_gives p t a h l = rw h (is_low e n p t (gives t) (Ok t) l (given e n t))

  pub limited_stops : (p : names.Span) (t : Tree) (x : TreeStop) (d : Fault) → Gives t (Err x) → d ≡ fault_of p x → Meets e n (limited (place p) t) (Err d)
  limited_stops p t stop.TooDeep d h g = rw g (is_deep e n (place p) t (gives t) (f.TooDeep p) (refl, h))
  limited_stops p t stop.NoMemory d h g = rw g (no_memory e n (limited (place p) t))

-- ---- products

-- a kind that is no such product
pub no_term_product : {A : Type 0} (x : EKindForm) (t : Tree) (k : Tree → Tree → Questions A) (r : Questions A) → kind_tree x ≡ t → ((a : EType) (b : EKind) → x ≡ kind.Kpi a b → ⊥) → binder_parts kpi_of t k r ≡ r
no_term_product kind.Star t k r h n = rw (← h) refl
no_term_product (kind.Kpi a b) t k r h n = absurd (n a b refl)
no_term_product (kind.Kpit a b) t k r h n = rw (← h) refl

pub no_type_product : {A : Type 0} (x : EKindForm) (t : Tree) (k : Tree → Tree → Questions A) (r : Questions A) → kind_tree x ≡ t → ((a b : EKind) → x ≡ kind.Kpit a b → ⊥) → binder_parts kpit_of t k r ≡ r
no_type_product kind.Star t k r h n = rw (← h) refl
no_type_product (kind.Kpi a b) t k r h n = rw (← h) refl
no_type_product (kind.Kpit a b) t k r h n = absurd (n a b refl)

-- of a type

abbrev by_parts : {A : Type 0} → Option (Tree × Tree) → (Tree → Tree → Questions A) → Questions A → Questions A
by_parts (Some x) k r = k x.0 x.1
by_parts None k r = r

parts_are : {A : Type 0} (t : Tree) (k : Tree → Tree → Questions A) (r : Questions A) → binder_parts allt_of t k r ≡ by_parts (type_product t) k r
parts_are (bind allt_of p q) k r = refl
parts_are (bind pi_of p q) k r = refl
parts_are (bind all_of p q) k r = refl
parts_are (bind iota_of p q) k r = refl
parts_are (bind kpi_of p q) k r = refl
parts_are (bind kpit_of p q) k r = refl
parts_are (bind tlam_of p q) k r = refl
parts_are (bind xtlam_of p q) k r = refl
parts_are (bind lam_of p q) k r = refl
parts_are (bind elam_of p q) k r = refl
parts_are (bind xlam_of p q) k r = refl
parts_are (bind pair_of p q) k r = refl
parts_are (bind guide_of p q) k r = refl
parts_are (var i) k r = refl
parts_are (name i) k r = refl
parts_are (leaf i) k r = refl
parts_are (unary j p) k r = refl
parts_are (fun c p) k r = refl
parts_are (apply c p q) k r = refl
parts_are (binary j p q) k r = refl

pub is_product : {A : Type 0} (t : Tree) (x : Tree × Tree) (k : Tree → Tree → Questions A) (r : Questions A) → type_product t ≡ Some x → binder_parts allt_of t k r ≡ k x.0 x.1
is_product t x k r e = parts_are t k r ∙ ap (λ o. by_parts o k r) e

pub no_product : {A : Type 0} (t : Tree) (k : Tree → Tree → Questions A) (r : Questions A) → type_product t ≡ None → binder_parts allt_of t k r ≡ r
no_product t k r e = parts_are t k r ∙ ap (λ o. by_parts o k r) e

by_product : {A : Type 0} (t : Tree) (u r : Questions A) → binder_parts allt_of t (λ k b. u) r ≡ cond (is_type_product t) u r
by_product (bind allt_of p q) u r = refl
by_product (bind pi_of p q) u r = refl
by_product (bind all_of p q) u r = refl
by_product (bind iota_of p q) u r = refl
by_product (bind kpi_of p q) u r = refl
by_product (bind kpit_of p q) u r = refl
by_product (bind tlam_of p q) u r = refl
by_product (bind xtlam_of p q) u r = refl
by_product (bind lam_of p q) u r = refl
by_product (bind elam_of p q) u r = refl
by_product (bind xlam_of p q) u r = refl
by_product (bind pair_of p q) u r = refl
by_product (bind guide_of p q) u r = refl
by_product (var i) u r = refl
by_product (name i) u r = refl
by_product (leaf i) u r = refl
by_product (unary j p) u r = refl
by_product (fun c p) u r = refl
by_product (apply c p q) u r = refl
by_product (binary j p q) u r = refl

module _ {A : Type 0} (e : Known) (n : ℕ) (t : Tree) (u r : Questions A) (x : Result A Fault) (b : Bool) (is : b ≡ is_type_product t) where
  pub where_product : b ≡ true → Meets e n u x → Meets e n (binder_parts allt_of t (λ k b. u) r) x
  where_product h m = rw (by_product t u r) (rw (sym is ∙ h) m)

  pub where_no_product : b ≡ false → Meets e n r x → Meets e n (binder_parts allt_of t (λ k b. u) r) x
  where_no_product h m = rw (by_product t u r) (rw (sym is ∙ h) m)

-- ---- types that are left out

module _ (e : Known) (n : ℕ) (w : Span) (m i : ℕ) (s : Spine) (turns : m ≡ suc i) where
  -- a turn leads on, or it ends
  pub turn_on : (r : Spine) (x : Tree × Tree) → type_product s.type ≡ Some x → Meets e n (leaves_out w s x.0 x.1) (Ok r) → answer (env_of e) n (leading_out (env_of e) m w s) ≡ answer (env_of e) n (leading_out (env_of e) i w r)
  unfolding Meets
  turn_on r x h l = rw turns
      (ap (answer (env_of e) n) (is_product s.type x (λ k b. then (leaves_out w s k b) (leading_out (env_of e) i w)) (gives s) h)
      ∙ answer_then (env_of e) n (leaves_out w s x.0 x.1) (leading_out (env_of e) i w) ∙ ap (λ z. found_then z (λ r. answer (env_of e) n (leading_out (env_of e) i w r))) l)

  pub turn_ends : (d : Fault) (x : Tree × Tree) → type_product s.type ≡ Some x → Meets e n (leaves_out w s x.0 x.1) (Err d) → Meets e n (leading_out (env_of e) m w s) (Err d)
  turn_ends d x h l = rw turns (rw (is_product s.type x (λ k b. then (leaves_out w s k b) (leading_out (env_of e) i w)) (gives s) h) (ends e n (leaves_out w s x.0 x.1) (leading_out (env_of e) i w) d l))

  pub turns_done : type_product s.type ≡ None → Meets e n (leading_out (env_of e) m w s) (Ok s)
  turns_done h = rw turns (rw (no_product s.type (λ k b. then (leaves_out w s k b) (leading_out (env_of e) i w)) (gives s) h) (given e n s))

pub no_turns : (e : Known) (n : ℕ) (w : names.Span) (m : ℕ) (s : Spine) → m ≡ 0 → Meets e n (leading_out (env_of e) m (place w) s) (Err (f.TooDeep w))
unfolding Meets
no_turns e n w m s h = rw h refl

-- ---- solutions and their kinds

module _ (e : Env) (n : ℕ) (w : Span) (c : List Entry) (os : Solution) where
  agree_begun : {A : Type 0} (bs : Solution) (ks : List Tree) (q : Questions A)
      → answer e n (kinds_agree e w c os bs ks q) ≡ found_then (answer e n (kinds_agree e w c os bs ks (gives (tt {0})))) (λ _. answer e n q)
  agree_begun [] ks q = refl
  agree_begun (None ∷ bs) ks q = refl
  agree_begun (Some a ∷ bs) [] q = refl
  agree_begun (Some a ∷ bs) (k ∷ ks) q =
      answer_then e n (kind_of e w c a) (λ l. unless_deep w (solved_in os k) (ask_same w w WantedKind (erased l) (erased (solved_in os k)) (kinds_agree e w c os bs ks q)))
      ∙ alike_then (answer e n (kind_of e w c a))
      (λ l. answer e n (unless_deep w (solved_in os k) (ask_same w w WantedKind (erased l) (erased (solved_in os k)) (kinds_agree e w c os bs ks q))))
      (λ l. answer e n (unless_deep w (solved_in os k) (ask_same w w WantedKind (erased l) (erased (solved_in os k)) (kinds_agree e w c os bs ks (gives (tt {0}))))))
      (λ _. answer e n q)
      (λ l. same_begun e n w (erased l) (erased (solved_in os k)) (kinds_agree e w c os bs ks q) (kinds_agree e w c os bs ks (gives (tt {0}))) (λ _. answer e n q) (agree_begun bs ks q) (ltb deepest (depth (solved_in os k))))
      ∙ ap (λ z. found_then z (λ _. answer e n q))
      (sym (answer_then e n (kind_of e w c a) (λ l. unless_deep w (solved_in os k) (ask_same w w WantedKind (erased l) (erased (solved_in os k)) (kinds_agree e w c os bs ks (gives (tt {0})))))))

  -- of one solution
  abbrev pub kind_agrees : Tree → Tree → Questions (Unit {0})
  kind_agrees a k = then (kind_of e w c a) (λ l. unless_deep w (solved_in os k) (ask_same w w WantedKind (erased l) (erased (solved_in os k)) (gives (tt {0}))))

  -- the first of the solutions, and then the rest
  agree_next : (a k : Tree) (bs : Solution) (ks : List Tree)
      → answer e n (kinds_agree e w c os (Some a ∷ bs) (k ∷ ks) (gives (tt {0}))) ≡ found_then (answer e n (kind_agrees a k)) (λ _. answer e n (kinds_agree e w c os bs ks (gives (tt {0}))))
  agree_next a k bs ks =
      answer_then e n (kind_of e w c a) (λ l. unless_deep w (solved_in os k) (ask_same w w WantedKind (erased l) (erased (solved_in os k)) (kinds_agree e w c os bs ks (gives (tt {0})))))
      ∙ alike_then (answer e n (kind_of e w c a))
      (λ l. answer e n (unless_deep w (solved_in os k) (ask_same w w WantedKind (erased l) (erased (solved_in os k)) (kinds_agree e w c os bs ks (gives (tt {0}))))))
      (λ l. answer e n (unless_deep w (solved_in os k) (ask_same w w WantedKind (erased l) (erased (solved_in os k)) (gives (tt {0})))))
      (λ _. answer e n (kinds_agree e w c os bs ks (gives (tt {0}))))
      (λ l. same_begun e n w (erased l) (erased (solved_in os k)) (kinds_agree e w c os bs ks (gives (tt {0}))) (gives (tt {0})) (λ _. answer e n (kinds_agree e w c os bs ks (gives (tt {0})))) refl (ltb deepest (depth (solved_in os k))))
      ∙ ap (λ z. found_then z (λ _. answer e n (kinds_agree e w c os bs ks (gives (tt {0})))))
      (sym (answer_then e n (kind_of e w c a) (λ l. unless_deep w (solved_in os k) (ask_same w w WantedKind (erased l) (erased (solved_in os k)) (gives (tt {0}))))))

-- from the solution of a number on
module _ (e : Known) (n : ℕ) (w : Span) (c : List Entry) (os : Solution) where
  abbrev pub agreeing : Solution → List Tree → Questions (Unit {0})
  agreeing bs ks = kinds_agree (env_of e) w c os bs ks (gives (tt {0}))

  pub agree_on : (a k : Tree) (i j : ℕ) (bs : Solution) (ks : List Tree) → j ≡ suc i → found_in bs i ≡ Some a → i < length ks → k ≡ get_or ks i k → Meets e n (kind_agrees (env_of e) n w c os a k) (Ok (tt {0}))
      → answer (env_of e) n (agreeing (drop i bs) (drop i ks)) ≡ answer (env_of e) n (agreeing (drop j bs) (drop j ks))
  unfolding Meets
  agree_on a k i j [] ks t h l g m = absurd cc
  agree_on a k i j (b ∷ bs) [] t h l g m = absurd (omega arith)
  agree_on a k zero j (b ∷ bs) (x ∷ ks) t h l g m = rw (t, h, ← g) (agree_next (env_of e) n w c os a k bs ks ∙ ap (λ z. found_then z (λ _. answer (env_of e) n (agreeing bs ks))) m)
  agree_on a k (suc i) j (b ∷ bs) (x ∷ ks) t h l g m = rw t (agree_on a k i (suc i) bs ks refl h (omega arith) g m)

  pub agree_ends : (a k : Tree) (i : ℕ) (bs : Solution) (ks : List Tree) (d : Fault) → found_in bs i ≡ Some a → i < length ks → k ≡ get_or ks i k → Meets e n (kind_agrees (env_of e) n w c os a k) (Err d) → Meets e n (agreeing (drop i bs) (drop i ks)) (Err d)
  agree_ends a k i [] ks d h l g m = absurd cc
  agree_ends a k i (b ∷ bs) [] d h l g m = absurd (omega arith)
  agree_ends a k zero (b ∷ bs) (x ∷ ks) d h l g m = rw (h, ← g) (begun_ends e n (agreeing (Some a ∷ bs) (k ∷ ks)) (kind_agrees (env_of e) n w c os a k) (λ _. agreeing bs ks) d (agree_next (env_of e) n w c os a k bs ks) m)
  agree_ends a k (suc i) (b ∷ bs) (x ∷ ks) d h l g m = agree_ends a k i bs ks d h (omega arith) g m

  -- no solution, or no kind, is left
  no_kinds : (bs : Solution) → Meets e n (agreeing bs []) (Ok (tt {0}))
  no_kinds [] = given e n (tt {0})
  no_kinds (None ∷ bs) = given e n (tt {0})
  no_kinds (Some a ∷ bs) = given e n (tt {0})

  pub no_more_found : (i : ℕ) (bs : Solution) (ks : List Tree) → found_in bs i ≡ None → Meets e n (agreeing (drop i bs) (drop i ks)) (Ok (tt {0}))
  no_more_found zero [] ks h = given e n (tt {0})
  no_more_found (suc i) [] ks h = given e n (tt {0})
  no_more_found zero (None ∷ bs) ks h = given e n (tt {0})
  no_more_found zero (Some a ∷ bs) ks h = absurd cc
  no_more_found (suc i) (b ∷ bs) [] h = no_kinds (drop i bs)
  no_more_found (suc i) (b ∷ bs) (k ∷ ks) h = no_more_found i bs ks h

  pub no_more_kinds : (i : ℕ) (bs : Solution) (ks : List Tree) → length ks ≤ i → Meets e n (agreeing (drop i bs) (drop i ks)) (Ok (tt {0}))
  no_more_kinds zero bs [] l = no_kinds bs
  no_more_kinds zero bs (k ∷ ks) l = absurd (omega arith)
  no_more_kinds (suc i) [] ks l = given e n (tt {0})
  no_more_kinds (suc i) (b ∷ bs) [] l = no_kinds (drop i bs)
  no_more_kinds (suc i) (b ∷ bs) (k ∷ ks) l = no_more_kinds i bs ks (omega arith)

  pub no_more : (i : ℕ) (bs : Solution) (ks : List Tree) → length bs ≤ i → Meets e n (agreeing (drop i bs) (drop i ks)) (Ok (tt {0}))
  no_more zero [] ks l = given e n (tt {0})
  no_more zero (b ∷ bs) ks l = absurd (omega arith)
  no_more (suc i) [] ks l = given e n (tt {0})
  no_more (suc i) (b ∷ bs) [] l = no_kinds (drop i bs)
  no_more (suc i) (b ∷ bs) (k ∷ ks) l = no_more i bs ks (omega arith)

-- ---- a spine that is closed

abbrev pub gives_both : Tree → Tree → Questions Typed
gives_both t a = gives (t, a)

module _ {A : Type 0} (e : Known) (n : ℕ) (w : Span) (c : List Entry) (s : Spine) (k : Tree → Tree → Questions A) where
  abbrev goes : Typed → Questions A
  goes x = k x.0 x.1

  deep_begun : (t a : Tree) (b : Bool) → answer (env_of e) n (cond b (deep_at w) (k t a)) ≡ found_then (answer (env_of e) n (cond b (deep_at w) (gives_both t a))) (λ x. answer (env_of e) n (goes x))
  deep_begun t a true = refl
  deep_begun t a false = refl

  closes_begun : (t a : Tree) (b : Bool)
      → answer (env_of e) n (cond b (kinds_agree (env_of e) w c s.solution s.solution s.kinds (unless_deep w t (k t a))) (rejects w ArgumentLeftOpen))
      ≡ found_then (answer (env_of e) n (cond b (kinds_agree (env_of e) w c s.solution s.solution s.kinds (unless_deep w t (gives_both t a))) (rejects w ArgumentLeftOpen))) (λ x. answer (env_of e) n (goes x))
  closes_begun t a false = refl
  closes_begun t a true =
      agree_begun (env_of e) n w c s.solution s.solution s.kinds (unless_deep w t (k t a))
      ∙ alike_then (answer (env_of e) n (kinds_agree (env_of e) w c s.solution s.solution s.kinds (gives (tt {0})))) (λ _. answer (env_of e) n (unless_deep w t (k t a))) (λ _. answer (env_of e) n (unless_deep w t (gives_both t a))) (λ x. answer (env_of e) n (goes x))
      (λ _. deep_begun t a (ltb deepest (depth t)))
      ∙ ap (λ z. found_then z (λ x. answer (env_of e) n (goes x))) (sym (agree_begun (env_of e) n w c s.solution s.solution s.kinds (unless_deep w t (gives_both t a))))

  pub closes_on : (x : Typed) (r : Result A Fault) → Meets e n (closes (env_of e) w c s gives_both) (Ok x) → Meets e n (k x.0 x.1) r → Meets e n (closes (env_of e) w c s k) r
  closes_on x r m l = begun_on e n (closes (env_of e) w c s k) (closes (env_of e) w c s gives_both) goes x r (closes_begun (solved_in s.solution s.term) (solved_in s.solution s.type) (all_found s.solution)) m l

  pub closes_ends : (d : Fault) → Meets e n (closes (env_of e) w c s gives_both) (Err d) → Meets e n (closes (env_of e) w c s k) (Err d)
  closes_ends d m = begun_ends e n (closes (env_of e) w c s k) (closes (env_of e) w c s gives_both) goes d (closes_begun (solved_in s.solution s.term) (solved_in s.solution s.type) (all_found s.solution)) m

-- its solutions agree with their kinds, and then the rest
module _ {A : Type 0} (e : Known) (n : ℕ) (w : Span) (c : List Entry) (os : Solution) (ks : List Tree) (q : Questions A) where
  pub agreed_on : (r : Result A Fault) → Meets e n (kinds_agree (env_of e) w c os os ks (gives (tt {0}))) (Ok (tt {0})) → Meets e n q r → Meets e n (kinds_agree (env_of e) w c os os ks q) r
  agreed_on r m l = begun_on e n (kinds_agree (env_of e) w c os os ks q) (kinds_agree (env_of e) w c os os ks (gives (tt {0}))) (λ _. q) (tt {0}) r (agree_begun (env_of e) n w c os os ks q) m l

  pub agreed_ends : (d : Fault) → Meets e n (kinds_agree (env_of e) w c os os ks (gives (tt {0}))) (Err d) → Meets e n (kinds_agree (env_of e) w c os os ks q) (Err d)
  agreed_ends d m = begun_ends e n (kinds_agree (env_of e) w c os os ks q) (kinds_agree (env_of e) w c os os ks (gives (tt {0}))) (λ _. q) d (agree_begun (env_of e) n w c os os ks q) m

-- ---- what is found, put into a tree

pub gives_found : (os ps : Solution) (t : Tree) (r : Result Tree TreeStop) → ps ≡ os → Gives (solved (solutions ps) t) r → Gives (solved_in os t) r
gives_found os ps t r h g = subst (λ z. Gives z r) (ap (λ z. solved (solutions z) t) h ∙ solving os t) g
