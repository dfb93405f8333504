-- How the questions at a rule's end go on: a tree that is not too deep, a variable that is not used, the parts of a form.
use Rattle.std.proofs.Common.{◌≡◌, ℕ, ◌≤◌, Bool, true, false, ltb, cond, Option, Some, None, Result, Ok, Err, refl, sym, ap, ◌∙◌, subst}
use Rattle.cdle_model.specs.HeadForms.{deepest}
use Rattle.cdle_model.specs.Trees.{eq_of, app_of, eapp_of, tapp_of, group_of, beta_of, rho_of, phi_of, delta_of, Binder, Binder-discrete, Tree, var, name, leaf, unary, fun, apply, binary, bind, lacks, put}
use Rattle.cdle_model.specs.Depth.{depth}
use Rattle.cdle_model.specs.Erasure.{erased}
use Rattle.source_model.specs.Source.{Span}
use Rattle.elab_model.specs.declared.codes.Code.{Code}
use Rattle.elab_model.specs.declared.codes.Code.TheVariants.{ErasedVariableUsed}
use Rattle.elab_model.specs.Questions.{Questions, gives, rejects, deep_at, ask_same, then, unless_deep, limited}
use Rattle.elab_model.specs.Rules.{unless_used}
use Rattle.elab_model.specs.Spines.{binder_parts, equation_parts}
use Rattle.elab_tree.specs.Answers.{Gives}
use Rattle.elab_tree.specs.Known.{Known}
use Rattle.elab_tree.specs.declared.stop.TreeStop.{TreeStop}
use Rattle.elab_tree.specs.declared.stop.TreeStop.TheVariants as s
use Rattle.elab_rules.specs.declared.fault.Fault.{Fault}
use Rattle.elab_rules.specs.declared.fault.Fault.TheVariants as f
use Rattle.elab_rules.specs.declared.place.At.{At}
use Rattle.elab_rules.specs.Answers.{IsLow, Meets, fault_of}
use Rattle.elab_rules.specs.Equations.{is_said}
use Rattle.elab_rules.specs.Parts.{parts_of, sides_of}
use Rattle.elab_rules.specs.Places.{spot}
use Rattle.elab_rules.proofs.Steps.{goes_on, ends, given, is_low, is_deep, no_memory}
use Rattle.scoped_tree.specs.Trees.{place}
use Rattle.cdle_names.specs.declared.Span as names

pub then_cond : {A B : Type 0} (b : Bool) (q r : Questions A) (k : A → Questions B) → then (cond b q r) k ≡ cond b (then q k) (then r k)
then_cond true q r k = refl
then_cond false q r k = refl

pub refused : (A : Type 0) (e : Known) (n : ℕ) (p : At) (w : Code) → Meets {A = A} e n (rejects (spot p) w) (Err (f.Rejected p w))
unfolding Meets
refused A e n p w = refl

module _ {A : Type 0} (e : Known) (n : ℕ) where
  -- a tree that is not too deep, and the rest with it
  pub deep_on : (p : Span) (t x : Tree) (g : Tree → Questions A) (r : Result A Fault) → Meets e n (limited p t) (Ok x) → Meets e n (g x) r → Meets e n (unless_deep p t (g t)) r
  deep_on p t x g r h m = subst (λ q. Meets e n q r) (then_cond (ltb deepest (depth t)) (deep_at p) (gives t) g) (goes_on e n (limited p t) g x r h m)

  pub deep_ends : (p : Span) (t : Tree) (g : Tree → Questions A) (d : Fault) → Meets e n (limited p t) (Err d) → Meets e n (unless_deep p t (g t)) (Err d)
  deep_ends p t g d h = subst (λ q. Meets e n q (Err d)) (then_cond (ltb deepest (depth t)) (deep_at p) (gives t) g) (ends e n (limited p t) g d h)

  -- a type that a guide says of a side, and the rest
  pub said_on : (s p : Span) (w : Code) (a d x : Tree) (q : Questions A) (r : Result A Fault) → Meets e n (is_said s p w a d x) (Ok (tt {0})) → Meets e n q r → Meets e n (unless_deep s (put 0 x d) (ask_same s p w (erased a) (put 0 x d) q)) r
  said_on s p w a d x q r h m = subst (λ z. Meets e n z r) (then_cond (ltb deepest (depth (put 0 x d))) (deep_at s) (ask_same s p w (erased a) (put 0 x d) (gives (tt {0}))) (λ _. q)) (goes_on e n (is_said s p w a d x) (λ _. q) (tt {0}) r h m)

  pub said_ends : (s p : Span) (w : Code) (a d x : Tree) (q : Questions A) (f : Fault) → Meets e n (is_said s p w a d x) (Err f) → Meets e n (unless_deep s (put 0 x d) (ask_same s p w (erased a) (put 0 x d) q)) (Err f)
  said_ends s p w a d x q f h = subst (λ z. Meets e n z (Err f)) (then_cond (ltb deepest (depth (put 0 x d))) (deep_at s) (ask_same s p w (erased a) (put 0 x d) (gives (tt {0}))) (λ _. q)) (ends e n (is_said s p w a d x) (λ _. q) f h)

  -- a depth that is tested, and the rest
  pub low_on : (p : Span) (t : Tree) (d : ℕ) (q : Questions A) (r : Result A Fault) → d ≡ depth t → d ≤ 4096 → Meets e n q r → Meets e n (unless_deep p t q) r
  low_on p t d q r h l m = is_low e n p t q r (subst (λ z. z ≤ 4096) h l) m

  pub low_ends : (p : Span) (t : Tree) (d : ℕ) (q : Questions A) (x : Fault) → d ≡ depth t → IsLow p d (Err x) → Meets e n (unless_deep p t q) (Err x)
  low_ends p t d q x h l = is_deep e n p t q x (subst (λ z. IsLow p z (Err x)) h l)

  -- a variable that is not used, and the rest
  pub unused_on : (p : Span) (t : Tree) (q : Questions A) (r : Result A Fault) → Meets e n (unless_used p t (gives (tt {0}))) (Ok (tt {0})) → Meets e n q r → Meets e n (unless_used p t q) r
  unused_on p t q r h m = subst (λ z. Meets e n z r) (then_cond (lacks 0 t) (gives (tt {0})) (rejects p ErasedVariableUsed) (λ _. q)) (goes_on e n (unless_used p t (gives (tt {0}))) (λ _. q) (tt {0}) r h m)

  pub unused_ends : (p : Span) (t : Tree) (q : Questions A) (d : Fault) → Meets e n (unless_used p t (gives (tt {0}))) (Err d) → Meets e n (unless_used p t q) (Err d)
  unused_ends p t q d h = subst (λ z. Meets e n z (Err d)) (then_cond (lacks 0 t) (gives (tt {0})) (rejects p ErasedVariableUsed) (λ _. q)) (ends e n (unless_used p t (gives (tt {0}))) (λ _. q) d h)

by_parts : {A : Type 0} → Option (Tree × Tree) → (Tree → Tree → Questions A) → Questions A → Questions A
by_parts (Some p) k r = k p.0 p.1
by_parts None k r = r

parts_then : {A : Type 0} (g : Binder) (t : Tree) (k : Tree → Tree → Questions A) (r : Questions A) → by_parts (parts_of g t) k r ≡ binder_parts g t k r
unfolding by_parts
parts_then g (bind h a b) k r = elim (Binder-discrete g h) as (λ d. by_parts (elim d [ yes e ↦ Some (a, b) | no e ↦ None ]) k r ≡ elim d [ yes e ↦ k a b | no e ↦ r ]) [ yes e ↦ refl | no e ↦ refl ]
parts_then g (var i) k r = refl
parts_then g (name i) k r = refl
parts_then g (leaf l) k r = refl
parts_then g (unary j p) k r = refl
parts_then g (fun c p) k r = refl
parts_then g (apply c p q) k r = refl
parts_then g (binary j p q) k r = refl

module _ {A : Type 0} (e : Known) (n : ℕ) (g : Binder) (t : Tree) (k : Tree → Tree → Questions A) (q : Questions A) where
  -- a form of that binder with its parts, and any other tree
  pub formed_so : (a b : Tree) (r : Result A Fault) → Some (a, b) ≡ parts_of g t → Meets e n (k a b) r → Meets e n (binder_parts g t k q) r
  unfolding by_parts
  formed_so a b r h m = subst (λ z. Meets e n z r) (ap (λ o. by_parts o k q) h ∙ parts_then g t k q) m

  pub formed_else : (r : Result A Fault) → None ≡ parts_of g t → Meets e n q r → Meets e n (binder_parts g t k q) r
  unfolding by_parts
  formed_else r h m = subst (λ z. Meets e n z r) (ap (λ o. by_parts o k q) h ∙ parts_then g t k q) m

module _ (e : Known) (n : ℕ) (p : names.Span) (t : Tree) where
  -- the tree that a change makes, or the fault of the form
  pub made_on : (x : Tree) → Gives t (Ok x) → Meets e n (limited (place p) t) (Ok x)
  made_on x (h, l) = subst (λ z. Meets e n (limited (place p) t) (Ok z)) (sym h) (is_low e n (place p) t (gives t) (Ok t) l (given e n t))

  pub made_stops : (x : TreeStop) (d : Fault) → d ≡ fault_of p x → Gives t (Err x) → Meets e n (limited (place p) t) (Err d)
  made_stops s.TooDeep d h l = rw h (is_deep e n (place p) t (gives t) (f.TooDeep p) (refl, l))
  made_stops s.NoMemory d h l = rw h (no_memory e n (limited (place p) t))

-- two trees that are these
pub given_as : {A : Type 0} (e : Known) (n : ℕ) (g : Tree → Tree → A) (a b x y : Tree) → x ≡ a → y ≡ b → Meets e n (gives (g a b)) (Ok (g x y))
given_as e n g a b x y h i = subst (λ z. Meets e n (gives (g a b)) (Ok (g z y))) (sym h) (subst (λ z. Meets e n (gives (g a b)) (Ok (g a z))) (sym i) (given e n (g a b)))

sides_then : {A : Type 0} (t : Tree) (k : Tree → Tree → Questions A) (r : Questions A) → by_parts (sides_of t) k r ≡ equation_parts t k r
unfolding by_parts
sides_then (binary eq_of p q) k r = refl
sides_then (binary app_of p q) k r = refl
sides_then (binary eapp_of p q) k r = refl
sides_then (binary tapp_of p q) k r = refl
sides_then (binary group_of p q) k r = refl
sides_then (binary beta_of p q) k r = refl
sides_then (binary rho_of p q) k r = refl
sides_then (binary phi_of p q) k r = refl
sides_then (binary delta_of p q) k r = refl
sides_then (var i) k r = refl
sides_then (name i) k r = refl
sides_then (leaf l) k r = refl
sides_then (unary j p) k r = refl
sides_then (fun c p) k r = refl
sides_then (apply c p q) k r = refl
sides_then (bind g a b) k r = refl

module _ {A : Type 0} (e : Known) (n : ℕ) (t : Tree) (k : Tree → Tree → Questions A) (q : Questions A) where
  -- an equation with its sides, and any other tree
  pub equation_so : (a b : Tree) (r : Result A Fault) → Some (a, b) ≡ sides_of t → Meets e n (k a b) r → Meets e n (equation_parts t k q) r
  unfolding by_parts
  equation_so a b r h m = subst (λ z. Meets e n z r) (ap (λ o. by_parts o k q) h ∙ sides_then t k q) m

  pub equation_else : (r : Result A Fault) → None ≡ sides_of t → Meets e n q r → Meets e n (equation_parts t k q) r
  unfolding by_parts
  equation_else r h m = subst (λ z. Meets e n z r) (ap (λ o. by_parts o k q) h ∙ sides_then t k q) m
