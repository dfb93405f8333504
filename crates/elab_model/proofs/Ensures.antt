-- What holds of all that questions give, whatever they are answered, and that they always have an answer: each comparison is of one class, and they come
-- to no place that no scoped tree comes to. A law is proved of each way of asking once.
use Rattle.std.proofs.Common.{◌≡◌, ◌⊎◌, inl, inr, ℕ, Bool, true, false, cond, ltb, refl, sym, subst}
use Rattle.cdle_model.specs.Trees.{Binder, Binder-discrete, Tree, var, name, leaf, unary, fun, apply, binary, bind}
use Rattle.cdle_model.specs.Forms.{eq}
use Rattle.cdle_model.specs.Classes.{item_sorts}
use Rattle.cdle_model.specs.Depth.{depth}
use Rattle.cdle_model.specs.Steps.{Joined}
use Rattle.cdle_model.specs.Machine.{answered}
use Rattle.cdle_model.specs.HeadForms.{deepest, value}
use Rattle.cdle_model.specs.Derivation.{bodies, signature}
use Rattle.cdle_model.proofs.ClassChecked.{SameClass}
use Rattle.elab_model.specs.declared.codes.Code.{Code}
use Rattle.source_model.specs.Source.{Span}
use Rattle.source_model.specs.Heights.{is_none}
use Rattle.scope_model.specs.Scoped.{Scoped}
use Rattle.elab_model.specs.SourceClasses.{IsLeftOut}
use Rattle.elab_model.specs.Questions.{Questions, gives, rejects, deep_at, astray, ask_same, ask_head, then, unless_deep, Env, head_in}
use Rattle.elab_model.specs.Spines.{binder_parts, equation_parts}
use Rattle.elab_model.specs.Rules.{if_written}

-- b is a head form of the annotated type a, at some budget
pub record IsHead (e : Env) (d : Bool) (a b : Tree) : Type 0 where
  pub units : ℕ
  pub left : ℕ
  pub is : head_in e d units a ≡ answered (value b) left

abbrev pub Each : {A : Type 0} → Env → (A → Type 0) → Questions A → Type 0
Each e P (gives x) = P x
Each e P (rejects p w) = Unit {0}
Each e P (deep_at f) = Unit {0}
Each e P astray = ⊥
Each e P (ask_same f p w a b q) = SameClass (item_sorts e.items) a b × (Joined (bodies (signature e.items)) a b → Each e P q)
Each e P (ask_head f p d a k) = (b : Tree) → IsHead e d a b → Each e P (k b)

pub record Ensures {A : Type 0} (e : Env) (P : A → Type 0) (q : Questions A) : Type 0 where
  pub each : Each e P q

-- ---- each way of asking

pub given : {A : Type 0} {e : Env} {P : A → Type 0} {x : A} → P x → Ensures e P (gives x)
given h = record { each = h }

pub refused : {A : Type 0} {e : Env} {P : A → Type 0} {p : Span} {w : Code} → Ensures e P (rejects p w)
refused = record { each = tt }

pub stopped : {A : Type 0} {e : Env} {P : A → Type 0} {f : Span} → Ensures e P (deep_at f)
stopped = record { each = tt }

pub compared : {A : Type 0} {e : Env} {P : A → Type 0} {f p : Span} {w : Code} {a b : Tree} {q : Questions A}
    → SameClass (item_sorts e.items) a b → (Joined (bodies (signature e.items)) a b → Ensures e P q) → Ensures e P (ask_same f p w a b q)
compared s h = record { each = (s, λ j. (h j).each) }

pub headed : {A : Type 0} {e : Env} {P : A → Type 0} {f p : Span} {d : Bool} {a : Tree} {k : Tree → Questions A} → ((b : Tree) → IsHead e d a b → Ensures e P (k b)) → Ensures e P (ask_head f p d a k)
headed h = record { each = λ b i. (h b i).each }

each-then : {A B : Type 0} (e : Env) (P : A → Type 0) (Q : B → Type 0) (q : Questions A) (k : A → Questions B) → Each e P q → ((x : A) → P x → Each e Q (k x)) → Each e Q (then q k)
each-then e P Q (gives x) k h l = l x h
each-then e P Q (rejects p w) k h l = tt
each-then e P Q (deep_at f) k h l = tt
each-then e P Q astray k h l = h
each-then e P Q (ask_same f p w a b q) k h l = (h.0, λ j. each-then e P Q q k (h.1 j) l)
each-then e P Q (ask_head f p d a g) k h l = λ b i. each-then e P Q (g b) k (h b i) l

-- the first questions, and then those that follow from what they give
pub ensures-then : {A B : Type 0} {e : Env} {P : A → Type 0} {Q : B → Type 0} {q : Questions A} {k : A → Questions B} → Ensures e P q → ((x : A) → P x → Ensures e Q (k x)) → Ensures e Q (then q k)
ensures-then {e = e} {P = P} {Q = Q} {q = q} {k = k} h l = record { each = each-then e P Q q k h.each (λ x y. (l x y).each) }

each-more : {A : Type 0} (e : Env) (P Q : A → Type 0) (q : Questions A) → Each e P q → ((x : A) → P x → Q x) → Each e Q q
each-more e P Q (gives x) h l = l x h
each-more e P Q (rejects p w) h l = tt
each-more e P Q (deep_at f) h l = tt
each-more e P Q astray h l = h
each-more e P Q (ask_same f p w a b q) h l = (h.0, λ j. each-more e P Q q (h.1 j) l)
each-more e P Q (ask_head f p d a g) h l = λ b i. each-more e P Q (g b) (h b i) l

pub ensures-more : {A : Type 0} {e : Env} {P Q : A → Type 0} {q : Questions A} → Ensures e P q → ((x : A) → P x → Q x) → Ensures e Q q
ensures-more {e = e} {P = P} {Q = Q} {q = q} h l = record { each = each-more e P Q q h.each l }

pub ensures-if : {A : Type 0} {e : Env} {P : A → Type 0} {q r : Questions A} (b : Bool) → (b ≡ true → Ensures e P q) → (b ≡ false → Ensures e P r) → Ensures e P (cond b q r)
ensures-if true h l = h refl
ensures-if false h l = l refl

pub ensures-deep : {A : Type 0} {e : Env} {P : A → Type 0} {q : Questions A} (f : Span) (a : Tree) → Ensures e P q → Ensures e P (unless_deep f a q)
ensures-deep f a h = ensures-if (ltb deepest (depth a)) (λ i. stopped) (λ i. h)

-- a part that is written, or left out
pub ensures-written : {A F : Type 0} {e : Env} {P : A → Type 0} {q r : Questions A} (a : Scoped) → IsLeftOut a ⊎ F → (F → Ensures e P q) → Ensures e P r → Ensures e P (if_written a q r)
ensures-written a (inl i) u v = rw i v
ensures-written a (inr h) u v = ensures-if (is_none a) (λ _. v) (λ _. u h)

-- the parts of a form
pub ensures-binder : {A : Type 0} {e : Env} {P : A → Type 0} {k : Tree → Tree → Questions A} {r : Questions A} (f : Binder) (h : Tree)
    → ((x y : Tree) → h ≡ bind f x y → Ensures e P (k x y)) → Ensures e P r → Ensures e P (binder_parts f h k r)
ensures-binder {e = e} {P = P} {k = k} {r = r} f (bind g x y) u v = by_test (Binder-discrete f g)
  where
    by_test : (d : Dec (f ≡ g)) → Ensures e P (elim d [ yes i ↦ k x y | no i ↦ r ])
    by_test (yes i) = u x y (subst (λ z. bind g x y ≡ bind z x y) (sym i) refl)
    by_test (no i) = v
ensures-binder f (var i) u v = v
ensures-binder f (name n) u v = v
ensures-binder f (leaf l) u v = v
ensures-binder f (unary j p) u v = v
ensures-binder f (fun c p) u v = v
ensures-binder f (apply c p q) u v = v
ensures-binder f (binary j p q) u v = v

-- where the form is known, the refusal does not come
pub ensures-is : {A : Type 0} {e : Env} {P : A → Type 0} (f : Binder) (h x y : Tree) (k : Tree → Tree → Questions A) (r : Questions A)
    → h ≡ bind f x y → Ensures e P (k x y) → Ensures e P (binder_parts f h k r)
ensures-is {e = e} {P = P} f h x y k r i u = rw i (by_test (Binder-discrete f f))
  where
    by_test : (d : Dec (f ≡ f)) → Ensures e P (elim d [ yes i ↦ k x y | no i ↦ r ])
    by_test (yes i) = u
    by_test (no i) = absurd (i refl)

pub ensures-equation : {A : Type 0} {e : Env} {P : A → Type 0} {k : Tree → Tree → Questions A} {r : Questions A} (h : Tree)
    → ((x y : Tree) → h ≡ eq x y → Ensures e P (k x y)) → Ensures e P r → Ensures e P (equation_parts h k r)
ensures-equation (eq x y) u v = u x y refl
ensures-equation (binary j x y) u v = v
ensures-equation (var i) u v = v
ensures-equation (name n) u v = v
ensures-equation (leaf l) u v = v
ensures-equation (unary j p) u v = v
ensures-equation (fun c p) u v = v
ensures-equation (apply c p q) u v = v
ensures-equation (bind f p q) u v = v
