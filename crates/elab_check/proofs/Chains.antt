-- How the questions of a rule fall apart into those of its steps.
use Rattle.std.proofs.Common.{◌≡◌, ℕ, suc, Bool, true, false, cond, ◌||◌, Result, Ok, Err, refl, subst, sym, ◌∙◌}
use Rattle.cdle_model.specs.Trees.{Tree, Binder, Binary, Binder-discrete, star_of, unknown, all_of, allt_of, var, name, leaf, unary, fun, apply, binary, bind}
use Rattle.cdle_model.specs.Forms.{star}
use Rattle.cdle_model.specs.Erasure.{erased}
use Rattle.cdle_model.specs.HeadForms.{deepest}
use Rattle.source_model.specs.Source.{Span}
use Rattle.source_model.specs.Heights.{is_none, span_of}
use Rattle.scope_model.specs.Scoped.{Scoped}
use Rattle.elab_model.specs.declared.codes.Code.{Code}
use Rattle.elab_model.specs.declared.codes.Code.TheVariants.{WantedKind, WantedFunction}
use Rattle.elab_model.specs.Instances.{has_unknown, or_else}
use Rattle.elab_model.specs.Questions.{Questions, gives, rejects, deep_at, astray, ask_same, ask_head, then}
use Rattle.elab_model.specs.Rules.{binder_then, either_product, if_annotated, star_then, agrees_then}
use Rattle.elab_model.specs.Spines.{Typed, Made, Spine, binder_parts, brought, argument, type_argument}
use Rattle.elab_tree.specs.Known.{Known}
use Rattle.elab_tree.specs.Sizes.{has_unknown as node_has}
use Rattle.elab_rules.specs.declared.fault.Fault.{Fault}
use Rattle.elab_rules.specs.declared.fault.Fault.TheVariants.{Rejected}
use Rattle.elab_rules.specs.declared.place.At.{At}
use Rattle.elab_rules.specs.Places.{spot}
use Rattle.elab_rules.specs.Endings.{Either, over_term, over_type, asks_product}
use Rattle.elab_rules.specs.Answers.{Meets, seen}
use Rattle.elab_rules.specs.Spines.{Open, opens, opens_type, takes, takes_inferred, takes_type}
use Rattle.elab_rules.proofs.Steps.{goes_on, ends}

module _ {A B C : Type 0} (k : A → Questions B) (l : B → Questions C) where
  pub then_then : (q : Questions A) → then (then q k) l ≡ then q (λ x. then (k x) l)
  then_then (gives x) = refl
  then_then (rejects p w) = refl
  then_then (deep_at f) = refl
  then_then astray = refl
  then_then (ask_same f p w a b q) = λ i. ask_same f p w a b (then_then q i)
  then_then (ask_head f p d a g) = λ i. ask_head f p d a (λ h. then_then (g h) i)

module _ {A B : Type 0} (k : A → Questions B) where
  -- the parts of a form, and what follows
  pub parts_then : (f : Binder) (h : Tree) (g : Tree → Tree → Questions A) (r : Questions A) → then (binder_parts f h g r) k ≡ binder_parts f h (λ a b. then (g a b) k) (then r k)
  parts_then f (var i) g r = refl
  parts_then f (name n) g r = refl
  parts_then f (leaf l) g r = refl
  parts_then f (unary j p) g r = refl
  parts_then f (fun c p) g r = refl
  parts_then f (apply c p q) g r = refl
  parts_then f (binary j p q) g r = refl
  parts_then f (bind b p q) g r = decided (Binder-discrete f b)
    where
      decided : (d : Dec (f ≡ b)) → then (elim d [ yes e ↦ g p q | no e ↦ r ]) k ≡ elim d [ yes e ↦ then (g p q) k | no e ↦ then r k ]
      decided (yes e) = refl
      decided (no e) = refl

  pub cond_then : (b : Bool) (q r : Questions A) → then (cond b q r) k ≡ cond b (then q k) (then r k)
  cond_then true q r = refl
  cond_then false q r = refl

-- along a path of questions
pub along : {A : Type 0} (e : Known) (n : ℕ) (q q' : Questions A) (r : Result A Fault) → q ≡ q' → Meets e n q r → Meets e n q' r
along e n q q' r h m = subst (λ z. Meets e n z r) h m

-- a fault that is passed on, seen through what the code's value stands for
pub ended_through : {A B : Type 0} (f : B → A) (e : Known) (n : ℕ) (q : Questions A) (r : Result B Fault) (x y : Fault) → r ≡ Err x → x ≡ y → Meets e n q (Err y) → Meets e n q (seen f r)
ended_through f e n q r x y h g m = subst (λ z. Meets e n q (seen f z)) (sym h) (subst (λ z. Meets e n q (Err z)) (sym g) m)

-- a part with the kind `★`, and what follows
module _ {A : Type 0} (s : Span) (a : Scoped) (q : Questions Typed) (k : Tree → Questions A) where
  star_falls : then (star_then s a q (λ b. gives b)) k ≡ star_then s a q k
  star_falls = then_then (λ (x : Typed). ask_same s (span_of a) WantedKind (erased x.1) star (gives x.0)) k q

  pub star_on : (e : Known) (n : ℕ) (x : Tree) (r : Result A Fault) → Meets e n (star_then s a q (λ b. gives b)) (Ok x) → Meets e n (k x) r → Meets e n (star_then s a q k) r
  star_on e n x r h g = subst (λ z. Meets e n z r) star_falls (goes_on e n (star_then s a q (λ b. gives b)) k x r h g)

  pub star_ends : (e : Known) (n : ℕ) (d : Fault) → Meets e n (star_then s a q (λ b. gives b)) (Err d) → Meets e n (star_then s a q k) (Err d)
  star_ends e n d h = subst (λ z. Meets e n z (Err d)) star_falls (ends e n (star_then s a q (λ b. gives b)) k d h)

-- the place of the form, told otherwise
pub star_at : (s t : Span) (a : Scoped) (q : Questions Typed) (e : Known) (n : ℕ) (r : Result Tree Fault) → s ≡ t → Meets e n (star_then s a q (λ b. gives b)) r → Meets e n (star_then t a q (λ b. gives b)) r
star_at s t a q e n r h m = subst (λ z. Meets e n (star_then z a q (λ b. gives b)) r) h m

-- the parts of a head form, and what follows
module _ {A : Type 0} (s p : Span) (w : Code) (f : Binder) (a : Tree) (k : Tree → Tree → Questions A) where
  binder_falls : then {A = Typed} (binder_then s p w f a (λ a b. gives (a, b))) (λ x. k x.0 x.1) ≡ binder_then s p w f a k
  binder_falls = λ i. ask_head s p false a (λ h. parts_then (λ (x : Typed). k x.0 x.1) f h (λ a b. gives (a, b)) (rejects p w) i)

  pub binder_on : (e : Known) (n : ℕ) (x : Typed) (r : Result A Fault) → Meets {A = Typed} e n (binder_then s p w f a (λ a b. gives (a, b))) (Ok x) → Meets e n (k x.0 x.1) r → Meets e n (binder_then s p w f a k) r
  binder_on e n x r h g = subst (λ z. Meets e n z r) binder_falls (goes_on e n (binder_then s p w f a (λ a b. gives (a, b))) (λ (x : Typed). k x.0 x.1) x r h g)

  pub binder_ends : (e : Known) (n : ℕ) (d : Fault) → Meets {A = Typed} e n (binder_then s p w f a (λ a b. gives (a, b))) (Err d) → Meets e n (binder_then s p w f a k) (Err d)
  binder_ends e n d h = subst (λ z. Meets e n z (Err d)) binder_falls (ends e n (binder_then s p w f a (λ a b. gives (a, b))) (λ (x : Typed). k x.0 x.1) d h)

-- the parts of a kind, and what follows
module _ {A : Type 0} (f : Binder) (h : Tree) (k : Tree → Tree → Questions A) (p : Span) where
  kind_parts_fall : then {A = Typed} (binder_parts f h (λ a b. gives (a, b)) (rejects p WantedKind)) (λ x. k x.0 x.1) ≡ binder_parts f h k (rejects p WantedKind)
  kind_parts_fall = parts_then (λ (x : Typed). k x.0 x.1) f h (λ a b. gives (a, b)) (rejects p WantedKind)

  pub kind_parts_on : (e : Known) (n : ℕ) (x : Typed) (r : Result A Fault) → Meets {A = Typed} e n (binder_parts f h (λ a b. gives (a, b)) (rejects p WantedKind)) (Ok x) → Meets e n (k x.0 x.1) r → Meets e n (binder_parts f h k (rejects p WantedKind)) r
  kind_parts_on e n x r m g = subst (λ z. Meets e n z r) kind_parts_fall (goes_on e n (binder_parts f h (λ a b. gives (a, b)) (rejects p WantedKind)) (λ (x : Typed). k x.0 x.1) x r m g)

  pub kind_parts_end : (e : Known) (n : ℕ) (d : Fault) → Meets {A = Typed} e n (binder_parts f h (λ a b. gives (a, b)) (rejects p WantedKind)) (Err d) → Meets e n (binder_parts f h k (rejects p WantedKind)) (Err d)
  kind_parts_end e n d m = subst (λ z. Meets e n z (Err d)) kind_parts_fall (ends e n (binder_parts f h (λ a b. gives (a, b)) (rejects p WantedKind)) (λ (x : Typed). k x.0 x.1) d m)

-- the parts of a product of either class, and what follows
module _ (s p : Span) (a : Tree) (k : Either → Questions Made) where
  product_falls : (h : Tree) → then (either_product h (λ d b. gives (over_term d b)) (λ d b. gives (over_type d b)) (rejects p WantedFunction)) k
      ≡ either_product h (λ d b. k (over_term d b)) (λ d b. k (over_type d b)) (rejects p WantedFunction)
  product_falls h = parts_then k all_of h (λ d b. gives (over_term d b)) (binder_parts allt_of h (λ d b. gives (over_type d b)) (rejects p WantedFunction))
      ∙ (λ i. binder_parts all_of h (λ d b. k (over_term d b)) (parts_then k allt_of h (λ d b. gives (over_type d b)) (rejects p WantedFunction) i))

  pub either_falls : then (asks_product s p a) k ≡ ask_head s p false a (λ h. either_product h (λ d b. k (over_term d b)) (λ d b. k (over_type d b)) (rejects p WantedFunction))
  either_falls = λ i. ask_head s p false a (λ h. product_falls h i)

-- a refusal
pub refused : (A : Type 0) (e : Known) (n : ℕ) (p : At) (w : Code) → Meets {A = A} e n (rejects (spot p) w) (Err (Rejected p w))
unfolding Meets
refused A e n p w = refl

-- one of two, by a test
module _ {A : Type 0} (e : Known) (n : ℕ) (b : Bool) (q x : Questions A) (r : Result A Fault) where
  pub where_true : b ≡ true → Meets e n q r → Meets e n (cond b q x) r
  where_true h m = rw h m

  pub where_false : b ≡ false → Meets e n x r → Meets e n (cond b q x) r
  where_false h m = rw h m

-- an annotation, where one is written, and what follows
module _ {A : Type 0} (a : Scoped) (F : Questions (Unit {0}) → Questions (Unit {0})) (G : Questions A → Questions A) (q : Questions A) (t : then (F (gives tt)) (λ _. q) ≡ G q) where
  annotated_falls : then (if_annotated a F (gives (tt {0}))) (λ _. q) ≡ if_annotated a G q
  annotated_falls = cond_then (λ _. q) (is_none a) (gives (tt {0})) (F (gives (tt {0}))) ∙ (λ i. cond (is_none a) q (t i))

  pub annotated_on : (e : Known) (n : ℕ) (r : Result A Fault) → Meets e n (if_annotated a F (gives (tt {0}))) (Ok (tt {0})) → Meets e n q r → Meets e n (if_annotated a G q) r
  annotated_on e n r h g = subst (λ z. Meets e n z r) annotated_falls (goes_on e n (if_annotated a F (gives (tt {0}))) (λ _. q) (tt {0}) r h g)

  pub annotated_ends : (e : Known) (n : ℕ) (d : Fault) → Meets e n (if_annotated a F (gives (tt {0}))) (Err d) → Meets e n (if_annotated a G q) (Err d)
  annotated_ends e n d h = subst (λ z. Meets e n z (Err d)) annotated_falls (ends e n (if_annotated a F (gives (tt {0}))) (λ _. q) d h)

-- such an annotation is a type with the kind `★`, or a kind
pub type_annotation_falls : {A : Type 0} (s : Span) (a : Scoped) (t : Questions Typed) (b : Tree) (q : Questions A) → then (star_then s a t (λ d. agrees_then s a d b (gives (tt {0})))) (λ _. q) ≡ star_then s a t (λ d. agrees_then s a d b q)
type_annotation_falls s a t b q = then_then (λ (x : Typed). ask_same s (span_of a) WantedKind (erased x.1) star (agrees_then s a x.0 b (gives (tt {0})))) (λ _. q) t

pub kind_annotation_falls : {A : Type 0} (s : Span) (a : Scoped) (t : Questions Tree) (b : Tree) (q : Questions A) → then (then t (λ d. agrees_then s a d b (gives (tt {0})))) (λ _. q) ≡ then t (λ d. agrees_then s a d b q)
kind_annotation_falls s a t b q = then_then (λ d. agrees_then s a d b (gives (tt {0}))) (λ _. q) t

-- an argument that is a term, and one that is a type, in the two halves of the code
pub argument_falls : (w : Span) (f : Binder) (j : Binary) (at : Span) (inferring : Questions Typed) (checking : Tree → Questions Tree) (s : Spine)
    → then (opens w f s) (λ o. cond (has_unknown o.1.0) (then inferring (λ x. takes_inferred w f j at o x)) (then (checking o.1.0) (λ u. takes w j o u))) ≡ argument w f j at inferring checking s
argument_falls w f j at inferring checking s =
    let K : Open → Questions Spine = λ o. cond (has_unknown o.1.0) (then inferring (λ x. takes_inferred w f j at o x)) (then (checking o.1.0) (λ u. takes w j o u)) in
    then_then (λ (r : Spine). binder_parts f r.type (λ a b. gives (r, (a, b))) (rejects r.head WantedFunction)) K (brought (suc deepest) w false s)
    ∙ (λ i. then (brought (suc deepest) w false s) (λ (r : Spine). parts_then K f r.type (λ a b. gives (r, (a, b))) (rejects r.head WantedFunction) i))

pub type_argument_falls : (w at : Span) (kinding : Questions Typed) (s : Spine) → then (opens_type w s) (λ o. then kinding (λ x. takes_type w at o x)) ≡ type_argument w at kinding s
type_argument_falls w at kinding s =
    let K : Open → Questions Spine = λ o. then kinding (λ x. takes_type w at o x) in
    then_then (λ (r : Spine). binder_parts allt_of r.type (λ a b. gives (r, (a, b))) (rejects r.head WantedFunction)) K (brought (suc deepest) w true s)
    ∙ (λ i. then (brought (suc deepest) w true s) (λ (r : Spine). parts_then K allt_of r.type (λ a b. gives (r, (a, b))) (rejects r.head WantedFunction) i))

either_of_two : (a b : Bool) → (a || b) ≡ or_else a b
either_of_two true b = refl
either_of_two false b = refl

either_is : (a b c d : Bool) → a ≡ c → b ≡ d → (a || b) ≡ or_else c d
either_is a b c d h g = either_of_two a b ∙ (λ i. or_else (h i) (g i))

-- an unknown is in a tree, by its node or by the definition
pub unknown_is : (t : Tree) → node_has t ≡ has_unknown t
unknown_is (var i) = refl
unknown_is (name n) = refl
unknown_is (leaf star_of) = refl
unknown_is (leaf (unknown n)) = refl
unknown_is (unary j p) = unknown_is p
unknown_is (fun c p) = unknown_is p
unknown_is (apply c p q) = either_is (node_has p) (node_has q) (has_unknown p) (has_unknown q) (unknown_is p) (unknown_is q)
unknown_is (binary j p q) = either_is (node_has p) (node_has q) (has_unknown p) (has_unknown q) (unknown_is p) (unknown_is q)
unknown_is (bind f p q) = either_is (node_has p) (node_has q) (has_unknown p) (has_unknown q) (unknown_is p) (unknown_is q)
