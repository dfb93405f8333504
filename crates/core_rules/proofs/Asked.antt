-- What the answers of comparison and of head reduction say of a question.
use Rattle.std.proofs.Common.{◌≡◌, ℕ, ◌+◌, Bool, true, false, List, [], ◌∷◌, Result, Ok, Err, sym, ap, ◌∙◌, subst}
use Rattle.cdle_model.specs.declared.grammar.Sort.{Sort}
use Rattle.cdle_model.specs.Trees.{Tree}
use Rattle.cdle_model.specs.Forms.{eq, Written}
use Rattle.cdle_model.specs.Classes.{guides, AreScoped, Fits, within, item_sorts}
use Rattle.cdle_model.specs.Machine.{answered}
use Rattle.cdle_model.specs.HeadForms.{value, head_form}
use Rattle.cdle_model.specs.Derivation.{bodies, signature}
use Rattle.cdle_model.specs.Fitting.{HaveErasures}
use Rattle.cdle_model.specs.Check.{Reason, Questions, ask_same, ask_head, refuse, binder_parts, equation_parts, not_an_equation}
use Rattle.cdle_model.proofs.ClassItems.{items-fit}
use Rattle.cdle_model.proofs.ClassSteps.{HeadFits, head-fits}
use Rattle.core_reduce.specs.declared.side.SideClass.{SideClass}
use Rattle.core_reduce.specs.declared.value.Value.{Value}
use Rattle.core_reduce.specs.declared.reduce.Stop.{Stop}
use Rattle.core_reduce.specs.declared.reduce.Stop.TheVariants as s
use Rattle.core_reduce.specs.Heads.{IsHeadForm, MeetsHead}
use Rattle.core_compare.specs.Answers.{MeetsCompare}
use Rattle.core_compare.specs.declared.comparison.Answer.TheVariants as c
use Rattle.core_rules.specs.Faults.{IsRefusal, IsStopped}
use Rattle.core_reduce.specs.Values.{StandsFor}
use Rattle.core_reduce.specs.declared.side.SideClass.TheVariants.{OfType}
use Rattle.core_reduce.specs.declared.value.Former.{Former}
use Rattle.core_reduce.specs.declared.value.Former.TheVariants as g
use Rattle.core_reduce.specs.Sides.{Sided}
use Rattle.core_reduce.specs.Values.{former_class, former_tree, value_tree}
use Rattle.core_rules.specs.Formers.{Binds, IsOther, IsSplit, binder_of, other_form}
use Rattle.core_rules.proofs.Splits.{bound, equation_value, not_bound, not_equation, other_value, same_former}
use Rattle.core_rules.specs.Questions.{FindsParts, Keeps, Leads, Meets, MeetsHeadForm, MeetsSame}
use Rattle.core_rules.specs.declared.fault.Fault.{Fault}
use Rattle.core_rules.proofs.Results.{leads_head, refuses, head_spent, head_deep, leads_same, same_spent, same_deep, apart_refuses, no_memory}

-- a head form keeps the classes of variables and names
pub head_keeps : (es : List Written) → AreScoped es → HaveErasures es → (n : ℕ) (a b : Tree) (left : ℕ) → head_form (bodies (signature es)) n a ≡ answered (value b) left → Keeps (item_sorts es) a b
head_keeps es g h n a b left e = λ vs c i f. subst (HeadFits (item_sorts es) (bodies (signature es)) (items-fit es g h).bodies_fit vs c) e (head-fits (item_sorts es) (bodies (signature es)) (items-fit es g h).bodies_fit n vs c a i f)

pub head_meets : (es : List Written) → AreScoped es → HaveErasures es → (n : ℕ) (p : List ℕ) (c : SideClass) (a : Tree) (old new : ℕ) (v : Value) → IsHeadForm (bodies (signature es)) c a old new v → MeetsHeadForm es n p c a (Ok v)
head_meets es g h n p c a old new v f = (f.form, f.stands, (λ k. leads_head es n p a f.form k (f.used + f.rest) f.rest f.is), head_keeps es g h (f.used + f.rest) a f.form f.rest f.is)

pub head_stops : (es : List Written) (n : ℕ) (p : List ℕ) (c : SideClass) (a : Tree) (new : ℕ) (stop : Stop) (e : Fault) → MeetsHead (bodies (signature es)) c a n new (Err stop) → IsStopped p stop e → MeetsHeadForm es n p c a (Err e)
head_stops es n p c a new s.Spent e g h = λ k. head_spent es n p a k e g h
head_stops es n p c a new s.TooDeep e g h = λ k. rw h (head_deep es n p a k g.units g.rest g.is)
head_stops es n p c a new s.NoMemory e g h = λ k. rw h (no_memory es n (ask_head p a k))

pub same_stops : (es : List Written) (n : ℕ) (p : List ℕ) (a b : Tree) (stop : Stop) (e : Fault) → MeetsCompare (bodies (signature es)) a b n (Err stop) → IsStopped p stop e → MeetsSame es n p a b (Err e)
same_stops es n p a b s.Spent e g h = λ w q. same_spent es n p w a b q e g h
same_stops es n p a b s.TooDeep e g h = λ w q. rw h (same_deep es n p w a b q g.units g.rest g.is)
same_stops es n p a b s.NoMemory e g h = λ w q. rw h (no_memory es n (ask_same p w a b q))

pub same_meets : (es : List Written) (n : ℕ) (p : List ℕ) (a b : Tree) → MeetsCompare (bodies (signature es)) a b n (Ok c.Same) → MeetsSame es n p a b (Ok true)
same_meets es n p a b g = λ w q. leads_same es n p w a b q g.units g.rest g.is

pub apart_meets : (es : List Written) (n : ℕ) (p : List ℕ) (a b : Tree) (v w : Value) → MeetsCompare (bodies (signature es)) a b n (Ok (c.Apart v w)) → MeetsSame es n p a b (Ok false)
apart_meets es n p a b v w g = λ r q e. apart_refuses es n p r a b g.left g.right q g.answers.units g.answers.rest g.answers.is e

-- a comparison with sides that were made of trees
module _ (es : List Written) (n : ℕ) (p : List ℕ) (w : Reason) (a b : Tree) (s t : Sided) (e : s.tree ≡ a) (f : t.tree ≡ b) where
  of_trees : (q : Questions) (r : Result Tree Fault) → Meets es n (ask_same p w s.tree t.tree q) r → Meets es n (ask_same p w a b q) r
  of_trees q r h = subst (λ z. Meets es n (ask_same p w z b q) r) e (subst (λ z. Meets es n (ask_same p w s.tree z q) r) f h)

  pub has_same : (x : Bool) → x ≡ true → MeetsSame es n p s.tree t.tree (Ok x) → (q : Questions) → Leads es n (ask_same p w a b q) q
  has_same x i h q r k = of_trees q r ((subst (λ z. MeetsSame es n p s.tree t.tree (Ok z)) i h) w q r k)

  pub has_fault : (d : Fault) → MeetsSame es n p s.tree t.tree (Err d) → (q : Questions) → Meets es n (ask_same p w a b q) (Err d)
  has_fault d h q = of_trees q (Err d) (h w q)

  pub has_not : (x : Bool) → x ≡ false → MeetsSame es n p s.tree t.tree (Ok x) → (d : Fault) → IsRefusal p w d → (q : Questions) → Meets es n (ask_same p w a b q) (Err d)
  has_not x i h d g q = of_trees q (Err d) ((subst (λ z. MeetsSame es n p s.tree t.tree (Ok z)) i h) w q d g)

-- the two parts of a form that was looked for
module _ (es : List Written) (n i : ℕ) (x : Former) (c : SideClass) (a : Tree) (v : Value) (b : Binds x) (e : former_class x ≡ c) where
  abbrev asks : (Tree → Tree → Questions) → Questions
  asks k = ask_head (i ∷ []) a (λ t. binder_parts (binder_of x) t k (refuse (i ∷ []) (other_form x t)))

  form_is : (t : Tree) (p : Sided × Sided) → StandsFor c v t → IsSplit x v (Ok p) → t ≡ former_tree x (p.0 ∷ p.1 ∷ [])
  form_is t p s d = sym s.1 ∙ subst (λ z. value_tree z v ≡ former_tree x (p.0 ∷ p.1 ∷ [])) e d.1

  pub parts_found : (p : Sided × Sided) → MeetsHeadForm es n (i ∷ []) c a (Ok v) → IsSplit x v (Ok p) → FindsParts es n asks (Ok p)
  parts_found p (t, s, l, k) d = λ f r h.
      l _ r (subst (λ z. Meets es n z r) (sym (ap (λ z. binder_parts (binder_of x) z f (refuse (i ∷ []) (other_form x t))) (form_is t p s d ∙ same_former x p.0 p.1 b) ∙ bound (binder_of x) p.0.tree p.1.tree f (refuse (i ∷ []) (other_form x t)))) h)

  pub other_refuses : (f : Fault) → MeetsHeadForm es n (i ∷ []) c a (Ok v) → IsOther x v → IsRefusal (i ∷ []) (other_form x (value_tree c v)) f → FindsParts es n asks (Err f)
  other_refuses f (t, s, l, k) d h = λ g.
      l _ (Err f) (subst (λ z. Meets es n (binder_parts (binder_of x) z g (refuse (i ∷ []) (other_form x z))) (Err f)) s.1
      (subst (λ z. Meets es n z (Err f)) (sym (not_bound (binder_of x) (value_tree c v) g (refuse (i ∷ []) (other_form x (value_tree c v))) (other_value x c v b e s.0 d)))
      (refuses es n (i ∷ []) (other_form x (value_tree c v)) f h)))

-- the two sides of an equation
module _ (es : List Written) (n i : ℕ) (a : Tree) (v : Value) where
  abbrev asks_sides : (Tree → Tree → Questions) → Questions
  asks_sides k = ask_head (i ∷ []) a (λ t. equation_parts t k (refuse (i ∷ []) (not_an_equation t)))

  equation_is : (t : Tree) (p : Sided × Sided) → StandsFor OfType v t → IsSplit g.Eq v (Ok p) → t ≡ eq p.0.tree p.1.tree
  equation_is t p s d = sym s.1 ∙ d.1

  pub sides_found : (p : Sided × Sided) → MeetsHeadForm es n (i ∷ []) OfType a (Ok v) → IsSplit g.Eq v (Ok p) → FindsParts es n asks_sides (Ok p)
  sides_found p (t, s, l, k) d = λ f r h. l _ r (subst (λ z. Meets es n (equation_parts z f (refuse (i ∷ []) (not_an_equation z))) r) (sym (equation_is t p s d)) h)

  pub sides_fit : (p : Sided × Sided) → MeetsHeadForm es n (i ∷ []) OfType a (Ok v) → IsSplit g.Eq v (Ok p) → (vs : List Sort) → Fits (within vs (item_sorts es)) guides a → Fits (within vs (item_sorts es)) guides (eq p.0.tree p.1.tree)
  sides_fit p (t, s, l, k) d = λ vs h. subst (Fits (within vs (item_sorts es)) guides) (equation_is t p s d) (k vs guides tt h)

  pub no_sides : (f : Fault) → MeetsHeadForm es n (i ∷ []) OfType a (Ok v) → IsOther g.Eq v → IsRefusal (i ∷ []) (not_an_equation (value_tree OfType v)) f → FindsParts es n asks_sides (Err f)
  no_sides f (t, s, l, k) d h = λ x.
      l _ (Err f) (subst (λ z. Meets es n (equation_parts z x (refuse (i ∷ []) (not_an_equation z))) (Err f)) s.1
      (subst (λ z. Meets es n z (Err f)) (sym (not_equation (value_tree OfType v) x (refuse (i ∷ []) (not_an_equation (value_tree OfType v))) (equation_value v s.0 d)))
      (refuses es n (i ∷ []) (not_an_equation (value_tree OfType v)) f h)))
