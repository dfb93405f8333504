-- What the surface rules ask before they give something: whether two erased trees are the same, else a refusal; and for the head form of an
-- annotated type, from which they go on. Each question is answered with n units.
use Rattle.std.specs.Prelude.{ℕ, Bool, true, false, cond, ltb, List}
use Rattle.cdle_model.specs.Trees.{Tree}
use Rattle.cdle_model.specs.Forms.{Written}
use Rattle.cdle_model.specs.Depth.{depth}
use Rattle.cdle_model.specs.Machine.{Budgeted, answered, spent}
use Rattle.cdle_model.specs.HeadForms.{Halt, deep, ill_classed, deepest, HeadAnswer, value, no_value}
use Rattle.cdle_model.specs.Comparison.{Answer, same, apart, halted, compare}
use Rattle.cdle_model.specs.Derivation.{bodies, signature}
use Rattle.elab_model.specs.declared.codes.Code.{Code}
use Rattle.elab_model.specs.HeadWritten.{all_but, head_written}
use Rattle.source_model.specs.Source.{Span}

-- each question has the place of the form that asks it, at which it is too deep, and the place at which its refusal would stand, at which it is
-- spent; `astray` is what no scoped tree comes to; a head form is taken with the names of datatypes kept, or with all names unfolded
pub data Questions (A : Type 0) : Type 0 where
  gives : A → Questions A
  rejects : Span → Code → Questions A
  deep_at : Span → Questions A
  astray : Questions A
  ask_same : Span → Span → Code → Tree → Tree → Questions A → Questions A
  ask_head : Span → Span → Bool → Tree → (Tree → Questions A) → Questions A

-- the first questions, and then those that follow from what they give
abbrev pub then : {A B : Type 0} → Questions A → (A → Questions B) → Questions B
then (gives x) k = k x
then (rejects p w) k = rejects p w
then (deep_at f) k = deep_at f
then astray k = astray
then (ask_same f p w a b q) k = ask_same f p w a b (then q k)
then (ask_head f p d a g) k = ask_head f p d a (λ b. then (g b) k)

-- the rest, where a tree that the rule of this form gives, or in which it puts a part, is not too deep
abbrev pub unless_deep : {A : Type 0} → Span → Tree → Questions A → Questions A
unless_deep f a q = cond (ltb deepest (depth a)) (deep_at f) q

abbrev pub limited : Span → Tree → Questions Tree
limited f a = unless_deep f a (gives a)

-- the items so far, with their annotated classes and bodies, and which of them are datatypes' names
pub record Env : Type 0 where
  pub items : List Written
  pub is_data : ℕ → Bool

-- what is found with a number of units
pub data Finding (A : Type 0) : Type 0 where
  found : A → Finding A
  rejected : Span → Code → Finding A
  spent_at : Span → Finding A
  too_deep : Span → Finding A
  out_of_scope : Finding A

abbrev pub by_halt : {A : Type 0} → Span → Halt → Finding A
by_halt f deep = too_deep f
by_halt f ill_classed = out_of_scope

abbrev pub by_answer : {A : Type 0} → Span → Span → Code → Budgeted Answer → Finding A → Finding A
by_answer f p w (answered same left) r = r
by_answer f p w (answered (apart a b) left) r = rejected p w
by_answer f p w (answered (halted h) left) r = by_halt f h
by_answer f p w spent r = spent_at p

abbrev pub by_head : {A : Type 0} → Span → Span → Budgeted HeadAnswer → (Tree → Finding A) → Finding A
by_head f p (answered (value a) left) k = k a
by_head f p (answered (no_value h) left) k = by_halt f h
by_head f p spent k = spent_at p

-- the names that are kept in a head form: those of datatypes, or none
abbrev pub kept_names : Env → Bool → ℕ → Bool
kept_names e true = e.is_data
kept_names e false = λ n. false

-- the head form of an annotated type
abbrev pub head_in : Env → Bool → ℕ → Tree → Budgeted HeadAnswer
head_in e d = head_written (all_but (kept_names e d) e.items)

abbrev pub answer : {A : Type 0} → Env → ℕ → Questions A → Finding A
answer e n (gives x) = found x
answer e n (rejects p w) = rejected p w
answer e n (deep_at f) = too_deep f
answer e n astray = out_of_scope
answer e n (ask_same f p w a b q) = by_answer f p w (compare (bodies (signature e.items)) n a b) (answer e n q)
answer e n (ask_head f p d a k) = by_head f p (head_in e d n a) (λ b. answer e n (k b))
