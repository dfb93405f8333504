-- An item by the parts of its definition.
use Rattle.std.proofs.Common.{◌≡◌, ℕ, List, [], refl, ap, ◌∙◌}
use Rattle.cdle_model.specs.Comparison.{Answer, same, apart, halted, compare}
use Rattle.cdle_model.specs.Derivation.{bodies, signature}
use Rattle.cdle_model.specs.Erasure.{erased}
use Rattle.cdle_model.specs.Forms.{def_item, type_item, star}
use Rattle.cdle_model.specs.HeadForms.{Halt, HeadAnswer, value, no_value, deep, ill_classed}
use Rattle.cdle_model.specs.Machine.{Budgeted, answered, spent}
use Rattle.cdle_model.specs.Trees.{Tree}
use Rattle.source_model.specs.Heights.{span_of}
use Rattle.source_model.specs.Source.{Span}
use Rattle.scope_model.specs.Scoped.{Scoped}
use Rattle.elab_check.specs.Answers.{IsElabFault}
use Rattle.elab_check.specs.declared.fault.ElabFault.{ElabFault}
use Rattle.elab_check.specs.declared.fault.ElabFault.TheVariants as f
use Rattle.elab_check.specs.Items.{definition_of, type_definition_of}
use Rattle.elab_model.specs.declared.codes.Code.{Code}
use Rattle.elab_model.specs.declared.codes.Code.TheVariants.{WantedKind}
use Rattle.elab_model.specs.Items.{found_then}
use Rattle.elab_model.specs.Questions.{Env, Questions, Finding, found, gives, rejects, deep_at, astray, ask_same, ask_head, then, answer, by_answer, by_halt, by_head, head_in}
use Rattle.elab_model.specs.Rules.{check, kind, term, type}
use Rattle.elab_model.specs.ScopedForms.{s_def, s_type}
use Rattle.elab_model.specs.Soundness.{no_encodings}
use Rattle.elab_model.specs.Spines.{Typed}
use Rattle.elab_item.specs.Given.{given_one}

module _ {B C : Type 0} (e : Env) (n : ℕ) (g : B → C) where
  -- these questions are answered as those, with g of what is given
  abbrev Maps : Finding B → Finding C → Type 0
  Maps r s = s ≡ found_then r (λ x. found (g x))

  halts_map : (f : Span) (h : Halt) → Maps (by_halt f h) (by_halt f h)
  halts_map f deep = refl
  halts_map f ill_classed = refl

  same_maps : (f p : Span) (w : Code) (o : Budgeted Answer) (r : Finding B) (s : Finding C) → Maps r s → Maps (by_answer f p w o r) (by_answer f p w o s)
  same_maps f p w (answered same i) r s h = h
  same_maps f p w (answered (apart a b) i) r s h = refl
  same_maps f p w (answered (halted u) i) r s h = halts_map f u
  same_maps f p w spent r s h = refl

  head_maps : (f p : Span) (o : Budgeted HeadAnswer) (r : Tree → Finding B) (s : Tree → Finding C) → ((b : Tree) → Maps (r b) (s b)) → Maps (by_head f p o r) (by_head f p o s)
  head_maps f p (answered (value a) i) r s h = h a
  head_maps f p (answered (no_value u) i) r s h = halts_map f u
  head_maps f p spent r s h = refl

  then_maps : {A : Type 0} (q : Questions A) (k : A → Questions B) (l : A → Questions C) → ((x : A) → Maps (answer e n (k x)) (answer e n (l x))) → Maps (answer e n (then q k)) (answer e n (then q l))
  then_maps (gives x) k l h = h x
  then_maps (rejects p w) k l h = refl
  then_maps (deep_at f) k l h = refl
  then_maps astray k l h = refl
  then_maps (ask_same f p w a b q) k l h = same_maps f p w (compare (bodies (signature e.items)) n a b) (answer e n (then q k)) (answer e n (then q l)) (then_maps q k l h)
  then_maps (ask_head f p d a j) k l h = head_maps f p (head_in e d n a) (λ b. answer e n (then (j b) k)) (λ b. answer e n (then (j b) l)) (λ b. then_maps (j b) k l h)

-- a definition of a term
pub by_definition : (e : Env) (n : ℕ) (s : Span) (x : List ℕ) (a t : Scoped) → given_one n e (s_def s x a t) ≡ found_then (answer e n (definition_of e a t)) (λ y. found (def_item x y.0 y.1))
by_definition e n s x a t =
    then_maps e n (λ (y : Typed). def_item x y.0 y.1) (type e no_encodings [] a) _ _
    (λ y. same_maps e n _ (span_of a) (span_of a) WantedKind (compare (bodies (signature e.items)) n (erased y.1) star) _ _
    (then_maps e n _ (check e no_encodings [] t (term e no_encodings [] t) y.0) _ _ (λ u. refl)))

-- a definition of a type
pub by_type_definition : (e : Env) (n : ℕ) (s : Span) (x : List ℕ) (k a : Scoped) → given_one n e (s_type s x k a) ≡ found_then (answer e n (type_definition_of e k a)) (λ y. found (type_item x y.0 y.1))
by_type_definition e n s x k a =
    then_maps e n (λ (y : Typed). type_item x y.0 y.1) (kind e no_encodings [] k) _ _
    (λ l. then_maps e n _ (type e no_encodings [] a) _ _
    (λ y. same_maps e n _ (span_of a) (span_of a) WantedKind (compare (bodies (signature e.items)) n (erased y.1) (erased l)) _ _ refl))

-- what ends the parts ends the item
pub fault_then : {A B : Type 0} (x : Finding A) (k : A → Finding B) (y : Finding B) → y ≡ found_then x k → (d : ElabFault) → IsElabFault x d → IsElabFault y d
fault_then x k y e (f.Reject p w) h = e ∙ ap (λ r. found_then r k) h
fault_then x k y e (f.Spent p) h = e ∙ ap (λ r. found_then r k) h
fault_then x k y e (f.TooDeep p) h = e ∙ ap (λ r. found_then r k) h
fault_then x k y e f.NoMemory h = tt
