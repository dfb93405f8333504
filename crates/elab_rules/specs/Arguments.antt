-- What the steps at an argument say: the parts of a product, a changed type, and the turns in which a spine is brought to its head form.
use Rattle.std.specs.Prelude.{◌≡◌, ◌<◌, Bool, true, false, cond, [], ◌∷◌, ◌++◌, Option, Some, None, Result, Ok, Err}
use Rattle.cdle_model.specs.Trees.{allt_of, Binder, Binder-discrete, Tree, bind}
use Rattle.cdle_model.specs.Depth.{depth}
use Rattle.source_model.specs.Source.{Span}
use Rattle.elab_model.specs.Questions.{Questions, gives, ask_head, then}
use Rattle.elab_model.specs.Spines.{Spine, binder_parts, leaves_out}
use Rattle.scoped_tree.specs.Trees.{place}
use Rattle.elab_rules.specs.declared.fault.Fault.{Fault}
use Rattle.elab_rules.specs.declared.fault.Fault.TheVariants as f
use Rattle.elab_rules.specs.declared.spine.Spine as code
use Rattle.elab_rules.specs.Spines.{spine_of}

-- the parts of a form of this binder, where the tree is one
abbrev pub parts_of : Binder → Tree → Option (Tree × Tree)
parts_of f (bind g a b) = elim (Binder-discrete f g) [ yes e ↦ Some (a, b) | no e ↦ None ]
parts_of f a = None

-- the tree, or that it is too deep for the form
abbrev pub IsChanged : Span → Tree → Result Tree Fault → Type 0
IsChanged p t (Ok a) = a ≡ t
IsChanged p t (Err (f.TooDeep q)) = (place q ≡ p) × (4096 < depth t)
IsChanged p t (Err f.NoMemory) = Unit {0}
IsChanged p t (Err d) = ⊥

-- the spine with another term and another type so far
abbrev pub with_made : Spine → Tree → Tree → Spine
with_made s t a = record { head = s.head; term = t; type = a; kinds = s.kinds; solution = s.solution }

-- the spine with an unknown more, of this kind
abbrev pub with_unknown : Spine → Tree → Spine
with_unknown s k = record { head = s.head; term = s.term; type = s.type; kinds = s.kinds ++ (k ∷ []); solution = s.solution ++ (None ∷ []) }

-- the spine with its type so far in head form
abbrev pub headed : Span → Spine → Questions Spine
headed w s = ask_head w s.head false s.type (λ h. gives (with_made s s.term h))

-- whether such a spine is brought where its next argument is a term; else with a type left out of it
abbrev pub further : Span → Spine → Questions (Bool × Spine)
further w s = binder_parts allt_of s.type (λ k b. then (leaves_out w s k b) (λ r. gives (false, r))) (gives (true, s))

-- one turn of bringing a spine to its head form: whether it is brought
abbrev pub turn : Span → Bool → Spine → Questions (Bool × Spine)
turn w typed s = then (headed w s) (λ r. cond typed (gives (true, r)) (further w r))

abbrev pub turn_of : Bool × code.Spine → Bool × Spine
turn_of t = (t.0, spine_of t.1)
