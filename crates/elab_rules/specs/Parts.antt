-- The parts of a form of two parts, and what is known of a name, each as a question of its own.
use Rattle.std.specs.Prelude.{Option, Some, None}
use Rattle.std.specs.Borrow.{Bor}
use Rattle.cdle_model.specs.Trees.{Binder, Binder-discrete, Tree, bind}
use Rattle.cdle_model.specs.Forms.{eq}
use Rattle.cdle_model.specs.Derivation.{Entry, term_of, type_of}
use Rattle.source_model.specs.Source.{Span}
use Rattle.elab_model.specs.Questions.{Questions, astray, limited}
use Rattle.elab_rules.specs.declared.context.Known.{Known}
use Rattle.elab_rules.specs.declared.context.Known.TheVariants as n

-- the parts of a form of this binder
abbrev pub parts_of : Binder → Tree → Option (Tree × Tree)
parts_of f (bind g a b) = elim (Binder-discrete f g) [ yes e ↦ Some (a, b) | no e ↦ None ]
parts_of f t = None

-- the sides of an equation
abbrev pub sides_of : Tree → Option (Tree × Tree)
sides_of (eq p q) = Some (p, q)
sides_of t = None

-- what is borrowed
abbrev pub seen_parts : Option (Bor Tree × Bor Tree) → Option (Tree × Tree)
seen_parts (Some p) = Some (p.0.now, p.1.now)
seen_parts None = None

abbrev pub seen_known : Option Known → Option Entry
seen_known (Some (n.Term a)) = Some (term_of a.now)
seen_known (Some (n.OfType k)) = Some (type_of k.now)
seen_known None = None

-- the type of a term, and the kind of a type
abbrev pub type_known : Span → Option Entry → Questions Tree
type_known s (Some (term_of a)) = limited s a
type_known s o = astray

abbrev pub kind_known : Span → Option Entry → Questions Tree
kind_known s (Some (type_of k)) = limited s k
kind_known s o = astray
