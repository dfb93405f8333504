-- How the rules of intersections and equations end, once their parts are found.
use Rattle.cdle_model.specs.Trees.{Tree, var, shift, put}
use Rattle.cdle_model.specs.Forms.{eq, pair, fst, snd, beta, rho}
use Rattle.cdle_model.specs.Erasure.{erased}
use Rattle.cdle_model.specs.Substitution.{put_written}
use Rattle.cdle_model.specs.Derivation.{true_pure, false_pure}
use Rattle.source_model.specs.Source.{Span}
use Rattle.elab_model.specs.declared.codes.Code.{Code}
use Rattle.elab_model.specs.declared.codes.Code.TheVariants.{Mismatch, NotTheTwoBooleans, PartsDiffer, SidesDiffer}
use Rattle.elab_model.specs.ScopedForms.{letter, bracket}
use Rattle.elab_model.specs.Questions.{Questions, gives, ask_same, unless_deep}
use Rattle.elab_model.specs.Rules.{gives_checked, gives_inferred, gives_spine}
use Rattle.elab_model.specs.Spines.{Typed, Made}

-- `[t, u]` against an intersection whose second part is b
abbrev pub paired : Span → Tree → Tree → Tree → Questions Made
paired s t u b = ask_same s (bracket s) PartsDiffer (erased t) (erased u) (gives_checked s (pair t u b))

-- `t.2`
abbrev pub second_of : Span → Tree → Tree → Questions Made
second_of s t b = gives_spine s (snd t) (put_written 0 (fst t) b)

-- `β<x>{k}`, and against an equation with these sides
abbrev pub reflexive : Span → Tree → Tree → Questions Made
reflexive s x k = gives_inferred s (beta x k) (eq x x)

abbrev pub reflexive_against : Span → Tree × Tree → Tree → Questions Made
reflexive_against s x k = ask_same s (letter s) SidesDiffer x.0 x.1 (gives_checked s (beta x.0 k))

-- the sides of the equation of `φ` are its term and its kept term
abbrev pub are_sides : Span → Tree × Tree → Tree → Tree → Questions (Unit {0})
are_sides s x t k = ask_same s (letter s) SidesDiffer x.0 (erased t) (ask_same s (letter s) SidesDiffer x.1 k (gives tt))

-- the sides of the equation of `δ` are the two booleans
abbrev pub are_booleans : Span → Tree × Tree → Questions (Unit {0})
are_booleans s x = ask_same s (letter s) NotTheTwoBooleans x.0 true_pure (ask_same s (letter s) NotTheTwoBooleans x.1 false_pure (gives tt))

-- `ς q`
abbrev pub flipped : Span → Tree × Tree → Tree → Questions Made
flipped s x q = gives_inferred s (rho q (eq (shift 0 1 x.1) (var 0)) (eq x.1 x.0) (beta x.1 (erased q))) (eq x.1 x.0)

-- the type a is what the guide d says of the side x
abbrev pub is_said : Span → Span → Code → Tree → Tree → Tree → Questions (Unit {0})
is_said s p w a d x = unless_deep s (put 0 x d) (ask_same s p w (erased a) (put 0 x d) (gives tt))

-- what the guide d, an equation, says of the side x: the same as the type a
abbrev pub said_of : Span → Tree → Tree → Tree → Questions Tree
said_of s a d x = unless_deep s (put 0 x d) (ask_same s (letter s) SidesDiffer (erased a) (put 0 x d) (gives (put 0 x d)))

-- `ρ q @ x . d - t` against a, where q has the sides p.1, and t has the type that d says of the right one; t stands at that place
abbrev pub rewritten_from : Span → Span → Tree × (Tree × Tree) → Tree → Tree → Typed → Questions Made
rewritten_from s at p d a z = unless_deep s (put 0 p.1.1 d) (ask_same s at Mismatch (erased z.1) (put 0 p.1.1 d) (gives_checked s (rho p.0 d a z.0)))
