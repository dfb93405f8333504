-- Heads with their arguments.
use Rattle.std.specs.Prelude.{List, [], ◌∷◌, Option, Some, None}
use Rattle.std.specs.Borrow.{Bor}
use Rattle.cdle_model.specs.Trees.{Function, of_term, of_type, Tree, apply}
use Rattle.elab_tree.specs.declared.items.EArg.{EArg}
use Rattle.elab_tree.specs.declared.items.EArg.TheVariants as v

abbrev pub arg_tree : EArg → Tree
arg_tree (v.Term t) = t
arg_tree (v.OfType t) = t

abbrev pub arg_function : EArg → Function
arg_function (v.Term t) = of_term
arg_function (v.OfType t) = of_type

-- a tree applied to arguments, the outermost first in the list
abbrev pub spine : Tree → List EArg → Tree
spine h [] = h
spine h (x ∷ xs) = apply (arg_function x) (spine h xs) (arg_tree x)

-- the innermost of the arguments
abbrev pub innermost : List EArg → Option EArg
innermost [] = None
innermost (x ∷ []) = Some x
innermost (x ∷ y ∷ xs) = innermost (y ∷ xs)

-- what is borrowed
abbrev pub seen_arg : Option (Bor EArg) → Option EArg
seen_arg None = None
seen_arg (Some b) = Some b.now
