-- Erased trees as heads with arguments, and the list of pairs.
use Rattle.std.specs.Prelude.{ℕ, List, [], ◌∷◌, Option, None, Some}
use Rattle.cdle_model.specs.Trees.{Function, of_pure, of_term, of_type, Tree, var, name, apply, shift}
use Rattle.cdle_model.specs.Forms.{fn}
use Rattle.cdle_model.specs.Comparison.{Pair}
use Rattle.elab_convert.specs.declared.side.Erased.{Erased}
use Rattle.elab_convert.specs.declared.side.Erased.TheVariants as e
use Rattle.elab_convert.specs.declared.side.Arg.{Arg}
use Rattle.elab_convert.specs.declared.side.Arg.TheVariants.{OfPure, OfTerm, OfType}
use Rattle.elab_convert.specs.declared.side.ArgClass.{ArgClass}
use Rattle.elab_convert.specs.declared.side.ArgClass.TheVariants as c
use Rattle.elab_convert.specs.declared.side.Side.{Side}
use Rattle.elab_convert.specs.declared.side.SidePair.{SidePair}
use Rattle.elab_convert.specs.declared.side.Root.{Root}
use Rattle.elab_convert.specs.declared.side.Root.TheVariants.{Variable, Constant}
use Rattle.elab_convert.specs.declared.side.HeadForm.{HeadForm}
use Rattle.elab_convert.specs.declared.side.HeadForm.TheVariants.{Function as Body, Applied, Former}
use Rattle.elab_convert.specs.Formers.{IsFormer}

abbrev pub erased_tree : Erased → Tree
erased_tree (e.Term t) = t
erased_tree (e.OfType a) = a
erased_tree (e.Kind k) = k

abbrev pub arg_tree : Arg → Tree
arg_tree (OfPure t) = t
arg_tree (OfTerm t) = t
arg_tree (OfType a) = a

abbrev pub arg_class : Arg → ArgClass
arg_class (OfPure t) = c.OfPure
arg_class (OfTerm t) = c.OfTerm
arg_class (OfType a) = c.OfType

abbrev pub arg_raised : Arg → Arg
arg_raised (OfPure t) = OfPure (shift 0 1 t)
arg_raised (OfTerm t) = OfTerm (shift 0 1 t)
arg_raised (OfType a) = OfType (shift 0 1 a)

abbrev pub class_function : ArgClass → Function
class_function c.OfPure = of_pure
class_function c.OfTerm = of_term
class_function c.OfType = of_type

-- what applies a tree to the argument
abbrev pub arg_function : Arg → Function
arg_function x = class_function (arg_class x)

-- a tree applied to arguments, the outermost first in the list
abbrev pub spine : Tree → List Arg → Tree
spine h [] = h
spine h (x ∷ xs) = apply (arg_function x) (spine h xs) (arg_tree x)

abbrev pub side_tree : Side → Tree
side_tree d = spine (erased_tree d.head) d.args.items

abbrev pub root_tree : Root → Tree
root_tree (Variable i) = var i
root_tree (Constant n) = name n

abbrev pub form_tree : HeadForm → Tree
form_tree (Body p) = fn p
form_tree (Applied r xs) = spine (root_tree r) xs.items
form_tree (Former d) = side_tree d

-- what is kept as a former is one
abbrev pub IsForm : HeadForm → Type 0
IsForm (Former d) = IsFormer (erased_tree d.head)
IsForm h = Unit {0}

-- the number of the item, where the tree is a name
abbrev pub item_of : Tree → Option ℕ
item_of (name n) = Some n
item_of t = None

abbrev pub pair_trees : SidePair → Pair
pair_trees d = (side_tree d.left, side_tree d.right)

-- the pairs of a list before the pairs given, the last of the list first
abbrev pub stack : List Pair → List SidePair → List Pair
stack ps [] = ps
stack ps (d ∷ ds) = stack (pair_trees d ∷ ps) ds
