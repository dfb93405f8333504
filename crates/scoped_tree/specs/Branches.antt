-- Branches are lower than the form that has them.
use Rattle.std.specs.Prelude.{◌+◌, ◌≤◌, List, [], ◌∷◌}
use Rattle.std.proofs.Common.{arith}
use denote.Param.Weighed.{most}
use Rattle.source_model.specs.Source.{Span}
use Rattle.scoped_tree.specs.Trees.{chain, form_tree, levels}
use Rattle.scoped_tree.specs.declared.node.ScopedBranch.{ScopedBranch}
use Rattle.scoped_tree.specs.declared.node.ScopedForm.{ScopedForm}
use Rattle.scoped_tree.specs.declared.node.ScopedForm.TheVariants.{Use, Leaf, One, Two, Bind, Cases}
use Rattle.scoped_tree.specs.declared.node.Scoped.TheDeep.{deep-ScopedForm, deep-ScopedBranch}

pub most_le_chain : (bs : List ScopedBranch) → most deep-ScopedBranch bs ≤ levels (chain bs) + 1
most_le_chain [] = omega arith
most_le_chain (b ∷ bs) = omega (arith, most_le_chain bs)

-- each part of a form is lower than its tree
pub falls : (s : Span) (f : ScopedForm) → deep-ScopedForm f ≤ levels (form_tree s f)
falls s (Use r) = omega arith
falls s (Leaf f) = omega arith
falls s (One f p) = omega arith
falls s (Two f p q) = omega arith
falls s (Bind f p q) = omega arith
falls s (Cases f p m bs) = omega (arith, most_le_chain bs.items)
