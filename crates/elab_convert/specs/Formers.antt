-- The formers of erased types and kinds: their heads and their parts, in one table.
use Rattle.std.specs.Prelude.{◌≡◌, List, [], ◌∷◌}
use Rattle.cdle_model.specs.Trees.{of_pure, of_term, of_type, star_of, unknown, eq_of, pi_of, all_of, allt_of, iota_of, kpi_of, kpit_of, Tree, var, name, fun, apply}
use Rattle.cdle_model.specs.Comparison.{Head, function, leaf_head, former, binary_head, head_of, parts_of}
use Rattle.elab_convert.specs.declared.side.Part.{Part}
use Rattle.elab_convert.specs.declared.side.Part.TheVariants as p
use Rattle.elab_convert.specs.declared.former.Word.{Word}
use Rattle.elab_convert.specs.declared.former.Word.TheVariants.{Star, Unknown, Tlam, Xtlam, Pi, All, Allt, Iota, Eq, Kpi, Kpit}
use Rattle.elab_convert.specs.declared.former.Parts.{Parts}
use Rattle.elab_convert.specs.declared.former.Parts.TheVariants.{Zero, One, Two}
use Rattle.elab_convert.specs.declared.former.Former.{Former}

-- neither a variable, a name, an application nor a pure function
abbrev pub IsFormer : Tree → Type 0
IsFormer (var i) = ⊥
IsFormer (name n) = ⊥
IsFormer (fun of_pure t) = ⊥
IsFormer (apply c t u) = ⊥
IsFormer t = Unit {0}

abbrev pub word_head : Word → Head
word_head Star = leaf_head star_of
word_head (Unknown n) = leaf_head (unknown n)
word_head Tlam = function of_term
word_head Xtlam = function of_type
word_head Pi = former pi_of
word_head All = former all_of
word_head Allt = former allt_of
word_head Iota = former iota_of
word_head Eq = binary_head eq_of
word_head Kpi = former kpi_of
word_head Kpit = former kpit_of

abbrev pub part_tree : Part → Tree
part_tree (p.Term t) = t.now
part_tree (p.OfType a) = a.now
part_tree (p.Kind k) = k.now

abbrev pub part_trees : Parts → List Tree
part_trees Zero = []
part_trees (One a) = part_tree a ∷ []
part_trees (Two a b) = part_tree a ∷ part_tree b ∷ []

-- the tree has this head and these parts
abbrev pub IsFormerOf : Tree → Former → Type 0
IsFormerOf t f = (head_of t ≡ word_head f.word) × (parts_of t ≡ part_trees f.parts)
