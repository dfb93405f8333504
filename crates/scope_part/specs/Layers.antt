-- The binders for which the code's list of layers stands.
use Rattle.std.specs.Prelude.{ℕ, List, [], ◌∷◌, ◌++◌, length, map}
use Rattle.scope_model.specs.Scope.{of_case, with_patterns}
use Rattle.scope_model.specs.ScopeNames.{Text, Bound}
use Rattle.scope_model.specs.ScopeNames as model
use Rattle.scoped_tree.specs.Trees.{case_form}
use Rattle.scoped_tree.specs.declared.forms.CaseForm.TheVariants as c
use Rattle.surf_tree.specs.Forms.{pattern_of}
use Rattle.surf_tree.specs.declared.node.SrcPattern.{SrcPattern}
use Rattle.scope_part.specs.Names.{text_or_none}
use Rattle.scope_part.specs.Spelled.{spelled_patterns}
use Rattle.scope_part.specs.declared.binders.Binders.{Binders, Outermost, Within'}
use Rattle.scope_part.specs.declared.binders.Layer.{Layer}
use Rattle.scope_part.specs.declared.binders.Layer.TheVariants.{Variable, Case, Pattern}

-- the names of a pattern, the last of them first
abbrev pub pattern_bounds : List Text → List SrcPattern → List Bound
pattern_bounds names ps = with_patterns (spelled_patterns names (map pattern_of ps)) []

abbrev pub layer_bounds : List Text → Layer → List Bound
layer_bounds names (Variable x s) = record { name = text_or_none names x; binding = model.Variable s } ∷ []
layer_bounds names (Case f x) = of_case (case_form f) (text_or_none names x)
layer_bounds names (Pattern ps) = pattern_bounds names ps.now

abbrev pub bounds : List Text → Binders → List Bound
bounds names Outermost = []
bounds names (Within' l p outer) = layer_bounds names l ++ bounds names outer

-- how many binders there are
abbrev pub layer_length : Layer → ℕ
layer_length (Variable x s) = 1
layer_length (Case c.Mu x) = 3
layer_length (Case c.Sigma x) = 0
layer_length (Pattern ps) = length ps.now
