-- The context in which a part is checked, as the code's list of binders stands for it.
use Rattle.std.specs.Prelude.{ℕ, List, [], ◌∷◌}
use Rattle.cdle_model.specs.declared.grammar.Sort.{Sort}
use Rattle.cdle_model.specs.Trees.{shift}
use Rattle.cdle_model.specs.Derivation.{Entry, term_of, type_of}
use Rattle.cdle_model.specs.Fitting.{entry_sorts}
use Rattle.core_rules.specs.declared.context.Context.{Context, Empty, Term', Type'}

abbrev pub entries : Context → List Entry
entries Empty = []
entries (Term' ty p outer) = term_of ty.now ∷ entries outer
entries (Type' kind p outer) = type_of kind.now ∷ entries outer

-- the sorts of its variables
abbrev pub sorts : Context → List Sort
sorts c = entry_sorts (entries c)

-- what is known of a variable, as it stands under so many more binders
abbrev pub lifted : ℕ → Entry → Entry
lifted by (term_of a) = term_of (shift 0 by a)
lifted by (type_of k) = type_of (shift 0 by k)
