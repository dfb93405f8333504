-- The context in which a part is taken, as the code's list of binders stands for it.
use Rattle.std.specs.Prelude.{List, [], ◌∷◌}
use Rattle.cdle_model.specs.Derivation.{Entry, term_of, type_of}
use Rattle.elab_rules.specs.declared.context.Binding.{Binding}
use Rattle.elab_rules.specs.declared.context.Binding.TheVariants as b
use Rattle.elab_rules.specs.declared.context.Context.{Context, Given, Term', OfType'}

abbrev pub known : Binding → Entry
known (b.Term a) = term_of a
known (b.OfType k) = type_of k

-- of a list whose last is the innermost
abbrev pub stacked : List Entry → List Binding → List Entry
stacked c [] = c
stacked c (x ∷ xs) = stacked (known x ∷ c) xs

abbrev pub entries : Context → List Entry
entries (Given xs) = stacked [] xs.now
entries (Term' ty p outer) = term_of ty.now ∷ entries outer
entries (OfType' kind p outer) = type_of kind.now ∷ entries outer
