-- What is known of the bodies to which names unfold, over a signature.
use Rattle.std.specs.Prelude.{◌≡◌, ℕ, List, [], Some, slice_get}
use Rattle.cdle_model.specs.Trees.{Tree, IsBelow}
use Rattle.cdle_model.specs.declared.grammar.Sort.{Sort}
use Rattle.cdle_model.specs.Classes.{types}
use Rattle.cdle_model.specs.Erasure.{erased}
use Rattle.cdle_model.specs.Derivation.{Item, item, type_of, a_type, Has}
use Rattle.elab_model.specs.SoundTrees.{Sound}
use Rattle.elab_model.specs.HeadWritten.{Unfolding}
use Rattle.elab_model.specs.Unknowns.{Types, fill_written}

-- each body is closed, has no unknown, and erases to the signature's
pub record IsSigned (s : List Tree) (u : Unfolding) : Type 0 where
  pub closed : (n : ℕ) (p : Tree) → u n ≡ Some p → IsBelow 0 p
  pub whole : (n : ℕ) (p : Tree) → u n ≡ Some p → (f : Types) → fill_written f p ≡ p
  pub erases : (n : ℕ) (p : Tree) → u n ≡ Some p → slice_get s n ≡ Some (erased p)

-- each body has the kind that the signature knows
abbrev pub AreKinded : List Item → Unfolding → Type 0
AreKinded is u = (n : ℕ) (p k : Tree) → u n ≡ Some p → item is n ≡ Some (type_of k) → Has is a_type [] p k

-- each body is a type with an erasure
abbrev pub UnfoldsSound : List Sort → Unfolding → Type 0
UnfoldsSound xs u = (n : ℕ) (p : Tree) → u n ≡ Some p → Sound xs [] types p
