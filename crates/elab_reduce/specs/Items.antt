-- The items that the code knows, as the definitions' items, and what names unfold to over them.
use Rattle.std.specs.Prelude.{Bool, true, false, List, [], ◌∷◌, Option, Some, None}
use Rattle.std.specs.Borrow.{Bor}
use Rattle.cdle_model.specs.Trees.{Tree}
use Rattle.cdle_model.specs.Forms.{Written}
use Rattle.elab_model.specs.HeadWritten.{Unfolding, all_but}
use Rattle.elab_model.specs.Questions.{Env, kept_names}
use Rattle.elab_tree.specs.Known.{Data, Entry, Known, data_of_item}

abbrev pub items_of : List Entry → List Written
items_of [] = []
items_of (e ∷ es) = e.item ∷ items_of es

abbrev pub is_known : Option Data → Bool
is_known None = false
is_known (Some d) = true

-- the items, and as datatypes' names those of which a datatype is known
abbrev pub env_of : Known → Env
env_of k = record { items = items_of k.entries; is_data = λ n. is_known (data_of_item k n) }

-- what each name unfolds to, where datatypes' names are kept or are not
abbrev pub unfolds : Known → Bool → Unfolding
unfolds k stop = all_but (kept_names (env_of k) stop) (items_of k.entries)

-- what is borrowed
abbrev pub seen_type : Option (Bor Tree) → Option Tree
seen_type None = None
seen_type (Some b) = Some b.now
