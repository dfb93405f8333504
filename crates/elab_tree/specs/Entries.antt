-- What the code keeps of a datatype's name, as what is known of it.
use Rattle.std.specs.Prelude.{List, [], ◌∷◌, Option, None, Some}
use Rattle.elab_tree.specs.Items.{written}
use Rattle.elab_tree.specs.Known.{Ctor, Data, Entry}
use Rattle.elab_tree.specs.declared.env.Constructor.{Constructor}
use Rattle.elab_tree.specs.declared.env.Datatype.{Datatype}
use Rattle.elab_tree.specs.declared.items.OutItem.{OutItem}

abbrev ctors_of : List Constructor → List Ctor
ctors_of [] = []
ctors_of (c ∷ cs) = record { number = c.item; modes = c.modes.items } ∷ ctors_of cs

abbrev pub data_of : Datatype → Data
data_of d = record { params = d.params; ctors = ctors_of d.constructors.items; mu = d.mu; sigma = d.sigma; indexed = d.has_index; case_item = d.case }

abbrev pub data_at : Option Datatype → Option Data
data_at None = None
data_at (Some d) = Some (data_of d)

abbrev pub entry_of : OutItem → Option Datatype → Entry
entry_of i d = record { item = written i; known = data_at d }
