-- Forms over two types.
use Rattle.cdle_model.specs.Trees.{Tree}
use Rattle.cdle_model.specs.Forms.{pi, all, iota, on}
use Rattle.elab_erase.specs.declared.forms.OverTypes.{OverTypes}
use Rattle.elab_erase.specs.declared.forms.OverTypes.TheVariants as f

-- the guide of that form over two guides
abbrev pub over_types : OverTypes → Tree → Tree → Tree
over_types f.Pi a b = pi a b
over_types f.All a b = all a b
over_types f.Iota a b = iota a b
over_types f.On a b = on a b
