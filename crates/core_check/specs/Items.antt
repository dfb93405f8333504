-- The items of files.
use Rattle.std.specs.Prelude.{List, [], ◌∷◌, ◌++◌}
use Rattle.cdle_model.specs.Forms.{Written}
use Rattle.core_tree.specs.declared.items.CoreFile.{CoreFile}

-- all items of the files, in their order
abbrev pub items_of : List CoreFile → List Written
items_of [] = []
items_of (f ∷ fs) = f.items ++ items_of fs
