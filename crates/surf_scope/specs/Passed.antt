-- What the pass over items returns is what the definition gives, with the names that come with it.
use Rattle.std.specs.Prelude.{◌≡◌, ◌+◌, List, ◌++◌, length, map, Result, Ok, Err}
use Rattle.source_model.specs.Source.{Item}
use Rattle.scope_model.specs.Scope.{constructor_names, constructors, item_names, scoped_item}
use Rattle.scope_model.specs.ScopeNames.{Text, Around, Bound}
use Rattle.scoped_tree.specs.Items.{BeginsAt, constructor_of, item_of, parameter_of}
use Rattle.surf_scope.specs.Data.{ScopedParameter, SourceConstructor, SourceParameter, given_names, names_behind, parts_on, taken}
use Rattle.scope_part.specs.Entries.{listed_names}
use Rattle.scope_part.specs.Results.{Fails}
use Rattle.surf_scope.specs.declared.data.Constructors.{Constructors}
use Rattle.surf_scope.specs.declared.data.DataParts.{DataParts}
use Rattle.surf_scope.specs.declared.data_names.DataNames.{DataNames}
use Rattle.scope_part.specs.declared.fault.ScopeFault.{ScopeFault}
use Rattle.surf_scope.specs.declared.items.NewItem.{NewItem}

abbrev pub taken_of : DataNames → Around → List Text
taken_of given a = taken (given_names given) (names_behind given) a.own

abbrev pub GivesConstructors : Around → List Bound → DataNames → List SourceConstructor → Result Constructors ScopeFault → Type 0
GivesConstructors a bs given cs (Ok r) =
    (constructors a bs (taken_of given a) cs ≡ Ok (map constructor_of r.ctors.items)) × (given_names r.names ≡ given_names given ++ constructor_names cs) × (names_behind r.names ≡ names_behind given)
GivesConstructors a bs given cs (Err e) = Fails e (constructors a bs (taken_of given a) cs)

abbrev pub GivesParts : Around → Text → List Bound → DataNames → List ScopedParameter → List SourceParameter → List SourceConstructor → Result DataParts ScopeFault → Type 0
GivesParts a d bs given done ps cs (Ok r) =
    (parts_on a d bs (taken_of given a) done ps cs ≡ Ok (map parameter_of r.params.items, map constructor_of r.ctors.items)) × (listed_names r.names.items ≡ given_names given ++ (constructor_names cs ++ names_behind given))
GivesParts a d bs given done ps cs (Err e) = Fails e (parts_on a d bs (taken_of given a) done ps cs)

-- a datatype begins with the number behind the items before it
abbrev pub GivesItem : Around → Item Text → Result NewItem ScopeFault → Type 0
GivesItem a i (Ok r) = (scoped_item a i ≡ Ok (item_of r.item)) × (listed_names r.names.items ≡ item_names i) × BeginsAt (a.first + length a.own) r.item
GivesItem a i (Err e) = Fails e (scoped_item a i)
