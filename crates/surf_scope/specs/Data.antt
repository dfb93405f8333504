-- The steps of the scope of a datatype.
use Rattle.std.specs.Prelude.{codes, List, [], ◌∷◌, ◌++◌, Option, Some, Result, Ok}
use Rattle.cdle_model.specs.declared.grammar.Sort.TheVariants.{OfTerm, OfType}
use Rattle.cdle_model.specs.CoreNames.{Name}
use Rattle.source_model.specs.Source.{NameUse, Parameter, Constructor}
use Rattle.scope_model.specs.Scope.{ScopeFault, ◌>>=◌, scoped, constructors, of_sort, parameters, texts, unless_taken, with_parameters, written}
use Rattle.scope_model.specs.ScopeNames.{Text, Around, Bound, Variable}
use Rattle.scope_model.specs.Scoped.{Reference}
use Rattle.scoped_tree.specs.Items.{item_name}
use Rattle.scope_part.specs.Index.{names_of}
use Rattle.surf_scope.specs.declared.data_names.DataNames.{DataNames}

-- ---- the names of its items

-- before its constructors, and behind them
abbrev pub front : Text → List Name
front d = of_sort OfType (d ++ codes "/F") ∷ of_sort OfTerm (d ++ codes "/mono") ∷ of_sort OfType d ∷ []

abbrev pub back : Text → List Name
back d = of_sort OfTerm (d ++ codes "/mu") ∷ of_sort OfTerm (d ++ codes "/sigma") ∷ []

-- those so far, and those behind the constructors
abbrev pub given_names : DataNames → List Name
given_names n = names_of n.given

abbrev pub names_behind : DataNames → List Name
names_behind n = item_name n.mu ∷ item_name n.sigma ∷ []

-- the texts that no constructor may have
abbrev pub taken : List Name → List Name → List Name → List Text
taken given behind own = texts (given ++ behind) ++ texts own

-- ---- its parts

abbrev pub SourceParameter : Type 0
SourceParameter = Parameter (Option Text) (NameUse Text)

abbrev pub ScopedParameter : Type 0
ScopedParameter = Parameter (Unit {0}) Reference

abbrev pub SourceConstructor : Type 0
SourceConstructor = Constructor Text (Option Text) (NameUse Text)

abbrev pub ScopedConstructor : Type 0
ScopedConstructor = Constructor Text (Unit {0}) Reference

abbrev pub scoped_parameter : Around → List Bound → SourceParameter → Result ScopedParameter ScopeFault
scoped_parameter a bs p = scoped a [] bs OfType p.class >>= λ k. Ok (record { span = p.span; binder = tt; sort = p.sort; class = k })

abbrev pub scoped_constructor : Around → List Bound → List Text → SourceConstructor → Result ScopedConstructor ScopeFault
scoped_constructor a bs taken c = unless_taken c.span (c.name ∷ []) taken (scoped a [] bs OfType c.type >>= λ t. Ok (record { span = c.span; name = written a c.name; type = t }))

-- constructors behind those that are done
abbrev pub constructors_on : Around → List Bound → List Text → List ScopedConstructor → List SourceConstructor → Result (List ScopedConstructor) ScopeFault
constructors_on a bs taken done cs = constructors a bs taken cs >>= λ ds. Ok (done ++ ds)

abbrev pub under_datatype : Text → List Bound → List Bound
under_datatype d bs = record { name = Some d; binding = Variable OfType } ∷ bs

-- parameters behind those that are done, and then the constructors
abbrev pub parts_on : Around → Text → List Bound → List Text → List ScopedParameter → List SourceParameter → List SourceConstructor → Result (List ScopedParameter × List ScopedConstructor) ScopeFault
parts_on a d bs taken done ps cs = parameters a bs ps >>= λ qs. constructors a (under_datatype d (with_parameters ps bs)) taken cs >>= λ ds. Ok (done ++ qs, ds)
