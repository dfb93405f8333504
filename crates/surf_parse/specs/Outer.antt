-- How the contracts of items, imports and the module read.
use Rattle.std.specs.Prelude.{◌≡◌, ℕ, ◌-◌, ◌<◌, List, [], ◌∷◌, ◌++◌, cond, length, map, Option, Some, None, Result, Ok, Err}
use Rattle.std.specs.Global.{Vec}
use Rattle.std.specs.List.{list_any}
use Rattle.std.specs.Str.{bytes_eq}
use Rattle.cdle_names.specs.declared.Span as names
use Rattle.cdle_names.specs.declared.table.NameId as table
use Rattle.source_model.specs.Source.{Span, Module, Parameter, Constructor, NameUse}
use Rattle.source_model.specs.Grammar.{Value, parameters, constructors, module_so_far, Symbol, Want, Test_, Make, Read, IsType, HasFewArguments, IsImportable, any, of_type, Class, Term, Body, Parameters, Constructors}
use Rattle.source_model.specs.Grammar as m
use Rattle.source_model.specs.Rows.{sign, binding, outermost}
use Rattle.source_model.specs.Made.{with_item}
use Rattle.source_model.specs.Parsing.{one, ended, Unexpected}
use Rattle.source_model.specs.declared.token.TokenKind.TheVariants as k
use Rattle.source_model.specs.declared.wanted.Wanted.TheVariants as wanted
use Rattle.surf_tree.specs.Forms.{place}
use Rattle.surf_tree.specs.Items.{constructor_of, import_of, item_of, module_of, parameter_of}
use Rattle.surf_tree.specs.declared.items.SrcCtor.{SrcCtor}
use Rattle.surf_tree.specs.declared.items.SrcItem.{SrcItem}
use Rattle.surf_tree.specs.declared.items.SrcModule.{SrcModule}
use Rattle.surf_tree.specs.declared.items.SrcParam.{SrcParam}
use Rattle.surf_reader.specs.declared.token.Named.{Named}
use Rattle.surf_reader.specs.declared.reader.Reader.{Reader}
use Rattle.surf_reader.specs.declared.error.ParseFault.{ParseFault}
use Rattle.surf_reader.specs.declared.error.ParseFault.TheVariants as faults
use Rattle.surf_reader.specs.View.{Fails, given_of, here, rest}

-- ---- repetitions

-- One more part of a repetition, behind which more of it is read with the part on the values; or it ends; or a fault.
abbrev pub Repeats : {X : Type 0} → Reader → Symbol → Symbol → List (Value ℕ) → (X → List (Value ℕ)) → ℕ → Result (Option (X × ℕ)) ParseFault → Type 0
Repeats r s more vs put at (Ok (Some x)) = one (given_of r) (Read s) (here r at vs) ≡ one (given_of r) (Read more) (here r x.1 (put x.0))
Repeats r s more vs put at (Ok None) = one (given_of r) (Read s) (here r at vs) ≡ Ok (here r at vs)
Repeats r s more vs put at (Err e) = Fails e (one (given_of r) (Read s) (here r at vs))

-- fewer tokens are left
abbrev pub Advances : Reader → ℕ → ℕ → Type 0
Advances r at to = length r.tokens.now - to < length r.tokens.now - at

-- ---- the rows behind their first tokens

-- behind the body of a definition
abbrev pub item_end : List Want
item_end = Test_ IsType ∷ sign k.Period ∷ Make m.AnItem ∷ []

abbrev pub term_rows : List Want
term_rows = Read (Term outermost) ∷ item_end

abbrev pub type_rows : List Want
type_rows = Read (Class outermost of_type None) ∷ item_end

abbrev pub definition_row : List Want
definition_row = sign k.Colon ∷ Read (Class outermost any None) ∷ sign k.Is ∷ Read Body ∷ item_end

abbrev pub constructors_row : List Want
constructors_row = sign k.Colon ∷ sign k.Star ∷ sign k.Is ∷ Make m.NoConstructors ∷ Read (Constructors 64) ∷ sign k.Period ∷ Make m.ADatatype ∷ []

abbrev pub datatype_row : List Want
datatype_row = binding ∷ Make m.NoParameters ∷ Read (Parameters 16) ∷ constructors_row

abbrev pub row_of_parameter : List Want
row_of_parameter = binding ∷ sign k.Colon ∷ Read (Class outermost any None) ∷ sign k.Close ∷ Make m.AParameter ∷ []

abbrev pub row_of_constructor : List Want
row_of_constructor = binding ∷ sign k.Colon ∷ Read (Class outermost of_type (Some 32)) ∷ Test_ IsType ∷ Test_ HasFewArguments ∷ Make m.AConstructor ∷ []

abbrev pub row_of_import : List Want
row_of_import = binding ∷ Test_ IsImportable ∷ sign k.Period ∷ Make m.AnImport ∷ []

-- ---- values

abbrev pub ParameterTree : Type 0
ParameterTree = Parameter (Option ℕ) (NameUse ℕ)

abbrev pub ConstructorTree : Type 0
ConstructorTree = Constructor ℕ (Option ℕ) (NameUse ℕ)

abbrev pub parameter_on : List ParameterTree → List (Value ℕ) → SrcParam → List (Value ℕ)
parameter_on ps vs p = parameters (ps ++ parameter_of p ∷ []) ∷ vs

abbrev pub parameters_of : Vec SrcParam → List (Value ℕ) → List (Value ℕ)
parameters_of ps vs = parameters (map parameter_of ps.items) ∷ vs

abbrev pub constructor_on : List ConstructorTree → List (Value ℕ) → SrcCtor → List (Value ℕ)
constructor_on cs vs c = constructors (cs ++ constructor_of c ∷ []) ∷ vs

abbrev pub constructors_of : Vec SrcCtor → List (Value ℕ) → List (Value ℕ)
constructors_of cs vs = constructors (map constructor_of cs.items) ∷ vs

-- a module with one more item
abbrev pub item_on : Module ℕ → List (Value ℕ) → SrcItem → List (Value ℕ)
item_on b vs i = module_so_far (with_item (item_of i) b) ∷ vs

-- imports with one more, where none of them has its text
abbrev pub imported : (ℕ → List ℕ) → Named → List (ℕ × Span) → List (ℕ × Span)
imported text x is = cond (list_any (λ i. bytes_eq (text x.name.0) (text i.0)) is) is (is ++ (x.name.0, place x.span) ∷ [])

abbrev pub import_on : (ℕ → List ℕ) → Module ℕ → List (Value ℕ) → Named → List (Value ℕ)
import_on text b vs x = module_so_far (record b { imports = imported text x b.imports }) ∷ vs

abbrev pub imports_of : ℕ → Vec (table.NameId × names.Span) → List (Value ℕ) → List (Value ℕ)
imports_of x is vs = module_so_far (record { name = x; imports = map import_of is.items; items = [] }) ∷ vs

abbrev pub items_of : ℕ → List (ℕ × Span) → Vec SrcItem → List (Value ℕ) → List (Value ℕ)
items_of x is list vs = module_so_far (record { name = x; imports = is; items = map item_of list.items }) ∷ vs

abbrev pub module_value : SrcModule → List (Value ℕ) → List (Value ℕ)
module_value b vs = module_so_far (module_of b) ∷ vs

-- no token is left, or what stands there is no item
abbrev pub IsEnd : Reader → ℕ → Result Unit ParseFault → Type 0
IsEnd r at (Ok u) = rest r.tokens.now at ≡ []
IsEnd r at (Err e) = (t : Named) × (e ≡ faults.Unexpected t.span.from wanted.Item) × ((vs : List (Value ℕ)) → ended vs (rest r.tokens.now at) ≡ Err (Unexpected t.span.from wanted.Item))
