-- What a function returned is what the definition gives, unless memory ran out.
use Rattle.std.specs.Prelude.{◌≡◌, Result, Ok, Err}
use Rattle.scope_model.specs.Scope.{ScopeFault, Unbound, WrongClass, Twice}
use Rattle.scoped_tree.specs.Trees.{place}
use Rattle.scope_part.specs.declared.fault.ScopeFault as code
use Rattle.scope_part.specs.declared.fault.ScopeFault.TheVariants as faults

abbrev pub Fails : {Y : Type 0} → code.ScopeFault → Result Y ScopeFault → Type 0
Fails faults.NoMemory given = Unit {0}
Fails (faults.Unbound p) given = given ≡ Err (Unbound (place p))
Fails (faults.WrongClass p) given = given ≡ Err (WrongClass (place p))
Fails (faults.Twice p) given = given ≡ Err (Twice (place p))

abbrev pub Gives : {X Y : Type 0} → (X → Y) → Result X code.ScopeFault → Result Y ScopeFault → Type 0
Gives view (Ok x) given = given ≡ Ok (view x)
Gives view (Err e) given = Fails e given
