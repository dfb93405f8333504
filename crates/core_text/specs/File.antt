-- The first fault of a file's bytes.
use Rattle.std.specs.Prelude.{ℕ, List}
use Rattle.std.specs.Str.{IsValidUpTo}
use Rattle.cdle_model.specs.CoreFaults.{BadText, Unbound, WrongClass, TooDeep}
use Rattle.cdle_model.specs.CoreNames.{Name}
use Rattle.cdle_model.specs.CoreWants.{IsFirstFault}
use Rattle.core_text.specs.declared.error.CoreTextFault.{CoreTextFault}
use Rattle.core_text.specs.declared.error.CoreTextFault.TheVariants as faults

-- Memory may run out anywhere. Else the bytes are UTF-8 up to that place and no further, or they are UTF-8 and this is the text's first fault.
abbrev pub IsFaultOf : List ℕ → List Name → CoreTextFault → Type 0
IsFaultOf bytes known faults.NoMemory = Unit {0}
IsFaultOf bytes known (faults.NotUtf8 at) = IsValidUpTo bytes at
IsFaultOf bytes known (faults.BadText at what) = IsFirstFault bytes known (BadText at what)
IsFaultOf bytes known (faults.Unbound at) = IsFirstFault bytes known (Unbound at)
IsFaultOf bytes known (faults.WrongClass at) = IsFirstFault bytes known (WrongClass at)
IsFaultOf bytes known (faults.TooDeep at) = IsFirstFault bytes known (TooDeep at)
