-- What the call on a module's file answers.
use Rattle.std.specs.Prelude.{◌≡◌, ℕ, List, [], Some, Result, Ok, Err, get_or}
use Rattle.std.specs.Global.{Vec}
use Rattle.cdle_model.specs.Forms.{Written}
use Rattle.source_model.specs.Parsing.{Unexpected, TooDeep, TooMany}
use Rattle.source_model.specs.SurfaceTokens.{BadCharacter, OpenComment}
use Rattle.scope_model.specs.Scope.{Unbound, WrongClass, Twice}
use Rattle.scope_model.specs.ScopeNames.{Text}
use Rattle.scope_model.specs.Scoped.{ScopedModule}
use Rattle.elab_model.specs.Items.{names_of}
use Rattle.print_model.specs.Printed.{file_text}
use Rattle.scoped_tree.specs.Trees.{place}
use Rattle.scope_part.specs.declared.fault.ScopeFault.{ScopeFault}
use Rattle.scope_part.specs.declared.fault.ScopeFault.TheVariants as scope
use Rattle.surf_source.specs.declared.fault.SourceFault.{SourceFault}
use Rattle.surf_source.specs.declared.fault.SourceFault.TheVariants as source
use Rattle.build_model.specs.SourceFiles.{NotUtf8, InTokens, InTree}
use Rattle.build_module.specs.ModuleAnswers.{ModuleAnswer, IsModuleAnswer, answer_of, gives, no_module, many_items, unscoped, not_built, refuses, spends, deepens}
use Rattle.build_module.specs.declared.fault.ModuleFault.{ModuleFault}
use Rattle.build_module.specs.declared.fault.ModuleFault.TheVariants as faults

-- a fault of the file, of the scope, or a later one, as what the module's file comes to; memory may run out at any
abbrev pub IsSourceFault : (ModuleAnswer → Type 0) → SourceFault → Type 0
IsSourceFault P source.NoMemory = Unit {0}
IsSourceFault P (source.NotUtf8 at) = P (no_module (NotUtf8 at))
IsSourceFault P (source.BadCharacter at) = P (no_module (InTokens (BadCharacter at)))
IsSourceFault P (source.OpenComment at) = P (no_module (InTokens (OpenComment at)))
IsSourceFault P (source.Unexpected at what) = P (no_module (InTree (Unexpected at what)))
IsSourceFault P (source.TooDeep at) = P (no_module (InTree (TooDeep at)))
IsSourceFault P (source.TooMany at what) = P (no_module (InTree (TooMany at what)))

abbrev pub IsScopeFault : (ModuleAnswer → Type 0) → ScopeFault → Type 0
IsScopeFault P scope.NoMemory = Unit {0}
IsScopeFault P (scope.Unbound s) = P (unscoped (Unbound (place s)))
IsScopeFault P (scope.WrongClass s) = P (unscoped (WrongClass (place s)))
IsScopeFault P (scope.Twice s) = P (unscoped (Twice (place s)))

abbrev pub IsModuleFault : (ModuleAnswer → Type 0) → ModuleFault → Type 0
IsModuleFault P faults.NoMemory = Unit {0}
IsModuleFault P (faults.Source f) = IsSourceFault P f
IsModuleFault P faults.ManyItems = P many_items
IsModuleFault P (faults.Scope f) = IsScopeFault P f
IsModuleFault P (faults.NotBuilt s) = P (not_built (place s))
IsModuleFault P (faults.Refused s c) = P (refuses (place s) c)
IsModuleFault P (faults.Spent s) = P (spends (place s))
IsModuleFault P (faults.TooDeep w) = P (deepens w)

-- the text is that of the items that the module's file gives, or the fault is what the file comes to
abbrev pub Answers : ℕ → List ℕ → Text → Result (Vec ℕ) ModuleFault → Type 0
Answers n bytes name (Ok text) = (ws : List Written) × IsModuleAnswer n bytes name (gives ws text.items)
Answers n bytes name (Err f) = IsModuleFault (IsModuleAnswer n bytes name) f

-- ---- the items

-- that the item of that name is too deep; memory may run out too
abbrev pub IsDeepAt : Text → ModuleFault → Type 0
IsDeepAt w faults.NoMemory = Unit {0}
IsDeepAt w (faults.TooDeep item) = item ≡ w
IsDeepAt w f = ⊥

-- the text of these items, or the first of them that nests too deep for one
abbrev pub OfPrinted : List Written → Result (Vec ℕ) ModuleFault → Type 0
OfPrinted ws (Ok text) = file_text (names_of ws) ws ≡ Ok text.items
OfPrinted ws (Err faults.NoMemory) = Unit {0}
OfPrinted ws (Err (faults.TooDeep w)) = (i : ℕ) × (file_text (names_of ws) ws ≡ Err i) × (w ≡ get_or (names_of ws) i [])
OfPrinted ws (Err f) = ⊥

-- what the items of a module whose scope is known come to
abbrev pub OfItems : ℕ → ScopedModule → Result (Vec ℕ) ModuleFault → Type 0
OfItems n r (Ok text) = (ws : List Written) × (answer_of n r ≡ Some (gives ws text.items))
OfItems n r (Err faults.NoMemory) = Unit {0}
OfItems n r (Err (faults.Refused s c)) = answer_of n r ≡ Some (refuses (place s) c)
OfItems n r (Err (faults.Spent s)) = answer_of n r ≡ Some (spends (place s))
OfItems n r (Err (faults.TooDeep w)) = answer_of n r ≡ Some (deepens w)
OfItems n r (Err f) = ⊥
