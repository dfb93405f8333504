-- What the calls on modules in their order answer.
use Rattle.std.specs.Prelude.{◌≡◌, ℕ, false, List, [], Option, Some, Result, Ok, Err, get_or, map}
use Rattle.std.specs.Global.{Vec}
use Rattle.cdle_model.specs.Forms.{Written}
use Rattle.source_model.specs.Source.{Module}
use Rattle.scope_model.specs.Scope as scope_model
use Rattle.scope_model.specs.ScopeNames.{Text}
use Rattle.scope_model.specs.Scoped as model
use Rattle.elab_model.specs.Items.{items_of_source, names_of, with_items}
use Rattle.elab_model.specs.Questions.{Env, found}
use Rattle.elab_model.specs.Soundness.{no_encodings}
use Rattle.elab_reduce.specs.Items.{env_of}
use Rattle.elab_tree.specs.Items.{written}
use Rattle.elab_tree.specs.Known.{Known}
use Rattle.elab_tree.specs.declared.items.OutItem.{OutItem}
use Rattle.print_model.specs.Printed.{file_text}
use Rattle.scoped_tree.specs.Items.{module_of}
use Rattle.scoped_tree.specs.Trees.{place}
use Rattle.scoped_tree.specs.declared.items.ScopedModule.{ScopedModule}
use Rattle.scope_part.specs.declared.fault.ScopeFault.{ScopeFault}
use Rattle.scope_part.specs.declared.fault.ScopeFault.TheVariants as scope
use Rattle.modules_model.specs.ModuleTexts.{TextsAnswer, all_given, many_items, unscoped, not_built, refuses, spends, deepens, by_rules, by_scope, by_texts, given_modules, nothing, printed_files, refusal_of, scoped_modules, stuck_at, texts_answer}
use Rattle.build_modules.specs.declared.fault.BuildFault.{BuildFault}
use Rattle.build_modules.specs.declared.fault.BuildFault.TheVariants as faults

-- a fault of the scope of the module of that number; memory may run out anywhere
abbrev pub IsScopeFault : (TextsAnswer → Type 0) → ℕ → ScopeFault → Type 0
IsScopeFault P i scope.NoMemory = Unit {0}
IsScopeFault P i (scope.Unbound s) = P (unscoped i (scope_model.Unbound (place s)))
IsScopeFault P i (scope.WrongClass s) = P (unscoped i (scope_model.WrongClass (place s)))
IsScopeFault P i (scope.Twice s) = P (unscoped i (scope_model.Twice (place s)))

-- the fault is what the modules come to
abbrev pub IsBuildFault : (TextsAnswer → Type 0) → BuildFault → Type 0
IsBuildFault P faults.NoMemory = Unit {0}
IsBuildFault P (faults.ManyItems i) = P (many_items i)
IsBuildFault P (faults.Scope i f) = IsScopeFault P i f
IsBuildFault P (faults.NotBuilt i s) = P (not_built i (place s))
IsBuildFault P (faults.Refused i s c) = P (refuses i (place s) c)
IsBuildFault P (faults.Spent i s) = P (spends i (place s))
IsBuildFault P (faults.TooDeep w) = P (deepens w)

-- the texts are those of the items that are given, or the fault is what is answered in place of them
abbrev pub IsAnswer : Option TextsAnswer → Result (Vec (Vec ℕ)) BuildFault → Type 0
IsAnswer a (Ok texts) = (wss : List (List Written)) × (a ≡ Some (all_given wss (map (λ text. text.items) texts.items)))
IsAnswer a (Err f) = IsBuildFault (λ b. a ≡ Some b) f

-- the texts are those of the items that the modules give, or the fault is what the modules come to
abbrev pub Answers : ℕ → List (Module Text) → Result (Vec (Vec ℕ)) BuildFault → Type 0
Answers n ms r = IsAnswer (texts_answer n ms) r

-- ---- the stages

-- the scope of the modules, or the fault is what they come to by it
abbrev pub GivesScoped : List (Module Text) → Result (Vec ScopedModule) BuildFault → Type 0
GivesScoped ms (Ok rs) = scoped_modules [] ms ≡ Ok (map module_of rs.items)
GivesScoped ms (Err f) = (n : ℕ) → IsBuildFault (λ a. by_scope n (scoped_modules [] ms) ≡ Some a) f

-- the items of each of several modules
abbrev pub items_of_each : List (Vec OutItem) → List (List Written)
items_of_each given = map (λ items. map written items.items) given

-- nothing is given for that module over these items, and the fault says why
abbrev pub IsRefused : ℕ → Env → List model.ScopedItem → ℕ → BuildFault → Type 0
IsRefused n e is i f = IsBuildFault (λ a. refusal_of i (stuck_at n e is) (items_of_source n e no_encodings is) ≡ Some a) f

-- the items that are given for a module over these, behind which they stand then, or why there are none
abbrev pub GivesNext : ℕ → Known → Known → List model.ScopedItem → ℕ → Result (Vec OutItem) BuildFault → Type 0
GivesNext n old new is i (Ok items) = (new.failed ≡ false) × (items_of_source n (env_of old) no_encodings is ≡ found (map written items.items)) × (env_of new ≡ with_items (env_of old) (map written items.items))
GivesNext n old new is i (Err f) = IsRefused n (env_of old) is i f

-- the items that the rules give, or the fault is what the modules come to by them
abbrev pub GivesItems : ℕ → List model.ScopedModule → Result (Vec (Vec OutItem)) BuildFault → Type 0
GivesItems n rs (Ok given) = given_modules n nothing rs ≡ Ok (items_of_each given.items)
GivesItems n rs (Err f) = IsBuildFault (λ a. by_rules (given_modules n nothing rs) ≡ Some a) f

-- the text of one file, over items of these names, or that one of its items nests too deep
abbrev pub GivesText : List Text → List Written → Result (Vec ℕ) BuildFault → Type 0
GivesText names ws (Ok text) = file_text names ws ≡ Ok text.items
GivesText names ws (Err f) = IsBuildFault (λ a. (i : ℕ) × (file_text names ws ≡ Err i) × (a ≡ deepens (get_or (names_of ws) i []))) f

-- the texts of these items, or the fault is what they come to
abbrev pub GivesTexts : List (List Written) → Result (Vec (Vec ℕ)) BuildFault → Type 0
GivesTexts wss (Ok texts) = printed_files [] wss ≡ Ok (map (λ text. text.items) texts.items)
GivesTexts wss (Err f) = IsBuildFault (λ a. by_texts wss (printed_files [] wss) ≡ a) f
