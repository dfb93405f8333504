-- What the texts of Core files are to the modules that they are built from.
use Rattle.std.specs.Prelude.{◌≡◌, ◌++◌, List, [], ◌∷◌, ℕ, Ok, codes, map}
use Rattle.std.specs.List.{AllByRecursion}
use Rattle.cdle_model.specs.CoreNames as core
use Rattle.cdle_model.specs.CoreText.{Says}
use Rattle.cdle_model.specs.Derivation.{AreDerived}
use Rattle.cdle_model.specs.Forms.{Written}
use Rattle.source_model.specs.Source.{Module}
use Rattle.scope_model.specs.Scope.{all_names}
use Rattle.scope_model.specs.ScopeNames.{Text}
use Rattle.scope_model.specs.Scoped.{ScopedModule}
use Rattle.elab_model.specs.Items.{EraseTo, names_of}
use Rattle.elab_model.specs.Soundness.{no_encodings}
use Rattle.print_model.specs.PrintedFiles.{all_items}
use Rattle.build_model.specs.SourceFiles.{IsSource}
use Rattle.modules_model.specs.ModuleTexts.{scoped_modules}

-- each module is what some file of its name says
abbrev pub AreSaid : List (Module Text) → Type 0
AreSaid ms = AllByRecursion (λ m. (bytes : List ℕ) × IsSource bytes m.name m) ms

-- no two modules have one name
abbrev pub AreDifferent : List (Module Text) → Type 0
AreDifferent [] = Unit {0}
AreDifferent (m ∷ ms) = AllByRecursion (λ k. m.name ≡ k.name → ⊥) ms × AreDifferent ms

-- the names `m.x` of a module's items in their order
abbrev pub core_names : Module Text → List Text
core_names m = map (λ x. m.name ++ (codes "." ++ x.text)) (all_names m.items)

-- each text says its items, behind these and those of the texts before it
abbrev pub SayEach : List Written → List (List ℕ) → List (List Written) → Type 0
SayEach es [] [] = Unit {0}
SayEach es (text ∷ texts) (ws ∷ wss) = Says text (core.with_items es []) ws × SayEach (es ++ ws) texts wss
SayEach es texts wss = ⊥

-- the items of each module erase to its definitions
abbrev pub EraseEach : List ScopedModule → List (List Written) → Type 0
EraseEach [] [] = Unit {0}
EraseEach (r ∷ rs) (ws ∷ wss) = EraseTo (λ a b. a ≡ b) no_encodings r.items ws × EraseEach rs wss
EraseEach rs wss = ⊥

-- The names in the modules stand for this. The texts, one behind the other, say these items: those of a module have the names of its definitions in order, each
-- item's class and body erase to those of its definition, and the list of all items has a derivation.
pub record AreCoresOf (ms : List (Module Text)) (wss : List (List Written)) (texts : List (List ℕ)) : Type 0 where
  pub scoped : List ScopedModule
  pub scope : scoped_modules [] ms ≡ Ok scoped
  pub say : SayEach [] texts wss
  pub names : map names_of wss ≡ map core_names ms
  pub erase : EraseEach scoped wss
  pub derived : AreDerived (all_items wss)
