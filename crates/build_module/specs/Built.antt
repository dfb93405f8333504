-- What the text of a module's Core file is to the module.
use Rattle.std.specs.Prelude.{◌≡◌, ◌++◌, ℕ, List, [], Ok, codes, map}
use Rattle.cdle_model.specs.CoreText.{Says}
use Rattle.cdle_model.specs.Derivation.{AreDerived}
use Rattle.cdle_model.specs.Forms.{Written}
use Rattle.source_model.specs.Source.{Module}
use Rattle.scope_model.specs.Scope.{all_names, scoped_module}
use Rattle.scope_model.specs.ScopeNames.{Text}
use Rattle.scope_model.specs.Scoped.{ScopedModule}
use Rattle.elab_model.specs.Items.{EraseTo, names_of}
use Rattle.elab_model.specs.Soundness.{no_encodings}
use Rattle.build_model.specs.SourceFiles.{IsSource}

-- the names `m.x` of a module's items in their order
abbrev pub core_names : Module Text → List Text
core_names m = map (λ x. m.name ++ (codes "." ++ x.text)) (all_names m.items)

-- The source is a module of that name, in which each name stands for this. The Core text says these items: their names are those of the module's definitions
-- in order, each item's class and body erase to those of its definition, and the list of them has a derivation.
pub record IsCoreOf (source : List ℕ) (name : Text) (core : List ℕ) (ws : List Written) : Type 0 where
  pub parsed : Module Text
  pub scoped : ScopedModule
  pub source_says : IsSource source name parsed
  pub scope : scoped_module [] parsed ≡ Ok scoped
  pub core_says : Says core [] ws
  pub names : names_of ws ≡ core_names parsed
  pub erase : EraseTo (λ a b. a ≡ b) no_encodings scoped.items ws
  pub derived : AreDerived ws
