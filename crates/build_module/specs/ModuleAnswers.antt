-- What a module's file comes to, with n units for each comparison and each head form: the text of its Core file, or why there is none.
use Rattle.std.specs.Prelude.{◌≡◌, ◌<◌, ◌≤◌, ℕ, false, List, [], ◌∷◌, Option, Some, None, Result, Ok, Err, get_or, length}
use Rattle.cdle_model.specs.Forms.{Written}
use Rattle.source_model.specs.Source.{Span, Module}
use Rattle.scope_model.specs.Scope.{ScopeFault, all_names, scoped_module}
use Rattle.scope_model.specs.ScopeNames.{Text}
use Rattle.scope_model.specs.Scoped.{ScopedItem, ScopedModule}
use Rattle.elab_model.specs.declared.codes.Code.{Code}
use Rattle.elab_model.specs.Items.{item_of_source, items_of_source, names_of, source_name, with_items}
use Rattle.elab_model.specs.Questions.{Env, Finding, found, rejected, spent_at, too_deep, out_of_scope, answer}
use Rattle.elab_model.specs.Soundness.{no_encodings}
use Rattle.print_model.specs.Printed.{file_text}
use Rattle.build_model.specs.SourceFiles.{IsSource, SourceFault, IsFirstSourceFault}
use Rattle.build_model.specs.Unbuilt.{first_place, unbuilt_items}

-- The items that are given, and the text of their Core file. Or there is none: the bytes are no module; it has more Core items than may be; a name of it
-- does not stand for what is wanted; a form there is not built; the rules say this code there; a question there is spent; the item of that name is too deep.
pub data ModuleAnswer : Type 0 where
  gives : List Written → List ℕ → ModuleAnswer
  no_module : SourceFault → ModuleAnswer
  many_items : ModuleAnswer
  unscoped : ScopeFault → ModuleAnswer
  not_built : Span → ModuleAnswer
  refuses : Span → Code → ModuleAnswer
  spends : Span → ModuleAnswer
  deepens : Text → ModuleAnswer

-- the most Core items of all modules
abbrev pub most_items : ℕ
most_items = 10000

-- the place of the first import's name
abbrev pub first_import : List (Text × Span) → Option Span
first_import [] = None
first_import (i ∷ is) = Some i.1

-- where the first form of a module stands that is not built: imports are before all items
abbrev pub unbuilt_in : Module Text → ScopedModule → Option Span
unbuilt_in m r = first_place (first_import m.imports) (unbuilt_items r.items)

-- there are no items yet
abbrev pub nothing : Env
nothing = record { items = []; is_data = λ n. false }

-- by what is found, or where nothing is
abbrev pub if_found : {A B : Type 0} → Finding A → (A → B) → B → B
if_found (found x) f y = f x
if_found x f y = y

-- the name of the first of the items for which nothing is given, each over those before it
abbrev pub stuck_at : ℕ → Env → List ScopedItem → Text
stuck_at n e [] = []
stuck_at n e (i ∷ is) = if_found (answer e n (item_of_source e no_encodings i)) (λ w. stuck_at n (with_items e (w ∷ [])) is) (source_name i)

-- these items with their text, or the name of the first that nests too deep for one
abbrev pub printed : List Written → Result (List ℕ) ℕ → ModuleAnswer
printed ws (Ok text) = gives ws text
printed ws (Err i) = deepens (get_or (names_of ws) i [])

-- by what the rules give; w is the item for which they give nothing. Of what is out of scope nothing is said.
abbrev pub answered : Text → Finding (List Written) → Option ModuleAnswer
answered w (found ws) = Some (printed ws (file_text (names_of ws) ws))
answered w (rejected p c) = Some (refuses p c)
answered w (spent_at p) = Some (spends p)
answered w (too_deep p) = Some (deepens w)
answered w out_of_scope = None

-- the answer by the items of a module whose scope is known
abbrev pub answer_of : ℕ → ScopedModule → Option ModuleAnswer
answer_of n r = answered (stuck_at n nothing r.items) (items_of_source n nothing no_encodings r.items)

-- the bytes are a module of that name with no more Core items than may be
pub record IsModule (bytes : List ℕ) (name : Text) (m : Module Text) : Type 0 where
  pub source : IsSource bytes name m
  pub few : length (all_names m.items) ≤ most_items

-- likewise, each name in it stands for this, and all its forms are built
pub record IsScopedModule (bytes : List ℕ) (name : Text) (m : Module Text) (r : ScopedModule) : Type 0 where
  pub is : IsModule bytes name m
  pub scoped : scoped_module [] m ≡ Ok r
  pub built : unbuilt_in m r ≡ None

-- what the bytes of a module's file come to
abbrev pub IsModuleAnswer : ℕ → List ℕ → Text → ModuleAnswer → Type 0
IsModuleAnswer n bytes name (no_module f) = IsFirstSourceFault bytes name f
IsModuleAnswer n bytes name many_items = (m : Module Text) × IsSource bytes name m × (most_items < length (all_names m.items))
IsModuleAnswer n bytes name (unscoped f) = (m : Module Text) × IsModule bytes name m × (scoped_module [] m ≡ Err f)
IsModuleAnswer n bytes name (not_built p) = (m : Module Text) × IsModule bytes name m × (r : ScopedModule) × (scoped_module [] m ≡ Ok r) × (unbuilt_in m r ≡ Some p)
IsModuleAnswer n bytes name a = (m : Module Text) × (r : ScopedModule) × IsScopedModule bytes name m r × (answer_of n r ≡ Some a)
