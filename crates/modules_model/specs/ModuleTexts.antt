-- What modules in their order come to, with n units for each comparison and each head form: the texts of their Core files, or the first reason why there are none.
-- Modules are numbered from 0 as they stand in the order, and each is over the items of those before it.
use Rattle.std.specs.Prelude.{ℕ, suc, ◌+◌, nat_lt, if◌then◌else◌, false, List, [], ◌∷◌, ◌++◌, Option, Some, None, Result, Ok, Err, get_or, length, option_map}
use Rattle.cdle_model.specs.Forms.{Written}
use Rattle.source_model.specs.Source.{Span, Module}
use Rattle.scope_model.specs.Scope.{ScopeFault, all_names, scoped_module, with_module}
use Rattle.scope_model.specs.ScopeNames.{Exported, Text}
use Rattle.scope_model.specs.Scoped.{ScopedItem, ScopedModule}
use Rattle.elab_model.specs.declared.codes.Code.{Code}
use Rattle.elab_model.specs.Items.{item_of_source, items_of_source, names_of, source_name, with_items}
use Rattle.elab_model.specs.Questions.{Env, Finding, found, rejected, spent_at, too_deep, out_of_scope, answer}
use Rattle.elab_model.specs.Soundness.{no_encodings}
use Rattle.print_model.specs.Printed.{file_text}
use Rattle.build_model.specs.Unbuilt.{unbuilt_items}

-- The items of each module and the text of its Core file. Or there are none: with the module of that number there are more Core items than may be; a name in it
-- does not stand for what is wanted; a form in it is not built; the rules say this code there; a question there is spent; the item of that name is too deep.
pub data TextsAnswer : Type 0 where
  all_given : List (List Written) → List (List ℕ) → TextsAnswer
  many_items : ℕ → TextsAnswer
  unscoped : ℕ → ScopeFault → TextsAnswer
  not_built : ℕ → Span → TextsAnswer
  refuses : ℕ → Span → Code → TextsAnswer
  spends : ℕ → Span → TextsAnswer
  deepens : Text → TextsAnswer

-- what the first module gives before what those behind it give, or where they end
abbrev pub with_first : {A E : Type 0} → A → Result (List A) (ℕ × E) → Result (List A) (ℕ × E)
with_first x (Ok xs) = Ok (x ∷ xs)
with_first x (Err e) = Err (suc e.0, e.1)

-- ---- how many items there are

-- the most Core items of all modules
abbrev pub most_items : ℕ
most_items = 10000

-- the first module with which, behind so many Core items, there are more than may be
abbrev pub past_limit : ℕ → List (Module Text) → Option ℕ
past_limit so_far [] = None
past_limit so_far (m ∷ ms) = if nat_lt most_items (so_far + length (all_names m.items)) then Some 0 else option_map suc (past_limit (so_far + length (all_names m.items)) ms)

-- ---- what names stand for

abbrev pub scoped_then : Result ScopedModule ScopeFault → Result (List ScopedModule) (ℕ × ScopeFault) → Result (List ScopedModule) (ℕ × ScopeFault)
scoped_then (Ok r) rest = with_first r rest
scoped_then (Err f) rest = Err (0, f)

-- the scope of each module behind those that are known and those before it, or the first fault
abbrev pub scoped_modules : List Exported → List (Module Text) → Result (List ScopedModule) (ℕ × ScopeFault)
scoped_modules known [] = Ok []
scoped_modules known (m ∷ ms) = scoped_then (scoped_module known m) (scoped_modules (with_module known m) ms)

-- ---- what is built

abbrev pub unbuilt_then : Option Span → Option (ℕ × Span) → Option (ℕ × Span)
unbuilt_then (Some p) rest = Some (0, p)
unbuilt_then None rest = option_map (λ x. (suc x.0, x.1)) rest

-- the first module with a form that is not built, and where its first stands
abbrev pub unbuilt_modules : List ScopedModule → Option (ℕ × Span)
unbuilt_modules [] = None
unbuilt_modules (r ∷ rs) = unbuilt_then (unbuilt_items r.items) (unbuilt_modules rs)

-- ---- what the rules give

-- there are no items yet
abbrev pub nothing : Env
nothing = record { items = []; is_data = λ n. false }

-- by what is found, or where nothing is
abbrev pub if_found : {A B : Type 0} → Finding A → (A → B) → B → B
if_found (found x) f y = f x
if_found x f y = y

-- the name of the first of the items for which nothing is given, each over those before it
abbrev pub stuck_at : ℕ → Env → List ScopedItem → Text
stuck_at n e [] = []
stuck_at n e (i ∷ is) = if_found (answer e n (item_of_source e no_encodings i)) (λ w. stuck_at n (with_items e (w ∷ [])) is) (source_name i)

-- a module for whose items nothing is given: what is found in place of them, and the name of the item at which that is
pub record Stuck : Type 0 where
  pub item : Text
  pub finding : Finding (List Written)

abbrev pub given_then : Text → Finding (List Written) → (List Written → Result (List (List Written)) (ℕ × Stuck)) → Result (List (List Written)) (ℕ × Stuck)
given_then w (found ws) rest = with_first ws (rest ws)
given_then w x rest = Err (0, record { item = w; finding = x })

-- the items that the rules give for each module, behind these and those of the modules before it; or the first module for which they give none
abbrev pub given_modules : ℕ → Env → List ScopedModule → Result (List (List Written)) (ℕ × Stuck)
given_modules n e [] = Ok []
given_modules n e (r ∷ rs) = given_then (stuck_at n e r.items) (items_of_source n e no_encodings r.items) (λ ws. given_modules n (with_items e ws) rs)

-- ---- what is printed

abbrev pub text_then : List Written → Result (List ℕ) ℕ → Result (List (List ℕ)) Text → Result (List (List ℕ)) Text
text_then ws (Ok text) (Ok texts) = Ok (text ∷ texts)
text_then ws (Ok text) (Err w) = Err w
text_then ws (Err i) rest = Err (get_or (names_of ws) i [])

-- the texts of files for these items, behind items of these names; or the name of the first item that nests too deep for one
abbrev pub printed_files : List Text → List (List Written) → Result (List (List ℕ)) Text
printed_files names [] = Ok []
printed_files names (ws ∷ wss) = text_then ws (file_text (names ++ names_of ws) ws) (printed_files (names ++ names_of ws) wss)

-- ---- all of it, stage after stage, each over all modules

abbrev pub by_texts : List (List Written) → Result (List (List ℕ)) Text → TextsAnswer
by_texts wss (Ok texts) = all_given wss texts
by_texts wss (Err w) = deepens w

-- why nothing is given for the module of that number; nothing is said of what is out of scope
abbrev pub refusal_of : ℕ → Text → Finding (List Written) → Option TextsAnswer
refusal_of i w (found ws) = None
refusal_of i w (rejected p c) = Some (refuses i p c)
refusal_of i w (spent_at p) = Some (spends i p)
refusal_of i w (too_deep p) = Some (deepens w)
refusal_of i w out_of_scope = None

abbrev pub by_rules : Result (List (List Written)) (ℕ × Stuck) → Option TextsAnswer
by_rules (Ok wss) = Some (by_texts wss (printed_files [] wss))
by_rules (Err e) = refusal_of e.0 e.1.item e.1.finding

abbrev pub by_forms : ℕ → List ScopedModule → Option (ℕ × Span) → Option TextsAnswer
by_forms n rs (Some x) = Some (not_built x.0 x.1)
by_forms n rs None = by_rules (given_modules n nothing rs)

abbrev pub by_scope : ℕ → Result (List ScopedModule) (ℕ × ScopeFault) → Option TextsAnswer
by_scope n (Ok rs) = by_forms n rs (unbuilt_modules rs)
by_scope n (Err e) = Some (unscoped e.0 e.1)

abbrev pub by_count : ℕ → List (Module Text) → Option ℕ → Option TextsAnswer
by_count n ms (Some i) = Some (many_items i)
by_count n ms None = by_scope n (scoped_modules [] ms)

-- what modules in their order come to
abbrev pub texts_answer : ℕ → List (Module Text) → Option TextsAnswer
texts_answer n ms = by_count n ms (past_limit 0 ms)
