-- What the names of a module stand for at a place of it.
use Rattle.std.specs.Prelude.{ℕ, ◌+◌, Bool, false, ◌||◌, if◌then◌else◌, codes, List, [], ◌∷◌, Option, Some, None}
use Rattle.std.specs.Str.{bytes_eq}
use Rattle.cdle_model.specs.declared.grammar.Sort.{Sort}
use Rattle.cdle_model.specs.declared.grammar.Sort.TheVariants.{OfTerm}
use Rattle.cdle_model.specs.CoreNames.{Name}
use Rattle.source_model.specs.Source.{NameUse}
use Rattle.scope_model.specs.Scoped.{Reference, variable, item, cast}

-- a name as its bytes
abbrev pub Text : Type 0
Text = List ℕ

-- A binder around a place: what it is called, if anything, and what it binds: a variable of a sort, or the proof of a branch, of which no name is a
-- name, but along which `to/r` casts.
pub data Binding : Type 0 where
  Variable : Sort → Binding
  Proof : Binding

-- a binder by its name, if it has one
pub record Bound : Type 0 where
  pub name : Option Text
  pub binding : Binding

-- a module whose scope is known, with the names of its items in order, of which the first has this number among all Core items
pub record Exported : Type 0 where
  pub name : Text
  pub first : ℕ
  pub items : List Name

-- What is known at an item: the module's own name and its imports in order, the modules whose scope is known (`prelude` is one of them), the items
-- before this one in order, and the number of the module's first.
pub record Around : Type 0 where
  pub name : Text
  pub imports : List Text
  pub modules : List Exported
  pub first : ℕ
  pub own : List Name

-- what a name stands for, and whether that is a term or a type
abbrev pub Standing : Type 0
Standing = Sort × Reference

-- the binder has that name
abbrev pub is_called : Text → Option Text → Bool
is_called w None = false
is_called w (Some x) = bytes_eq w x

-- what a name stands for by a binder, which has this number; the name of a proof is `to/r`
abbrev pub standing : ℕ → Binding → Standing
standing n (Variable s) = (s, variable n)
standing n Proof = (OfTerm, cast n)

-- the innermost binder that is called so, where the first has this number
unfoldable pub bound : Text → ℕ → List Bound → Option Standing
bound w n [] = None
bound w n (b ∷ bs) = if is_called w b.name then Some (standing n b.binding) else bound w (n + 1) bs

-- the first that there is
abbrev pub or_else : Option Standing → Option Standing → Option Standing
or_else (Some x) other = Some x
or_else None other = other

-- the item of that name, where the first has this number; where two have it, the later one
unfoldable pub listed : Text → ℕ → List Name → Option Standing
listed w n [] = None
listed w n (x ∷ xs) = or_else (listed w (n + 1) xs) (if bytes_eq w x.text then Some (x.sort, item n) else None)

-- the item of a module that is known
unfoldable pub exported : Text → Text → List Exported → Option Standing
exported m w [] = None
exported m w (x ∷ xs) = if bytes_eq m x.name then listed w x.first x.items else exported m w xs

-- the item of the first of these modules that has one
unfoldable pub imported : List Text → Text → List Exported → Option Standing
imported [] w known = None
imported (m ∷ ms) w known = or_else (exported m w known) (imported ms w known)

-- the module that every other knows without importing it
abbrev pub prelude : Text
prelude = codes "prelude"

-- the name is one of these
abbrev pub is_one_of : Text → List Text → Bool
is_one_of w [] = false
is_one_of w (x ∷ xs) = bytes_eq w x || is_one_of w xs

-- the innermost binder, else this module's item, else that of the first import that has one, else the prelude's
abbrev pub stands_alone : Around → List Bound → Text → Option Standing
stands_alone a bs w = or_else (bound w 0 bs) (or_else (listed w a.first a.own) (or_else (imported a.imports w a.modules) (exported prelude w a.modules)))

-- the item of this module, of a direct import or of the prelude
abbrev pub stands_in : Around → Text → Text → Option Standing
stands_in a m w =
    if bytes_eq m a.name then listed w a.first a.own
    else (if bytes_eq m prelude || is_one_of m a.imports then exported m w a.modules else None)

-- a name that may have a module's before it
abbrev pub with_owner : Around → List Bound → Option Text → Text → Option Standing
with_owner a bs None w = stands_alone a bs w
with_owner a bs (Some m) w = stands_in a m w

-- what a name stands for, by itself or with a module's name before it
unfoldable pub stands : Around → List Bound → NameUse Text → Option Standing
stands a bs u = with_owner a bs u.owner u.name
