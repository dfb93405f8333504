-- The parts of a module as they are written, each with its place in the text: one type, grouped by shape as Core's trees are.
-- B is what a binder is: the name that is bound, or that none is. N is what a name stands there as: two names with `#` between them, or one;
-- in a module whose scope is known, the variable, the item or the cast for which it stands.
use Rattle.std.specs.Prelude.{ℕ, List, Option}
use Rattle.cdle_model.specs.declared.grammar.Sort.{Sort}
use Rattle.cdle_model.specs.declared.grammar.Mode.{Mode}

-- the place of a part: its first byte, and the byte behind its last; parentheses around it are left out
pub record Span : Type 0 where
  pub from : ℕ
  pub to : ℕ

-- forms without parts: the kind `★`; that a part is left out, or that no branch follows
pub data SourceLeaf : Type 0 where
  star_of none_of : SourceLeaf

-- forms of one part: `t.1`, `t.2`, `ς q`
pub data SourceOne : Type 0 where
  fst_of snd_of flip_of : SourceOne

-- forms of two parts: applications of terms to a kept term, an erased term and a type, and of types to a term and to a type; `[t, u]`, `{ t ≃ u }`;
-- `β<s>{p}` (each may be left out), `δ A - q` (A may be left out), `χ A - t`, `φ q - t { p }`, `ρ q @ x . G - t`;
-- `group_of` is no form by itself, it holds the first two parts of `φ`, its proof and its term
pub data SourceTwo : Type 0 where
  app_of eapp_of tapp_of at_of on_of pair_of eq_of beta_of delta_of chi_of phi_of rho_of group_of : SourceTwo

-- forms of two parts of which the second stands under the binder: classes (`Π`, `∀` and `λ` over a term or over a type, `ι`; kinds `Π` over a term or
-- a type), abstractions of terms (`λ`, `Λ` over a term, `Λ` over a type; without an annotation the first part is left out, and `unclassed_of` is the
-- `Λ` that has none); `guide_of` is no form by itself, it holds the proof and the guide of `ρ`
pub data SourceBinder : Type 0 where
  pi_of all_of allt_of tlam_of xtlam_of iota_of kpi_of kpit_of lam_of elam_of xlam_of unclassed_of guide_of : SourceBinder

-- `μ` and `σ`
pub data CaseForm : Type 0 where
  mu_of sigma_of : CaseForm

-- a name of a branch's pattern, with the place of that name
pub record Pattern (B : Type 0) : Type 0 where
  pub mode : Mode
  pub span : Span
  pub binder : B

-- a part of a module: a name as it is used, and the forms; branches are a chain, each with those that follow it
pub data Source (B N : Type 0) : Type 0 where
  use_of : Span → N → Source B N
  leaf : Span → SourceLeaf → Source B N
  one : Span → SourceOne → Source B N → Source B N
  two : Span → SourceTwo → Source B N → Source B N → Source B N
  bind : Span → SourceBinder → B → Source B N → Source B N → Source B N
  -- the variable of `μ`, what is taken apart, the motive or none, the branches
  cases : Span → CaseForm → B → Source B N → Source B N → Source B N → Source B N
  -- the place and name of the constructor, the pattern's names, the branch's part, the branches that follow
  branch : Span → N → List (Pattern B) → Source B N → Source B N → Source B N

-- a part that is left out has no place
pattern abbrev pub none : {B N : Type 0} → Span → Source B N
none s = leaf s none_of

-- the place of what is left out
abbrev pub nowhere : Span
nowhere = record { from = 0; to = 0 }

-- ---- items

-- a parameter of a datatype: a term where its class is a type, a type where it is a kind
pub record Parameter (B N : Type 0) : Type 0 where
  pub span : Span
  pub binder : B
  pub sort : Sort
  pub class : Source B N

-- X is what an item or a constructor is called
pub record Constructor (X B N : Type 0) : Type 0 where
  pub span : Span
  pub name : X
  pub type : Source B N

-- a definition of a term with its type, or of a type with its kind; a datatype with its parameters and constructors
pub data SourceItem (X B N : Type 0) : Type 0 where
  def_item : Span → X → Source B N → Source B N → SourceItem X B N
  type_item : Span → X → Source B N → Source B N → SourceItem X B N
  data_item : Span → X → List (Parameter B N) → List (Constructor X B N) → SourceItem X B N

-- ---- as a text writes them, with names of type A

-- a name, and before its `#` the name of the module that has it
pub record NameUse (A : Type 0) : Type 0 where
  pub owner : Option A
  pub name : A

-- a part whose binders are names or left out
abbrev pub Tree : Type 0 → Type 0
Tree A = Source (Option A) (NameUse A)

-- an item with such parts
abbrev pub Item : Type 0 → Type 0
Item A = SourceItem A (Option A) (NameUse A)

-- a module: its name, its imports with their places, and its items in order
pub record Module (A : Type 0) : Type 0 where
  pub name : A
  pub imports : List (A × Span)
  pub items : List (Item A)
