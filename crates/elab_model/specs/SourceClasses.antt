-- Which scoped trees are terms, types and kinds, with each variable and item used in its class: what the surface rules are asked of.
use Rattle.std.specs.Prelude.{◌≡◌, ◌⊎◌, true, List, ◌∷◌, Some, slice_get}
use Rattle.cdle_model.specs.declared.grammar.Sort.{Sort}
use Rattle.cdle_model.specs.declared.grammar.Sort.TheVariants.{OfTerm, OfType}
use Rattle.cdle_model.specs.Classes.{TreeClass, terms, types, kinds}
use Rattle.scope_model.specs.Scoped.{Reference, variable, item, cast, Scoped}
use Rattle.source_model.specs.Heights.{is_none}
use Rattle.elab_model.specs.ScopedForms.{s_name, s_lam, s_elam, s_xlam, s_unclassed, s_app, s_eapp, s_tapp, s_pair, s_fst, s_snd, s_beta, s_rho, s_phi, s_delta, s_chi, s_flip, s_pi, s_all, s_allt, s_tlam, s_xtlam, s_iota, s_at, s_on, s_eq, s_star, s_kpi, s_kpit}

-- no part is written there
abbrev pub IsLeftOut : Scoped → Type 0
IsLeftOut a = is_none a ≡ true

-- the name stands for a variable of the context or an item, of this sort (a cast stands in its branch alone, and there are none so far)
abbrev pub IsUse : List Sort → List Sort → Sort → Reference → Type 0
IsUse vs xs x (variable i) = slice_get vs i ≡ Some x
IsUse vs xs x (item n) = slice_get xs n ≡ Some x
IsUse vs xs x (cast i) = ⊥

-- over variables and items of these sorts; `Λ` whose variable is not used has it of either sort
abbrev pub SourceFits : List Sort → List Sort → TreeClass → Scoped → Type 0
SourceFits vs xs terms (s_name s n) = IsUse vs xs OfTerm n
SourceFits vs xs terms (s_lam s x a t) = (IsLeftOut a ⊎ SourceFits vs xs types a) × SourceFits (OfTerm ∷ vs) xs terms t
SourceFits vs xs terms (s_elam s x a t) = (IsLeftOut a ⊎ SourceFits vs xs types a) × SourceFits (OfTerm ∷ vs) xs terms t
SourceFits vs xs terms (s_xlam s x k t) = (IsLeftOut k ⊎ SourceFits vs xs kinds k) × SourceFits (OfType ∷ vs) xs terms t
SourceFits vs xs terms (s_unclassed s x a t) = SourceFits (OfTerm ∷ vs) xs terms t × SourceFits (OfType ∷ vs) xs terms t
SourceFits vs xs terms (s_app s t u) = SourceFits vs xs terms t × SourceFits vs xs terms u
SourceFits vs xs terms (s_eapp s t u) = SourceFits vs xs terms t × SourceFits vs xs terms u
SourceFits vs xs terms (s_tapp s t a) = SourceFits vs xs terms t × SourceFits vs xs types a
SourceFits vs xs terms (s_pair s t u) = SourceFits vs xs terms t × SourceFits vs xs terms u
SourceFits vs xs terms (s_fst s t) = SourceFits vs xs terms t
SourceFits vs xs terms (s_snd s t) = SourceFits vs xs terms t
SourceFits vs xs terms (s_beta s x p) = (IsLeftOut x ⊎ SourceFits vs xs terms x) × (IsLeftOut p ⊎ SourceFits vs xs terms p)
SourceFits vs xs terms (s_rho s r x q d t) = SourceFits vs xs terms q × SourceFits (OfTerm ∷ vs) xs types d × SourceFits vs xs terms t
SourceFits vs xs terms (s_phi s r q t p) = SourceFits vs xs terms q × SourceFits vs xs terms t × SourceFits vs xs terms p
SourceFits vs xs terms (s_delta s a q) = (IsLeftOut a ⊎ SourceFits vs xs types a) × SourceFits vs xs terms q
SourceFits vs xs terms (s_chi s a t) = SourceFits vs xs types a × SourceFits vs xs terms t
SourceFits vs xs terms (s_flip s q) = SourceFits vs xs terms q
SourceFits vs xs types (s_name s n) = IsUse vs xs OfType n
SourceFits vs xs types (s_pi s x a b) = SourceFits vs xs types a × SourceFits (OfTerm ∷ vs) xs types b
SourceFits vs xs types (s_all s x a b) = SourceFits vs xs types a × SourceFits (OfTerm ∷ vs) xs types b
SourceFits vs xs types (s_iota s x a b) = SourceFits vs xs types a × SourceFits (OfTerm ∷ vs) xs types b
SourceFits vs xs types (s_allt s x k b) = SourceFits vs xs kinds k × SourceFits (OfType ∷ vs) xs types b
SourceFits vs xs types (s_tlam s x a b) = SourceFits vs xs types a × SourceFits (OfTerm ∷ vs) xs types b
SourceFits vs xs types (s_xtlam s x k b) = SourceFits vs xs kinds k × SourceFits (OfType ∷ vs) xs types b
SourceFits vs xs types (s_at s a t) = SourceFits vs xs types a × SourceFits vs xs terms t
SourceFits vs xs types (s_on s a b) = SourceFits vs xs types a × SourceFits vs xs types b
SourceFits vs xs types (s_eq s t u) = SourceFits vs xs terms t × SourceFits vs xs terms u
SourceFits vs xs kinds (s_star s) = Unit {0}
SourceFits vs xs kinds (s_kpi s x a k) = SourceFits vs xs types a × SourceFits (OfTerm ∷ vs) xs kinds k
SourceFits vs xs kinds (s_kpit s x k l) = SourceFits vs xs kinds k × SourceFits (OfType ∷ vs) xs kinds l
SourceFits vs xs c t = ⊥
