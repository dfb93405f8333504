-- The tree that a form stands for at a place.
use Rattle.std.specs.Prelude.{ℕ, List, [], ◌∷◌, Option, Some, None, map}
use Rattle.cdle_names.specs.declared.Span as names
use Rattle.cdle_names.specs.declared.table.NameId as table
use Rattle.source_model.specs.Source.{Span, Pattern, NameUse, Tree, use_of, leaf, one, two, bind, cases, branch, none, nowhere, star_of, fst_of, snd_of, flip_of, app_of, eapp_of, tapp_of, at_of, on_of, pair_of, eq_of, beta_of, delta_of, chi_of, phi_of, rho_of, group_of, pi_of, all_of, allt_of, tlam_of, xtlam_of, iota_of, kpi_of, kpit_of, lam_of, elam_of, xlam_of, unclassed_of, guide_of, mu_of, sigma_of}
use Rattle.surf_tree.specs.declared.names.NameUse as code
use Rattle.surf_tree.specs.declared.node.SrcPattern.{SrcPattern}
use Rattle.surf_tree.specs.declared.node.SrcBranch.{SrcBranch}
use Rattle.surf_tree.specs.declared.node.SrcClass.{SrcClass}
use Rattle.surf_tree.specs.declared.node.SrcClass.TheVariants.{OfKind, OfType}
use Rattle.surf_tree.specs.declared.node.SrcForm.{SrcForm}
use Rattle.surf_tree.specs.declared.node.SrcForm.TheVariants as t
use Rattle.surf_tree.specs.declared.node.SrcTypeForm.{SrcTypeForm}
use Rattle.surf_tree.specs.declared.node.SrcTypeForm.TheVariants as y
use Rattle.surf_tree.specs.declared.node.SrcKindForm.{SrcKindForm}
use Rattle.surf_tree.specs.declared.node.SrcKindForm.TheVariants as k

abbrev pub place : names.Span → Span
place s = record { from = s.from; to = s.to }

abbrev pub number : table.NameId → ℕ
number x = x.0

abbrev pub number_or_none : Option table.NameId → Option ℕ
number_or_none None = None
number_or_none (Some x) = Some x.0

abbrev pub name_use : code.NameUse → NameUse ℕ
name_use n = record { owner = number_or_none n.«module»; name = n.name.0 }

abbrev pub given : Option (Tree ℕ) → Tree ℕ
given None = none nowhere
given (Some t) = t

abbrev pub class_tree : SrcClass → Tree ℕ
class_tree (OfKind a) = a
class_tree (OfType a) = a

abbrev pub class_given : Option SrcClass → Tree ℕ
class_given None = none nowhere
class_given (Some c) = class_tree c

abbrev pub pattern_of : SrcPattern → Pattern (Option ℕ)
pattern_of p = record { mode = p.mode; span = place p.span; binder = Some p.name.0 }

abbrev pub chain : List SrcBranch → Tree ℕ
chain [] = none nowhere
chain (b ∷ bs) = branch (place b.span) (name_use b.ctor) (map pattern_of b.args.items) b.part (chain bs)

-- `Λ` by its class
abbrev pub erased_lambda : Span → ℕ → Option SrcClass → Tree ℕ → Tree ℕ
erased_lambda s x None p = bind s unclassed_of (Some x) (none nowhere) p
erased_lambda s x (Some (OfKind a)) p = bind s xlam_of (Some x) a p
erased_lambda s x (Some (OfType a)) p = bind s elam_of (Some x) a p

abbrev pub term_tree : Span → SrcForm → Tree ℕ
term_tree s (t.Name n) = use_of s (name_use n)
term_tree s (t.Lam x a p) = bind s lam_of (Some x.0) (given a) p
term_tree s (t.Elam x c p) = erased_lambda s x.0 c p
term_tree s (t.App h a) = two s app_of h a
term_tree s (t.Eapp h a) = two s eapp_of h a
term_tree s (t.Tapp h a) = two s tapp_of h a
term_tree s (t.Pair p q) = two s pair_of p q
term_tree s (t.Fst p) = one s fst_of p
term_tree s (t.Snd p) = one s snd_of p
term_tree s (t.Beta p q) = two s beta_of (given p) (given q)
term_tree s (t.Rho q x g p) = two s rho_of (bind s guide_of (Some x.0) q g) p
term_tree s (t.Phi q p r) = two s phi_of (two s group_of q p) r
term_tree s (t.Delta a q) = two s delta_of (given a) q
term_tree s (t.Chi a p) = two s chi_of a p
term_tree s (t.Flip q) = one s flip_of q
term_tree s (t.Mu x p a bs) = cases s mu_of (Some x.0) p (given a) (chain bs.items)
term_tree s (t.Sigma p a bs) = cases s sigma_of None p (given a) (chain bs.items)

abbrev pub type_tree : Span → SrcTypeForm → Tree ℕ
type_tree s (y.Name n) = use_of s (name_use n)
type_tree s (y.Pi x a b) = bind s pi_of (number_or_none x) a b
type_tree s (y.All x a b) = bind s all_of (number_or_none x) a b
type_tree s (y.Allt x a b) = bind s allt_of (number_or_none x) a b
type_tree s (y.Tlam x a b) = bind s tlam_of (Some x.0) a b
type_tree s (y.Xtlam x a b) = bind s xtlam_of (Some x.0) a b
type_tree s (y.At h a) = two s at_of h a
type_tree s (y.On h a) = two s on_of h a
type_tree s (y.Iota x a b) = bind s iota_of (Some x.0) a b
type_tree s (y.Eq p q) = two s eq_of p q

abbrev pub kind_tree : Span → SrcKindForm → Tree ℕ
kind_tree s k.Star = leaf s star_of
kind_tree s (k.Kpi x a b) = bind s kpi_of (number_or_none x) a b
kind_tree s (k.Kpit x a b) = bind s kpit_of (number_or_none x) a b
