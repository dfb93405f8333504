-- The trees for which nodes stand.
use Rattle.std.specs.Prelude.{◌≡◌, ℕ, suc, ◌≤◌, List, [], ◌∷◌, max, map}
use Rattle.cdle_names.specs.declared.Span as names
use Rattle.source_model.specs.Source.{Span, Pattern, Source, use_of, leaf, one, two, bind, cases, branch, none, nowhere, SourceLeaf, star_of, none_of, SourceOne, fst_of, snd_of, flip_of, SourceTwo, app_of, eapp_of, tapp_of, at_of, on_of, pair_of, eq_of, beta_of, delta_of, chi_of, phi_of, rho_of, group_of, SourceBinder, pi_of, all_of, allt_of, tlam_of, xtlam_of, iota_of, kpi_of, kpit_of, lam_of, elam_of, xlam_of, unclassed_of, guide_of, mu_of, sigma_of}
use Rattle.source_model.specs.Source as source
use Rattle.scope_model.specs.Scoped as model
use Rattle.scoped_tree.specs.declared.forms.Reference.{Reference}
use Rattle.scoped_tree.specs.declared.forms.Reference.TheVariants.{Variable, Item, Cast}
use Rattle.scoped_tree.specs.declared.forms.LeafForm.{LeafForm}
use Rattle.scoped_tree.specs.declared.forms.LeafForm.TheVariants as l
use Rattle.scoped_tree.specs.declared.forms.OneForm.{OneForm}
use Rattle.scoped_tree.specs.declared.forms.OneForm.TheVariants as o
use Rattle.scoped_tree.specs.declared.forms.TwoForm.{TwoForm}
use Rattle.scoped_tree.specs.declared.forms.TwoForm.TheVariants as t
use Rattle.scoped_tree.specs.declared.forms.BindForm.{BindForm}
use Rattle.scoped_tree.specs.declared.forms.BindForm.TheVariants as b
use Rattle.scoped_tree.specs.declared.forms.CaseForm.{CaseForm}
use Rattle.scoped_tree.specs.declared.forms.CaseForm.TheVariants as c
use Rattle.scoped_tree.specs.declared.forms.Argument.{Argument}
use Rattle.scoped_tree.specs.declared.node.ScopedBranch.{ScopedBranch}
use Rattle.scoped_tree.specs.declared.node.ScopedForm.{ScopedForm}
use Rattle.scoped_tree.specs.declared.node.ScopedForm.TheVariants.{Use, Leaf, One, Two, Bind, Cases}

abbrev pub place : names.Span → Span
place s = record { from = s.from; to = s.to }

abbrev pub reference : Reference → model.Reference
reference (Variable n) = model.variable n
reference (Item n) = model.item n
reference (Cast n) = model.cast n

abbrev pub leaf_form : LeafForm → SourceLeaf
leaf_form l.Star = star_of
leaf_form l.LeftOut = none_of

abbrev pub one_form : OneForm → SourceOne
one_form o.Fst = fst_of
one_form o.Snd = snd_of
one_form o.Flip = flip_of

abbrev pub two_form : TwoForm → SourceTwo
two_form t.App = app_of
two_form t.Eapp = eapp_of
two_form t.Tapp = tapp_of
two_form t.At = at_of
two_form t.On = on_of
two_form t.Pair = pair_of
two_form t.Eq = eq_of
two_form t.Beta = beta_of
two_form t.Delta = delta_of
two_form t.Chi = chi_of
two_form t.Phi = phi_of
two_form t.Rho = rho_of
two_form t.Group = group_of

abbrev pub bind_form : BindForm → SourceBinder
bind_form b.Pi = pi_of
bind_form b.All = all_of
bind_form b.Allt = allt_of
bind_form b.Tlam = tlam_of
bind_form b.Xtlam = xtlam_of
bind_form b.Iota = iota_of
bind_form b.Kpi = kpi_of
bind_form b.Kpit = kpit_of
bind_form b.Lam = lam_of
bind_form b.Elam = elam_of
bind_form b.Xlam = xlam_of
bind_form b.Unclassed = unclassed_of
bind_form b.Guide = guide_of

abbrev pub case_form : CaseForm → source.CaseForm
case_form c.Mu = mu_of
case_form c.Sigma = sigma_of

abbrev pub argument : Argument → Pattern (Unit {0})
argument p = record { mode = p.mode; span = place p.span; binder = tt }

-- branches are a chain, each with those that follow it
abbrev pub chain : List ScopedBranch → model.Scoped
chain [] = none nowhere
chain (b ∷ bs) = branch (place b.span) (reference b.ctor) (map argument b.args.items) b.part (chain bs)

abbrev pub form_tree : Span → ScopedForm → model.Scoped
form_tree s (Use r) = use_of s (reference r)
form_tree s (Leaf f) = leaf s (leaf_form f)
form_tree s (One f p) = one s (one_form f) p
form_tree s (Two f p q) = two s (two_form f) p q
form_tree s (Bind f p q) = bind s (bind_form f) tt p q
form_tree s (Cases f p m bs) = cases s (case_form f) tt p m (chain bs.items)

-- each form is one level, and a branch is as high as its part
abbrev pub levels : {B N : Type 0} → Source B N → ℕ
levels (use_of s n) = 1
levels (leaf s f) = 1
levels (one s f p) = suc (levels p)
levels (two s f p q) = suc (max (levels p) (levels q))
levels (bind s f x p q) = suc (max (levels p) (levels q))
levels (cases s f x p m bs) = suc (max (levels p) (max (levels m) (levels bs)))
levels (branch s n xs p bs) = max (levels p) (levels bs)

-- what a node keeps
pub record IsNode (kept : ℕ) (t : model.Scoped) : Type 0 where
  pub is : kept ≡ levels t
  pub bounded : kept ≤ 16384
