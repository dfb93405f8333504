-- Source erasure: a scoped term to a pure term, a scoped type or kind to a guide or a guide kind.
use Rattle.std.specs.Prelude.{ℕ, List, [], ◌∷◌, Option, Some, None}
use Rattle.cdle_model.specs.Trees.{Tree, var, name, shift, put}
use Rattle.cdle_model.specs.Forms.{star, kpi, kpit, pi, all, allt, at_, on, iota, eq, guide_tlam, guide_xtlam, fn, ap}
use Rattle.cdle_model.specs.Erasure.{lowered}
use Rattle.cdle_model.specs.declared.grammar.Mode.{Mode}
use Rattle.cdle_model.specs.declared.grammar.Mode.TheVariants.{Kept}
use Rattle.source_model.specs.Source.{Pattern, CaseForm, mu_of, sigma_of, rho_of, phi_of, two, cases, branch}
use Rattle.scope_model.specs.Scoped.{Reference, variable, item, cast, Scoped}
use Rattle.elab_model.specs.ScopedForms.{s_name, s_lam, s_elam, s_xlam, s_unclassed, s_app, s_eapp, s_tapp, s_pair, s_fst, s_snd, s_beta, s_chi, s_flip, s_pi, s_all, s_allt, s_tlam, s_xtlam, s_iota, s_at, s_on, s_eq, s_star, s_kpi, s_kpit}

-- `λx.x`
abbrev pub identity : Tree
identity = fn (var 0)

-- the pure encoding of each item that is a constructor
abbrev pub Encodings : Type 0
Encodings = ℕ → Option Tree

abbrev pub encoded : ℕ → Option Tree → Tree
encoded n (Some p) = p
encoded n None = name n

abbrev pub name_erased : Encodings → Reference → Tree
name_erased f (variable i) = var i
name_erased f (item n) = encoded n (f n)
name_erased f (cast i) = identity

-- the functions over a pattern's kept names, of a part that stands under all its names
abbrev pub over_kept : Mode → Tree → Tree
over_kept Kept p = fn p
over_kept m p = lowered p

abbrev pub over_pattern : List (Pattern (Unit {0})) → Tree → Tree
over_pattern [] p = p
over_pattern (x ∷ xs) p = over_kept x.mode (over_pattern xs p)

-- a branch behind the binders of r and v: that of `μ` stands under its type, the proof and r
abbrev pub behind : CaseForm → Tree → Tree
behind mu_of p = shift 0 1 (put 1 star (put 1 star p))
behind sigma_of p = shift 0 2 p

-- a part that is left out is nothing, for which `λx.x` stands, as for `δ`; so `β` without braces becomes `λx.x`
abbrev mutual
  pub source_erased : Encodings → Scoped → Tree
  source_erased f (s_name s n) = name_erased f n
  source_erased f (s_lam s x a t) = fn (source_erased f t)
  source_erased f (s_elam s x a t) = lowered (source_erased f t)
  source_erased f (s_xlam s x k t) = lowered (source_erased f t)
  source_erased f (s_unclassed s x a t) = lowered (source_erased f t)
  source_erased f (s_app s t u) = ap (source_erased f t) (source_erased f u)
  source_erased f (s_eapp s t u) = source_erased f t
  source_erased f (s_tapp s t a) = source_erased f t
  source_erased f (s_pair s t u) = source_erased f t
  source_erased f (s_fst s t) = source_erased f t
  source_erased f (s_snd s t) = source_erased f t
  source_erased f (s_beta s x p) = source_erased f p
  source_erased f (two s rho_of p t) = source_erased f t
  source_erased f (two s phi_of q p) = source_erased f p
  source_erased f (s_chi s a t) = source_erased f t
  source_erased f (s_flip s q) = source_erased f q
  source_erased f (cases s m x d q bs) = ap (source_erased f d) (fn (fn (with_branches f m (var 0) bs)))
  source_erased f (s_pi s x a b) = pi (source_erased f a) (source_erased f b)
  source_erased f (s_all s x a b) = all (source_erased f a) (source_erased f b)
  source_erased f (s_allt s x k b) = allt (source_erased f k) (source_erased f b)
  source_erased f (s_tlam s x a b) = guide_tlam (source_erased f b)
  source_erased f (s_xtlam s x k b) = guide_xtlam (source_erased f b)
  source_erased f (s_iota s x a b) = iota (source_erased f a) (source_erased f b)
  source_erased f (s_at s a t) = at_ (source_erased f a) (source_erased f t)
  source_erased f (s_on s a b) = on (source_erased f a) (source_erased f b)
  source_erased f (s_eq s t u) = eq (source_erased f t) (source_erased f u)
  source_erased f (s_star s) = star
  source_erased f (s_kpi s x a k) = kpi (source_erased f a) (source_erased f k)
  source_erased f (s_kpit s x k l) = kpit (source_erased f k) (source_erased f l)
  source_erased f t = identity

  -- v applied to the branches
  pub with_branches : Encodings → CaseForm → Tree → Scoped → Tree
  with_branches f m p (branch s n xs t bs) = with_branches f m (ap p (behind m (over_pattern xs (source_erased f t)))) bs
  with_branches f m p t = p
