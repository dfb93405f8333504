-- Erasure: a term to a pure term, a type to a guide, a kind to a guide kind.
use Rattle.std.specs.Prelude.{◌≡◌, true}
use Rattle.cdle_model.specs.Trees.{group_of, rho_of, phi_of, pair_of, guide_of, Tree, var, name, leaf, unary, fun, apply, binary, bind, put, lacks}
use Rattle.cdle_model.specs.Forms.{star, kpi, kpit, pi, all, allt, at_, on, iota, tlam, xtlam, guide_tlam, guide_xtlam, fn, ap, lam, elam, xlam, app, eapp, tapp, fst, snd, beta, delta}

-- an erased binder's variable is taken out of the numbering
abbrev pub lowered : Tree → Tree
lowered p = put 0 star p

-- (pair t u a) erases as t, (rho q g a t) as t, (phi q t p) as p;
-- pure terms, guides and guide kinds erase to themselves
abbrev pub erased : Tree → Tree
erased (lam a t) = fn (erased t)
erased (elam a t) = lowered (erased t)
erased (xlam k t) = lowered (erased t)
erased (app t u) = ap (erased t) (erased u)
erased (eapp t u) = erased t
erased (tapp t a) = erased t
erased (bind pair_of p a) = erased p
erased (fst t) = erased t
erased (snd t) = erased t
erased (beta p k) = k
erased (binary rho_of p q) = erased q
erased (binary phi_of p q) = q
erased (delta a q) = fn (var 0)
erased (tlam a b) = guide_tlam (erased b)
erased (xtlam k b) = guide_xtlam (erased b)
erased (at_ a t) = at_ (erased a) (erased t)
erased (on a b) = on (erased a) (erased b)
erased (pi a b) = pi (erased a) (erased b)
erased (all a b) = all (erased a) (erased b)
erased (allt k b) = allt (erased k) (erased b)
erased (iota a b) = iota (erased a) (erased b)
erased (kpi a k) = kpi (erased a) (erased k)
erased (kpit k l) = kpit (erased k) (erased l)
erased (bind guide_of p a) = erased p
erased (binary group_of p q) = erased q
erased t = t

-- the erasure is defined: no binder that is erased has its variable in the erasure of its body
-- (where each variable is used in its class, only that of an `elam` can stand there)
abbrev pub HasErasure : Tree → Type 0
HasErasure (var i) = Unit {0}
HasErasure (name n) = Unit {0}
HasErasure (leaf l) = Unit {0}
HasErasure (unary j p) = HasErasure p
HasErasure (fun c p) = HasErasure p
HasErasure (apply c p q) = HasErasure p × HasErasure q
HasErasure (binary j p q) = HasErasure p × HasErasure q
HasErasure (elam a t) = HasErasure a × HasErasure t × (lacks 0 (erased t) ≡ true)
HasErasure (xlam k t) = HasErasure k × HasErasure t × (lacks 0 (erased t) ≡ true)
HasErasure (bind f p q) = HasErasure p × HasErasure q
