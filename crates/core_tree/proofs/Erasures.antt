-- No erasure is deeper than what is erased.
use Rattle.std.proofs.Common.{◌≤◌, arith}
use Rattle.cdle_model.specs.Trees.{of_pure, of_term, of_type, group_of, rho_of, phi_of, pi_of, all_of, allt_of, iota_of, kpi_of, kpit_of, tlam_of, xtlam_of, lam_of, elam_of, xlam_of, pair_of, guide_of, eq_of, app_of, eapp_of, tapp_of, beta_of, delta_of, fst_of, snd_of, Tree, var, name, leaf, unary, fun, apply, binary, bind}
use Rattle.cdle_model.specs.Depth.{depth}
use Rattle.cdle_model.specs.Erasure.{erased}
use Rattle.cdle_model.proofs.Trees.{depth_lowered}

pub depth_erased : (t : Tree) → depth (erased t) ≤ depth t
depth_erased (var i) = omega arith
depth_erased (name n) = omega arith
depth_erased (leaf l) = omega arith
depth_erased (unary fst_of p) = omega (arith, depth_erased p)
depth_erased (unary snd_of p) = omega (arith, depth_erased p)
depth_erased (fun c p) = omega arith
depth_erased (apply of_pure p q) = omega arith
depth_erased (apply of_term p q) = omega (arith, depth_erased p, depth_erased q)
depth_erased (apply of_type p q) = omega (arith, depth_erased p, depth_erased q)
depth_erased (binary eq_of p q) = omega arith
depth_erased (binary app_of p q) = omega (arith, depth_erased p, depth_erased q)
depth_erased (binary eapp_of p q) = omega (arith, depth_erased p)
depth_erased (binary tapp_of p q) = omega (arith, depth_erased p)
depth_erased (binary group_of p q) = omega (arith, depth_erased q)
depth_erased (binary beta_of p q) = omega arith
depth_erased (binary rho_of p q) = omega (arith, depth_erased q)
depth_erased (binary phi_of p q) = omega arith
depth_erased (binary delta_of p q) = omega arith
depth_erased (bind pi_of p q) = omega (arith, depth_erased p, depth_erased q)
depth_erased (bind all_of p q) = omega (arith, depth_erased p, depth_erased q)
depth_erased (bind allt_of p q) = omega (arith, depth_erased p, depth_erased q)
depth_erased (bind iota_of p q) = omega (arith, depth_erased p, depth_erased q)
depth_erased (bind kpi_of p q) = omega (arith, depth_erased p, depth_erased q)
depth_erased (bind kpit_of p q) = omega (arith, depth_erased p, depth_erased q)
depth_erased (bind tlam_of p q) = omega (arith, depth_erased q)
depth_erased (bind xtlam_of p q) = omega (arith, depth_erased q)
depth_erased (bind lam_of p q) = omega (arith, depth_erased q)
depth_erased (bind elam_of p q) = let e = depth_lowered 0 (erased q) in omega (arith, depth_erased q)
depth_erased (bind xlam_of p q) = let e = depth_lowered 0 (erased q) in omega (arith, depth_erased q)
depth_erased (bind pair_of p q) = omega (arith, depth_erased p)
depth_erased (bind guide_of p q) = omega (arith, depth_erased p)
