use Rattle.std.proofs.Common.{◌≡◌, ◌<◌, false, true, length, sym, arith}
use Rattle.elab_match.proofs.Finding.{leads_on, leads_nowhere, one_more}
use Rattle.elab_match.proofs.matching.extended.Goals as goal

pub returns-then-not-branch : goal.returns-then-not-branch
returns-then-not-branch c =
    let t = c.unknowns-test.true in
    let l : length c.unknowns.found < length c.args.solution.now = omega (arith, c.len.ensures, c.len-in-unknowns.ensures) in
    let h = c.if-not-branch.true in
    let e : c.in_ok-extend.field-0 ≡ false = grind arith in
    sym (leads_nowhere c.args.solution.now c.unknowns.found c.extend.new.found c.args.pattern.now c.args.target.now c.in_ok-extend.field-0 l c.unknowns.invariant.1 c.in_ok-extend.ensures e)

pub unknowns-preserved : goal.unknowns-preserved
unknowns-preserved c =
    let t = c.unknowns-test.true in
    let l : length c.unknowns.found < length c.args.solution.now = omega (arith, c.len.ensures, c.len-in-unknowns.ensures) in
    let h = c.if-not-branch.false in
    let e : c.in_ok-extend.field-0 ≡ true = grind arith in
    let n = one_more c.unknowns.found c.extend.new.found _ c.in_ok-extend.field-0 c.in_ok-extend.ensures e in (
      omega arith,
      leads_on c.args.solution.now c.unknowns.found c.extend.new.found c.args.pattern.now c.args.target.now c.in_ok-extend.field-0 l c.unknowns.invariant.1 c.in_ok-extend.ensures e,
    )
