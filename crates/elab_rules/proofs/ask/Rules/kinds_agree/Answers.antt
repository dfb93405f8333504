use Rattle.std.proofs.Common.{Ok, ◌+◌, drop, sym, ◌∙◌, arith}
use Rattle.std.proofs.lemmas.Result.{err_from_is_err_and}
use Rattle.scoped_tree.specs.Trees.{place}
use Rattle.elab_rules.specs.Contexts.{entries}
use Rattle.elab_rules.proofs.Closing.{agreeing, agree_on, agree_ends, no_more, no_more_found, no_more_kinds}
use Rattle.elab_rules.proofs.Steps.{alike}
use Rattle.elab_rules.proofs.ask.Rules.kinds_agree.Goals as goal

pub returns-in_default : goal.returns-in_default
returns-in_default c = alike c.args.self.now.env.now c.args.self.now.budget (agreeing c.args.self.now.env.now c.args.self.now.budget (place c.args.whole) (entries c.args.context.now) c.args.found.now (drop c.unknowns.number c.args.found.now) (drop c.unknowns.number c.args.kinds.now.items)) (agreeing c.args.self.now.env.now c.args.self.now.budget (place c.args.whole) (entries c.args.context.now) c.args.found.now c.args.found.now c.args.kinds.now.items) (Ok (tt {0})) c.unknowns.invariant (no_more_found c.args.self.now.env.now c.args.self.now.budget (place c.args.whole) (entries c.args.context.now) c.args.found.now c.unknowns.number c.args.found.now c.args.kinds.now.items c.in_default.ensures)

pub returns-then-number-len : goal.returns-then-number-len
returns-then-number-len c = alike c.args.self.now.env.now c.args.self.now.budget (agreeing c.args.self.now.env.now c.args.self.now.budget (place c.args.whole) (entries c.args.context.now) c.args.found.now (drop c.unknowns.number c.args.found.now) (drop c.unknowns.number c.args.kinds.now.items)) (agreeing c.args.self.now.env.now c.args.self.now.budget (place c.args.whole) (entries c.args.context.now) c.args.found.now c.args.found.now c.args.kinds.now.items) (Ok (tt {0})) c.unknowns.invariant (no_more_kinds c.args.self.now.env.now c.args.self.now.budget (place c.args.whole) (entries c.args.context.now) c.args.found.now c.unknowns.number c.args.found.now c.args.kinds.now.items (let t = c.if-number-len.true in let e = c.len-in-unknowns.ensures in omega (arith, c.args.kinds.now.ok.0)))

pub returns-in_err-kind_agrees : goal.returns-in_err-kind_agrees
returns-in_err-kind_agrees c =
    let p = err_from_is_err_and c.from_residual.result c.from_residual.ensures.1 in rw (p.1, p.2) (alike c.args.self.now.env.now c.args.self.now.budget (agreeing c.args.self.now.env.now c.args.self.now.budget (place c.args.whole) (entries c.args.context.now) c.args.found.now (drop c.unknowns.number c.args.found.now) (drop c.unknowns.number c.args.kinds.now.items)) (agreeing c.args.self.now.env.now c.args.self.now.budget (place c.args.whole) (entries c.args.context.now) c.args.found.now c.args.found.now c.args.kinds.now.items) _ c.unknowns.invariant (agree_ends c.args.self.now.env.now c.args.self.now.budget (place c.args.whole) (entries c.args.context.now) c.args.found.now _ c.index.result.now c.unknowns.number c.args.found.now c.args.kinds.now.items _ c.in-Some.ensures (let t = c.if-number-len.false in let e = c.len-in-unknowns.ensures in omega (arith, c.args.kinds.now.ok.0)) c.index.ensures c.in_err-kind_agrees.ensures))

pub unknowns-preserved : goal.unknowns-preserved
unknowns-preserved c =
    sym (agree_on c.args.self.now.env.now c.args.self.now.budget (place c.args.whole) (entries c.args.context.now) c.args.found.now _ c.index.result.now c.unknowns.number (c.unknowns.number + 1) c.args.found.now c.args.kinds.now.items (omega arith) c.in-Some.ensures (let t = c.if-number-len.false in let e = c.len-in-unknowns.ensures in omega (arith, c.args.kinds.now.ok.0)) c.index.ensures c.in_ok-kind_agrees.ensures) ∙ c.unknowns.invariant

pub returns : goal.returns
returns c =
    let l = c.unknowns-test.false in
    alike c.args.self.now.env.now c.args.self.now.budget (agreeing c.args.self.now.env.now c.args.self.now.budget (place c.args.whole) (entries c.args.context.now) c.args.found.now (drop c.unknowns.number c.args.found.now) (drop c.unknowns.number c.args.kinds.now.items)) (agreeing c.args.self.now.env.now c.args.self.now.budget (place c.args.whole) (entries c.args.context.now) c.args.found.now c.args.found.now c.args.kinds.now.items) (Ok (tt {0})) c.unknowns.invariant (no_more c.args.self.now.env.now c.args.self.now.budget (place c.args.whole) (entries c.args.context.now) c.args.found.now c.unknowns.number c.args.found.now c.args.kinds.now.items (omega (arith, c.len.ensures)))
