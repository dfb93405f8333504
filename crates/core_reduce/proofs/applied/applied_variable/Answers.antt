use Rattle.std.proofs.Common.{◌≡◌, ◌-◌, ◌∙◌, IfOk, ap, subst, refl, arith}
use Rattle.cdle_model.specs.Trees.{shift, var}
use Rattle.core_reduce.specs.declared.side.SideClass.TheVariants.{OfPure}
use Rattle.cdle_model.specs.Comparison.{applied}
use Rattle.core_reduce.specs.Sides.{Sided, spine}
use Rattle.core_reduce.specs.Values.{applied_to}
use Rattle.core_reduce.proofs.Raising.{raised_start, raised_more, raised_end, argument_class}
use Rattle.core_reduce.proofs.applied.applied_variable.Goals as goal

pub raised-init : goal.raised-init
raised-init c =
    let l = c.len-k.ensures in
    rw c.in_ok-all.ensures (raised_start c.args.args.now.items c.len-k.result (omega (arith, c.args.args.now.ok.0)))

pub raised_argument-requires : goal.raised_argument-requires
raised_argument-requires c =
    let b = c.raised.invariant.below in let t = c.raised-test.true in
    argument_class c.args.args.now.items (c.raised.k - 1) c.index.result.now c.requires.class (omega arith) c.index.ensures

pub raised-preserved : goal.raised-preserved
raised-preserved c =
    let t = c.raised-test.true in
    let a = c.in_ok-raised_argument.ensures in
    rw (c.in_ok-push.ensures.items, a.0)
    (raised_more c.args.args.now.items c.raised.k (c.raised.k - 1) c.raised.all.items c.index.result.now (shift 0 1 c.index.result.now.tree) c.raised.invariant (omega arith) c.index.ensures refl a.1)

pub returns : goal.returns
returns c =
    let q = raised_end c.args.index c.args.args.now.items c.raised.k c.raised.all.items c.raised.invariant c.raised-test.false in
    let e : spine c.variable.result c.raised.all.items ≡ applied (applied_to OfPure (var c.args.index) c.args.args.now.items) = ap (λ h. spine h c.raised.all.items) c.variable.ensures ∙ q in
    subst (λ t. IfOk c.applied.result (λ (s : Sided). s ≡ record { class = OfPure; tree = t })) e c.applied.ensures
