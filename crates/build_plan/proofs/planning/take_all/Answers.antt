use Rattle.std.proofs.Common.{ℕ, true, List, [], ◌∷◌, ◌++◌, ◌-◌, ◌<◌, length, set, sym, subst}
use Rattle.build_plan.specs.Tables.{CanBeNext, needs_of}
use Rattle.build_plan.proofs.Named.{needs_each}
use Rattle.build_plan.proofs.Taking.{IsTaking, fewer_left, taking_all, taking_more}
use Rattle.build_plan.proofs.planning.take_all.Goals as goal

pub modules-smaller : goal.modules-smaller
modules-smaller c =
    let needs = needs_of c.args.needs.now in
    let next : CanBeNext needs c.modules.taken.items c.in-Some.number = subst (λ ts. CanBeNext needs ts c.in-Some.number) c.as_slice.ensures.value c.in-Some.ensures.next in
    let lowest : (j : ℕ) → j < c.in-Some.number → CanBeNext needs c.modules.taken.items j → ⊥ = subst (λ ts. (j : ℕ) → j < c.in-Some.number → CanBeNext needs ts j → ⊥) c.as_slice.ensures.value c.in-Some.ensures.lowest in
    let fewer = fewer_left needs c.modules.order.items c.modules.taken.items c.modules.invariant c.in-Some.number next lowest in
    subst (λ (o : List ℕ). length c.args.needs.now - length o < length c.args.needs.now - length c.modules.order.items) (sym c.in_ok-push.ensures.items)
    (subst (λ (n : ℕ). n - length (c.modules.order.items ++ c.in-Some.number ∷ []) < n - length c.modules.order.items) (needs_each c.args.needs.now) fewer)

pub modules-preserved : goal.modules-preserved
modules-preserved c =
    let needs = needs_of c.args.needs.now in
    subst (λ o. IsTaking needs o (set c.modules.taken.items c.in-Some.number true)) (sym c.in_ok-push.ensures.items)
    (taking_more needs c.modules.order.items c.modules.taken.items c.modules.invariant c.in-Some.number
    (subst (λ ts. CanBeNext needs ts c.in-Some.number) c.as_slice.ensures.value c.in-Some.ensures.next)
    (subst (λ ts. (j : ℕ) → j < c.in-Some.number → CanBeNext needs ts j → ⊥) c.as_slice.ensures.value c.in-Some.ensures.lowest))

pub returns : goal.returns
returns c =
    let needs = needs_of c.args.needs.now in
    taking_all needs c.modules.order.items c.modules.taken.items c.modules.invariant (subst (λ ts. (j : ℕ) → CanBeNext needs ts j → ⊥) c.as_slice.ensures.value c.in_default.ensures.next)
