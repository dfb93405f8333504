use Rattle.std.proofs.Common.{◌≡◌, ℕ, List, [], ◌∷◌, ◌++◌, ◌-◌, ◌<◌, Contains, drop, get_or, length, sym, ap, subst, ◌∙◌}
use Rattle.std.specs.Global.{Vec}
use Rattle.plan_model.specs.Cycles.{IsCycleOf}
use Rattle.build_plan.specs.Tables.{IsFirstLeft, IsTaken, needs_of}
use Rattle.build_plan.proofs.Named.{needs_at, needs_each}
use Rattle.build_plan.proofs.Walking.{IsWalking, fewer_steps, left_import, ok_weaker, stuck_at, walking_ends, walking_more, walking_stuck, walking_there}
use Rattle.build_plan.proofs.walk.cycle.Goals as goal

pub returns-in-Some : goal.returns-in-Some
returns-in-Some c =
    let needs = needs_of c.args.needs.now in
    let path = c.walk.path.items in
    let there : (c.in-Some.from < length path) × (get_or path c.in-Some.from 0 ≡ c.walk.at) =
    subst (λ (ps : List ℕ). (c.in-Some.from < length ps) × (get_or ps c.in-Some.from 0 ≡ c.walk.at)) c.as_slice.ensures.value c.in-Some.ensures in
    ok_weaker (λ (v : Vec ℕ). v.items ≡ drop c.in-Some.from c.as_slice-in-Some.result.now ++ c.walk.at ∷ []) (λ (v : Vec ℕ). IsCycleOf needs v.items) c.round.result
    (λ v e. walking_ends needs path c.walk.at c.walk.invariant c.in-Some.from there.0 there.1 v.items (e ∙ ap (λ (ps : List ℕ). drop c.in-Some.from ps ++ c.walk.at ∷ []) c.as_slice-in-Some.ensures.value))
    c.round.ensures

pub walk-smaller : goal.walk-smaller
walk-smaller c =
    let needs = needs_of c.args.needs.now in
    let path = c.walk.path.items in
    let fresh : Contains path c.walk.at → ⊥ = subst (λ (ps : List ℕ). Contains ps c.walk.at → ⊥) c.as_slice.ensures.value c.in_default.ensures in
    let fewer = fewer_steps needs path c.walk.at c.walk.invariant fresh in
    subst (λ (o : List ℕ). length c.args.needs.now - length o < length c.args.needs.now - length path) (sym c.in_ok-push.ensures.items)
    (subst (λ (n : ℕ). n - length (path ++ c.walk.at ∷ []) < n - length path) (needs_each c.args.needs.now) fewer)

pub walk-preserved : goal.walk-preserved
walk-preserved c =
    let needs = needs_of c.args.needs.now in
    let path = c.walk.path.items in
    let fresh : Contains path c.walk.at → ⊥ = subst (λ (ps : List ℕ). Contains ps c.walk.at → ⊥) c.as_slice.ensures.value c.in_default.ensures in
    let within : c.walk.at < length c.args.needs.now = subst (λ (n : ℕ). c.walk.at < n) (needs_each c.args.needs.now) (walking_there needs path c.walk.at c.walk.invariant) in
    let imports : get_or needs c.walk.at [] ≡ c.as_slice-in-walk.result.now =
    needs_at c.args.needs.now c.walk.at c.index-needs-at.result within c.index-needs-at.is ∙ sym c.as_slice-in-walk.ensures.value in
    subst (λ (o : List ℕ). IsWalking needs o c.in-Some-first_left.next) (sym c.in_ok-push.ensures.items)
    (walking_more needs path c.walk.at c.walk.invariant fresh c.in-Some-first_left.next
    (stuck_at needs (length c.args.needs.now) c.args.taken.now c.walk.at c.in-Some-first_left.next c.requires.can c.requires.stuck c.requires.below
    (subst (λ (js : List ℕ). IsFirstLeft c.args.taken.now js c.in-Some-first_left.next) (sym imports) c.in-Some-first_left.ensures)))

-- a module whose imports are all taken could be taken
pub unreachable-requires : goal.unreachable-requires
unreachable-requires c =
    let needs = needs_of c.args.needs.now in
    let path = c.walk.path.items in
    let within : c.walk.at < length c.args.needs.now = subst (λ (n : ℕ). c.walk.at < n) (needs_each c.args.needs.now) (walking_there needs path c.walk.at c.walk.invariant) in
    let imports : get_or needs c.walk.at [] ≡ c.as_slice-in-walk.result.now =
    needs_at c.args.needs.now c.walk.at c.index-needs-at.result within c.index-needs-at.is ∙ sym c.as_slice-in-walk.ensures.value in
    left_import needs c.args.taken.now c.walk.at c.requires.can (walking_stuck needs path c.walk.at c.walk.invariant)
    (subst (λ (js : List ℕ). (k : ℕ) → Contains js k → IsTaken c.args.taken.now k) (sym imports) c.in-None.ensures)
