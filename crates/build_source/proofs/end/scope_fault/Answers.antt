use Rattle.std.proofs.Common.{◌≡◌, refl, subst}
use Rattle.scope_model.specs.Scope.{Unbound, WrongClass, Twice}
use Rattle.scope_part.specs.declared.fault.ScopeFault.{ScopeFault}
use Rattle.scoped_tree.specs.Trees.{place}
use Rattle.build_module.specs.Answers.{IsScopeFault}
use Rattle.build_outcome.specs.declared.outcome.Badness.TheVariants as bad
use Rattle.build_source.proofs.Ends.{ends_unscoped}
use Rattle.build_source.proofs.end.scope_fault.Goals as goal

pub returns-in_ok-name-in-Unbound : goal.returns-in_ok-name-in-Unbound
returns-in_ok-name-in-Unbound c =
    let name = c.in_ok-name-in-Unbound in
    let cut = name.ensures.cut in
    ends_unscoped c.args.file.now c.args.source.now c.args.fault (Unbound (place c.in-Unbound.span)) c.in-Unbound.span.from (bad.Unbound name.name) c.malformed.result
    (λ a s. subst (λ (f : ScopeFault). IsScopeFault (λ b. b ≡ a) f) c.in-Unbound.is s) (refl, (cut.0, cut.1, name.ensures.spelled cut.0 cut.1)) c.malformed.ensures

pub returns-in_ok-name-in-WrongClass : goal.returns-in_ok-name-in-WrongClass
returns-in_ok-name-in-WrongClass c =
    let name = c.in_ok-name-in-WrongClass in
    let cut = name.ensures.cut in
    ends_unscoped c.args.file.now c.args.source.now c.args.fault (WrongClass (place c.in-WrongClass.span)) c.in-WrongClass.span.from (bad.WrongClass name.name) c.malformed-in-WrongClass.result
    (λ a s. subst (λ (f : ScopeFault). IsScopeFault (λ b. b ≡ a) f) c.in-WrongClass.is s) (refl, (cut.0, cut.1, name.ensures.spelled cut.0 cut.1)) c.malformed-in-WrongClass.ensures

pub returns-in_ok-name-in-Twice : goal.returns-in_ok-name-in-Twice
returns-in_ok-name-in-Twice c =
    let name = c.in_ok-name-in-Twice in
    let cut = name.ensures.cut in
    ends_unscoped c.args.file.now c.args.source.now c.args.fault (Twice (place c.in-Twice.span)) c.in-Twice.span.from (bad.Twice name.name) c.malformed-in-Twice.result
    (λ a s. subst (λ (f : ScopeFault). IsScopeFault (λ b. b ≡ a) f) c.in-Twice.is s) (refl, (cut.0, cut.1, name.ensures.spelled cut.0 cut.1)) c.malformed-in-Twice.ensures
