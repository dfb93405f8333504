use Rattle.std.proofs.Common.{◌∙◌, ℕ, List, refl, subst}
use Rattle.std.proofs.lemmas.Option.{slice_get_read}
use Rattle.build_module.specs.Answers.{IsDeepAt}
use Rattle.build_module.proofs.Given.{named_there}
use Rattle.build_module.proofs.items.deep_item.Goals as goal

pub returns-in-Some : goal.returns-in-Some
returns-in-Some c =
    let l = c.in-Some.ensures.lookup in
    subst (λ (w : List ℕ). IsDeepAt w c.named.result) (c.name.ensures ∙ named_there c.args.items.now c.args.number c.in-Some.item.now (slice_get_read _ _ _ _ refl l.3.0 l.1)) c.named.ensures
