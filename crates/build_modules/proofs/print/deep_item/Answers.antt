use Rattle.std.proofs.Common.{◌≡◌, ◌∙◌, ℕ, List, refl, subst}
use Rattle.std.proofs.lemmas.Option.{slice_get_read}
use Rattle.modules_model.specs.ModuleTexts.{deepens}
use Rattle.build_modules.specs.Answers.{IsBuildFault}
use Rattle.build_modules.proofs.Printing.{named_there}
use Rattle.build_modules.proofs.print.deep_item.Goals as goal

pub returns-in-Some : goal.returns-in-Some
returns-in-Some c =
    let l = c.in-Some.ensures.lookup in
    subst (λ (w : List ℕ). IsBuildFault (λ a. a ≡ deepens w) c.named.result) (c.name.ensures ∙ named_there c.args.items.now c.args.number c.in-Some.item.now (slice_get_read _ _ _ _ refl l.3.0 l.1)) c.named.ensures
