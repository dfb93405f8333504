use Rattle.std.proofs.Common.{◌∙◌, subst}
use Rattle.core_check.specs.Answer.{IsFaultOf}
use Rattle.build_drive.specs.Checks.{IsNameAt}
use Rattle.build_drive.proofs.Verdicts.{duplicate-verdict, refused-verdict}
use Rattle.build_drive.proofs.check.outcome_at.Goals as goal

pub returns-in-Refused-clause-verdict : goal.returns-in-Refused-clause-verdict
returns-in-Refused-clause-verdict c = λ ws over h named.
    let g = subst (IsFaultOf c.args.budget ws) c.in-Refused.is h in
    let item = subst (λ x. IsNameAt ws x c.args.item) c.in-Refused.is named in
    refused-verdict c.args.budget ws _ c.in-Refused.path c.in-Refused.why c.args.item over g item

pub returns-in-Duplicate-clause-verdict : goal.returns-in-Duplicate-clause-verdict
returns-in-Duplicate-clause-verdict c = λ ws over h named.
    let g = subst (IsFaultOf c.args.budget ws) c.in-Duplicate.is h in
    let item = subst (λ x. IsNameAt ws x c.args.item) c.in-Duplicate.is named in
    rw (c.new-in-Duplicate.ensures ∙ c.new.ensures.items) (duplicate-verdict c.args.budget ws _ c.in-Duplicate.earlier c.args.item over g item)
