use Rattle.std.proofs.Common.{sym, ◌∙◌}
use Rattle.std.proofs.lemmas.Result.{err_from_is_err_and}
use Rattle.cdle_model.specs.Erasure.{erased}
use Rattle.cdle_model.specs.Trees.{tapp_of}
use Rattle.elab_model.specs.declared.codes.Code.TheVariants.{WantedKind}
use Rattle.elab_model.specs.Spines.{Spine, applied}
use Rattle.scoped_tree.specs.Trees.{place}
use Rattle.elab_rules.specs.declared.place.At.TheVariants.{Whole}
use Rattle.elab_rules.specs.Spines.{spine_of}
use Rattle.elab_rules.proofs.Steps.{same_ends, same_on}
use Rattle.elab_rules.proofs.Taking.{failed, first_on, refused, second_on, unknowns_alike}
use Rattle.elab_rules.proofs.ask.Rules.takes_type.Goals as goal

pub returns-then-has_unknown : goal.returns-then-has_unknown
returns-then-has_unknown c = first_on c.args.self.now.env.now c.args.self.now.budget _ _ _ _ (sym (unknowns_alike c.args.with.kind) ∙ sym c.has_unknown.ensures.is ∙ c.if-has_unknown.true) (refused Spine c.args.self.now.env.now c.args.self.now.budget (Whole c.args.at) WantedKind)

pub returns-in_err-same_kinds : goal.returns-in_err-same_kinds
returns-in_err-same_kinds c =
    let p = err_from_is_err_and c.from_residual.result c.from_residual.ensures.1 in failed c.args.self.now.env.now c.args.self.now.budget _ spine_of _ _ _ p.1 p.2 (second_on c.args.self.now.env.now c.args.self.now.budget _ _ _ _
    (sym (unknowns_alike c.args.with.kind) ∙ sym c.has_unknown.ensures.is ∙ c.if-has_unknown.false)
    (same_ends c.args.self.now.env.now c.args.self.now.budget (place c.args.whole) (place c.args.at) WantedKind (erased c.args.found.now.1) (erased c.args.with.kind)
    (applied (place c.args.whole) tapp_of c.args.found.now.0 c.args.with.range (spine_of c.args.with.spine)) _ c.in_err-same_kinds.ensures))

pub returns : goal.returns
returns c =
    second_on c.args.self.now.env.now c.args.self.now.budget _ _ _ _ (sym (unknowns_alike c.args.with.kind) ∙ sym c.has_unknown.ensures.is ∙ c.if-has_unknown.false)
    (same_on c.args.self.now.env.now c.args.self.now.budget (place c.args.whole) (place c.args.at) WantedKind (erased c.args.found.now.1) (erased c.args.with.kind)
    (applied (place c.args.whole) tapp_of c.args.found.now.0 c.args.with.range (spine_of c.args.with.spine)) _ c.in_ok-same_kinds.ensures c.applied_to_type.ensures)
