use Rattle.std.proofs.Common.{suc, true, sym, ◌∙◌}
use Rattle.std.proofs.lemmas.Result.{err_from_is_err_and}
use Rattle.cdle_model.specs.HeadForms.{deepest}
use Rattle.cdle_model.specs.Trees.{allt_of}
use Rattle.elab_model.specs.declared.codes.Code.TheVariants.{WantedFunction}
use Rattle.elab_model.specs.Questions.{gives, rejects}
use Rattle.elab_model.specs.Spines.{binder_parts, brought}
use Rattle.scoped_tree.specs.Trees.{place}
use Rattle.elab_rules.specs.declared.place.At.TheVariants.{Whole}
use Rattle.elab_rules.specs.Spines.{Open, open_type_of, spine_of}
use Rattle.elab_rules.proofs.Steps.{ends, given, goes_on, no_memory}
use Rattle.elab_rules.proofs.Taking.{failed, parts_off, parts_on, refused}
use Rattle.elab_rules.proofs.ask.Rules.opened_type.Goals as goal

pub returns-in_err-spine : goal.returns-in_err-spine
returns-in_err-spine c =
    let p = err_from_is_err_and c.from_residual.result c.from_residual.ensures.1 in failed c.args.self.now.env.now c.args.self.now.budget _ open_type_of _ _ _ p.1 p.2 (ends c.args.self.now.env.now c.args.self.now.budget
    (brought (suc deepest) (place c.args.whole) true (spine_of c.args.spine)) (λ r. binder_parts allt_of r.type (λ a b. gives (r, (a, b))) (rejects r.head WantedFunction)) _ c.in_err-spine.ensures)

pub returns-in_err-kind : goal.returns-in_err-kind
returns-in_err-kind c = let p = err_from_is_err_and c.from_residual-in_err-kind.result c.from_residual-in_err-kind.ensures.1 in failed c.args.self.now.env.now c.args.self.now.budget _ open_type_of _ _ _ p.1 p.2 (no_memory _ _ _)

pub returns-in-None : goal.returns-in-None
returns-in-None c =
    goes_on c.args.self.now.env.now c.args.self.now.budget (brought (suc deepest) (place c.args.whole) true (spine_of c.args.spine))
    (λ r. binder_parts allt_of r.type (λ a b. gives (r, (a, b))) (rejects r.head WantedFunction)) _ _ c.in_ok-spine.ensures
    (parts_off c.args.self.now.env.now c.args.self.now.budget allt_of c.in_ok-spine.spine.ty (λ a b. gives (spine_of c.in_ok-spine.spine, (a, b))) _ _ (sym c.in_ok-kind.ensures ∙ c.in-None.is)
    (refused Open c.args.self.now.env.now c.args.self.now.budget (Whole c.in_ok-spine.spine.head) WantedFunction))

pub returns-in-Some : goal.returns-in-Some
returns-in-Some c =
    goes_on c.args.self.now.env.now c.args.self.now.budget (brought (suc deepest) (place c.args.whole) true (spine_of c.args.spine))
    (λ r. binder_parts allt_of r.type (λ a b. gives (r, (a, b))) (rejects r.head WantedFunction)) _ _ c.in_ok-spine.ensures
    (parts_on c.args.self.now.env.now c.args.self.now.budget allt_of c.in_ok-spine.spine.ty c.in-Some.kind c.in-Some.range (λ a b. gives (spine_of c.in_ok-spine.spine, (a, b))) _ _
    (sym c.in_ok-kind.ensures ∙ c.in-Some.is) (given c.args.self.now.env.now c.args.self.now.budget _))
