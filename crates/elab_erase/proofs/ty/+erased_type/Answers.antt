use Rattle.std.proofs.Common.{ap, sym, ◌∙◌}
use Rattle.std.proofs.lemmas.Result.{err_from_is_err_and}
use Rattle.cdle_model.specs.Trees.{Tree}
use Rattle.cdle_model.specs.Forms.{allt, at_, guide_tlam, guide_xtlam, kpi, kpit}
use Rattle.source_model.specs.Heights.{span_of}
use Rattle.source_model.specs.Source.{bind}
use Rattle.elab_model.specs.Questions.{limited}
use Rattle.elab_rules.proofs.Steps.{no_memory}
use Rattle.scoped_tree.specs.declared.forms.BindForm.{BindForm}
use Rattle.scoped_tree.specs.Trees.{form_tree, place, bind_form}
use Rattle.elab_erase.specs.Forms.{over_types}
use Rattle.elab_erase.proofs.Chains.{erased_along, first_ends, second_ends, both_on, part_ends, part_on}
use Rattle.elab_erase.proofs.ty.+erased_type.Goals as goal

pub erased_type-returns-in_default : goal.erased_type-returns-in_default
erased_type-returns-in_default t c = no_memory _ _ _

pub type_of_two-returns-in_default : goal.type_of_two-returns-in_default
type_of_two-returns-in_default t c = no_memory _ _ _

pub type_of_binder-returns-in_default : goal.type_of_binder-returns-in_default
type_of_binder-returns-in_default t c = no_memory _ _ _

pub erased_kind-returns-in_default : goal.erased_kind-returns-in_default
erased_kind-returns-in_default t c = no_memory _ _ _

pub kind_of_binder-returns-in_default : goal.kind_of_binder-returns-in_default
kind_of_binder-returns-in_default t c = no_memory _ _ _

pub type_of_binder-returns-in-Tlam : goal.type_of_binder-returns-in-Tlam
type_of_binder-returns-in-Tlam t c = erased_along c.args.rules.now.env.now c.args.rules.now.budget _ _ _ (ap (λ (z : BindForm). bind (place c.args.span) (bind_form z) (tt {0}) c.args.domain.now c.args.part.now) (sym c.in-Tlam.is)) (c.function_over_terms.ensures c.args.domain.now)

pub type_of_binder-returns-in-Xtlam : goal.type_of_binder-returns-in-Xtlam
type_of_binder-returns-in-Xtlam t c = erased_along c.args.rules.now.env.now c.args.rules.now.budget _ _ _ (ap (λ (z : BindForm). bind (place c.args.span) (bind_form z) (tt {0}) c.args.domain.now c.args.part.now) (sym c.in-Xtlam.is)) (c.function_over_types.ensures c.args.domain.now)

pub over_two_types-returns-in_err-left : goal.over_two_types-returns-in_err-left
over_two_types-returns-in_err-left t c = let p = err_from_is_err_and c.from_residual.result c.from_residual.ensures.1 in rw (p.1, p.2) (first_ends c.args.rules.now.env.now c.args.rules.now.budget (place c.args.span) (over_types c.args.over) c.args.left.now c.args.right.now _ c.in_err-left.ensures)

pub over_two_types-returns-in_err-right : goal.over_two_types-returns-in_err-right
over_two_types-returns-in_err-right t c = let p = err_from_is_err_and c.from_residual-in_err-right.result c.from_residual-in_err-right.ensures.1 in rw (p.1, p.2) (second_ends c.args.rules.now.env.now c.args.rules.now.budget (place c.args.span) (over_types c.args.over) c.args.left.now c.args.right.now c.in_ok-left.left _ c.in_ok-left.ensures c.in_err-right.ensures)

pub over_two_types-returns : goal.over_two_types-returns
over_two_types-returns t c = both_on c.args.rules.now.env.now c.args.rules.now.budget (place c.args.span) (over_types c.args.over) c.args.left.now c.args.right.now c.in_ok-left.left c.in_ok-right.right _ c.in_ok-left.ensures c.in_ok-right.ensures (c.over_two.ensures c.args.rules.now.env.now c.args.rules.now.budget)

pub product_over_types-returns-in_err-domain : goal.product_over_types-returns-in_err-domain
product_over_types-returns-in_err-domain t c = let p = err_from_is_err_and c.from_residual.result c.from_residual.ensures.1 in rw (p.1, p.2) (first_ends c.args.rules.now.env.now c.args.rules.now.budget (place c.args.span) (λ (a b : Tree). allt a b) c.args.domain.now c.args.part.now _ c.in_err-domain.ensures)

pub product_over_types-returns-in_err-part : goal.product_over_types-returns-in_err-part
product_over_types-returns-in_err-part t c = let p = err_from_is_err_and c.from_residual-in_err-part.result c.from_residual-in_err-part.ensures.1 in rw (p.1, p.2) (second_ends c.args.rules.now.env.now c.args.rules.now.budget (place c.args.span) (λ (a b : Tree). allt a b) c.args.domain.now c.args.part.now c.in_ok-domain.domain _ c.in_ok-domain.ensures c.in_err-part.ensures)

pub product_over_types-returns : goal.product_over_types-returns
product_over_types-returns t c = both_on c.args.rules.now.env.now c.args.rules.now.budget (place c.args.span) (λ (a b : Tree). allt a b) c.args.domain.now c.args.part.now c.in_ok-domain.domain c.in_ok-part.part _ c.in_ok-domain.ensures c.in_ok-part.ensures (c.over_kind.ensures c.args.rules.now.env.now c.args.rules.now.budget)

pub function_over_terms-returns-in_err-part : goal.function_over_terms-returns-in_err-part
function_over_terms-returns-in_err-part t c = let p = err_from_is_err_and c.from_residual.result c.from_residual.ensures.1 in rw (p.1, p.2) (λ a. part_ends c.args.rules.now.env.now c.args.rules.now.budget c.args.part.now (λ (p : Tree). limited (place c.args.span) (guide_tlam p)) _ c.in_err-part.ensures)

pub function_over_terms-returns : goal.function_over_terms-returns
function_over_terms-returns t c = λ a. part_on c.args.rules.now.env.now c.args.rules.now.budget c.args.part.now (λ (p : Tree). limited (place c.args.span) (guide_tlam p)) c.in_ok-part.part _ c.in_ok-part.ensures (c.term_function.ensures c.args.rules.now.env.now c.args.rules.now.budget)

pub function_over_types-returns-in_err-part : goal.function_over_types-returns-in_err-part
function_over_types-returns-in_err-part t c = let p = err_from_is_err_and c.from_residual.result c.from_residual.ensures.1 in rw (p.1, p.2) (λ a. part_ends c.args.rules.now.env.now c.args.rules.now.budget c.args.part.now (λ (p : Tree). limited (place c.args.span) (guide_xtlam p)) _ c.in_err-part.ensures)

pub function_over_types-returns : goal.function_over_types-returns
function_over_types-returns t c = λ a. part_on c.args.rules.now.env.now c.args.rules.now.budget c.args.part.now (λ (p : Tree). limited (place c.args.span) (guide_xtlam p)) c.in_ok-part.part _ c.in_ok-part.ensures (c.type_function.ensures c.args.rules.now.env.now c.args.rules.now.budget)

pub type_at_term-returns-in_err-head : goal.type_at_term-returns-in_err-head
type_at_term-returns-in_err-head t c = let p = err_from_is_err_and c.from_residual.result c.from_residual.ensures.1 in rw (p.1, p.2) (first_ends c.args.rules.now.env.now c.args.rules.now.budget (place c.args.span) (λ (a b : Tree). at_ a b) c.args.head.now c.args.arg.now _ c.in_err-head.ensures)

pub type_at_term-returns-in_err-arg : goal.type_at_term-returns-in_err-arg
type_at_term-returns-in_err-arg t c = let p = err_from_is_err_and c.from_residual-in_err-arg.result c.from_residual-in_err-arg.ensures.1 in rw (p.1, p.2) (second_ends c.args.rules.now.env.now c.args.rules.now.budget (place c.args.span) (λ (a b : Tree). at_ a b) c.args.head.now c.args.arg.now c.in_ok-head.head _ c.in_ok-head.ensures c.in_err-arg.ensures)

pub type_at_term-returns : goal.type_at_term-returns
type_at_term-returns t c = both_on c.args.rules.now.env.now c.args.rules.now.budget (place c.args.span) (λ (a b : Tree). at_ a b) c.args.head.now c.args.arg.now c.in_ok-head.head c.in_ok-arg.arg _ c.in_ok-head.ensures c.in_ok-arg.ensures (c.at_term.ensures c.args.rules.now.env.now c.args.rules.now.budget)

pub erased_kind-returns-in-Leaf : goal.erased_kind-returns-in-Leaf
erased_kind-returns-in-Leaf t c = erased_along c.args.rules.now.env.now c.args.rules.now.budget _ _ _ (ap (form_tree (span_of c.args.node.now)) (sym c.in-Leaf.is) ∙ c.form.ensures.is) (c.kind_leaf.ensures (span_of c.args.node.now))

pub kind_over_term-returns-in_err-domain : goal.kind_over_term-returns-in_err-domain
kind_over_term-returns-in_err-domain t c = let p = err_from_is_err_and c.from_residual.result c.from_residual.ensures.1 in rw (p.1, p.2) (first_ends c.args.rules.now.env.now c.args.rules.now.budget (place c.args.span) (λ (a b : Tree). kpi a b) c.args.domain.now c.args.part.now _ c.in_err-domain.ensures)

pub kind_over_term-returns-in_err-part : goal.kind_over_term-returns-in_err-part
kind_over_term-returns-in_err-part t c = let p = err_from_is_err_and c.from_residual-in_err-part.result c.from_residual-in_err-part.ensures.1 in rw (p.1, p.2) (second_ends c.args.rules.now.env.now c.args.rules.now.budget (place c.args.span) (λ (a b : Tree). kpi a b) c.args.domain.now c.args.part.now c.in_ok-domain.domain _ c.in_ok-domain.ensures c.in_err-part.ensures)

pub kind_over_term-returns : goal.kind_over_term-returns
kind_over_term-returns t c = both_on c.args.rules.now.env.now c.args.rules.now.budget (place c.args.span) (λ (a b : Tree). kpi a b) c.args.domain.now c.args.part.now c.in_ok-domain.domain c.in_ok-part.part _ c.in_ok-domain.ensures c.in_ok-part.ensures (c.of_terms.ensures c.args.rules.now.env.now c.args.rules.now.budget)

pub kind_over_type-returns-in_err-domain : goal.kind_over_type-returns-in_err-domain
kind_over_type-returns-in_err-domain t c = let p = err_from_is_err_and c.from_residual.result c.from_residual.ensures.1 in rw (p.1, p.2) (first_ends c.args.rules.now.env.now c.args.rules.now.budget (place c.args.span) (λ (a b : Tree). kpit a b) c.args.domain.now c.args.part.now _ c.in_err-domain.ensures)

pub kind_over_type-returns-in_err-part : goal.kind_over_type-returns-in_err-part
kind_over_type-returns-in_err-part t c = let p = err_from_is_err_and c.from_residual-in_err-part.result c.from_residual-in_err-part.ensures.1 in rw (p.1, p.2) (second_ends c.args.rules.now.env.now c.args.rules.now.budget (place c.args.span) (λ (a b : Tree). kpit a b) c.args.domain.now c.args.part.now c.in_ok-domain.domain _ c.in_ok-domain.ensures c.in_err-part.ensures)

pub kind_over_type-returns : goal.kind_over_type-returns
kind_over_type-returns t c = both_on c.args.rules.now.env.now c.args.rules.now.budget (place c.args.span) (λ (a b : Tree). kpit a b) c.args.domain.now c.args.part.now c.in_ok-domain.domain c.in_ok-part.part _ c.in_ok-domain.ensures c.in_ok-part.ensures (c.of_types.ensures c.args.rules.now.env.now c.args.rules.now.budget)
