use Rattle.std.proofs.Common.{ap, sym, ◌∙◌}
use Rattle.std.proofs.lemmas.Result.{err_from_is_err_and}
use Rattle.cdle_model.specs.Trees.{Tree}
use Rattle.cdle_model.specs.Erasure.{lowered}
use Rattle.cdle_model.specs.Forms.{fn, ap as applied_to}
use Rattle.source_model.specs.Heights.{span_of}
use Rattle.source_model.specs.Source.{bind, two}
use Rattle.elab_model.specs.Questions.{limited}
use Rattle.elab_model.specs.Rules.{unless_used}
use Rattle.elab_model.specs.ScopedForms.{letter}
use Rattle.elab_rules.proofs.Steps.{no_memory, given}
use Rattle.scoped_tree.specs.declared.forms.BindForm.{BindForm}
use Rattle.scoped_tree.specs.declared.forms.TwoForm.{TwoForm}
use Rattle.scoped_tree.specs.Trees.{form_tree, place, bind_form, two_form}
use Rattle.elab_erase.proofs.Chains.{erased_along, erased_binder, first_ends, second_ends, both_on, part_ends, part_on}
use Rattle.elab_erase.proofs.term.+erased_term.Goals as goal

pub erased_term-returns-in-Cases : goal.erased_term-returns-in-Cases
erased_term-returns-in-Cases t c = no_memory _ _ _

pub erased_term-returns-in-Leaf : goal.erased_term-returns-in-Leaf
erased_term-returns-in-Leaf t c = erased_along c.args.rules.now.env.now c.args.rules.now.budget _ _ _ (ap (form_tree (span_of c.args.node.now)) (sym c.in-Leaf.is) ∙ c.form.ensures.is) (c.of_leaf.ensures (span_of c.args.node.now))

pub erased_term-returns-in-One : goal.erased_term-returns-in-One
erased_term-returns-in-One t c = erased_along c.args.rules.now.env.now c.args.rules.now.budget _ _ _ (ap (form_tree (span_of c.args.node.now)) (sym c.in-One.is) ∙ c.form.ensures.is) (c.of_one.ensures (span_of c.args.node.now))

pub application-returns-in_err-head : goal.application-returns-in_err-head
application-returns-in_err-head t c = let p = err_from_is_err_and c.from_residual.result c.from_residual.ensures.1 in rw (p.1, p.2) (first_ends c.args.rules.now.env.now c.args.rules.now.budget (place c.args.span) (λ (a b : Tree). applied_to a b) c.args.head.now c.args.arg.now _ c.in_err-head.ensures)

pub application-returns-in_err-arg : goal.application-returns-in_err-arg
application-returns-in_err-arg t c = let p = err_from_is_err_and c.from_residual-in_err-arg.result c.from_residual-in_err-arg.ensures.1 in rw (p.1, p.2) (second_ends c.args.rules.now.env.now c.args.rules.now.budget (place c.args.span) (λ (a b : Tree). applied_to a b) c.args.head.now c.args.arg.now c.in_ok-head.head _ c.in_ok-head.ensures c.in_err-arg.ensures)

pub application-returns : goal.application-returns
application-returns t c = both_on c.args.rules.now.env.now c.args.rules.now.budget (place c.args.span) (λ (a b : Tree). applied_to a b) c.args.head.now c.args.arg.now c.in_ok-head.head c.in_ok-arg.arg _ c.in_ok-head.ensures c.in_ok-arg.ensures (c.applied.ensures c.args.rules.now.env.now c.args.rules.now.budget)

pub abstraction-returns-in_err-part : goal.abstraction-returns-in_err-part
abstraction-returns-in_err-part t c = let p = err_from_is_err_and c.from_residual.result c.from_residual.ensures.1 in rw (p.1, p.2) (λ a. part_ends c.args.rules.now.env.now c.args.rules.now.budget c.args.part.now (λ (p : Tree). limited (place c.args.span) (fn p)) _ c.in_err-part.ensures)

pub abstraction-returns : goal.abstraction-returns
abstraction-returns t c = λ a. part_on c.args.rules.now.env.now c.args.rules.now.budget c.args.part.now (λ (p : Tree). limited (place c.args.span) (fn p)) c.in_ok-part.part _ c.in_ok-part.ensures (c.function.ensures c.args.rules.now.env.now c.args.rules.now.budget)

pub erased_abstraction-returns-in_err-part : goal.erased_abstraction-returns-in_err-part
erased_abstraction-returns-in_err-part t c = let p = err_from_is_err_and c.from_residual.result c.from_residual.ensures.1 in rw (p.1, p.2) (λ a. part_ends c.args.rules.now.env.now c.args.rules.now.budget c.args.part.now (λ (p : Tree). unless_used (letter (place c.args.span)) p (limited (place c.args.span) (lowered p))) _ c.in_err-part.ensures)

pub erased_abstraction-returns : goal.erased_abstraction-returns
erased_abstraction-returns t c = λ a. part_on c.args.rules.now.env.now c.args.rules.now.budget c.args.part.now (λ (p : Tree). unless_used (letter (place c.args.span)) p (limited (place c.args.span) (lowered p))) c.in_ok-part.part _ c.in_ok-part.ensures (c.without_variable.ensures c.args.rules.now.env.now c.args.rules.now.budget)

pub of_two-returns-in-At : goal.of_two-returns-in-At
of_two-returns-in-At t c = no_memory _ _ _

pub of_two-returns-in_err-identity-in-Delta : goal.of_two-returns-in_err-identity-in-Delta
of_two-returns-in_err-identity-in-Delta t c = let p = err_from_is_err_and c.from_residual.result c.from_residual.ensures.1 in rw (p.1, p.2) (no_memory _ _ _)

pub of_two-returns-in_ok-identity-in-Delta : goal.of_two-returns-in_ok-identity-in-Delta
of_two-returns-in_ok-identity-in-Delta t c = erased_along c.args.rules.now.env.now c.args.rules.now.budget _ _ _ (ap (λ (z : TwoForm). two (place c.args.span) (two_form z) c.args.left.now c.args.right.now) (sym c.in-Delta.is)) (rw c.in_ok-identity-in-Delta.ensures (given c.args.rules.now.env.now c.args.rules.now.budget _))

pub kept-returns-in_default : goal.kept-returns-in_default
kept-returns-in_default t c = λ s. no_memory _ _ _

pub guided-returns-in_default : goal.guided-returns-in_default
guided-returns-in_default t c = λ s. no_memory _ _ _

pub of_binder-returns-in_default : goal.of_binder-returns-in_default
of_binder-returns-in_default t c = λ a. no_memory _ _ _

pub of_binder-returns-in-Lam : goal.of_binder-returns-in-Lam
of_binder-returns-in-Lam t c = λ a. erased_along c.args.rules.now.env.now c.args.rules.now.budget _ _ _ (ap (λ (z : BindForm). bind (place c.args.span) (bind_form z) (tt {0}) a c.args.part.now) (sym c.in-Lam.is)) (c.abstraction.ensures a)

pub of_binder-returns-in-Elam : goal.of_binder-returns-in-Elam
of_binder-returns-in-Elam t c = λ a. erased_binder c.args.rules.now.env.now c.args.rules.now.budget (place c.args.span) a c.args.part.now c.args.form _ c.in-Elam.is (c.erased_abstraction.ensures a)
