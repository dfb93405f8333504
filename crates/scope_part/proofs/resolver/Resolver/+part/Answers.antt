use Rattle.scope_model.specs.Scope.{of_case}
use Rattle.scoped_tree.specs.Trees.{bind_form, case_form, one_form, reference, two_form}
use Rattle.scoped_tree.specs.Trees.{chain as scoped_chain}
use Rattle.surf_tree.specs.Forms.{chain, number_or_none, place}
use Rattle.scope_part.specs.Around.{around_of}
use Rattle.scope_part.specs.Layers.{bounds}
use Rattle.scope_part.specs.Names.{text_or_none}
use Rattle.scope_part.specs.Shapes.{part_tree}
use Rattle.scope_part.proofs.Branches.{branch_fails, branch_is, inside_fails}
use Rattle.scope_part.proofs.Scoping.{bind_is, body_fails, cases_are, one_is, right_fails, two_are}
use Rattle.scope_part.proofs.resolver.Resolver.+part.Goals as goal

pub one-returns-in-Ok-one : goal.one-returns-in-Ok-one
one-returns-in-Ok-one t c = one_is (around_of c.args.names.now c.args.self.now) c.args.names.now (bounds c.args.names.now c.args.binders.now) c.args.sort (place c.args.span) (one_form c.args.form) (part_tree c.args.inner) c.in-Ok.inner c.in-Ok-one.tree c.in-Ok.ensures c.in-Ok-one.ensures

pub two-returns-in-Err-part : goal.two-returns-in-Err-part
two-returns-in-Err-part t c = right_fails (around_of c.args.names.now c.args.self.now) c.args.names.now (bounds c.args.names.now c.args.binders.now) c.args.sort (place c.args.span) (two_form c.args.form) (part_tree c.args.left) (part_tree c.args.right) c.left_class.result c.left_class.ensures c.right_class.result c.right_class.ensures c.in-Err-part.fault c.in-Ok.first c.in-Ok.ensures c.in-Err-part.ensures

pub two-returns-in-Ok-two : goal.two-returns-in-Ok-two
two-returns-in-Ok-two t c = two_are (around_of c.args.names.now c.args.self.now) c.args.names.now (bounds c.args.names.now c.args.binders.now) c.args.sort (place c.args.span) (two_form c.args.form) (part_tree c.args.left) (part_tree c.args.right) c.left_class.result c.left_class.ensures c.right_class.result c.right_class.ensures c.in-Ok.first c.in-Ok-part.second c.in-Ok-two.tree c.in-Ok.ensures c.in-Ok-part.ensures c.in-Ok-two.ensures

pub bind-returns-in-Err-part : goal.bind-returns-in-Err-part
bind-returns-in-Err-part t c = body_fails (around_of c.args.names.now c.args.self.now) c.args.names.now (bounds c.args.names.now c.args.binders.now) c.args.sort (place c.args.span) (bind_form c.args.form) (number_or_none c.args.var) (part_tree c.args.domain) (part_tree c.args.body) c.domain_class.result c.domain_class.ensures (bind_form c.classed-known.result) c.classed-known.ensures c.binder_class.result c.body_class.result c.binder_class.ensures c.body_class.ensures c.in-Err-part.fault c.in-Ok.domain c.in-Ok.ensures c.in-Err-part.ensures

pub bind-returns-in-Ok-bind : goal.bind-returns-in-Ok-bind
bind-returns-in-Ok-bind t c = bind_is (around_of c.args.names.now c.args.self.now) c.args.names.now (bounds c.args.names.now c.args.binders.now) c.args.sort (place c.args.span) (bind_form c.args.form) (number_or_none c.args.var) (part_tree c.args.domain) (part_tree c.args.body) c.domain_class.result c.domain_class.ensures (bind_form c.classed-known.result) c.classed-known.ensures c.binder_class.result c.body_class.result c.binder_class.ensures c.body_class.ensures c.in-Ok.domain c.in-Ok-part.body c.in-Ok-bind.tree c.in-Ok.ensures c.in-Ok-part.ensures c.in-Ok-bind.ensures

pub cases-returns-in-Ok-cases : goal.cases-returns-in-Ok-cases
cases-returns-in-Ok-cases t c = cases_are (around_of c.args.names.now c.args.self.now) c.args.names.now (bounds c.args.names.now c.args.binders.now) c.args.sort (place c.args.span) (case_form c.args.form) (number_or_none c.args.var) (part_tree c.args.of) (part_tree c.args.motive) (chain c.args.branches.now) c.in-Ok.of c.in-Ok-part.motive (scoped_chain c.in-Ok-branches.branches.items) c.in-Ok-cases.tree c.in-Ok.ensures c.in-Ok-part.ensures c.in-Ok-branches.ensures c.in-Ok-cases.ensures

pub branches-returns-in_Err-branch : goal.branches-returns-in_Err-branch
branches-returns-in_Err-branch t c = branch_fails (around_of c.args.names.now c.args.self.now) c.args.names.now (of_case (case_form c.args.form) (text_or_none c.args.names.now c.args.var)) (bounds c.args.names.now c.args.binders.now) c.in-Some.first.now c.in-Some.others.now c.branches.rest.now c.args.branches.now c.branches.done.items c.in_Err-branch.fault c.in-Some.ensures.cases.0 c.branches.invariant.same c.in_Err-branch.ensures

pub branch-returns-in-Err-part : goal.branch-returns-in-Err-part
branch-returns-in-Err-part t c = inside_fails (around_of c.args.names.now c.args.self.now) c.args.names.now (of_case (case_form c.args.form) (text_or_none c.args.names.now c.args.var)) (bounds c.args.names.now c.args.binders.now) c.args.branch.now c.in-Err-part.fault (reference c.in-Ok.ctor) c.as_slice.result.now c.as_slice.ensures.value c.in-Ok.ensures c.in-Err-part.ensures

pub branch-returns-in-Ok-arguments : goal.branch-returns-in-Ok-arguments
branch-returns-in-Ok-arguments t c = branch_is (around_of c.args.names.now c.args.self.now) c.args.names.now (of_case (case_form c.args.form) (text_or_none c.args.names.now c.args.var)) (bounds c.args.names.now c.args.binders.now) c.args.branch.now (reference c.in-Ok.ctor) c.in-Ok-part.part c.as_slice.result.now c.as_slice-2.result.now c.in-Ok-arguments.args.items c.as_slice.ensures.value c.as_slice-2.ensures.value c.in-Ok.ensures c.in-Ok-part.ensures c.in-Ok-arguments.ensures
