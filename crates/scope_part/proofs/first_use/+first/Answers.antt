use Rattle.source_model.specs.Heights.{span_of}
use Rattle.scope_model.specs.Scope.{of_case}
use Rattle.scoped_tree.specs.Trees.{case_form}
use Rattle.surf_tree.specs.Forms.{name_use}
use Rattle.scope_part.specs.Names.{text_or_none}
use Rattle.scope_part.specs.Shapes.{part_tree}
use Rattle.scope_part.proofs.FirstUses.{in_name, no_branches}
use Rattle.scope_part.proofs.first_use.+first.Goals as goal

pub first_in-returns-in-Name : goal.first_in-returns-in-Name
first_in-returns-in-Name t c = in_name c.args.word.now c.args.names.now c.args.sort (span_of (part_tree c.args.part)) (part_tree c.args.part) c.used_as.result (name_use c.in-Name.name) c.in-Name.ensures c.used_as.ensures

pub first_in_branches-returns : goal.first_in_branches-returns
first_in_branches-returns t c = no_branches c.args.word.now c.args.names.now (of_case (case_form c.args.form) (text_or_none c.args.names.now c.args.var)) c.branches.rest.now c.args.branches.now c.in_default.ensures.cases c.branches.invariant.same
