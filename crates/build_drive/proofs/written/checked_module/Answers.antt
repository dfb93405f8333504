use Rattle.std.proofs.Common.{List, [], subst, sym}
use Rattle.std.proofs.lemmas.Result.{IfOk-weaker}
use Rattle.cdle_model.specs.Derivation.{AreDerived}
use Rattle.cdle_model.specs.Forms.{Written}
use Rattle.core_check.specs.Items.{items_of}
use Rattle.build_drive.specs.BuildAnswers.{OfOneModule}
use Rattle.build_drive.specs.Checks.{IsVerdictAtSomeBudget}
use Rattle.build_drive.proofs.Ends.{same_items}
use Rattle.build_drive.proofs.Items.{said-over}
use Rattle.build_drive.proofs.written.checked_module.Goals as goal

pub verdict-requires-clause-items : goal.verdict-requires-clause-items
verdict-requires-clause-items c = said-over c.args.bytes.now [] (items_of c.in_ok-files.files.items) c.in_ok-files.ensures

pub verdict-requires-clause-derived : goal.verdict-requires-clause-derived
verdict-requires-clause-derived c =
    let said = c.requires.said in subst AreDerived (same_items [] c.args.bytes.now said.0 (items_of c.in_ok-files.files.items) said.1 c.in_ok-files.ensures) said.2

pub returns-clause-outcome : goal.returns-clause-outcome
returns-clause-outcome c =
    let es : List Written = items_of c.in_ok-files.files.items in
    IfOk-weaker c.new.result _ _ (λ done e ws said derived. subst (λ (us : List Written). OfOneModule (IsVerdictAtSomeBudget c.args.budget) us done.outcome) (same_items [] c.args.bytes.now es ws c.in_ok-files.ensures said)
    (subst (OfOneModule (IsVerdictAtSomeBudget c.args.budget) es) (sym e) c.in_ok-outcome.ensures.verdict)) c.new.ensures.outcome
