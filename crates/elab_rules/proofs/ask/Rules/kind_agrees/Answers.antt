use Rattle.cdle_model.specs.Erasure.{erased}
use Rattle.std.proofs.lemmas.Result.{err_from_is_err_and}
use Rattle.elab_model.specs.Instances.{solved_in}
use Rattle.elab_model.specs.Questions.{ask_same, gives, unless_deep}
use Rattle.elab_model.specs.declared.codes.Code.TheVariants.{WantedKind}
use Rattle.scoped_tree.specs.Trees.{place}
use Rattle.elab_rules.proofs.Closing.{limited_on, limited_ends}
use Rattle.elab_rules.proofs.Steps.{goes_on, ends}
use Rattle.elab_rules.proofs.ask.Rules.kind_agrees.Goals as goal

pub returns-in_err-has : goal.returns-in_err-has
returns-in_err-has c =
    let p = err_from_is_err_and c.from_residual.result c.from_residual.ensures.1 in rw (p.1, p.2) (ends _ _ _ (λ l. unless_deep (place c.args.whole) (solved_in c.args.found.now c.args.kind.now) (ask_same (place c.args.whole) (place c.args.whole) WantedKind (erased l) (erased (solved_in c.args.found.now c.args.kind.now)) (gives (tt {0})))) _ c.in_err-has.ensures)

pub returns-in_err-wanted : goal.returns-in_err-wanted
returns-in_err-wanted c =
    let p = err_from_is_err_and c.from_residual-in_err-wanted.result c.from_residual-in_err-wanted.ensures.1 in rw (p.1, p.2) (goes_on _ _ _ (λ l. unless_deep (place c.args.whole) (solved_in c.args.found.now c.args.kind.now) (ask_same (place c.args.whole) (place c.args.whole) WantedKind (erased l) (erased (solved_in c.args.found.now c.args.kind.now)) (gives (tt {0})))) _ _ c.in_ok-has.ensures (limited_ends _ _ _ _ (λ x. ask_same (place c.args.whole) (place c.args.whole) WantedKind (erased c.in_ok-has.has) (erased x) (gives (tt {0}))) _ c.in_err-wanted.ensures))

pub returns : goal.returns
returns c =
    goes_on _ _ _ (λ l. unless_deep (place c.args.whole) (solved_in c.args.found.now c.args.kind.now) (ask_same (place c.args.whole) (place c.args.whole) WantedKind (erased l) (erased (solved_in c.args.found.now c.args.kind.now)) (gives (tt {0})))) _ _ c.in_ok-has.ensures
    (limited_on _ _ _ _ (λ x. ask_same (place c.args.whole) (place c.args.whole) WantedKind (erased c.in_ok-has.has) (erased x) (gives (tt {0}))) _ _ c.in_ok-wanted.ensures c.same_kinds.ensures)
