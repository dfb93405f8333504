use Rattle.std.proofs.Common.{length, ◌++◌, refl, sym, ap, ◌∙◌, List, arith}
use Rattle.std.proofs.lemmas.List.{append_assoc}
use Rattle.std.specs.Vec.Iter.{into_iter_items}
use Rattle.cdle_model.specs.CoreNames.{Name}
use Rattle.scope_part.specs.Entries.{listed_names}
use Rattle.scope_part.specs.Index.{names_of}
use Rattle.surf_scope.proofs.Passing.{nothing_left, push_all}
use Rattle.surf_scope.proofs.modules.extend.Goals as goal

pub loop-name-init : goal.loop-name-init
loop-name-init c =
    let gives = c.into_iter-name-iterator.ensures.into_iter_gives in
    let many = ap length gives.0 in
    let full = c.args.names.ok in
    record { same = refl; len = gives.1 ∙ (omega (arith, many, full.0)) }

pub loop-name-preserved : goal.loop-name-preserved
loop-name-preserved c =
    let at = c.loop-name in
    let steps = c.in-Some.ensures.steps.0 in
    let gone = c.in-Some.ensures.steps.1 in
    let many = ap length steps in
    record {
      same = ap (λ (ns : List Name). ns ++ listed_names (into_iter_items c.next.new.self)) c.in_ok-push.ensures.pushed ∙ append_assoc (names_of at.own) _ (listed_names (into_iter_items c.next.new.self)) ∙ (rw steps at at.invariant.same);
      len = let was = at.invariant.len in omega arith;
    }

pub returns : goal.returns
returns c =
    let at = c.loop-name in
    push_all (names_of at.own) (into_iter_items at.name-iterator) _ _ c.args.names.items at.invariant.same (nothing_left _ (sym at.invariant.len ∙ c.in-None.ensures.steps.0)) c.into_iter-name-iterator.ensures.into_iter_gives.0
