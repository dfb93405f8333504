use Rattle.std.proofs.Common.{length, sym, ap, subst, ◌∙◌, arith}
use Rattle.std.specs.Vec.Iter.{into_iter_items}
use Rattle.cdle_model.specs.CoreNames.{with_items}
use Rattle.core_text.specs.Scope.{known_names, HasRoom}
use Rattle.core_text.proofs.Names.{as_many, length_with_items, nothing_left, put_items, put_names}
use Rattle.core_text.proofs.scope.CoreScope.add.Goals as goal

pub loop-name-init : goal.loop-name-init
loop-name-init c =
    let gives = c.into_iter-name-iterator.ensures.into_iter_gives in
    let many = ap length gives.0 in
    let names = as_many _ _ c.in_ok-names.ensures ∙ ap length c.as_slice.ensures in
    let kept = ap length c.make_room.ensures.kept in
    let len = c.len.ensures in
    let full = c.in_ok-names.names.ok in
    record {
      rest = ap (put_names (into_iter_items c.into_iter-name-iterator.result)) c.make_room.ensures.kept;
      room = subst (λ n. HasRoom n c.make_room.new.self) (omega (arith, len, many, full.0)) c.in_ok-make_room.ensures.room;
      counted = let few = c.requires in omega (arith, few, kept, names, many);
      len = gives.1 ∙ (omega (arith, many, full.0));
    }

pub loop-name-preserved : goal.loop-name-preserved
loop-name-preserved c =
    let at = c.loop-name in
    let steps = c.in-Some.ensures.steps.0 in
    let gone = c.in-Some.ensures.steps.1 in
    let many = ap length steps in
    record {
      rest = ap (put_names (into_iter_items c.next.new.self)) c.put.ensures.put ∙ (rw steps at at.invariant.rest);
      room = c.put.ensures.room (length (into_iter_items c.next.new.self)) (subst (λ n. HasRoom n at.self) (many ∙ (omega arith)) at.invariant.room);
      counted = let put = ap length c.put.ensures.put in let was = at.invariant.counted in omega (arith, put, was, many);
      len = let was = at.invariant.len in omega arith;
    }

pub returns-clause-added : goal.returns-clause-added
returns-clause-added c =
    let at = c.loop-name in
    let empty = nothing_left _ (sym at.invariant.len ∙ c.in-None.ensures.steps.0) in
    (rw empty at at.invariant.rest) ∙ ap (λ ns. put_names ns (known_names c.args.self.now)) c.into_iter-name-iterator.ensures.into_iter_gives.0
    ∙ put_items _ _ (known_names c.args.self.now) c.in_ok-names.ensures ∙ ap (λ is. with_items is (known_names c.args.self.now)) c.as_slice.ensures

pub returns-clause-counted : goal.returns-clause-counted
returns-clause-counted c = ap length (returns-clause-added c) ∙ length_with_items c.args.file.now.items (known_names c.args.self.now)
