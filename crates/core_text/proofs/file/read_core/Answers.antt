use Rattle.std.proofs.Common.{◌++◌, arith}
use Rattle.std.proofs.lemmas.List.{length-append}
use Rattle.std.proofs.lemmas.Result.{err_from_is_err_and}
use Rattle.core_tree.specs.Items.{all_written}
use Rattle.core_text.specs.Scope.{known_names}
use Rattle.core_text.specs.View.{rest}
use Rattle.core_text.proofs.Files.{head_fault, item_fault, says, some_next, none_next, upto_more}
use Rattle.core_text.proofs.file.read_core.Goals as goal

pub returns-in_err-at-clause-err : goal.returns-in_err-at-clause-err
returns-in_err-at-clause-err c =
    let p = err_from_is_err_and c.from_residual.result c.from_residual.ensures.1 in
    rw (p.1, p.2) (head_fault c.in_err-at.field-0.0 c.args.bytes.now (known_names c.args.known.now) c.in_default.ensures.cases.1 c.in_err-at.ensures.gives)

pub returns-in_err-item-clause-err : goal.returns-in_err-item-clause-err
returns-in_err-item-clause-err c =
    let p = err_from_is_err_and c.from_residual-in_err-item.result c.from_residual-in_err-item.ensures.1 in
    rw (p.1, p.2) (item_fault c.args.bytes.now (known_names c.args.known.now) (all_written c.items.items.items) (known_names c.items.own ++ known_names c.args.known.now) (rest c.args.bytes.now c.items.at) c.items.invariant.upto
    c.in_err-item.field-0.0 (some_next c.args.bytes.now c.items.at c.next.result (cc) c.next.ensures) c.in_err-item.ensures.gives)

pub items-preserved : goal.items-preserved
items-preserved c = record {
  boundary = c.in_ok-item.ensures.advances.boundary;
  counted = rw c.in_ok-keep.ensures.named (omega (arith, c.items.invariant.counted, c.in_ok-item.ensures.advances.ahead));
  few = rw c.in_ok-keep.ensures.kept (simp length-append (omega (arith, c.items.invariant.few, c.in_ok-item.ensures.advances.ahead)));
  upto = upto_more c.args.bytes.now (known_names c.args.known.now) c.items.items.items c.keep.new.items.items (known_names c.items.own) (known_names c.keep.new.own) (rest c.args.bytes.now c.items.at) (rest c.args.bytes.now c.in_ok-item.after) c.in_ok-item.item
      c.items.invariant.upto c.in_ok-item.ensures.gives c.in_ok-keep.ensures.kept c.in_ok-keep.ensures.named;
}

pub returns-clause-ok : goal.returns-clause-ok
returns-clause-ok c =
    rw c.new.ensures.is
    (says c.args.bytes.now (known_names c.args.known.now) (all_written c.items.items.items) (known_names c.items.own ++ known_names c.args.known.now) (rest c.args.bytes.now c.items.at) c.items.invariant.upto
    (none_next c.args.bytes.now c.items.at c.next.result (cc) c.next.ensures))

pub returns-clause-few : goal.returns-clause-few
returns-clause-few c = omega (arith, c.new.ensures.len, c.items.invariant.few, c.items.invariant.boundary.0)
