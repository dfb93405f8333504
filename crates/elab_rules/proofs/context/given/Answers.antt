use Rattle.std.proofs.Common.{Some, ap, sym, ◌∙◌, ◌-◌, [], length, arith, refl}
use Rattle.std.proofs.lemmas.Option.{slice_get_read}
use Rattle.elab_rules.specs.Contexts.{known}
use Rattle.elab_rules.proofs.Looked.{stacked_at, stacked_past}
use Rattle.elab_rules.proofs.context.given.Goals as goal

pub returns-then-index-bindings : goal.returns-then-index-bindings
returns-then-index-bindings c = let l = c.if-index-bindings.true in sym (stacked_past [] c.args.bindings.now (c.args.index - length c.args.bindings.now) c.args.index (omega arith))

pub returns-in-Term : goal.returns-in-Term
returns-in-Term c = let l = c.if-index-bindings.false in
    ap (λ z. Some (known z)) (sym c.in-Term.is) ∙ sym (stacked_at [] c.args.bindings.now c.args.index (length c.args.bindings.now - 1 - c.args.index) c.index-bindings-bindings.result
    (slice_get_read c.args.bindings.now (length c.args.bindings.now) _ c.index-bindings-bindings.result refl (omega arith) c.index-bindings-bindings.is) (omega arith))

pub returns-in-OfType : goal.returns-in-OfType
returns-in-OfType c = let l = c.if-index-bindings.false in
    ap (λ z. Some (known z)) (sym c.in-OfType.is) ∙ sym (stacked_at [] c.args.bindings.now c.args.index (length c.args.bindings.now - 1 - c.args.index) c.index-bindings-bindings.result
    (slice_get_read c.args.bindings.now (length c.args.bindings.now) _ c.index-bindings-bindings.result refl (omega arith) c.index-bindings-bindings.is) (omega arith))
