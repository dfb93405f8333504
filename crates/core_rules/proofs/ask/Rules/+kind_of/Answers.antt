use Rattle.std.proofs.Common.{◌≡◌, ◌+◌, ◌≤◌, Option, Some, IfOk, length, option_map, slice_get, arith, sym, subst}
use Rattle.cdle_model.specs.declared.grammar.Sort.TheVariants.{OfTerm, OfType}
use Rattle.cdle_model.specs.Classes.{guide_kinds, item_sorts}
use Rattle.cdle_model.specs.Derivation.{Entry, term_of, type_of, entry}
use Rattle.cdle_model.specs.Fitting.{ContextFits}
use Rattle.core_rules.specs.Context.{entries, lifted, sorts}
use Rattle.core_rules.specs.declared.context.Context.{Context}
use Rattle.core_rules.proofs.Looked.{further, not_innermost, raises, type_here}
use Rattle.core_rules.proofs.ask.Rules.+kind_of.Goals as goal

pub shift-requires : goal.shift-requires
shift-requires t c =
    let fits = subst (λ (x : Context). ContextFits (item_sorts c.args.self.now.items.now) (entries x)) c.in-Type.is c.requires.fits in
    let few = subst (λ (x : Context). length (entries x) + c.args.passed ≤ 4096) c.in-Type.is c.requires.few in
    raises guide_kinds (item_sorts c.args.self.now.items.now) (entries c.in-Type.outer.now) c.args.passed c.in-Type.kind.now tt c.known.ensures fits.0 (omega (arith, few)) (omega arith)

pub returns-in_ok-shift-in-Type : goal.returns-in_ok-shift-in-Type
returns-in_ok-shift-in-Type t c =
    subst (λ (x : Context). option_map (lifted c.args.passed) (entry (entries x) c.args.index) ≡ Some (type_of c.in_ok-shift-in-Type.field-0)) (sym c.in-Type.is)
    (type_here c.args.passed c.args.index c.in-Type.kind.now c.in_ok-shift-in-Type.field-0 (entries c.in-Type.outer.now) c.if-index-eq0.true c.in_ok-shift-in-Type.ensures)

pub returns-else-index-eq0 : goal.returns-else-index-eq0
returns-else-index-eq0 t c =
    let e = further c.args.passed c.args.index (type_of c.in-Type.kind.now) (entries c.in-Type.outer.now) (omega arith) in
    subst (λ (x : Context). IfOk c.kind_of.result (λ r. option_map (lifted c.args.passed) (entry (entries x) c.args.index) ≡ Some (type_of r))) (sym c.in-Type.is)
    (subst (λ (o : Option Entry). IfOk c.kind_of.result (λ r. o ≡ Some (type_of r))) e c.kind_of.ensures)

pub returns-in-Term : goal.returns-in-Term
returns-in-Term t c =
    let at = subst (λ (x : Context). slice_get (sorts x) c.args.index ≡ Some OfType) c.in-Term.is c.requires.is_type in
    let e = further c.args.passed c.args.index (term_of c.in-Term.field-0.now) (entries c.in-Term.outer.now) (not_innermost OfTerm OfType (sorts c.in-Term.outer.now) c.args.index (λ i. cc) at) in
    subst (λ (x : Context). IfOk c.kind_of-in-Term.result (λ r. option_map (lifted c.args.passed) (entry (entries x) c.args.index) ≡ Some (type_of r))) (sym c.in-Term.is)
    (subst (λ (o : Option Entry). IfOk c.kind_of-in-Term.result (λ r. o ≡ Some (type_of r))) e c.kind_of-in-Term.ensures)
