use Rattle.std.proofs.Common.{◌≡◌, ◌+◌, ◌≤◌, Option, Some, IfOk, length, option_map, slice_get, arith, sym, subst}
use Rattle.cdle_model.specs.declared.grammar.Sort.TheVariants.{OfTerm, OfType}
use Rattle.cdle_model.specs.Classes.{guides, item_sorts}
use Rattle.cdle_model.specs.Derivation.{Entry, term_of, type_of, entry}
use Rattle.cdle_model.specs.Fitting.{ContextFits}
use Rattle.core_rules.specs.Context.{entries, lifted, sorts}
use Rattle.core_rules.specs.declared.context.Context.{Context}
use Rattle.core_rules.proofs.Looked.{further, not_innermost, raises, term_here}
use Rattle.core_rules.proofs.ask.Rules.+type_of.Goals as goal

pub shift-requires : goal.shift-requires
shift-requires t c =
    let fits = subst (λ (x : Context). ContextFits (item_sorts c.args.self.now.items.now) (entries x)) c.in-Term.is c.requires.fits in
    let few = subst (λ (x : Context). length (entries x) + c.args.passed ≤ 4096) c.in-Term.is c.requires.few in
    raises guides (item_sorts c.args.self.now.items.now) (entries c.in-Term.outer.now) c.args.passed c.in-Term.ty.now tt c.known.ensures fits.0 (omega (arith, few)) (omega arith)

pub returns-in_ok-shift-in-Term : goal.returns-in_ok-shift-in-Term
returns-in_ok-shift-in-Term t c =
    subst (λ (x : Context). option_map (lifted c.args.passed) (entry (entries x) c.args.index) ≡ Some (term_of c.in_ok-shift-in-Term.field-0)) (sym c.in-Term.is)
    (term_here c.args.passed c.args.index c.in-Term.ty.now c.in_ok-shift-in-Term.field-0 (entries c.in-Term.outer.now) c.if-index-eq0.true c.in_ok-shift-in-Term.ensures)

pub returns-else-index-eq0 : goal.returns-else-index-eq0
returns-else-index-eq0 t c =
    let e = further c.args.passed c.args.index (term_of c.in-Term.ty.now) (entries c.in-Term.outer.now) (omega arith) in
    subst (λ (x : Context). IfOk c.type_of.result (λ r. option_map (lifted c.args.passed) (entry (entries x) c.args.index) ≡ Some (term_of r))) (sym c.in-Term.is)
    (subst (λ (o : Option Entry). IfOk c.type_of.result (λ r. o ≡ Some (term_of r))) e c.type_of.ensures)

pub returns-in-Type : goal.returns-in-Type
returns-in-Type t c =
    let at = subst (λ (x : Context). slice_get (sorts x) c.args.index ≡ Some OfTerm) c.in-Type.is c.requires.term in
    let e = further c.args.passed c.args.index (type_of c.in-Type.field-0.now) (entries c.in-Type.outer.now) (not_innermost OfType OfTerm (sorts c.in-Type.outer.now) c.args.index (λ i. cc) at) in
    subst (λ (x : Context). IfOk c.type_of-in-Type.result (λ r. option_map (lifted c.args.passed) (entry (entries x) c.args.index) ≡ Some (term_of r))) (sym c.in-Type.is)
    (subst (λ (o : Option Entry). IfOk c.type_of-in-Type.result (λ r. o ≡ Some (term_of r))) e c.type_of-in-Type.ensures)
