-- A result of a form: each step that passed leads to the rest of its questions, and a fault ends them. So an answer is a chain of the steps that passed,
-- each by its clause, with what was found last; a type or a term that was erased first stands for its erasure.
use Rattle.std.proofs.Common.{◌∷◌, [], Ok, ap, refl, subst, sym, ◌∙◌, arith}
use Rattle.std.proofs.lemmas.Result.{err_from_is_err_and}
use Rattle.cdle_model.specs.declared.grammar.Sort.TheVariants.{OfTerm, OfType}
use Rattle.cdle_model.specs.Forms.{star}
use Rattle.cdle_model.specs.Trees.{Tree, put}
use Rattle.cdle_model.specs.Classes.{guide_kinds, guides, item_sorts, kinds, pure_terms, terms, types}
use Rattle.cdle_model.specs.Derivation.{a_kind, a_term, a_type, false_pure, signature, true_pure}
use Rattle.cdle_model.specs.Check.{ask_head, ask_same, binder_parts, equation_parts, infer, mismatch, not_an_equation, not_booleans, refuse, unless_deep}
use Rattle.cdle_model.proofs.ClassErasure.{erased-fits}
use Rattle.core_tree.specs.Forms.{kind_tree, term_tree, ty_tree}
use Rattle.core_rules.specs.Context.{entries, sorts}
use Rattle.core_rules.specs.Formers.{binder_of, other_form}
use Rattle.core_rules.specs.Questions.{Meets}
use Rattle.core_check.proofs.Found.{kept}
use Rattle.core_check.proofs.Placed.{below, both_placed, erased_below, erased_fit, placed, put_fit, used}
use Rattle.core_rules.proofs.Results.{faults_inside, finds_meets, leads_part, limited_meets, no_memory, parts_at, passes_found, passes_parts}
use Rattle.core_check.proofs.item.Checker.+infer.Goals as goal

pub term-returns-in-Ok-clause-finds : goal.term-returns-in-Ok-clause-finds
term-returns-in-Ok-clause-finds t c = λ k. leads_part c.args.self.now.rules.items.now c.args.self.now.rules.budget c.args.number (infer (signature c.args.self.now.rules.items.now) a_term (entries c.args.context.now) c.args.term.now) k c.in-Ok.ty c.in-Ok.ensures

pub term-returns-in-Err-clause-finds : goal.term-returns-in-Err-clause-finds
term-returns-in-Err-clause-finds t c = λ k. faults_inside c.args.self.now.rules.items.now c.args.self.now.rules.budget c.args.number (infer (signature c.args.self.now.rules.items.now) a_term (entries c.args.context.now) c.args.term.now) k c.in-Err.fault c.inside.result c.inside.ensures c.in-Err.ensures

pub term-returns-in-Ok-clause-erasure : goal.term-returns-in-Ok-clause-erasure
term-returns-in-Ok-clause-erasure t c = (kept c.args.self.now.rules.items.now c.known.ensures.items c.known.ensures.erasures c.args.self.now.rules.budget a_term (entries c.args.context.now) c.args.term.now c.in-Ok.ty c.requires.context c.requires.fits c.in-Ok.ensures).0

pub term-returns-in-Ok-clause-fits : goal.term-returns-in-Ok-clause-fits
term-returns-in-Ok-clause-fits t c = (kept c.args.self.now.rules.items.now c.known.ensures.items c.known.ensures.erasures c.args.self.now.rules.budget a_term (entries c.args.context.now) c.args.term.now c.in-Ok.ty c.requires.context c.requires.fits c.in-Ok.ensures).1

pub ty-returns-in-Ok-clause-finds : goal.ty-returns-in-Ok-clause-finds
ty-returns-in-Ok-clause-finds t c = λ k. leads_part c.args.self.now.rules.items.now c.args.self.now.rules.budget c.args.number (infer (signature c.args.self.now.rules.items.now) a_type (entries c.args.context.now) c.args.ty.now) k c.in-Ok.kind c.in-Ok.ensures

pub ty-returns-in-Err-clause-finds : goal.ty-returns-in-Err-clause-finds
ty-returns-in-Err-clause-finds t c = λ k. faults_inside c.args.self.now.rules.items.now c.args.self.now.rules.budget c.args.number (infer (signature c.args.self.now.rules.items.now) a_type (entries c.args.context.now) c.args.ty.now) k c.in-Err.fault c.inside.result c.inside.ensures c.in-Err.ensures

pub ty-returns-in-Ok-clause-erasure : goal.ty-returns-in-Ok-clause-erasure
ty-returns-in-Ok-clause-erasure t c = (kept c.args.self.now.rules.items.now c.known.ensures.items c.known.ensures.erasures c.args.self.now.rules.budget a_type (entries c.args.context.now) c.args.ty.now c.in-Ok.kind c.requires.context c.requires.fits c.in-Ok.ensures).0

pub ty-returns-in-Ok-clause-fits : goal.ty-returns-in-Ok-clause-fits
ty-returns-in-Ok-clause-fits t c = (kept c.args.self.now.rules.items.now c.known.ensures.items c.known.ensures.erasures c.args.self.now.rules.budget a_type (entries c.args.context.now) c.args.ty.now c.in-Ok.kind c.requires.context c.requires.fits c.in-Ok.ensures).1

pub abstraction-returns : goal.abstraction-returns
abstraction-returns t c = rw (← c.in_ok-domain.ensures.is) (c.in_ok-domain.ensures.passes _ _ (c.in_ok-found.ensures.finds _ _ (limited_meets _ _ _ _ c.pi.ensures)))

pub term_function-returns : goal.term_function-returns
term_function-returns t c = rw (← c.in_ok-domain.ensures.is) (c.in_ok-domain.ensures.passes _ _ (c.in_ok-found.ensures.finds _ _ (limited_meets _ _ _ _ c.kpi.ensures)))

pub type_function-returns : goal.type_function-returns
type_function-returns t c = rw (← c.in_ok-domain.ensures.is) (c.in_ok-domain.ensures.passes _ _ (c.in_ok-found.ensures.finds _ _ (limited_meets _ _ _ _ c.kpit.ensures)))

pub type_abstraction-returns : goal.type_abstraction-returns
type_abstraction-returns t c = rw (← c.in_ok-domain.ensures.is) (c.in_ok-domain.ensures.passes _ _ (c.in_ok-found.ensures.finds _ _ (limited_meets _ _ _ _ c.allt.ensures)))

pub type_function-returns-in_err-domain : goal.type_function-returns-in_err-domain
type_function-returns-in_err-domain t c = let p = err_from_is_err_and c.from_residual.result c.from_residual.ensures.1 in rw (p.1, p.2) (c.in_err-domain.ensures.passes _)

pub type_function-returns-in_err-found : goal.type_function-returns-in_err-found
type_function-returns-in_err-found t c = let p = err_from_is_err_and c.from_residual-in_err-found.result c.from_residual-in_err-found.ensures.1 in rw (p.1, p.2) (rw (← c.in_ok-domain.ensures.is) (c.in_ok-domain.ensures.passes _ _ (c.in_err-found.ensures.finds _)))

pub type_abstraction-returns-in_err-domain : goal.type_abstraction-returns-in_err-domain
type_abstraction-returns-in_err-domain t c = let p = err_from_is_err_and c.from_residual.result c.from_residual.ensures.1 in rw (p.1, p.2) (c.in_err-domain.ensures.passes _)

pub type_abstraction-returns-in_err-found : goal.type_abstraction-returns-in_err-found
type_abstraction-returns-in_err-found t c = let p = err_from_is_err_and c.from_residual-in_err-found.result c.from_residual-in_err-found.ensures.1 in rw (p.1, p.2) (rw (← c.in_ok-domain.ensures.is) (c.in_ok-domain.ensures.passes _ _ (c.in_err-found.ensures.finds _)))

pub ty_form-returns-in_err-star-in-Eq : goal.ty_form-returns-in_err-star-in-Eq
ty_form-returns-in_err-star-in-Eq t c = let p = err_from_is_err_and c.from_residual.result c.from_residual.ensures.1 in rw (p.1, p.2) (no_memory _ _ _)

pub ty_form-returns-in_ok-star-in-Eq : goal.ty_form-returns-in_ok-star-in-Eq
ty_form-returns-in_ok-star-in-Eq t c = subst (λ (z : Tree). Meets c.args.self.now.rules.items.now c.args.self.now.rules.budget (infer (signature c.args.self.now.rules.items.now) a_type (entries c.args.context.now) z) (Ok c.in_ok-star-in-Eq.field-0)) (ap ty_tree (sym c.in-Eq.is) ∙ c.form.ensures.is) (rw c.in_ok-star-in-Eq.ensures (finds_meets _ _ _))

pub kind_form-returns-in-Star : goal.kind_form-returns-in-Star
kind_form-returns-in-Star t c = subst (λ (z : Tree). Meets c.args.self.now.rules.items.now c.args.self.now.rules.budget (infer (signature c.args.self.now.rules.items.now) a_kind (entries c.args.context.now) z) (Ok star)) (ap kind_tree (sym c.in-Star.is) ∙ c.form.ensures.is) (finds_meets _ _ _)

pub term_product-returns : goal.term_product-returns
term_product-returns t c = rw (← c.in_ok-domain.ensures.is) (c.in_ok-domain.ensures.passes _ _ (c.in_ok-is_kind.ensures.passes _ _ (finds_meets _ _ _)))

pub term_product-returns-in_err-is_kind : goal.term_product-returns-in_err-is_kind
term_product-returns-in_err-is_kind t c = let p = err_from_is_err_and c.from_residual-in_err-is_kind.result c.from_residual-in_err-is_kind.ensures.1 in rw (p.1, p.2) (rw (← c.in_ok-domain.ensures.is) (c.in_ok-domain.ensures.passes _ _ (c.in_err-is_kind.ensures.passes _)))

pub type_product-returns : goal.type_product-returns
type_product-returns t c = rw (← c.in_ok-domain.ensures.is) (c.in_ok-domain.ensures.passes _ _ (c.in_ok-is_kind.ensures.passes _ _ (finds_meets _ _ _)))

pub type_product-returns-in_err-is_kind : goal.type_product-returns-in_err-is_kind
type_product-returns-in_err-is_kind t c = let p = err_from_is_err_and c.from_residual-in_err-is_kind.result c.from_residual-in_err-is_kind.ensures.1 in rw (p.1, p.2) (rw (← c.in_ok-domain.ensures.is) (c.in_ok-domain.ensures.passes _ _ (c.in_err-is_kind.ensures.passes _)))

pub type_product-returns-in_err-domain : goal.type_product-returns-in_err-domain
type_product-returns-in_err-domain t c = let p = err_from_is_err_and c.from_residual.result c.from_residual.ensures.1 in rw (p.1, p.2) (c.in_err-domain.ensures.passes _)

pub term_form-returns-in-Beta : goal.term_form-returns-in-Beta
term_form-returns-in-Beta t c = subst (λ (z : Tree). Meets c.args.self.now.rules.items.now c.args.self.now.rules.budget (infer (signature c.args.self.now.rules.items.now) a_term (entries c.args.context.now) z) c.eq.result) (ap term_tree (sym c.in-Beta.is) ∙ c.form.ensures.is) (limited_meets _ _ _ _ c.eq.ensures)

pub term_form-returns-in-Rho : goal.term_form-returns-in-Rho
term_form-returns-in-Rho t c = subst (λ (z : Tree). Meets c.args.self.now.rules.items.now c.args.self.now.rules.budget (infer (signature c.args.self.now.rules.items.now) a_term (entries c.args.context.now) z) c.rewriting.result) (ap term_tree (sym c.in-Rho.is) ∙ c.form.ensures.is) c.rewriting.ensures

pub term_form-returns-in-Phi : goal.term_form-returns-in-Phi
term_form-returns-in-Phi t c = subst (λ (z : Tree). Meets c.args.self.now.rules.items.now c.args.self.now.rules.budget (infer (signature c.args.self.now.rules.items.now) a_term (entries c.args.context.now) z) c.cast.result) (ap term_tree (sym c.in-Phi.is) ∙ c.form.ensures.is) c.cast.ensures

pub product_of-type_parts-requires-clause-placed : goal.product_of-type_parts-requires-clause-placed
product_of-type_parts-requires-clause-placed t c = placed (entries c.args.context.now) (item_sorts c.args.self.now.rules.items.now) (omega arith) guides c.in_ok-found.found c.in_ok-found.ensures.fits

pub kind_product_of-kind_parts-requires-clause-placed : goal.kind_product_of-kind_parts-requires-clause-placed
kind_product_of-kind_parts-requires-clause-placed t c = placed (entries c.args.context.now) (item_sorts c.args.self.now.rules.items.now) (omega arith) guide_kinds c.in_ok-found.found c.in_ok-found.ensures.fits

pub equation_of-sides-requires : goal.equation_of-sides-requires
equation_of-sides-requires t c = placed (entries c.args.context.now) (item_sorts c.args.self.now.rules.items.now) (omega arith) guides c.in_ok-found.found c.in_ok-found.ensures.fits

pub product_of-returns-clause-finds : goal.product_of-returns-clause-finds
product_of-returns-clause-finds t c = parts_at c.args.self.now.rules.items.now c.args.self.now.rules.budget 1 (infer (signature c.args.self.now.rules.items.now) a_term (entries c.args.context.now) c.args.term.now) c.in_ok-found.found (λ k a. ask_head (1 ∷ []) a (λ b. binder_parts (binder_of c.args.former) b k (refuse (1 ∷ []) (other_form c.args.former b)))) c.type_parts.result c.in_ok-found.ensures.finds c.type_parts.ensures.finds

pub kind_product_of-returns-clause-finds : goal.kind_product_of-returns-clause-finds
kind_product_of-returns-clause-finds t c = parts_at c.args.self.now.rules.items.now c.args.self.now.rules.budget 1 (infer (signature c.args.self.now.rules.items.now) a_type (entries c.args.context.now) c.args.ty.now) c.in_ok-found.found (λ k a. ask_head (1 ∷ []) a (λ b. binder_parts (binder_of c.args.former) b k (refuse (1 ∷ []) (other_form c.args.former b)))) c.kind_parts.result c.in_ok-found.ensures.finds c.kind_parts.ensures.finds

pub equation_of-returns-clause-finds : goal.equation_of-returns-clause-finds
equation_of-returns-clause-finds t c = parts_at c.args.self.now.rules.items.now c.args.self.now.rules.budget c.args.number (infer (signature c.args.self.now.rules.items.now) a_term (entries c.args.context.now) c.args.term.now) c.in_ok-found.found (λ k a. ask_head (c.args.number ∷ []) a (λ b. equation_parts b k (refuse (c.args.number ∷ []) (not_an_equation b)))) c.sides.result c.in_ok-found.ensures.finds c.sides.ensures.finds

pub type_application-returns-in_err-found : goal.type_application-returns-in_err-found
type_application-returns-in_err-found t c = let p = err_from_is_err_and c.from_residual-in_err-found.result c.from_residual-in_err-found.ensures.1 in rw (p.1, p.2) (c.in_ok-parts.ensures.finds _ _ (c.in_err-found.ensures.finds _))

pub type_application-type_at_type-requires-clause-placed : goal.type_application-type_at_type-requires-clause-placed
type_application-type_at_type-requires-clause-placed t c = both_placed (entries c.args.context.now) (item_sorts c.args.self.now.rules.items.now) (omega arith) guide_kinds _ _ c.in_ok-found.ensures.fits c.in_ok-parts.ensures.fits.0

pub type_application-type_at_type-requires-clause-used : goal.type_application-type_at_type-requires-clause-used
type_application-type_at_type-requires-clause-used t c = used (sorts c.args.context.now) (item_sorts c.args.self.now.rules.items.now) OfType guides c.in_ok-parts.parts.1.tree c.in_ok-parts.ensures.fits.1

pub type_application-type_at_type-requires-clause-below : goal.type_application-type_at_type-requires-clause-below
type_application-type_at_type-requires-clause-below t c = erased_below (entries c.args.context.now) (item_sorts c.args.self.now.rules.items.now) (omega arith) types c.args.arg.now _ c.requires.fits.1 c.in_ok-found.ensures.erasure refl

pub type_application-returns : goal.type_application-returns
type_application-returns t c = c.in_ok-parts.ensures.finds _ _ (c.in_ok-found.ensures.finds _ _ c.type_at_type.ensures)

pub applied_to_term-returns-in_err-found : goal.applied_to_term-returns-in_err-found
applied_to_term-returns-in_err-found t c = let p = err_from_is_err_and c.from_residual-in_err-found.result c.from_residual-in_err-found.ensures.1 in rw (p.1, p.2) (c.in_ok-parts.ensures.finds _ _ (c.in_err-found.ensures.finds _))

pub applied_to_term-kind_at_term-requires-clause-placed : goal.applied_to_term-kind_at_term-requires-clause-placed
applied_to_term-kind_at_term-requires-clause-placed t c = both_placed (entries c.args.context.now) (item_sorts c.args.self.now.rules.items.now) (omega arith) guides _ _ c.in_ok-found.ensures.fits c.in_ok-parts.ensures.fits.0

pub applied_to_term-kind_at_term-requires-clause-used : goal.applied_to_term-kind_at_term-requires-clause-used
applied_to_term-kind_at_term-requires-clause-used t c = used (sorts c.args.context.now) (item_sorts c.args.self.now.rules.items.now) OfTerm guide_kinds c.in_ok-parts.parts.1.tree c.in_ok-parts.ensures.fits.1

pub applied_to_term-kind_at_term-requires-clause-below : goal.applied_to_term-kind_at_term-requires-clause-below
applied_to_term-kind_at_term-requires-clause-below t c = erased_below (entries c.args.context.now) (item_sorts c.args.self.now.rules.items.now) (omega arith) terms c.args.arg.now _ c.requires.fits.1 c.in_ok-found.ensures.erasure refl

pub applied_to_term-returns : goal.applied_to_term-returns
applied_to_term-returns t c = c.in_ok-parts.ensures.finds _ _ (c.in_ok-found.ensures.finds _ _ c.kind_at_term.ensures)

pub applied_to_type-returns-in_err-found : goal.applied_to_type-returns-in_err-found
applied_to_type-returns-in_err-found t c = let p = err_from_is_err_and c.from_residual-in_err-found.result c.from_residual-in_err-found.ensures.1 in rw (p.1, p.2) (c.in_ok-parts.ensures.finds _ _ (c.in_err-found.ensures.finds _))

pub applied_to_type-kind_at_type-requires-clause-placed : goal.applied_to_type-kind_at_type-requires-clause-placed
applied_to_type-kind_at_type-requires-clause-placed t c = both_placed (entries c.args.context.now) (item_sorts c.args.self.now.rules.items.now) (omega arith) guide_kinds _ _ c.in_ok-found.ensures.fits c.in_ok-parts.ensures.fits.0

pub applied_to_type-kind_at_type-requires-clause-used : goal.applied_to_type-kind_at_type-requires-clause-used
applied_to_type-kind_at_type-requires-clause-used t c = used (sorts c.args.context.now) (item_sorts c.args.self.now.rules.items.now) OfType guide_kinds c.in_ok-parts.parts.1.tree c.in_ok-parts.ensures.fits.1

pub applied_to_type-kind_at_type-requires-clause-below : goal.applied_to_type-kind_at_type-requires-clause-below
applied_to_type-kind_at_type-requires-clause-below t c = erased_below (entries c.args.context.now) (item_sorts c.args.self.now.rules.items.now) (omega arith) types c.args.arg.now _ c.requires.fits.1 c.in_ok-found.ensures.erasure refl

pub applied_to_type-returns : goal.applied_to_type-returns
applied_to_type-returns t c = c.in_ok-parts.ensures.finds _ _ (c.in_ok-found.ensures.finds _ _ c.kind_at_type.ensures)

pub first-returns : goal.first-returns
first-returns t c = c.in_ok-parts.ensures.finds _ _ (limited_meets _ _ _ _ c.whole_type.ensures)

pub second-second_type-requires-clause-used : goal.second-second_type-requires-clause-used
second-second_type-requires-clause-used t c = used (sorts c.args.context.now) (item_sorts c.args.self.now.rules.items.now) OfTerm guides c.in_ok-parts.parts.1.tree c.in_ok-parts.ensures.fits.1

pub second-second_type-requires-clause-below : goal.second-second_type-requires-clause-below
second-second_type-requires-clause-below t c = erased_below (entries c.args.context.now) (item_sorts c.args.self.now.rules.items.now) (omega arith) terms c.args.part.now _ c.requires.fits c.in_ok-parts.ensures.erasure refl

pub second-returns : goal.second-returns
second-returns t c = c.in_ok-parts.ensures.finds _ _ c.second_type.ensures

pub pair-returns-in_err-found : goal.pair-returns-in_err-found
pair-returns-in_err-found t c = let p = err_from_is_err_and c.from_residual-in_err-found.result c.from_residual-in_err-found.ensures.1 in rw (p.1, p.2) (c.in_ok-left_type.ensures.finds _ _ (c.in_ok-right_type.ensures.passes _ _ (c.in_err-found.ensures.finds _)))

pub pair-paired-requires-clause-used : goal.pair-paired-requires-clause-used
pair-paired-requires-clause-used t c = used (sorts c.args.context.now) (item_sorts c.args.self.now.rules.items.now) OfTerm guides c.in_ok-right_type.right_type c.in_ok-right_type.ensures.fits

pub pair-paired-requires-clause-below : goal.pair-paired-requires-clause-below
pair-paired-requires-clause-below t c = erased_below (entries c.args.context.now) (item_sorts c.args.self.now.rules.items.now) (omega arith) terms c.args.left.now _ c.requires.fits.0.1 c.in_ok-left_type.ensures.erasure refl

pub pair-paired-requires-clause-placed : goal.pair-paired-requires-clause-placed
pair-paired-requires-clause-placed t c = both_placed (entries c.args.context.now) (item_sorts c.args.self.now.rules.items.now) (omega arith) guides _ _ c.in_ok-found.ensures.fits (put_fit (sorts c.args.context.now) (item_sorts c.args.self.now.rules.items.now) OfTerm guides c.in_ok-right_type.right_type _ _ tt (erased_fit (sorts c.args.context.now) (item_sorts c.args.self.now.rules.items.now) terms c.args.left.now _ c.requires.fits.0.1 c.in_ok-left_type.ensures.erasure refl) c.in_ok-right_type.ensures.fits refl)

pub pair-paired-requires-clause-erasures : goal.pair-paired-requires-clause-erasures
pair-paired-requires-clause-erasures t c = both_placed (entries c.args.context.now) (item_sorts c.args.self.now.rules.items.now) (omega arith) pure_terms _ _ (erased_fit (sorts c.args.context.now) (item_sorts c.args.self.now.rules.items.now) terms c.args.left.now _ c.requires.fits.0.1 c.in_ok-left_type.ensures.erasure refl) (erased_fit (sorts c.args.context.now) (item_sorts c.args.self.now.rules.items.now) terms c.args.right.now _ c.requires.fits.0.0 c.in_ok-found.ensures.erasure refl)

pub pair-returns : goal.pair-returns
pair-returns t c = rw (← c.in_ok-right_type.ensures.is) (c.in_ok-left_type.ensures.finds _ _ (c.in_ok-right_type.ensures.passes _ _ (c.in_ok-found.ensures.finds _ _ c.paired.ensures)))

pub erased_abstraction-returns : goal.erased_abstraction-returns
erased_abstraction-returns t c = rw (← c.in_ok-domain.ensures.is) (c.in_ok-domain.ensures.passes _ _ (c.in_ok-found.ensures.finds _ _ c.erased_product.ensures))

pub type_application-returns-in_err-parts : goal.type_application-returns-in_err-parts
type_application-returns-in_err-parts t c = let p = err_from_is_err_and c.from_residual.result c.from_residual.ensures.1 in rw (p.1, p.2) (c.in_err-parts.ensures.finds _)

pub applied_to_term-returns-in_err-parts : goal.applied_to_term-returns-in_err-parts
applied_to_term-returns-in_err-parts t c = let p = err_from_is_err_and c.from_residual.result c.from_residual.ensures.1 in rw (p.1, p.2) (c.in_err-parts.ensures.finds _)

pub applied_to_type-returns-in_err-parts : goal.applied_to_type-returns-in_err-parts
applied_to_type-returns-in_err-parts t c = let p = err_from_is_err_and c.from_residual.result c.from_residual.ensures.1 in rw (p.1, p.2) (c.in_err-parts.ensures.finds _)

pub first-returns-in_err-parts : goal.first-returns-in_err-parts
first-returns-in_err-parts t c = let p = err_from_is_err_and c.from_residual.result c.from_residual.ensures.1 in rw (p.1, p.2) (c.in_err-parts.ensures.finds _)

pub second-returns-in_err-parts : goal.second-returns-in_err-parts
second-returns-in_err-parts t c = let p = err_from_is_err_and c.from_residual.result c.from_residual.ensures.1 in rw (p.1, p.2) (c.in_err-parts.ensures.finds _)

pub is_kind-returns-in-Ok-clause-passes : goal.is_kind-returns-in-Ok-clause-passes
is_kind-returns-in-Ok-clause-passes t c = λ q. leads_part c.args.self.now.rules.items.now c.args.self.now.rules.budget c.args.number (infer (signature c.args.self.now.rules.items.now) a_kind (entries c.args.context.now) c.args.kind.now) (λ _. q) star c.in-Ok.ensures

pub is_kind-returns-in-Err-clause-passes : goal.is_kind-returns-in-Err-clause-passes
is_kind-returns-in-Err-clause-passes t c = λ q. faults_inside c.args.self.now.rules.items.now c.args.self.now.rules.budget c.args.number (infer (signature c.args.self.now.rules.items.now) a_kind (entries c.args.context.now) c.args.kind.now) (λ _. q) c.in-Err.fault c.inside.result c.inside.ensures c.in-Err.ensures

pub is_kind-returns-in-Ok-clause-erasure : goal.is_kind-returns-in-Ok-clause-erasure
is_kind-returns-in-Ok-clause-erasure t c = (kept c.args.self.now.rules.items.now c.known.ensures.items c.known.ensures.erasures c.args.self.now.rules.budget a_kind (entries c.args.context.now) c.args.kind.now star c.requires.context c.requires.fits c.in-Ok.ensures).0

pub erased_kind-returns-clause-fits : goal.erased_kind-returns-clause-fits
erased_kind-returns-clause-fits t c = rw c.in_ok-erase.ensures.is (erased-fits (item_sorts c.args.self.now.rules.items.now) (sorts c.args.context.now) kinds c.args.kind.now c.requires.fits c.in_ok-is_kind.ensures.erasure)

pub erased_kind-returns-in_err-erase-clause-passes : goal.erased_kind-returns-in_err-erase-clause-passes
erased_kind-returns-in_err-erase-clause-passes t c = let p = err_from_is_err_and c.from_residual-in_err-erase.result c.from_residual-in_err-erase.ensures.1 in rw (p.1, p.2) (λ q. no_memory _ _ _)

pub is_type-kind_is_star-requires : goal.is_type-kind_is_star-requires
is_type-kind_is_star-requires t c = both_placed (entries c.args.context.now) (item_sorts c.args.self.now.rules.items.now) (omega arith) guide_kinds c.in_ok-found.found star c.in_ok-found.ensures.fits tt

pub is_type-returns-clause-passes : goal.is_type-returns-clause-passes
is_type-returns-clause-passes t c = λ q r h. c.in_ok-found.ensures.finds _ r (c.in_ok-kind_is_star.ensures q r h)

pub is_type-returns-in_err-kind_is_star-clause-passes : goal.is_type-returns-in_err-kind_is_star-clause-passes
is_type-returns-in_err-kind_is_star-clause-passes t c = let p = err_from_is_err_and c.from_residual-in_err-kind_is_star.result c.from_residual-in_err-kind_is_star.ensures.1 in rw (p.1, p.2) (λ q. c.in_ok-found.ensures.finds _ _ (c.in_err-kind_is_star.ensures q))

pub erased_type-returns-clause-fits : goal.erased_type-returns-clause-fits
erased_type-returns-clause-fits t c = rw c.in_ok-erase.ensures.is (erased-fits (item_sorts c.args.self.now.rules.items.now) (sorts c.args.context.now) types c.args.ty.now c.requires.fits c.in_ok-is_type.ensures.erasure)

pub erased_type-returns-in_err-erase-clause-passes : goal.erased_type-returns-in_err-erase-clause-passes
erased_type-returns-in_err-erase-clause-passes t c = let p = err_from_is_err_and c.from_residual-in_err-erase.result c.from_residual-in_err-erase.ensures.1 in rw (p.1, p.2) (λ q. no_memory _ _ _)

pub dependent-returns : goal.dependent-returns
dependent-returns t c = rw (← c.in_ok-domain.ensures.is, c.in_ok-star.ensures) (c.in_ok-domain.ensures.passes _ _ (c.in_ok-is_type.ensures.passes _ _ (finds_meets _ _ _)))

pub dependent-returns-in_err-star : goal.dependent-returns-in_err-star
dependent-returns-in_err-star t c = let p = err_from_is_err_and c.from_residual-in_err-star.result c.from_residual-in_err-star.ensures.1 in rw (p.1, p.2) (no_memory _ _ _)

pub polymorphic-returns : goal.polymorphic-returns
polymorphic-returns t c = rw (← c.in_ok-domain.ensures.is, c.in_ok-star.ensures) (c.in_ok-domain.ensures.passes _ _ (c.in_ok-is_type.ensures.passes _ _ (finds_meets _ _ _)))

pub polymorphic-returns-in_err-star : goal.polymorphic-returns-in_err-star
polymorphic-returns-in_err-star t c = let p = err_from_is_err_and c.from_residual-in_err-star.result c.from_residual-in_err-star.ensures.1 in rw (p.1, p.2) (no_memory _ _ _)

pub polymorphic-returns-in_err-domain : goal.polymorphic-returns-in_err-domain
polymorphic-returns-in_err-domain t c = let p = err_from_is_err_and c.from_residual.result c.from_residual.ensures.1 in rw (p.1, p.2) (c.in_err-domain.ensures.passes _)

pub polymorphic-returns-in_err-is_type : goal.polymorphic-returns-in_err-is_type
polymorphic-returns-in_err-is_type t c = let p = err_from_is_err_and c.from_residual-in_err-is_type.result c.from_residual-in_err-is_type.ensures.1 in rw (p.1, p.2) (rw (← c.in_ok-domain.ensures.is) (c.in_ok-domain.ensures.passes _ _ (c.in_err-is_type.ensures.passes _)))

pub application-returns-in_err-parts : goal.application-returns-in_err-parts
application-returns-in_err-parts t c = let p = err_from_is_err_and c.from_residual.result c.from_residual.ensures.1 in rw (p.1, p.2) (c.in_err-parts.ensures.finds _)

pub application-returns : goal.application-returns
application-returns t c = c.in_ok-parts.ensures.finds _ _ c.applied.ensures

pub erased_application-returns-in_err-parts : goal.erased_application-returns-in_err-parts
erased_application-returns-in_err-parts t c = let p = err_from_is_err_and c.from_residual.result c.from_residual.ensures.1 in rw (p.1, p.2) (c.in_err-parts.ensures.finds _)

pub erased_application-returns : goal.erased_application-returns
erased_application-returns t c = c.in_ok-parts.ensures.finds _ _ c.applied.ensures

pub applied-returns-in_err-found : goal.applied-returns-in_err-found
applied-returns-in_err-found t c = let p = err_from_is_err_and c.from_residual.result c.from_residual.ensures.1 in rw (p.1, p.2) (c.in_err-found.ensures.finds _)

pub applied-type_at_term-requires-clause-placed : goal.applied-type_at_term-requires-clause-placed
applied-type_at_term-requires-clause-placed t c = both_placed (entries c.args.context.now) (item_sorts c.args.self.now.rules.items.now) (omega arith) guides _ _ c.in_ok-found.ensures.fits c.requires.parts_fit.0

pub applied-type_at_term-requires-clause-used : goal.applied-type_at_term-requires-clause-used
applied-type_at_term-requires-clause-used t c = used (sorts c.args.context.now) (item_sorts c.args.self.now.rules.items.now) OfTerm guides c.args.parts.now.1.tree c.requires.parts_fit.1

pub applied-type_at_term-requires-clause-below : goal.applied-type_at_term-requires-clause-below
applied-type_at_term-requires-clause-below t c = erased_below (entries c.args.context.now) (item_sorts c.args.self.now.rules.items.now) (omega arith) terms c.args.arg.now _ c.requires.fits c.in_ok-found.ensures.erasure refl

pub applied-returns : goal.applied-returns
applied-returns t c = c.in_ok-found.ensures.finds _ _ c.type_at_term.ensures

pub rewriting-returns-in_err-sides : goal.rewriting-returns-in_err-sides
rewriting-returns-in_err-sides t c = let p = err_from_is_err_and c.from_residual.result c.from_residual.ensures.1 in rw (p.1, p.2) (c.in_err-sides.ensures.finds _)

pub rewriting-returns : goal.rewriting-returns
rewriting-returns t c = c.in_ok-sides.ensures.finds _ _ c.rewritten.ensures

pub rewritten-is_before-requires-clause-used : goal.rewritten-is_before-requires-clause-used
rewritten-is_before-requires-clause-used t c = used (sorts c.args.context.now) (item_sorts c.args.self.now.rules.items.now) OfTerm guides c.args.guide.now c.requires.guide_fits

pub rewritten-is_before-requires-clause-below : goal.rewritten-is_before-requires-clause-below
rewritten-is_before-requires-clause-below t c = below (entries c.args.context.now) (item_sorts c.args.self.now.rules.items.now) (omega arith) pure_terms c.args.sides.now.0.tree c.requires.sides_fit.0

pub rewritten-is_before-requires-clause-placed : goal.rewritten-is_before-requires-clause-placed
rewritten-is_before-requires-clause-placed t c = both_placed (entries c.args.context.now) (item_sorts c.args.self.now.rules.items.now) (omega arith) guides c.in_ok-ty.ty _ c.in_ok-ty.ensures.fits (put_fit (sorts c.args.context.now) (item_sorts c.args.self.now.rules.items.now) OfTerm guides c.args.guide.now c.args.sides.now.0.tree _ tt c.requires.sides_fit.0 c.requires.guide_fits refl)

pub rewritten-returns-in_err-ty : goal.rewritten-returns-in_err-ty
rewritten-returns-in_err-ty t c = let p = err_from_is_err_and c.from_residual.result c.from_residual.ensures.1 in rw (p.1, p.2) (c.in_err-ty.ensures.passes _)

pub rewritten-returns-in_err-is_before : goal.rewritten-returns-in_err-is_before
rewritten-returns-in_err-is_before t c = let p = err_from_is_err_and c.from_residual-in_err-is_before.result c.from_residual-in_err-is_before.ensures.1 in rw (p.1, p.2) (rw (← c.in_ok-ty.ensures.is) (c.in_ok-ty.ensures.passes _ _ (c.in_err-is_before.ensures _)))

pub rewritten-returns-in_err-part_is_after : goal.rewritten-returns-in_err-part_is_after
rewritten-returns-in_err-part_is_after t c = let p = err_from_is_err_and c.from_residual-in_err-part_is_after.result c.from_residual-in_err-part_is_after.ensures.1 in rw (p.1, p.2) (rw (← c.in_ok-ty.ensures.is) (c.in_ok-ty.ensures.passes _ _ (c.in_ok-is_before.ensures _ _ (c.in_err-part_is_after.ensures _))))

pub rewritten-returns : goal.rewritten-returns
rewritten-returns t c = rw (← c.in_ok-ty.ensures.is) (c.in_ok-ty.ensures.passes _ _ (c.in_ok-is_before.ensures _ _ (c.in_ok-part_is_after.ensures _ _ (limited_meets _ _ _ _ c.limited.ensures))))

pub part_is_after-is_after-requires-clause-used : goal.part_is_after-is_after-requires-clause-used
part_is_after-is_after-requires-clause-used t c = used (sorts c.args.context.now) (item_sorts c.args.self.now.rules.items.now) OfTerm guides c.args.guide.now c.requires.guide_fits

pub part_is_after-is_after-requires-clause-below : goal.part_is_after-is_after-requires-clause-below
part_is_after-is_after-requires-clause-below t c = below (entries c.args.context.now) (item_sorts c.args.self.now.rules.items.now) (omega arith) pure_terms c.args.sides.now.1.tree c.requires.right_fits

pub part_is_after-is_after-requires-clause-placed : goal.part_is_after-is_after-requires-clause-placed
part_is_after-is_after-requires-clause-placed t c = both_placed (entries c.args.context.now) (item_sorts c.args.self.now.rules.items.now) (omega arith) guides c.in_ok-found.found _ c.in_ok-found.ensures.fits (put_fit (sorts c.args.context.now) (item_sorts c.args.self.now.rules.items.now) OfTerm guides c.args.guide.now c.args.sides.now.1.tree _ tt c.requires.right_fits c.requires.guide_fits refl)

pub part_is_after-returns-in_err-found : goal.part_is_after-returns-in_err-found
part_is_after-returns-in_err-found t c = let p = err_from_is_err_and c.from_residual.result c.from_residual.ensures.1 in rw (p.1, p.2) (λ q. c.in_err-found.ensures.finds _)

pub part_is_after-returns : goal.part_is_after-returns
part_is_after-returns t c = passes_found c.args.self.now.rules.items.now c.args.self.now.rules.budget _ (λ found q. unless_deep (put 0 c.args.sides.now.1.tree c.args.guide.now) (ask_same (4 ∷ []) (mismatch found (put 0 c.args.sides.now.1.tree c.args.guide.now)) found (put 0 c.args.sides.now.1.tree c.args.guide.now) q)) c.in_ok-found.found c.is_after.result c.in_ok-found.ensures.finds c.is_after.ensures

pub cast-returns-in_err-sides : goal.cast-returns-in_err-sides
cast-returns-in_err-sides t c = let p = err_from_is_err_and c.from_residual.result c.from_residual.ensures.1 in rw (p.1, p.2) (c.in_err-sides.ensures.finds _)

pub cast-returns : goal.cast-returns
cast-returns t c = c.in_ok-sides.ensures.finds _ _ c.cast_to.ensures

pub cast_to-are_cast-requires-clause-placed : goal.cast_to-are_cast-requires-clause-placed
cast_to-are_cast-requires-clause-placed t c = both_placed (entries c.args.context.now) (item_sorts c.args.self.now.rules.items.now) (omega arith) pure_terms _ _ c.requires.sides_fit.0 (erased_fit (sorts c.args.context.now) (item_sorts c.args.self.now.rules.items.now) terms c.args.part.now _ c.requires.part_fits c.in_ok-found.ensures.erasure refl)

pub cast_to-are_cast-requires-clause-kept : goal.cast_to-are_cast-requires-clause-kept
cast_to-are_cast-requires-clause-kept t c = both_placed (entries c.args.context.now) (item_sorts c.args.self.now.rules.items.now) (omega arith) pure_terms _ c.args.kept.now c.requires.sides_fit.1 c.requires.kept_fits

pub cast_to-returns-in_err-found : goal.cast_to-returns-in_err-found
cast_to-returns-in_err-found t c = let p = err_from_is_err_and c.from_residual.result c.from_residual.ensures.1 in rw (p.1, p.2) (c.in_err-found.ensures.finds _)

pub cast_to-returns-in_err-are_cast : goal.cast_to-returns-in_err-are_cast
cast_to-returns-in_err-are_cast t c = let p = err_from_is_err_and c.from_residual-in_err-are_cast.result c.from_residual-in_err-are_cast.ensures.1 in rw (p.1, p.2) (c.in_ok-found.ensures.finds _ _ (c.in_err-are_cast.ensures _))

pub cast_to-returns : goal.cast_to-returns
cast_to-returns t c = c.in_ok-found.ensures.finds _ _ (c.in_ok-are_cast.ensures _ _ (limited_meets _ _ _ _ c.limited.ensures))

pub separation-returns-in_err-separates : goal.separation-returns-in_err-separates
separation-returns-in_err-separates t c = let p = err_from_is_err_and c.from_residual-in_err-separates.result c.from_residual-in_err-separates.ensures.1 in rw (p.1, p.2) (rw (← c.in_ok-ty.ensures.is) (c.in_ok-ty.ensures.passes _ _ (c.in_err-separates.ensures _)))

pub separation-returns : goal.separation-returns
separation-returns t c = rw (← c.in_ok-ty.ensures.is) (c.in_ok-ty.ensures.passes _ _ (c.in_ok-separates.ensures _ _ (limited_meets _ _ _ _ c.limited.ensures)))

pub separates-are_booleans-requires-clause-placed : goal.separates-are_booleans-requires-clause-placed
separates-are_booleans-requires-clause-placed t c = both_placed (entries c.args.context.now) (item_sorts c.args.self.now.rules.items.now) (omega arith) pure_terms _ _ c.in_ok-sides.ensures.fits.0 c.in_ok-sides.ensures.fits.1

pub separates-returns-in_err-sides : goal.separates-returns-in_err-sides
separates-returns-in_err-sides t c = let p = err_from_is_err_and c.from_residual.result c.from_residual.ensures.1 in rw (p.1, p.2) (λ q. c.in_err-sides.ensures.finds _)

pub separates-returns : goal.separates-returns
separates-returns t c = passes_parts c.args.self.now.rules.items.now c.args.self.now.rules.budget _ (λ left right q. ask_same [] (not_booleans left right) left true_pure (ask_same [] (not_booleans left right) right false_pure q)) c.in_ok-sides.sides c.are_booleans.result c.in_ok-sides.ensures.finds c.are_booleans.ensures
