-- A result of a form: each step that passed leads to the rest of the rule's questions, and a fault ends them. So an answer is a chain of the steps that
-- passed, each by its clause, with what was found last.
use Rattle.std.proofs.Common.{◌∷◌, cond, Option, Some, None, ap, sym, ◌∙◌}
use Rattle.std.specs.Borrow.{Bor}
use Rattle.std.proofs.lemmas.Result.{err_from_is_err_and}
use Rattle.cdle_model.specs.Trees.{Tree, allt_of, iota_of, kpi_of, kpit_of, put}
use Rattle.cdle_model.specs.Forms.{star, kpi, kpit, tlam, xtlam, at_, delta, fst, phi, snd, rho}
use Rattle.cdle_model.specs.Erasure.{erased}
use Rattle.cdle_model.specs.Substitution.{put_written}
use Rattle.cdle_model.specs.Derivation.{term_of, type_of}
use Rattle.source_model.specs.Heights.{is_none, span_of}
use Rattle.source_model.specs.Source.{bind, one, two, phi_of, rho_of}
use Rattle.scope_model.specs.Scoped.{Scoped}
use Rattle.elab_model.specs.declared.codes.Code.TheVariants.{WantedFunction, WantedIntersection, WantedKind, AnnotationWanted, SidesDiffer}
use Rattle.elab_model.specs.ScopedForms.{bracket, letter, s_pair, s_xlam, s_unclassed}
use Rattle.elab_model.specs.Instances.{has_unknown}
use Rattle.elab_model.specs.Questions.{Questions, gives, rejects, ask_same, then, limited}
use Rattle.elab_model.specs.Rules.{term, type as type_in, kind as kind_in, infer as infers, check as checks, started as starts, star_then, agrees_then, if_annotated, gives_type, gives_checked, gives_inferred, gives_spine, binder_then, equation_then, erase, by_goal, is_equation as is_written}
use Rattle.elab_model.specs.Soundness.{no_encodings}
use Rattle.elab_model.specs.Spines.{Made, Spine, Typed, spine, binder_parts, argument as argument_of, type_argument as type_argument_of, against as ends_against, without_goal as ends_without}
use Rattle.elab_reduce.specs.Items.{env_of}
use Rattle.elab_rules.specs.declared.spine.Argument.TheVariants.{Erased as ErasedArgument}
use Rattle.elab_rules.specs.Contexts.{entries}
use Rattle.elab_rules.specs.declared.place.At.TheVariants.{Bracket, Letter}
use Rattle.elab_rules.specs.declared.forms.Product.{Product}
use Rattle.elab_rules.specs.Equations.{are_booleans, are_sides, flipped, is_said, paired, rewritten_from, said_of}
use Rattle.elab_rules.specs.Endings as ends_of
use Rattle.elab_rules.specs.Endings.{asks_product, either_of}
use Rattle.elab_rules.specs.Spines.{Open, binary_of, binder_of, made_of, open_of, open_type_of, opens, opens_type, spine_of, takes, takes_inferred, takes_type}
use Rattle.elab_rules.proofs.Steps.{no_memory, given, goes_on, ends, same_on, same_ends}
use Rattle.scoped_tree.specs.declared.forms.BindForm.{BindForm}
use Rattle.scoped_tree.specs.declared.forms.OneForm.{OneForm}
use Rattle.scoped_tree.specs.declared.forms.TwoForm.{TwoForm}
use Rattle.scoped_tree.specs.Trees.{form_tree, place, bind_form, one_form, two_form}
use Rattle.elab_check.specs.Forms.{abstracted, of_product, seen_goal}
use Rattle.elab_check.proofs.Chains.{along, ended_through, star_on, star_ends, binder_on, binder_ends, kind_parts_on, kind_parts_end, where_true, where_false, annotated_on, annotated_ends, type_annotation_falls, kind_annotation_falls, argument_falls, type_argument_falls, either_falls, refused, unknown_is}
use Rattle.elab_check.specs.Rewriting.{Proof, along_equation, along_guide, rewrites}
use Rattle.elab_check.proofs.Rewriting.{equation_on, equation_ends, proof_of, proof_falls, rewriting_falls}
use Rattle.elab_check.proofs.Equated.{absurd_by_goal, absurd_falls, absurd_of, casts, pair_checked, pair_falls, second_checked}
use Rattle.elab_check.proofs.Formed.{abstraction_is, abstraction_against_is, application_is, formed_is, inferred_abstraction, checked_abstraction}
use Rattle.elab_check.proofs.checker.Checker.+infer.Goals as goal

pub infer-returns-in_err-made : goal.infer-returns-in_err-made
infer-returns-in_err-made t c = let p = err_from_is_err_and c.from_residual.result c.from_residual.ensures.1 in rw (p.1, p.2) (ends c.args.self.now.rules.env.now c.args.self.now.rules.budget (term (env_of c.args.self.now.rules.env.now) no_encodings (entries c.args.context.now) c.args.node.now None (span_of c.args.node.now)) (ends_without (env_of c.args.self.now.rules.env.now) (span_of c.args.node.now) (entries c.args.context.now)) _ (rw (← c.span.ensures) c.in_err-made.ensures))

pub infer-returns : goal.infer-returns
infer-returns t c = goes_on c.args.self.now.rules.env.now c.args.self.now.rules.budget (term (env_of c.args.self.now.rules.env.now) no_encodings (entries c.args.context.now) c.args.node.now None (span_of c.args.node.now)) (ends_without (env_of c.args.self.now.rules.env.now) (span_of c.args.node.now) (entries c.args.context.now)) (made_of c.in_ok-made.made) _ (rw (← c.span.ensures) c.in_ok-made.ensures) (rw (← c.span-2.ensures) c.without_goal.ensures)

pub check-returns-in_err-made : goal.check-returns-in_err-made
check-returns-in_err-made t c = let p = err_from_is_err_and c.from_residual.result c.from_residual.ensures.1 in rw (p.1, p.2) (ends c.args.self.now.rules.env.now c.args.self.now.rules.budget (term (env_of c.args.self.now.rules.env.now) no_encodings (entries c.args.context.now) c.args.node.now (Some c.args.goal.now) (span_of c.args.node.now)) (ends_against (env_of c.args.self.now.rules.env.now) (span_of c.args.node.now) (entries c.args.context.now) c.args.goal.now) _ (rw (← c.span.ensures) c.in_err-made.ensures))

pub check-returns : goal.check-returns
check-returns t c = goes_on c.args.self.now.rules.env.now c.args.self.now.rules.budget (term (env_of c.args.self.now.rules.env.now) no_encodings (entries c.args.context.now) c.args.node.now (Some c.args.goal.now) (span_of c.args.node.now)) (ends_against (env_of c.args.self.now.rules.env.now) (span_of c.args.node.now) (entries c.args.context.now) c.args.goal.now) (made_of c.in_ok-made.made) _ (rw (← c.span.ensures) c.in_ok-made.ensures) (rw (← c.span-2.ensures) c.against.ensures)

pub star-returns-in_err-found : goal.star-returns-in_err-found
star-returns-in_err-found t c = let p = err_from_is_err_and c.from_residual.result c.from_residual.ensures.1 in rw (p.1, p.2) (ends c.args.self.now.rules.env.now c.args.self.now.rules.budget (type_in (env_of c.args.self.now.rules.env.now) no_encodings (entries c.args.context.now) c.args.part.now) (λ (x : Typed). ask_same (place c.args.form) (span_of c.args.part.now) WantedKind (erased x.1) star (gives x.0)) _ c.in_err-found.ensures)

pub star-returns-in_err-is_star : goal.star-returns-in_err-is_star
star-returns-in_err-is_star t c = let p = err_from_is_err_and c.from_residual-in_err-is_star.result c.from_residual-in_err-is_star.ensures.1 in rw (p.1, p.2) (goes_on c.args.self.now.rules.env.now c.args.self.now.rules.budget (type_in (env_of c.args.self.now.rules.env.now) no_encodings (entries c.args.context.now) c.args.part.now) (λ (x : Typed). ask_same (place c.args.form) (span_of c.args.part.now) WantedKind (erased x.1) star (gives x.0)) c.in_ok-found.found _ c.in_ok-found.ensures (rw (← c.span.ensures) (same_ends c.args.self.now.rules.env.now c.args.self.now.rules.budget _ _ WantedKind _ star (gives c.in_ok-found.found.0) _ c.in_err-is_star.ensures)))

pub star-returns : goal.star-returns
star-returns t c = goes_on c.args.self.now.rules.env.now c.args.self.now.rules.budget (type_in (env_of c.args.self.now.rules.env.now) no_encodings (entries c.args.context.now) c.args.part.now) (λ (x : Typed). ask_same (place c.args.form) (span_of c.args.part.now) WantedKind (erased x.1) star (gives x.0)) c.in_ok-found.found _ c.in_ok-found.ensures (rw (← c.span.ensures) (same_on c.args.self.now.rules.env.now c.args.self.now.rules.budget _ _ WantedKind _ star (gives c.in_ok-found.found.0) _ c.in_ok-is_star.ensures (given c.args.self.now.rules.env.now c.args.self.now.rules.budget _)))

pub abstraction-returns-in_err-domain : goal.abstraction-returns-in_err-domain
abstraction-returns-in_err-domain t c = let p = err_from_is_err_and c.from_residual.result c.from_residual.ensures.1 in rw (p.1, p.2) (star_ends (place c.args.span) c.args.domain.now (type_in (env_of c.args.self.now.rules.env.now) no_encodings (entries c.args.context.now) c.args.domain.now) (λ (d : Tree). then (infers (env_of c.args.self.now.rules.env.now) no_encodings (term_of d ∷ (entries c.args.context.now)) c.args.part.now (term (env_of c.args.self.now.rules.env.now) no_encodings (term_of d ∷ (entries c.args.context.now)) c.args.part.now)) (λ (r : Typed). ends_of.abstraction c.args.argument (place c.args.span) d r)) c.args.self.now.rules.env.now c.args.self.now.rules.budget _ c.in_err-domain.ensures)

pub abstraction-returns-in_err-body : goal.abstraction-returns-in_err-body
abstraction-returns-in_err-body t c = let p = err_from_is_err_and c.from_residual-in_err-body.result c.from_residual-in_err-body.ensures.1 in rw (p.1, p.2) (star_on (place c.args.span) c.args.domain.now (type_in (env_of c.args.self.now.rules.env.now) no_encodings (entries c.args.context.now) c.args.domain.now) (λ (d : Tree). then (infers (env_of c.args.self.now.rules.env.now) no_encodings (term_of d ∷ (entries c.args.context.now)) c.args.part.now (term (env_of c.args.self.now.rules.env.now) no_encodings (term_of d ∷ (entries c.args.context.now)) c.args.part.now)) (λ (r : Typed). ends_of.abstraction c.args.argument (place c.args.span) d r)) c.args.self.now.rules.env.now c.args.self.now.rules.budget _ _ c.in_ok-domain.ensures (ends c.args.self.now.rules.env.now c.args.self.now.rules.budget (infers (env_of c.args.self.now.rules.env.now) no_encodings (term_of c.in_ok-domain.domain ∷ (entries c.args.context.now)) c.args.part.now (term (env_of c.args.self.now.rules.env.now) no_encodings (term_of c.in_ok-domain.domain ∷ (entries c.args.context.now)) c.args.part.now)) (λ (r : Typed). ends_of.abstraction c.args.argument (place c.args.span) c.in_ok-domain.domain r) _ c.in_err-body.ensures))

pub abstraction-returns : goal.abstraction-returns
abstraction-returns t c = star_on (place c.args.span) c.args.domain.now (type_in (env_of c.args.self.now.rules.env.now) no_encodings (entries c.args.context.now) c.args.domain.now) (λ (d : Tree). then (infers (env_of c.args.self.now.rules.env.now) no_encodings (term_of d ∷ (entries c.args.context.now)) c.args.part.now (term (env_of c.args.self.now.rules.env.now) no_encodings (term_of d ∷ (entries c.args.context.now)) c.args.part.now)) (λ (r : Typed). ends_of.abstraction c.args.argument (place c.args.span) d r)) c.args.self.now.rules.env.now c.args.self.now.rules.budget _ _ c.in_ok-domain.ensures (goes_on c.args.self.now.rules.env.now c.args.self.now.rules.budget (infers (env_of c.args.self.now.rules.env.now) no_encodings (term_of c.in_ok-domain.domain ∷ (entries c.args.context.now)) c.args.part.now (term (env_of c.args.self.now.rules.env.now) no_encodings (term_of c.in_ok-domain.domain ∷ (entries c.args.context.now)) c.args.part.now)) (λ (r : Typed). ends_of.abstraction c.args.argument (place c.args.span) c.in_ok-domain.domain r) c.in_ok-body.body _ c.in_ok-body.ensures c.abstraction.ensures)

pub type_abstraction-returns-in_err-domain : goal.type_abstraction-returns-in_err-domain
type_abstraction-returns-in_err-domain t c = let p = err_from_is_err_and c.from_residual.result c.from_residual.ensures.1 in rw (p.1, p.2) (ends c.args.self.now.rules.env.now c.args.self.now.rules.budget (kind_in (env_of c.args.self.now.rules.env.now) no_encodings (entries c.args.context.now) c.args.domain.now) (λ (d : Tree). then (infers (env_of c.args.self.now.rules.env.now) no_encodings (type_of d ∷ (entries c.args.context.now)) c.args.part.now (term (env_of c.args.self.now.rules.env.now) no_encodings (type_of d ∷ (entries c.args.context.now)) c.args.part.now)) (λ (r : Typed). ends_of.type_abstraction (place c.args.span) d r)) _ c.in_err-domain.ensures)

pub type_abstraction-returns-in_err-body : goal.type_abstraction-returns-in_err-body
type_abstraction-returns-in_err-body t c = let p = err_from_is_err_and c.from_residual-in_err-body.result c.from_residual-in_err-body.ensures.1 in rw (p.1, p.2) (goes_on c.args.self.now.rules.env.now c.args.self.now.rules.budget (kind_in (env_of c.args.self.now.rules.env.now) no_encodings (entries c.args.context.now) c.args.domain.now) (λ (d : Tree). then (infers (env_of c.args.self.now.rules.env.now) no_encodings (type_of d ∷ (entries c.args.context.now)) c.args.part.now (term (env_of c.args.self.now.rules.env.now) no_encodings (type_of d ∷ (entries c.args.context.now)) c.args.part.now)) (λ (r : Typed). ends_of.type_abstraction (place c.args.span) d r)) c.in_ok-domain.domain _ c.in_ok-domain.ensures (ends c.args.self.now.rules.env.now c.args.self.now.rules.budget (infers (env_of c.args.self.now.rules.env.now) no_encodings (type_of c.in_ok-domain.domain ∷ (entries c.args.context.now)) c.args.part.now (term (env_of c.args.self.now.rules.env.now) no_encodings (type_of c.in_ok-domain.domain ∷ (entries c.args.context.now)) c.args.part.now)) (λ (r : Typed). ends_of.type_abstraction (place c.args.span) c.in_ok-domain.domain r) _ c.in_err-body.ensures))

pub type_abstraction-returns : goal.type_abstraction-returns
type_abstraction-returns t c = goes_on c.args.self.now.rules.env.now c.args.self.now.rules.budget (kind_in (env_of c.args.self.now.rules.env.now) no_encodings (entries c.args.context.now) c.args.domain.now) (λ (d : Tree). then (infers (env_of c.args.self.now.rules.env.now) no_encodings (type_of d ∷ (entries c.args.context.now)) c.args.part.now (term (env_of c.args.self.now.rules.env.now) no_encodings (type_of d ∷ (entries c.args.context.now)) c.args.part.now)) (λ (r : Typed). ends_of.type_abstraction (place c.args.span) d r)) c.in_ok-domain.domain _ c.in_ok-domain.ensures (goes_on c.args.self.now.rules.env.now c.args.self.now.rules.budget (infers (env_of c.args.self.now.rules.env.now) no_encodings (type_of c.in_ok-domain.domain ∷ (entries c.args.context.now)) c.args.part.now (term (env_of c.args.self.now.rules.env.now) no_encodings (type_of c.in_ok-domain.domain ∷ (entries c.args.context.now)) c.args.part.now)) (λ (r : Typed). ends_of.type_abstraction (place c.args.span) c.in_ok-domain.domain r) c.in_ok-body.body _ c.in_ok-body.ensures c.type_abstraction.ensures)

pub type_abstracted-returns-in_err-body : goal.type_abstracted-returns-in_err-body
type_abstracted-returns-in_err-body t c = let p = err_from_is_err_and c.from_residual.result c.from_residual.ensures.1 in rw (p.1, p.2) (ends c.args.self.now.rules.env.now c.args.self.now.rules.budget (checks (env_of c.args.self.now.rules.env.now) no_encodings (type_of c.args.kind.now ∷ (entries c.args.context.now)) c.args.part.now (term (env_of c.args.self.now.rules.env.now) no_encodings (type_of c.args.kind.now ∷ (entries c.args.context.now)) c.args.part.now) c.args.range.now) (λ (t : Tree). ends_of.type_abstraction_against (place c.args.span) c.args.kind.now t) _ c.in_err-body.ensures)

pub type_abstracted-returns : goal.type_abstracted-returns
type_abstracted-returns t c = goes_on c.args.self.now.rules.env.now c.args.self.now.rules.budget (checks (env_of c.args.self.now.rules.env.now) no_encodings (type_of c.args.kind.now ∷ (entries c.args.context.now)) c.args.part.now (term (env_of c.args.self.now.rules.env.now) no_encodings (type_of c.args.kind.now ∷ (entries c.args.context.now)) c.args.part.now) c.args.range.now) (λ (t : Tree). ends_of.type_abstraction_against (place c.args.span) c.args.kind.now t) c.in_ok-body.body _ c.in_ok-body.ensures c.type_abstraction_against.ensures

pub erased_abstracted-returns-in_err-body : goal.erased_abstracted-returns-in_err-body
erased_abstracted-returns-in_err-body t c = let p = err_from_is_err_and c.from_residual.result c.from_residual.ensures.1 in rw (p.1, p.2) (ends c.args.self.now.rules.env.now c.args.self.now.rules.budget (checks (env_of c.args.self.now.rules.env.now) no_encodings (term_of c.args.domain.now ∷ (entries c.args.context.now)) c.args.part.now (term (env_of c.args.self.now.rules.env.now) no_encodings (term_of c.args.domain.now ∷ (entries c.args.context.now)) c.args.part.now) c.args.range.now) (λ (t : Tree). ends_of.abstraction_against ErasedArgument (place c.args.span) c.args.domain.now t) _ c.in_err-body.ensures)

pub erased_abstracted-returns : goal.erased_abstracted-returns
erased_abstracted-returns t c = goes_on c.args.self.now.rules.env.now c.args.self.now.rules.budget (checks (env_of c.args.self.now.rules.env.now) no_encodings (term_of c.args.domain.now ∷ (entries c.args.context.now)) c.args.part.now (term (env_of c.args.self.now.rules.env.now) no_encodings (term_of c.args.domain.now ∷ (entries c.args.context.now)) c.args.part.now) c.args.range.now) (λ (t : Tree). ends_of.abstraction_against ErasedArgument (place c.args.span) c.args.domain.now t) c.in_ok-body.body _ c.in_ok-body.ensures c.abstraction_against.ensures

pub abstraction_against-returns-in_err-parts : goal.abstraction_against-returns-in_err-parts
abstraction_against-returns-in_err-parts t c = let p = err_from_is_err_and c.from_residual.result c.from_residual.ensures.1 in rw (p.1, p.2) (λ w. along c.args.self.now.rules.env.now c.args.self.now.rules.budget _ _ _ (sym (abstraction_against_is (env_of c.args.self.now.rules.env.now) no_encodings (entries c.args.context.now) c.args.argument (place c.args.span) c.args.domain.now c.args.part.now c.args.goal.now w)) (binder_ends (place c.args.span) (letter (place c.args.span)) WantedFunction (binder_of c.args.argument) c.args.goal.now (checked_abstraction (env_of c.args.self.now.rules.env.now) no_encodings (entries c.args.context.now) (place c.args.span) c.args.argument c.args.domain.now c.args.part.now) c.args.self.now.rules.env.now c.args.self.now.rules.budget _ (rw (← c.former_of-former.ensures) c.in_err-parts.ensures)))

pub abstraction_against-returns-in_err-annotation : goal.abstraction_against-returns-in_err-annotation
abstraction_against-returns-in_err-annotation t c = let p = err_from_is_err_and c.from_residual-in_err-annotation.result c.from_residual-in_err-annotation.ensures.1 in rw (p.1, p.2) (λ w. along c.args.self.now.rules.env.now c.args.self.now.rules.budget _ _ _ (sym (abstraction_against_is (env_of c.args.self.now.rules.env.now) no_encodings (entries c.args.context.now) c.args.argument (place c.args.span) c.args.domain.now c.args.part.now c.args.goal.now w)) (binder_on (place c.args.span) (letter (place c.args.span)) WantedFunction (binder_of c.args.argument) c.args.goal.now (checked_abstraction (env_of c.args.self.now.rules.env.now) no_encodings (entries c.args.context.now) (place c.args.span) c.args.argument c.args.domain.now c.args.part.now) c.args.self.now.rules.env.now c.args.self.now.rules.budget c.in_ok-parts.parts _ (rw (← c.former_of-former.ensures) c.in_ok-parts.ensures) (annotated_ends c.args.domain.now (λ (q : Questions (Unit {0})). star_then (place c.args.span) c.args.domain.now (type_in (env_of c.args.self.now.rules.env.now) no_encodings (entries c.args.context.now) c.args.domain.now) (λ d'. agrees_then (place c.args.span) c.args.domain.now d' c.in_ok-parts.parts.0 q)) (λ (q : Questions Made). star_then (place c.args.span) c.args.domain.now (type_in (env_of c.args.self.now.rules.env.now) no_encodings (entries c.args.context.now) c.args.domain.now) (λ d'. agrees_then (place c.args.span) c.args.domain.now d' c.in_ok-parts.parts.0 q)) (then (checks (env_of c.args.self.now.rules.env.now) no_encodings (term_of c.in_ok-parts.parts.0 ∷ (entries c.args.context.now)) c.args.part.now (term (env_of c.args.self.now.rules.env.now) no_encodings (term_of c.in_ok-parts.parts.0 ∷ (entries c.args.context.now)) c.args.part.now) c.in_ok-parts.parts.1) (λ (t : Tree). ends_of.abstraction_against c.args.argument (place c.args.span) c.in_ok-parts.parts.0 t)) (type_annotation_falls (place c.args.span) c.args.domain.now (type_in (env_of c.args.self.now.rules.env.now) no_encodings (entries c.args.context.now) c.args.domain.now) c.in_ok-parts.parts.0 (then (checks (env_of c.args.self.now.rules.env.now) no_encodings (term_of c.in_ok-parts.parts.0 ∷ (entries c.args.context.now)) c.args.part.now (term (env_of c.args.self.now.rules.env.now) no_encodings (term_of c.in_ok-parts.parts.0 ∷ (entries c.args.context.now)) c.args.part.now) c.in_ok-parts.parts.1) (λ (t : Tree). ends_of.abstraction_against c.args.argument (place c.args.span) c.in_ok-parts.parts.0 t))) c.args.self.now.rules.env.now c.args.self.now.rules.budget _ c.in_err-annotation.ensures)))

pub abstraction_against-returns-in_err-body : goal.abstraction_against-returns-in_err-body
abstraction_against-returns-in_err-body t c = let p = err_from_is_err_and c.from_residual-in_err-body.result c.from_residual-in_err-body.ensures.1 in rw (p.1, p.2) (λ w. along c.args.self.now.rules.env.now c.args.self.now.rules.budget _ _ _ (sym (abstraction_against_is (env_of c.args.self.now.rules.env.now) no_encodings (entries c.args.context.now) c.args.argument (place c.args.span) c.args.domain.now c.args.part.now c.args.goal.now w)) (binder_on (place c.args.span) (letter (place c.args.span)) WantedFunction (binder_of c.args.argument) c.args.goal.now (checked_abstraction (env_of c.args.self.now.rules.env.now) no_encodings (entries c.args.context.now) (place c.args.span) c.args.argument c.args.domain.now c.args.part.now) c.args.self.now.rules.env.now c.args.self.now.rules.budget c.in_ok-parts.parts _ (rw (← c.former_of-former.ensures) c.in_ok-parts.ensures) (annotated_on c.args.domain.now (λ (q : Questions (Unit {0})). star_then (place c.args.span) c.args.domain.now (type_in (env_of c.args.self.now.rules.env.now) no_encodings (entries c.args.context.now) c.args.domain.now) (λ d'. agrees_then (place c.args.span) c.args.domain.now d' c.in_ok-parts.parts.0 q)) (λ (q : Questions Made). star_then (place c.args.span) c.args.domain.now (type_in (env_of c.args.self.now.rules.env.now) no_encodings (entries c.args.context.now) c.args.domain.now) (λ d'. agrees_then (place c.args.span) c.args.domain.now d' c.in_ok-parts.parts.0 q)) (then (checks (env_of c.args.self.now.rules.env.now) no_encodings (term_of c.in_ok-parts.parts.0 ∷ (entries c.args.context.now)) c.args.part.now (term (env_of c.args.self.now.rules.env.now) no_encodings (term_of c.in_ok-parts.parts.0 ∷ (entries c.args.context.now)) c.args.part.now) c.in_ok-parts.parts.1) (λ (t : Tree). ends_of.abstraction_against c.args.argument (place c.args.span) c.in_ok-parts.parts.0 t)) (type_annotation_falls (place c.args.span) c.args.domain.now (type_in (env_of c.args.self.now.rules.env.now) no_encodings (entries c.args.context.now) c.args.domain.now) c.in_ok-parts.parts.0 (then (checks (env_of c.args.self.now.rules.env.now) no_encodings (term_of c.in_ok-parts.parts.0 ∷ (entries c.args.context.now)) c.args.part.now (term (env_of c.args.self.now.rules.env.now) no_encodings (term_of c.in_ok-parts.parts.0 ∷ (entries c.args.context.now)) c.args.part.now) c.in_ok-parts.parts.1) (λ (t : Tree). ends_of.abstraction_against c.args.argument (place c.args.span) c.in_ok-parts.parts.0 t))) c.args.self.now.rules.env.now c.args.self.now.rules.budget _ c.in_ok-annotation.ensures (ends c.args.self.now.rules.env.now c.args.self.now.rules.budget (checks (env_of c.args.self.now.rules.env.now) no_encodings (term_of c.in_ok-parts.parts.0 ∷ (entries c.args.context.now)) c.args.part.now (term (env_of c.args.self.now.rules.env.now) no_encodings (term_of c.in_ok-parts.parts.0 ∷ (entries c.args.context.now)) c.args.part.now) c.in_ok-parts.parts.1) (λ (t : Tree). ends_of.abstraction_against c.args.argument (place c.args.span) c.in_ok-parts.parts.0 t) _ c.in_err-body.ensures))))

pub abstraction_against-returns : goal.abstraction_against-returns
abstraction_against-returns t c = λ w. along c.args.self.now.rules.env.now c.args.self.now.rules.budget _ _ _ (sym (abstraction_against_is (env_of c.args.self.now.rules.env.now) no_encodings (entries c.args.context.now) c.args.argument (place c.args.span) c.args.domain.now c.args.part.now c.args.goal.now w)) (binder_on (place c.args.span) (letter (place c.args.span)) WantedFunction (binder_of c.args.argument) c.args.goal.now (checked_abstraction (env_of c.args.self.now.rules.env.now) no_encodings (entries c.args.context.now) (place c.args.span) c.args.argument c.args.domain.now c.args.part.now) c.args.self.now.rules.env.now c.args.self.now.rules.budget c.in_ok-parts.parts _ (rw (← c.former_of-former.ensures) c.in_ok-parts.ensures) (annotated_on c.args.domain.now (λ (q : Questions (Unit {0})). star_then (place c.args.span) c.args.domain.now (type_in (env_of c.args.self.now.rules.env.now) no_encodings (entries c.args.context.now) c.args.domain.now) (λ d'. agrees_then (place c.args.span) c.args.domain.now d' c.in_ok-parts.parts.0 q)) (λ (q : Questions Made). star_then (place c.args.span) c.args.domain.now (type_in (env_of c.args.self.now.rules.env.now) no_encodings (entries c.args.context.now) c.args.domain.now) (λ d'. agrees_then (place c.args.span) c.args.domain.now d' c.in_ok-parts.parts.0 q)) (then (checks (env_of c.args.self.now.rules.env.now) no_encodings (term_of c.in_ok-parts.parts.0 ∷ (entries c.args.context.now)) c.args.part.now (term (env_of c.args.self.now.rules.env.now) no_encodings (term_of c.in_ok-parts.parts.0 ∷ (entries c.args.context.now)) c.args.part.now) c.in_ok-parts.parts.1) (λ (t : Tree). ends_of.abstraction_against c.args.argument (place c.args.span) c.in_ok-parts.parts.0 t)) (type_annotation_falls (place c.args.span) c.args.domain.now (type_in (env_of c.args.self.now.rules.env.now) no_encodings (entries c.args.context.now) c.args.domain.now) c.in_ok-parts.parts.0 (then (checks (env_of c.args.self.now.rules.env.now) no_encodings (term_of c.in_ok-parts.parts.0 ∷ (entries c.args.context.now)) c.args.part.now (term (env_of c.args.self.now.rules.env.now) no_encodings (term_of c.in_ok-parts.parts.0 ∷ (entries c.args.context.now)) c.args.part.now) c.in_ok-parts.parts.1) (λ (t : Tree). ends_of.abstraction_against c.args.argument (place c.args.span) c.in_ok-parts.parts.0 t))) c.args.self.now.rules.env.now c.args.self.now.rules.budget _ c.in_ok-annotation.ensures (goes_on c.args.self.now.rules.env.now c.args.self.now.rules.budget (checks (env_of c.args.self.now.rules.env.now) no_encodings (term_of c.in_ok-parts.parts.0 ∷ (entries c.args.context.now)) c.args.part.now (term (env_of c.args.self.now.rules.env.now) no_encodings (term_of c.in_ok-parts.parts.0 ∷ (entries c.args.context.now)) c.args.part.now) c.in_ok-parts.parts.1) (λ (t : Tree). ends_of.abstraction_against c.args.argument (place c.args.span) c.in_ok-parts.parts.0 t) c.in_ok-body.body _ c.in_ok-body.ensures c.abstraction_against.ensures)))

pub type_abstraction_against-returns-in_err-parts : goal.type_abstraction_against-returns-in_err-parts
type_abstraction_against-returns-in_err-parts t c = let p = err_from_is_err_and c.from_residual.result c.from_residual.ensures.1 in rw (p.1, p.2) (λ w. binder_ends (place c.args.span) (letter (place c.args.span)) WantedFunction allt_of c.args.goal.now (λ (d b : Tree). if_annotated c.args.domain.now (λ (q : Questions Made). then (kind_in (env_of c.args.self.now.rules.env.now) no_encodings (entries c.args.context.now) c.args.domain.now) (λ d'. agrees_then (place c.args.span) c.args.domain.now d' d q)) (then (checks (env_of c.args.self.now.rules.env.now) no_encodings (type_of d ∷ (entries c.args.context.now)) c.args.part.now (term (env_of c.args.self.now.rules.env.now) no_encodings (type_of d ∷ (entries c.args.context.now)) c.args.part.now) b) (λ (t : Tree). ends_of.type_abstraction_against (place c.args.span) d t))) c.args.self.now.rules.env.now c.args.self.now.rules.budget _ c.in_err-parts.ensures)

pub type_abstraction_against-returns-in_err-kind_annotation : goal.type_abstraction_against-returns-in_err-kind_annotation
type_abstraction_against-returns-in_err-kind_annotation t c = let p = err_from_is_err_and c.from_residual-in_err-kind_annotation.result c.from_residual-in_err-kind_annotation.ensures.1 in rw (p.1, p.2) (λ w. binder_on (place c.args.span) (letter (place c.args.span)) WantedFunction allt_of c.args.goal.now (λ (d b : Tree). if_annotated c.args.domain.now (λ (q : Questions Made). then (kind_in (env_of c.args.self.now.rules.env.now) no_encodings (entries c.args.context.now) c.args.domain.now) (λ d'. agrees_then (place c.args.span) c.args.domain.now d' d q)) (then (checks (env_of c.args.self.now.rules.env.now) no_encodings (type_of d ∷ (entries c.args.context.now)) c.args.part.now (term (env_of c.args.self.now.rules.env.now) no_encodings (type_of d ∷ (entries c.args.context.now)) c.args.part.now) b) (λ (t : Tree). ends_of.type_abstraction_against (place c.args.span) d t))) c.args.self.now.rules.env.now c.args.self.now.rules.budget c.in_ok-parts.parts _ c.in_ok-parts.ensures (annotated_ends c.args.domain.now (λ (q : Questions (Unit {0})). then (kind_in (env_of c.args.self.now.rules.env.now) no_encodings (entries c.args.context.now) c.args.domain.now) (λ d'. agrees_then (place c.args.span) c.args.domain.now d' c.in_ok-parts.parts.0 q)) (λ (q : Questions Made). then (kind_in (env_of c.args.self.now.rules.env.now) no_encodings (entries c.args.context.now) c.args.domain.now) (λ d'. agrees_then (place c.args.span) c.args.domain.now d' c.in_ok-parts.parts.0 q)) (then (checks (env_of c.args.self.now.rules.env.now) no_encodings (type_of c.in_ok-parts.parts.0 ∷ (entries c.args.context.now)) c.args.part.now (term (env_of c.args.self.now.rules.env.now) no_encodings (type_of c.in_ok-parts.parts.0 ∷ (entries c.args.context.now)) c.args.part.now) c.in_ok-parts.parts.1) (λ (t : Tree). ends_of.type_abstraction_against (place c.args.span) c.in_ok-parts.parts.0 t)) (kind_annotation_falls (place c.args.span) c.args.domain.now (kind_in (env_of c.args.self.now.rules.env.now) no_encodings (entries c.args.context.now) c.args.domain.now) c.in_ok-parts.parts.0 (then (checks (env_of c.args.self.now.rules.env.now) no_encodings (type_of c.in_ok-parts.parts.0 ∷ (entries c.args.context.now)) c.args.part.now (term (env_of c.args.self.now.rules.env.now) no_encodings (type_of c.in_ok-parts.parts.0 ∷ (entries c.args.context.now)) c.args.part.now) c.in_ok-parts.parts.1) (λ (t : Tree). ends_of.type_abstraction_against (place c.args.span) c.in_ok-parts.parts.0 t))) c.args.self.now.rules.env.now c.args.self.now.rules.budget _ c.in_err-kind_annotation.ensures))

pub type_abstraction_against-returns : goal.type_abstraction_against-returns
type_abstraction_against-returns t c = λ w. binder_on (place c.args.span) (letter (place c.args.span)) WantedFunction allt_of c.args.goal.now (λ (d b : Tree). if_annotated c.args.domain.now (λ (q : Questions Made). then (kind_in (env_of c.args.self.now.rules.env.now) no_encodings (entries c.args.context.now) c.args.domain.now) (λ d'. agrees_then (place c.args.span) c.args.domain.now d' d q)) (then (checks (env_of c.args.self.now.rules.env.now) no_encodings (type_of d ∷ (entries c.args.context.now)) c.args.part.now (term (env_of c.args.self.now.rules.env.now) no_encodings (type_of d ∷ (entries c.args.context.now)) c.args.part.now) b) (λ (t : Tree). ends_of.type_abstraction_against (place c.args.span) d t))) c.args.self.now.rules.env.now c.args.self.now.rules.budget c.in_ok-parts.parts _ c.in_ok-parts.ensures (annotated_on c.args.domain.now (λ (q : Questions (Unit {0})). then (kind_in (env_of c.args.self.now.rules.env.now) no_encodings (entries c.args.context.now) c.args.domain.now) (λ d'. agrees_then (place c.args.span) c.args.domain.now d' c.in_ok-parts.parts.0 q)) (λ (q : Questions Made). then (kind_in (env_of c.args.self.now.rules.env.now) no_encodings (entries c.args.context.now) c.args.domain.now) (λ d'. agrees_then (place c.args.span) c.args.domain.now d' c.in_ok-parts.parts.0 q)) (then (checks (env_of c.args.self.now.rules.env.now) no_encodings (type_of c.in_ok-parts.parts.0 ∷ (entries c.args.context.now)) c.args.part.now (term (env_of c.args.self.now.rules.env.now) no_encodings (type_of c.in_ok-parts.parts.0 ∷ (entries c.args.context.now)) c.args.part.now) c.in_ok-parts.parts.1) (λ (t : Tree). ends_of.type_abstraction_against (place c.args.span) c.in_ok-parts.parts.0 t)) (kind_annotation_falls (place c.args.span) c.args.domain.now (kind_in (env_of c.args.self.now.rules.env.now) no_encodings (entries c.args.context.now) c.args.domain.now) c.in_ok-parts.parts.0 (then (checks (env_of c.args.self.now.rules.env.now) no_encodings (type_of c.in_ok-parts.parts.0 ∷ (entries c.args.context.now)) c.args.part.now (term (env_of c.args.self.now.rules.env.now) no_encodings (type_of c.in_ok-parts.parts.0 ∷ (entries c.args.context.now)) c.args.part.now) c.in_ok-parts.parts.1) (λ (t : Tree). ends_of.type_abstraction_against (place c.args.span) c.in_ok-parts.parts.0 t))) c.args.self.now.rules.env.now c.args.self.now.rules.budget _ c.in_ok-kind_annotation.ensures c.type_abstracted.ensures)

pub head-returns-in_err-made : goal.head-returns-in_err-made
head-returns-in_err-made t c = let p = err_from_is_err_and c.from_residual.result c.from_residual.ensures.1 in rw (p.1, p.2) (ends c.args.self.now.rules.env.now c.args.self.now.rules.budget (term (env_of c.args.self.now.rules.env.now) no_encodings (entries c.args.context.now) c.args.node.now None (place c.args.whole)) (starts (env_of c.args.self.now.rules.env.now) no_encodings (span_of c.args.node.now)) _ c.in_err-made.ensures)

pub head-returns : goal.head-returns
head-returns t c = goes_on c.args.self.now.rules.env.now c.args.self.now.rules.budget (term (env_of c.args.self.now.rules.env.now) no_encodings (entries c.args.context.now) c.args.node.now None (place c.args.whole)) (starts (env_of c.args.self.now.rules.env.now) no_encodings (span_of c.args.node.now)) (made_of c.in_ok-made.made) _ c.in_ok-made.ensures (rw (← c.span.ensures) (c.started.ensures no_encodings))

pub application-returns-in_err-spine : goal.application-returns-in_err-spine
application-returns-in_err-spine t c = let p = err_from_is_err_and c.from_residual.result c.from_residual.ensures.1 in rw (p.1, p.2) (λ s g. along c.args.self.now.rules.env.now c.args.self.now.rules.budget _ _ _ (sym (application_is (env_of c.args.self.now.rules.env.now) no_encodings (entries c.args.context.now) c.args.argument s c.args.head.now c.args.arg.now g (place c.args.whole))) (ends c.args.self.now.rules.env.now c.args.self.now.rules.budget (then (term (env_of c.args.self.now.rules.env.now) no_encodings (entries c.args.context.now) c.args.head.now None (place c.args.whole)) (starts (env_of c.args.self.now.rules.env.now) no_encodings (span_of c.args.head.now))) (λ (s : Spine). then (argument_of (place c.args.whole) (binder_of c.args.argument) (binary_of c.args.argument) (span_of c.args.arg.now) (infers (env_of c.args.self.now.rules.env.now) no_encodings (entries c.args.context.now) c.args.arg.now (term (env_of c.args.self.now.rules.env.now) no_encodings (entries c.args.context.now) c.args.arg.now)) (checks (env_of c.args.self.now.rules.env.now) no_encodings (entries c.args.context.now) c.args.arg.now (term (env_of c.args.self.now.rules.env.now) no_encodings (entries c.args.context.now) c.args.arg.now)) s) (λ x. gives (spine x))) _ c.in_err-spine.ensures))

pub application-returns-in_err-spine-2 : goal.application-returns-in_err-spine-2
application-returns-in_err-spine-2 t c = let p = err_from_is_err_and c.from_residual-in_err-spine-2.result c.from_residual-in_err-spine-2.ensures.1 in rw (p.1, p.2) (λ s g. along c.args.self.now.rules.env.now c.args.self.now.rules.budget _ _ _ (sym (application_is (env_of c.args.self.now.rules.env.now) no_encodings (entries c.args.context.now) c.args.argument s c.args.head.now c.args.arg.now g (place c.args.whole))) (goes_on c.args.self.now.rules.env.now c.args.self.now.rules.budget (then (term (env_of c.args.self.now.rules.env.now) no_encodings (entries c.args.context.now) c.args.head.now None (place c.args.whole)) (starts (env_of c.args.self.now.rules.env.now) no_encodings (span_of c.args.head.now))) (λ (s : Spine). then (argument_of (place c.args.whole) (binder_of c.args.argument) (binary_of c.args.argument) (span_of c.args.arg.now) (infers (env_of c.args.self.now.rules.env.now) no_encodings (entries c.args.context.now) c.args.arg.now (term (env_of c.args.self.now.rules.env.now) no_encodings (entries c.args.context.now) c.args.arg.now)) (checks (env_of c.args.self.now.rules.env.now) no_encodings (entries c.args.context.now) c.args.arg.now (term (env_of c.args.self.now.rules.env.now) no_encodings (entries c.args.context.now) c.args.arg.now)) s) (λ x. gives (spine x))) (spine_of c.in_ok-spine.spine) _ c.in_ok-spine.ensures (ends c.args.self.now.rules.env.now c.args.self.now.rules.budget (argument_of (place c.args.whole) (binder_of c.args.argument) (binary_of c.args.argument) (span_of c.args.arg.now) (infers (env_of c.args.self.now.rules.env.now) no_encodings (entries c.args.context.now) c.args.arg.now (term (env_of c.args.self.now.rules.env.now) no_encodings (entries c.args.context.now) c.args.arg.now)) (checks (env_of c.args.self.now.rules.env.now) no_encodings (entries c.args.context.now) c.args.arg.now (term (env_of c.args.self.now.rules.env.now) no_encodings (entries c.args.context.now) c.args.arg.now)) (spine_of c.in_ok-spine.spine)) (λ x. gives (spine x)) _ c.in_err-spine-2.ensures)))

pub application-returns : goal.application-returns
application-returns t c = λ s g. along c.args.self.now.rules.env.now c.args.self.now.rules.budget _ _ _ (sym (application_is (env_of c.args.self.now.rules.env.now) no_encodings (entries c.args.context.now) c.args.argument s c.args.head.now c.args.arg.now g (place c.args.whole))) (goes_on c.args.self.now.rules.env.now c.args.self.now.rules.budget (then (term (env_of c.args.self.now.rules.env.now) no_encodings (entries c.args.context.now) c.args.head.now None (place c.args.whole)) (starts (env_of c.args.self.now.rules.env.now) no_encodings (span_of c.args.head.now))) (λ (s : Spine). then (argument_of (place c.args.whole) (binder_of c.args.argument) (binary_of c.args.argument) (span_of c.args.arg.now) (infers (env_of c.args.self.now.rules.env.now) no_encodings (entries c.args.context.now) c.args.arg.now (term (env_of c.args.self.now.rules.env.now) no_encodings (entries c.args.context.now) c.args.arg.now)) (checks (env_of c.args.self.now.rules.env.now) no_encodings (entries c.args.context.now) c.args.arg.now (term (env_of c.args.self.now.rules.env.now) no_encodings (entries c.args.context.now) c.args.arg.now)) s) (λ x. gives (spine x))) (spine_of c.in_ok-spine.spine) _ c.in_ok-spine.ensures (goes_on c.args.self.now.rules.env.now c.args.self.now.rules.budget (argument_of (place c.args.whole) (binder_of c.args.argument) (binary_of c.args.argument) (span_of c.args.arg.now) (infers (env_of c.args.self.now.rules.env.now) no_encodings (entries c.args.context.now) c.args.arg.now (term (env_of c.args.self.now.rules.env.now) no_encodings (entries c.args.context.now) c.args.arg.now)) (checks (env_of c.args.self.now.rules.env.now) no_encodings (entries c.args.context.now) c.args.arg.now (term (env_of c.args.self.now.rules.env.now) no_encodings (entries c.args.context.now) c.args.arg.now)) (spine_of c.in_ok-spine.spine)) (λ x. gives (spine x)) (spine_of c.in_ok-spine-2.spine) _ c.in_ok-spine-2.ensures (given c.args.self.now.rules.env.now c.args.self.now.rules.budget _)))

pub type_application-returns-in_err-spine : goal.type_application-returns-in_err-spine
type_application-returns-in_err-spine t c = let p = err_from_is_err_and c.from_residual.result c.from_residual.ensures.1 in rw (p.1, p.2) (λ s g. ends c.args.self.now.rules.env.now c.args.self.now.rules.budget (then (term (env_of c.args.self.now.rules.env.now) no_encodings (entries c.args.context.now) c.args.head.now None (place c.args.whole)) (starts (env_of c.args.self.now.rules.env.now) no_encodings (span_of c.args.head.now))) (λ (s : Spine). then (type_argument_of (place c.args.whole) (span_of c.args.arg.now) (type_in (env_of c.args.self.now.rules.env.now) no_encodings (entries c.args.context.now) c.args.arg.now) s) (λ x. gives (spine x))) _ c.in_err-spine.ensures)

pub type_application-returns-in_err-spine-2 : goal.type_application-returns-in_err-spine-2
type_application-returns-in_err-spine-2 t c = let p = err_from_is_err_and c.from_residual-in_err-spine-2.result c.from_residual-in_err-spine-2.ensures.1 in rw (p.1, p.2) (λ s g. goes_on c.args.self.now.rules.env.now c.args.self.now.rules.budget (then (term (env_of c.args.self.now.rules.env.now) no_encodings (entries c.args.context.now) c.args.head.now None (place c.args.whole)) (starts (env_of c.args.self.now.rules.env.now) no_encodings (span_of c.args.head.now))) (λ (s : Spine). then (type_argument_of (place c.args.whole) (span_of c.args.arg.now) (type_in (env_of c.args.self.now.rules.env.now) no_encodings (entries c.args.context.now) c.args.arg.now) s) (λ x. gives (spine x))) (spine_of c.in_ok-spine.spine) _ c.in_ok-spine.ensures (ends c.args.self.now.rules.env.now c.args.self.now.rules.budget (type_argument_of (place c.args.whole) (span_of c.args.arg.now) (type_in (env_of c.args.self.now.rules.env.now) no_encodings (entries c.args.context.now) c.args.arg.now) (spine_of c.in_ok-spine.spine)) (λ x. gives (spine x)) _ c.in_err-spine-2.ensures))

pub type_application-returns : goal.type_application-returns
type_application-returns t c = λ s g. goes_on c.args.self.now.rules.env.now c.args.self.now.rules.budget (then (term (env_of c.args.self.now.rules.env.now) no_encodings (entries c.args.context.now) c.args.head.now None (place c.args.whole)) (starts (env_of c.args.self.now.rules.env.now) no_encodings (span_of c.args.head.now))) (λ (s : Spine). then (type_argument_of (place c.args.whole) (span_of c.args.arg.now) (type_in (env_of c.args.self.now.rules.env.now) no_encodings (entries c.args.context.now) c.args.arg.now) s) (λ x. gives (spine x))) (spine_of c.in_ok-spine.spine) _ c.in_ok-spine.ensures (goes_on c.args.self.now.rules.env.now c.args.self.now.rules.budget (type_argument_of (place c.args.whole) (span_of c.args.arg.now) (type_in (env_of c.args.self.now.rules.env.now) no_encodings (entries c.args.context.now) c.args.arg.now) (spine_of c.in_ok-spine.spine)) (λ x. gives (spine x)) (spine_of c.in_ok-spine-2.spine) _ c.in_ok-spine-2.ensures (given c.args.self.now.rules.env.now c.args.self.now.rules.budget _))

pub over_term-returns-in_err-domain : goal.over_term-returns-in_err-domain
over_term-returns-in_err-domain t c = let p = err_from_is_err_and c.from_residual.result c.from_residual.ensures.1 in rw (p.1, p.2) (along c.args.self.now.rules.env.now c.args.self.now.rules.budget _ _ _ (sym (formed_is (env_of c.args.self.now.rules.env.now) no_encodings (entries c.args.context.now) c.args.former (place c.args.span) c.args.domain.now c.args.part.now)) (star_ends (place c.args.span) c.args.domain.now (type_in (env_of c.args.self.now.rules.env.now) no_encodings (entries c.args.context.now) c.args.domain.now) (λ (a : Tree). star_then (place c.args.span) c.args.part.now (type_in (env_of c.args.self.now.rules.env.now) no_encodings (term_of a ∷ (entries c.args.context.now)) c.args.part.now) (λ (b : Tree). ends_of.over_terms c.args.former (place c.args.span) a b)) c.args.self.now.rules.env.now c.args.self.now.rules.budget _ c.in_err-domain.ensures))

pub over_term-returns-in_err-part : goal.over_term-returns-in_err-part
over_term-returns-in_err-part t c = let p = err_from_is_err_and c.from_residual-in_err-part.result c.from_residual-in_err-part.ensures.1 in rw (p.1, p.2) (along c.args.self.now.rules.env.now c.args.self.now.rules.budget _ _ _ (sym (formed_is (env_of c.args.self.now.rules.env.now) no_encodings (entries c.args.context.now) c.args.former (place c.args.span) c.args.domain.now c.args.part.now)) (star_on (place c.args.span) c.args.domain.now (type_in (env_of c.args.self.now.rules.env.now) no_encodings (entries c.args.context.now) c.args.domain.now) (λ (a : Tree). star_then (place c.args.span) c.args.part.now (type_in (env_of c.args.self.now.rules.env.now) no_encodings (term_of a ∷ (entries c.args.context.now)) c.args.part.now) (λ (b : Tree). ends_of.over_terms c.args.former (place c.args.span) a b)) c.args.self.now.rules.env.now c.args.self.now.rules.budget _ _ c.in_ok-domain.ensures (star_ends (place c.args.span) c.args.part.now (type_in (env_of c.args.self.now.rules.env.now) no_encodings (term_of c.in_ok-domain.domain ∷ (entries c.args.context.now)) c.args.part.now) (λ (b : Tree). ends_of.over_terms c.args.former (place c.args.span) c.in_ok-domain.domain b) c.args.self.now.rules.env.now c.args.self.now.rules.budget _ c.in_err-part.ensures)))

pub over_term-returns : goal.over_term-returns
over_term-returns t c = along c.args.self.now.rules.env.now c.args.self.now.rules.budget _ _ _ (sym (formed_is (env_of c.args.self.now.rules.env.now) no_encodings (entries c.args.context.now) c.args.former (place c.args.span) c.args.domain.now c.args.part.now)) (star_on (place c.args.span) c.args.domain.now (type_in (env_of c.args.self.now.rules.env.now) no_encodings (entries c.args.context.now) c.args.domain.now) (λ (a : Tree). star_then (place c.args.span) c.args.part.now (type_in (env_of c.args.self.now.rules.env.now) no_encodings (term_of a ∷ (entries c.args.context.now)) c.args.part.now) (λ (b : Tree). ends_of.over_terms c.args.former (place c.args.span) a b)) c.args.self.now.rules.env.now c.args.self.now.rules.budget _ _ c.in_ok-domain.ensures (star_on (place c.args.span) c.args.part.now (type_in (env_of c.args.self.now.rules.env.now) no_encodings (term_of c.in_ok-domain.domain ∷ (entries c.args.context.now)) c.args.part.now) (λ (b : Tree). ends_of.over_terms c.args.former (place c.args.span) c.in_ok-domain.domain b) c.args.self.now.rules.env.now c.args.self.now.rules.budget _ _ c.in_ok-part.ensures c.over_term.ensures))

pub over_type-returns-in_err-domain : goal.over_type-returns-in_err-domain
over_type-returns-in_err-domain t c = let p = err_from_is_err_and c.from_residual.result c.from_residual.ensures.1 in rw (p.1, p.2) (ends c.args.self.now.rules.env.now c.args.self.now.rules.budget (kind_in (env_of c.args.self.now.rules.env.now) no_encodings (entries c.args.context.now) c.args.domain.now) (λ (a : Tree). star_then (place c.args.span) c.args.part.now (type_in (env_of c.args.self.now.rules.env.now) no_encodings (type_of a ∷ (entries c.args.context.now)) c.args.part.now) (λ (b : Tree). ends_of.over_types (place c.args.span) a b)) _ c.in_err-domain.ensures)

pub over_type-returns-in_err-part : goal.over_type-returns-in_err-part
over_type-returns-in_err-part t c = let p = err_from_is_err_and c.from_residual-in_err-part.result c.from_residual-in_err-part.ensures.1 in rw (p.1, p.2) (goes_on c.args.self.now.rules.env.now c.args.self.now.rules.budget (kind_in (env_of c.args.self.now.rules.env.now) no_encodings (entries c.args.context.now) c.args.domain.now) (λ (a : Tree). star_then (place c.args.span) c.args.part.now (type_in (env_of c.args.self.now.rules.env.now) no_encodings (type_of a ∷ (entries c.args.context.now)) c.args.part.now) (λ (b : Tree). ends_of.over_types (place c.args.span) a b)) c.in_ok-domain.domain _ c.in_ok-domain.ensures (star_ends (place c.args.span) c.args.part.now (type_in (env_of c.args.self.now.rules.env.now) no_encodings (type_of c.in_ok-domain.domain ∷ (entries c.args.context.now)) c.args.part.now) (λ (b : Tree). ends_of.over_types (place c.args.span) c.in_ok-domain.domain b) c.args.self.now.rules.env.now c.args.self.now.rules.budget _ c.in_err-part.ensures))

pub over_type-returns : goal.over_type-returns
over_type-returns t c = goes_on c.args.self.now.rules.env.now c.args.self.now.rules.budget (kind_in (env_of c.args.self.now.rules.env.now) no_encodings (entries c.args.context.now) c.args.domain.now) (λ (a : Tree). star_then (place c.args.span) c.args.part.now (type_in (env_of c.args.self.now.rules.env.now) no_encodings (type_of a ∷ (entries c.args.context.now)) c.args.part.now) (λ (b : Tree). ends_of.over_types (place c.args.span) a b)) c.in_ok-domain.domain _ c.in_ok-domain.ensures (star_on (place c.args.span) c.args.part.now (type_in (env_of c.args.self.now.rules.env.now) no_encodings (type_of c.in_ok-domain.domain ∷ (entries c.args.context.now)) c.args.part.now) (λ (b : Tree). ends_of.over_types (place c.args.span) c.in_ok-domain.domain b) c.args.self.now.rules.env.now c.args.self.now.rules.budget _ _ c.in_ok-part.ensures c.over_type.ensures)

pub term_function-returns-in_err-domain : goal.term_function-returns-in_err-domain
term_function-returns-in_err-domain t c = let p = err_from_is_err_and c.from_residual.result c.from_residual.ensures.1 in rw (p.1, p.2) (star_ends (place c.args.span) c.args.domain.now (type_in (env_of c.args.self.now.rules.env.now) no_encodings (entries c.args.context.now) c.args.domain.now) (λ (a : Tree). then (type_in (env_of c.args.self.now.rules.env.now) no_encodings (term_of a ∷ (entries c.args.context.now)) c.args.part.now) (λ (y : Typed). gives_type (place c.args.span) (tlam a y.0) (kpi a y.1))) c.args.self.now.rules.env.now c.args.self.now.rules.budget _ c.in_err-domain.ensures)

pub term_function-returns-in_err-body : goal.term_function-returns-in_err-body
term_function-returns-in_err-body t c = let p = err_from_is_err_and c.from_residual-in_err-body.result c.from_residual-in_err-body.ensures.1 in rw (p.1, p.2) (star_on (place c.args.span) c.args.domain.now (type_in (env_of c.args.self.now.rules.env.now) no_encodings (entries c.args.context.now) c.args.domain.now) (λ (a : Tree). then (type_in (env_of c.args.self.now.rules.env.now) no_encodings (term_of a ∷ (entries c.args.context.now)) c.args.part.now) (λ (y : Typed). gives_type (place c.args.span) (tlam a y.0) (kpi a y.1))) c.args.self.now.rules.env.now c.args.self.now.rules.budget _ _ c.in_ok-domain.ensures (ends c.args.self.now.rules.env.now c.args.self.now.rules.budget (type_in (env_of c.args.self.now.rules.env.now) no_encodings (term_of c.in_ok-domain.domain ∷ (entries c.args.context.now)) c.args.part.now) (λ (y : Typed). gives_type (place c.args.span) (tlam c.in_ok-domain.domain y.0) (kpi c.in_ok-domain.domain y.1)) _ c.in_err-body.ensures))

pub term_function-returns : goal.term_function-returns
term_function-returns t c = star_on (place c.args.span) c.args.domain.now (type_in (env_of c.args.self.now.rules.env.now) no_encodings (entries c.args.context.now) c.args.domain.now) (λ (a : Tree). then (type_in (env_of c.args.self.now.rules.env.now) no_encodings (term_of a ∷ (entries c.args.context.now)) c.args.part.now) (λ (y : Typed). gives_type (place c.args.span) (tlam a y.0) (kpi a y.1))) c.args.self.now.rules.env.now c.args.self.now.rules.budget _ _ c.in_ok-domain.ensures (goes_on c.args.self.now.rules.env.now c.args.self.now.rules.budget (type_in (env_of c.args.self.now.rules.env.now) no_encodings (term_of c.in_ok-domain.domain ∷ (entries c.args.context.now)) c.args.part.now) (λ (y : Typed). gives_type (place c.args.span) (tlam c.in_ok-domain.domain y.0) (kpi c.in_ok-domain.domain y.1)) c.in_ok-body.body _ c.in_ok-body.ensures c.term_function.ensures)

pub type_function-returns-in_err-domain : goal.type_function-returns-in_err-domain
type_function-returns-in_err-domain t c = let p = err_from_is_err_and c.from_residual.result c.from_residual.ensures.1 in rw (p.1, p.2) (ends c.args.self.now.rules.env.now c.args.self.now.rules.budget (kind_in (env_of c.args.self.now.rules.env.now) no_encodings (entries c.args.context.now) c.args.domain.now) (λ (a : Tree). then (type_in (env_of c.args.self.now.rules.env.now) no_encodings (type_of a ∷ (entries c.args.context.now)) c.args.part.now) (λ (y : Typed). gives_type (place c.args.span) (xtlam a y.0) (kpit a y.1))) _ c.in_err-domain.ensures)

pub type_function-returns-in_err-body : goal.type_function-returns-in_err-body
type_function-returns-in_err-body t c = let p = err_from_is_err_and c.from_residual-in_err-body.result c.from_residual-in_err-body.ensures.1 in rw (p.1, p.2) (goes_on c.args.self.now.rules.env.now c.args.self.now.rules.budget (kind_in (env_of c.args.self.now.rules.env.now) no_encodings (entries c.args.context.now) c.args.domain.now) (λ (a : Tree). then (type_in (env_of c.args.self.now.rules.env.now) no_encodings (type_of a ∷ (entries c.args.context.now)) c.args.part.now) (λ (y : Typed). gives_type (place c.args.span) (xtlam a y.0) (kpit a y.1))) c.in_ok-domain.domain _ c.in_ok-domain.ensures (ends c.args.self.now.rules.env.now c.args.self.now.rules.budget (type_in (env_of c.args.self.now.rules.env.now) no_encodings (type_of c.in_ok-domain.domain ∷ (entries c.args.context.now)) c.args.part.now) (λ (y : Typed). gives_type (place c.args.span) (xtlam c.in_ok-domain.domain y.0) (kpit c.in_ok-domain.domain y.1)) _ c.in_err-body.ensures))

pub type_function-returns : goal.type_function-returns
type_function-returns t c = goes_on c.args.self.now.rules.env.now c.args.self.now.rules.budget (kind_in (env_of c.args.self.now.rules.env.now) no_encodings (entries c.args.context.now) c.args.domain.now) (λ (a : Tree). then (type_in (env_of c.args.self.now.rules.env.now) no_encodings (type_of a ∷ (entries c.args.context.now)) c.args.part.now) (λ (y : Typed). gives_type (place c.args.span) (xtlam a y.0) (kpit a y.1))) c.in_ok-domain.domain _ c.in_ok-domain.ensures (goes_on c.args.self.now.rules.env.now c.args.self.now.rules.budget (type_in (env_of c.args.self.now.rules.env.now) no_encodings (type_of c.in_ok-domain.domain ∷ (entries c.args.context.now)) c.args.part.now) (λ (y : Typed). gives_type (place c.args.span) (xtlam c.in_ok-domain.domain y.0) (kpit c.in_ok-domain.domain y.1)) c.in_ok-body.body _ c.in_ok-body.ensures c.type_function.ensures)

pub kind_over_term-returns-in_err-domain : goal.kind_over_term-returns-in_err-domain
kind_over_term-returns-in_err-domain t c = let p = err_from_is_err_and c.from_residual.result c.from_residual.ensures.1 in rw (p.1, p.2) (star_ends (place c.args.span) c.args.domain.now (type_in (env_of c.args.self.now.rules.env.now) no_encodings (entries c.args.context.now) c.args.domain.now) (λ (a : Tree). then (kind_in (env_of c.args.self.now.rules.env.now) no_encodings (term_of a ∷ (entries c.args.context.now)) c.args.part.now) (λ k. limited (place c.args.span) (kpi a k))) c.args.self.now.rules.env.now c.args.self.now.rules.budget _ c.in_err-domain.ensures)

pub kind_over_term-returns-in_err-part : goal.kind_over_term-returns-in_err-part
kind_over_term-returns-in_err-part t c = let p = err_from_is_err_and c.from_residual-in_err-part.result c.from_residual-in_err-part.ensures.1 in rw (p.1, p.2) (star_on (place c.args.span) c.args.domain.now (type_in (env_of c.args.self.now.rules.env.now) no_encodings (entries c.args.context.now) c.args.domain.now) (λ (a : Tree). then (kind_in (env_of c.args.self.now.rules.env.now) no_encodings (term_of a ∷ (entries c.args.context.now)) c.args.part.now) (λ k. limited (place c.args.span) (kpi a k))) c.args.self.now.rules.env.now c.args.self.now.rules.budget _ _ c.in_ok-domain.ensures (ends c.args.self.now.rules.env.now c.args.self.now.rules.budget (kind_in (env_of c.args.self.now.rules.env.now) no_encodings (term_of c.in_ok-domain.domain ∷ (entries c.args.context.now)) c.args.part.now) (λ k. limited (place c.args.span) (kpi c.in_ok-domain.domain k)) _ c.in_err-part.ensures))

pub kind_over_term-returns : goal.kind_over_term-returns
kind_over_term-returns t c = star_on (place c.args.span) c.args.domain.now (type_in (env_of c.args.self.now.rules.env.now) no_encodings (entries c.args.context.now) c.args.domain.now) (λ (a : Tree). then (kind_in (env_of c.args.self.now.rules.env.now) no_encodings (term_of a ∷ (entries c.args.context.now)) c.args.part.now) (λ k. limited (place c.args.span) (kpi a k))) c.args.self.now.rules.env.now c.args.self.now.rules.budget _ _ c.in_ok-domain.ensures (goes_on c.args.self.now.rules.env.now c.args.self.now.rules.budget (kind_in (env_of c.args.self.now.rules.env.now) no_encodings (term_of c.in_ok-domain.domain ∷ (entries c.args.context.now)) c.args.part.now) (λ k. limited (place c.args.span) (kpi c.in_ok-domain.domain k)) c.in_ok-part.part _ c.in_ok-part.ensures c.kind_of_terms.ensures)

pub kind_over_type-returns-in_err-domain : goal.kind_over_type-returns-in_err-domain
kind_over_type-returns-in_err-domain t c = let p = err_from_is_err_and c.from_residual.result c.from_residual.ensures.1 in rw (p.1, p.2) (ends c.args.self.now.rules.env.now c.args.self.now.rules.budget (kind_in (env_of c.args.self.now.rules.env.now) no_encodings (entries c.args.context.now) c.args.domain.now) (λ (a : Tree). then (kind_in (env_of c.args.self.now.rules.env.now) no_encodings (type_of a ∷ (entries c.args.context.now)) c.args.part.now) (λ k. limited (place c.args.span) (kpit a k))) _ c.in_err-domain.ensures)

pub kind_over_type-returns-in_err-part : goal.kind_over_type-returns-in_err-part
kind_over_type-returns-in_err-part t c = let p = err_from_is_err_and c.from_residual-in_err-part.result c.from_residual-in_err-part.ensures.1 in rw (p.1, p.2) (goes_on c.args.self.now.rules.env.now c.args.self.now.rules.budget (kind_in (env_of c.args.self.now.rules.env.now) no_encodings (entries c.args.context.now) c.args.domain.now) (λ (a : Tree). then (kind_in (env_of c.args.self.now.rules.env.now) no_encodings (type_of a ∷ (entries c.args.context.now)) c.args.part.now) (λ k. limited (place c.args.span) (kpit a k))) c.in_ok-domain.domain _ c.in_ok-domain.ensures (ends c.args.self.now.rules.env.now c.args.self.now.rules.budget (kind_in (env_of c.args.self.now.rules.env.now) no_encodings (type_of c.in_ok-domain.domain ∷ (entries c.args.context.now)) c.args.part.now) (λ k. limited (place c.args.span) (kpit c.in_ok-domain.domain k)) _ c.in_err-part.ensures))

pub kind_over_type-returns : goal.kind_over_type-returns
kind_over_type-returns t c = goes_on c.args.self.now.rules.env.now c.args.self.now.rules.budget (kind_in (env_of c.args.self.now.rules.env.now) no_encodings (entries c.args.context.now) c.args.domain.now) (λ (a : Tree). then (kind_in (env_of c.args.self.now.rules.env.now) no_encodings (type_of a ∷ (entries c.args.context.now)) c.args.part.now) (λ k. limited (place c.args.span) (kpit a k))) c.in_ok-domain.domain _ c.in_ok-domain.ensures (goes_on c.args.self.now.rules.env.now c.args.self.now.rules.budget (kind_in (env_of c.args.self.now.rules.env.now) no_encodings (type_of c.in_ok-domain.domain ∷ (entries c.args.context.now)) c.args.part.now) (λ k. limited (place c.args.span) (kpit c.in_ok-domain.domain k)) c.in_ok-part.part _ c.in_ok-part.ensures c.kind_of_types.ensures)

pub type_at_term-returns-in_err-found : goal.type_at_term-returns-in_err-found
type_at_term-returns-in_err-found t c = let p = err_from_is_err_and c.from_residual.result c.from_residual.ensures.1 in rw (p.1, p.2) (ends c.args.self.now.rules.env.now c.args.self.now.rules.budget (type_in (env_of c.args.self.now.rules.env.now) no_encodings (entries c.args.context.now) c.args.head.now) (λ (y : Typed). binder_parts kpi_of y.1 (λ b k. then (checks (env_of c.args.self.now.rules.env.now) no_encodings (entries c.args.context.now) c.args.arg.now (term (env_of c.args.self.now.rules.env.now) no_encodings (entries c.args.context.now) c.args.arg.now) b) (λ (t : Tree). gives_type (place c.args.span) (at_ y.0 t) (put_written 0 t k))) (rejects (span_of c.args.head.now) WantedKind)) _ c.in_err-found.ensures)

pub type_at_term-returns-in_err-parts : goal.type_at_term-returns-in_err-parts
type_at_term-returns-in_err-parts t c = let p = err_from_is_err_and c.from_residual-in_err-parts.result c.from_residual-in_err-parts.ensures.1 in rw (p.1, p.2) (goes_on c.args.self.now.rules.env.now c.args.self.now.rules.budget (type_in (env_of c.args.self.now.rules.env.now) no_encodings (entries c.args.context.now) c.args.head.now) (λ (y : Typed). binder_parts kpi_of y.1 (λ b k. then (checks (env_of c.args.self.now.rules.env.now) no_encodings (entries c.args.context.now) c.args.arg.now (term (env_of c.args.self.now.rules.env.now) no_encodings (entries c.args.context.now) c.args.arg.now) b) (λ (t : Tree). gives_type (place c.args.span) (at_ y.0 t) (put_written 0 t k))) (rejects (span_of c.args.head.now) WantedKind)) c.in_ok-found.found _ c.in_ok-found.ensures (kind_parts_end kpi_of c.in_ok-found.found.1 (λ b k. then (checks (env_of c.args.self.now.rules.env.now) no_encodings (entries c.args.context.now) c.args.arg.now (term (env_of c.args.self.now.rules.env.now) no_encodings (entries c.args.context.now) c.args.arg.now) b) (λ (t : Tree). gives_type (place c.args.span) (at_ c.in_ok-found.found.0 t) (put_written 0 t k))) (span_of c.args.head.now) c.args.self.now.rules.env.now c.args.self.now.rules.budget _ (rw (← c.span.ensures) c.in_err-parts.ensures)))

pub type_at_term-returns-in_err-arg : goal.type_at_term-returns-in_err-arg
type_at_term-returns-in_err-arg t c = let p = err_from_is_err_and c.from_residual-in_err-arg.result c.from_residual-in_err-arg.ensures.1 in rw (p.1, p.2) (goes_on c.args.self.now.rules.env.now c.args.self.now.rules.budget (type_in (env_of c.args.self.now.rules.env.now) no_encodings (entries c.args.context.now) c.args.head.now) (λ (y : Typed). binder_parts kpi_of y.1 (λ b k. then (checks (env_of c.args.self.now.rules.env.now) no_encodings (entries c.args.context.now) c.args.arg.now (term (env_of c.args.self.now.rules.env.now) no_encodings (entries c.args.context.now) c.args.arg.now) b) (λ (t : Tree). gives_type (place c.args.span) (at_ y.0 t) (put_written 0 t k))) (rejects (span_of c.args.head.now) WantedKind)) c.in_ok-found.found _ c.in_ok-found.ensures (kind_parts_on kpi_of c.in_ok-found.found.1 (λ b k. then (checks (env_of c.args.self.now.rules.env.now) no_encodings (entries c.args.context.now) c.args.arg.now (term (env_of c.args.self.now.rules.env.now) no_encodings (entries c.args.context.now) c.args.arg.now) b) (λ (t : Tree). gives_type (place c.args.span) (at_ c.in_ok-found.found.0 t) (put_written 0 t k))) (span_of c.args.head.now) c.args.self.now.rules.env.now c.args.self.now.rules.budget c.in_ok-parts.parts _ (rw (← c.span.ensures) c.in_ok-parts.ensures) (ends c.args.self.now.rules.env.now c.args.self.now.rules.budget (checks (env_of c.args.self.now.rules.env.now) no_encodings (entries c.args.context.now) c.args.arg.now (term (env_of c.args.self.now.rules.env.now) no_encodings (entries c.args.context.now) c.args.arg.now) c.in_ok-parts.parts.0) (λ (t : Tree). gives_type (place c.args.span) (at_ c.in_ok-found.found.0 t) (put_written 0 t c.in_ok-parts.parts.1)) _ c.in_err-arg.ensures)))

pub type_at_term-returns : goal.type_at_term-returns
type_at_term-returns t c = goes_on c.args.self.now.rules.env.now c.args.self.now.rules.budget (type_in (env_of c.args.self.now.rules.env.now) no_encodings (entries c.args.context.now) c.args.head.now) (λ (y : Typed). binder_parts kpi_of y.1 (λ b k. then (checks (env_of c.args.self.now.rules.env.now) no_encodings (entries c.args.context.now) c.args.arg.now (term (env_of c.args.self.now.rules.env.now) no_encodings (entries c.args.context.now) c.args.arg.now) b) (λ (t : Tree). gives_type (place c.args.span) (at_ y.0 t) (put_written 0 t k))) (rejects (span_of c.args.head.now) WantedKind)) c.in_ok-found.found _ c.in_ok-found.ensures (kind_parts_on kpi_of c.in_ok-found.found.1 (λ b k. then (checks (env_of c.args.self.now.rules.env.now) no_encodings (entries c.args.context.now) c.args.arg.now (term (env_of c.args.self.now.rules.env.now) no_encodings (entries c.args.context.now) c.args.arg.now) b) (λ (t : Tree). gives_type (place c.args.span) (at_ c.in_ok-found.found.0 t) (put_written 0 t k))) (span_of c.args.head.now) c.args.self.now.rules.env.now c.args.self.now.rules.budget c.in_ok-parts.parts _ (rw (← c.span.ensures) c.in_ok-parts.ensures) (goes_on c.args.self.now.rules.env.now c.args.self.now.rules.budget (checks (env_of c.args.self.now.rules.env.now) no_encodings (entries c.args.context.now) c.args.arg.now (term (env_of c.args.self.now.rules.env.now) no_encodings (entries c.args.context.now) c.args.arg.now) c.in_ok-parts.parts.0) (λ (t : Tree). gives_type (place c.args.span) (at_ c.in_ok-found.found.0 t) (put_written 0 t c.in_ok-parts.parts.1)) c.in_ok-arg.arg _ c.in_ok-arg.ensures c.type_at_term.ensures))

pub type_at_type-returns-in_err-found : goal.type_at_type-returns-in_err-found
type_at_type-returns-in_err-found t c = let p = err_from_is_err_and c.from_residual.result c.from_residual.ensures.1 in rw (p.1, p.2) (ends c.args.self.now.rules.env.now c.args.self.now.rules.budget (type_in (env_of c.args.self.now.rules.env.now) no_encodings (entries c.args.context.now) c.args.head.now) (λ (y : Typed). binder_parts kpit_of y.1 (λ k l. then (type_in (env_of c.args.self.now.rules.env.now) no_encodings (entries c.args.context.now) c.args.arg.now) (λ (z : Typed). ends_of.type_at_type (place c.args.span) (span_of c.args.arg.now) y.0 (k, l) z)) (rejects (span_of c.args.head.now) WantedKind)) _ c.in_err-found.ensures)

pub type_at_type-returns-in_err-parts : goal.type_at_type-returns-in_err-parts
type_at_type-returns-in_err-parts t c = let p = err_from_is_err_and c.from_residual-in_err-parts.result c.from_residual-in_err-parts.ensures.1 in rw (p.1, p.2) (goes_on c.args.self.now.rules.env.now c.args.self.now.rules.budget (type_in (env_of c.args.self.now.rules.env.now) no_encodings (entries c.args.context.now) c.args.head.now) (λ (y : Typed). binder_parts kpit_of y.1 (λ k l. then (type_in (env_of c.args.self.now.rules.env.now) no_encodings (entries c.args.context.now) c.args.arg.now) (λ (z : Typed). ends_of.type_at_type (place c.args.span) (span_of c.args.arg.now) y.0 (k, l) z)) (rejects (span_of c.args.head.now) WantedKind)) c.in_ok-found.found _ c.in_ok-found.ensures (kind_parts_end kpit_of c.in_ok-found.found.1 (λ k l. then (type_in (env_of c.args.self.now.rules.env.now) no_encodings (entries c.args.context.now) c.args.arg.now) (λ (z : Typed). ends_of.type_at_type (place c.args.span) (span_of c.args.arg.now) c.in_ok-found.found.0 (k, l) z)) (span_of c.args.head.now) c.args.self.now.rules.env.now c.args.self.now.rules.budget _ (rw (← c.span.ensures) c.in_err-parts.ensures)))

pub type_at_type-returns-in_err-second : goal.type_at_type-returns-in_err-second
type_at_type-returns-in_err-second t c = let p = err_from_is_err_and c.from_residual-in_err-second.result c.from_residual-in_err-second.ensures.1 in rw (p.1, p.2) (goes_on c.args.self.now.rules.env.now c.args.self.now.rules.budget (type_in (env_of c.args.self.now.rules.env.now) no_encodings (entries c.args.context.now) c.args.head.now) (λ (y : Typed). binder_parts kpit_of y.1 (λ k l. then (type_in (env_of c.args.self.now.rules.env.now) no_encodings (entries c.args.context.now) c.args.arg.now) (λ (z : Typed). ends_of.type_at_type (place c.args.span) (span_of c.args.arg.now) y.0 (k, l) z)) (rejects (span_of c.args.head.now) WantedKind)) c.in_ok-found.found _ c.in_ok-found.ensures (kind_parts_on kpit_of c.in_ok-found.found.1 (λ k l. then (type_in (env_of c.args.self.now.rules.env.now) no_encodings (entries c.args.context.now) c.args.arg.now) (λ (z : Typed). ends_of.type_at_type (place c.args.span) (span_of c.args.arg.now) c.in_ok-found.found.0 (k, l) z)) (span_of c.args.head.now) c.args.self.now.rules.env.now c.args.self.now.rules.budget c.in_ok-parts.parts _ (rw (← c.span.ensures) c.in_ok-parts.ensures) (ends c.args.self.now.rules.env.now c.args.self.now.rules.budget (type_in (env_of c.args.self.now.rules.env.now) no_encodings (entries c.args.context.now) c.args.arg.now) (λ (z : Typed). ends_of.type_at_type (place c.args.span) (span_of c.args.arg.now) c.in_ok-found.found.0 c.in_ok-parts.parts z) _ c.in_err-second.ensures)))

pub type_at_type-returns : goal.type_at_type-returns
type_at_type-returns t c = goes_on c.args.self.now.rules.env.now c.args.self.now.rules.budget (type_in (env_of c.args.self.now.rules.env.now) no_encodings (entries c.args.context.now) c.args.head.now) (λ (y : Typed). binder_parts kpit_of y.1 (λ k l. then (type_in (env_of c.args.self.now.rules.env.now) no_encodings (entries c.args.context.now) c.args.arg.now) (λ (z : Typed). ends_of.type_at_type (place c.args.span) (span_of c.args.arg.now) y.0 (k, l) z)) (rejects (span_of c.args.head.now) WantedKind)) c.in_ok-found.found _ c.in_ok-found.ensures (kind_parts_on kpit_of c.in_ok-found.found.1 (λ k l. then (type_in (env_of c.args.self.now.rules.env.now) no_encodings (entries c.args.context.now) c.args.arg.now) (λ (z : Typed). ends_of.type_at_type (place c.args.span) (span_of c.args.arg.now) c.in_ok-found.found.0 (k, l) z)) (span_of c.args.head.now) c.args.self.now.rules.env.now c.args.self.now.rules.budget c.in_ok-parts.parts _ (rw (← c.span.ensures) c.in_ok-parts.ensures) (goes_on c.args.self.now.rules.env.now c.args.self.now.rules.budget (type_in (env_of c.args.self.now.rules.env.now) no_encodings (entries c.args.context.now) c.args.arg.now) (λ (z : Typed). ends_of.type_at_type (place c.args.span) (span_of c.args.arg.now) c.in_ok-found.found.0 c.in_ok-parts.parts z) c.in_ok-second.second _ c.in_ok-second.ensures (rw (← c.span-2.ensures) c.type_at_type.ensures)))

pub annotation-returns-then-is_left_out : goal.annotation-returns-then-is_left_out
annotation-returns-then-is_left_out t c = where_true c.args.self.now.rules.env.now c.args.self.now.rules.budget (is_none c.args.domain.now) (gives (tt {0})) (star_then (place c.args.span) c.args.domain.now (type_in (env_of c.args.self.now.rules.env.now) no_encodings (entries c.args.context.now) c.args.domain.now) (λ d. agrees_then (place c.args.span) c.args.domain.now d c.args.wanted.now (gives (tt {0})))) _ (c.is_left_out.ensures ∙ c.if-is_left_out.true) (given c.args.self.now.rules.env.now c.args.self.now.rules.budget _)

pub annotation-returns-in_err-found : goal.annotation-returns-in_err-found
annotation-returns-in_err-found t c = let p = err_from_is_err_and c.from_residual.result c.from_residual.ensures.1 in rw (p.1, p.2) (where_false c.args.self.now.rules.env.now c.args.self.now.rules.budget (is_none c.args.domain.now) (gives (tt {0})) (star_then (place c.args.span) c.args.domain.now (type_in (env_of c.args.self.now.rules.env.now) no_encodings (entries c.args.context.now) c.args.domain.now) (λ d. agrees_then (place c.args.span) c.args.domain.now d c.args.wanted.now (gives (tt {0})))) _ (c.is_left_out.ensures ∙ c.if-is_left_out.false) (star_ends (place c.args.span) c.args.domain.now (type_in (env_of c.args.self.now.rules.env.now) no_encodings (entries c.args.context.now) c.args.domain.now) (λ (d : Tree). agrees_then (place c.args.span) c.args.domain.now d c.args.wanted.now (gives (tt {0}))) c.args.self.now.rules.env.now c.args.self.now.rules.budget _ c.in_err-found.ensures))

pub annotation-returns : goal.annotation-returns
annotation-returns t c = where_false c.args.self.now.rules.env.now c.args.self.now.rules.budget (is_none c.args.domain.now) (gives (tt {0})) (star_then (place c.args.span) c.args.domain.now (type_in (env_of c.args.self.now.rules.env.now) no_encodings (entries c.args.context.now) c.args.domain.now) (λ d. agrees_then (place c.args.span) c.args.domain.now d c.args.wanted.now (gives (tt {0})))) _ (c.is_left_out.ensures ∙ c.if-is_left_out.false) (star_on (place c.args.span) c.args.domain.now (type_in (env_of c.args.self.now.rules.env.now) no_encodings (entries c.args.context.now) c.args.domain.now) (λ (d : Tree). agrees_then (place c.args.span) c.args.domain.now d c.args.wanted.now (gives (tt {0}))) c.args.self.now.rules.env.now c.args.self.now.rules.budget _ _ c.in_ok-found.ensures (rw (← c.span.ensures) c.same_types.ensures))

pub kind_annotation-returns-then-is_left_out : goal.kind_annotation-returns-then-is_left_out
kind_annotation-returns-then-is_left_out t c = where_true c.args.self.now.rules.env.now c.args.self.now.rules.budget (is_none c.args.domain.now) (gives (tt {0})) (then (kind_in (env_of c.args.self.now.rules.env.now) no_encodings (entries c.args.context.now) c.args.domain.now) (λ (d : Tree). agrees_then (place c.args.span) c.args.domain.now d c.args.wanted.now (gives (tt {0})))) _ (c.is_left_out.ensures ∙ c.if-is_left_out.true) (given c.args.self.now.rules.env.now c.args.self.now.rules.budget _)

pub kind_annotation-returns-in_err-found : goal.kind_annotation-returns-in_err-found
kind_annotation-returns-in_err-found t c = let p = err_from_is_err_and c.from_residual.result c.from_residual.ensures.1 in rw (p.1, p.2) (where_false c.args.self.now.rules.env.now c.args.self.now.rules.budget (is_none c.args.domain.now) (gives (tt {0})) (then (kind_in (env_of c.args.self.now.rules.env.now) no_encodings (entries c.args.context.now) c.args.domain.now) (λ (d : Tree). agrees_then (place c.args.span) c.args.domain.now d c.args.wanted.now (gives (tt {0})))) _ (c.is_left_out.ensures ∙ c.if-is_left_out.false) (ends c.args.self.now.rules.env.now c.args.self.now.rules.budget (kind_in (env_of c.args.self.now.rules.env.now) no_encodings (entries c.args.context.now) c.args.domain.now) (λ (d : Tree). agrees_then (place c.args.span) c.args.domain.now d c.args.wanted.now (gives (tt {0}))) _ c.in_err-found.ensures))

pub kind_annotation-returns : goal.kind_annotation-returns
kind_annotation-returns t c = where_false c.args.self.now.rules.env.now c.args.self.now.rules.budget (is_none c.args.domain.now) (gives (tt {0})) (then (kind_in (env_of c.args.self.now.rules.env.now) no_encodings (entries c.args.context.now) c.args.domain.now) (λ (d : Tree). agrees_then (place c.args.span) c.args.domain.now d c.args.wanted.now (gives (tt {0})))) _ (c.is_left_out.ensures ∙ c.if-is_left_out.false) (goes_on c.args.self.now.rules.env.now c.args.self.now.rules.budget (kind_in (env_of c.args.self.now.rules.env.now) no_encodings (entries c.args.context.now) c.args.domain.now) (λ (d : Tree). agrees_then (place c.args.span) c.args.domain.now d c.args.wanted.now (gives (tt {0}))) c.in_ok-found.found _ c.in_ok-found.ensures (rw (← c.span.ensures) c.same_kinds.ensures))

pub argument-returns-in_err-opened : goal.argument-returns-in_err-opened
argument-returns-in_err-opened t c = let p = err_from_is_err_and c.from_residual.result c.from_residual.ensures.1 in ended_through spine_of c.args.self.now.rules.env.now c.args.self.now.rules.budget _ _ _ _ p.1 p.2 (along c.args.self.now.rules.env.now c.args.self.now.rules.budget _ _ _ (argument_falls (place c.args.whole) (binder_of c.args.argument) (binary_of c.args.argument) (span_of c.args.arg.now) (infers (env_of c.args.self.now.rules.env.now) no_encodings (entries c.args.context.now) c.args.arg.now (term (env_of c.args.self.now.rules.env.now) no_encodings (entries c.args.context.now) c.args.arg.now)) (checks (env_of c.args.self.now.rules.env.now) no_encodings (entries c.args.context.now) c.args.arg.now (term (env_of c.args.self.now.rules.env.now) no_encodings (entries c.args.context.now) c.args.arg.now)) (spine_of c.args.spine)) (ends c.args.self.now.rules.env.now c.args.self.now.rules.budget (opens (place c.args.whole) (binder_of c.args.argument) (spine_of c.args.spine)) (λ (o : Open). cond (has_unknown o.1.0) (then (infers (env_of c.args.self.now.rules.env.now) no_encodings (entries c.args.context.now) c.args.arg.now (term (env_of c.args.self.now.rules.env.now) no_encodings (entries c.args.context.now) c.args.arg.now)) (λ (x : Typed). takes_inferred (place c.args.whole) (binder_of c.args.argument) (binary_of c.args.argument) (span_of c.args.arg.now) o x)) (then ((checks (env_of c.args.self.now.rules.env.now) no_encodings (entries c.args.context.now) c.args.arg.now (term (env_of c.args.self.now.rules.env.now) no_encodings (entries c.args.context.now) c.args.arg.now)) o.1.0) (λ (u : Tree). takes (place c.args.whole) (binary_of c.args.argument) o u))) _ c.in_err-opened.ensures))

pub argument-returns-in_err-found : goal.argument-returns-in_err-found
argument-returns-in_err-found t c = let p = err_from_is_err_and c.from_residual-in_err-found.result c.from_residual-in_err-found.ensures.1 in ended_through spine_of c.args.self.now.rules.env.now c.args.self.now.rules.budget _ _ _ _ p.1 p.2 (along c.args.self.now.rules.env.now c.args.self.now.rules.budget _ _ _ (argument_falls (place c.args.whole) (binder_of c.args.argument) (binary_of c.args.argument) (span_of c.args.arg.now) (infers (env_of c.args.self.now.rules.env.now) no_encodings (entries c.args.context.now) c.args.arg.now (term (env_of c.args.self.now.rules.env.now) no_encodings (entries c.args.context.now) c.args.arg.now)) (checks (env_of c.args.self.now.rules.env.now) no_encodings (entries c.args.context.now) c.args.arg.now (term (env_of c.args.self.now.rules.env.now) no_encodings (entries c.args.context.now) c.args.arg.now)) (spine_of c.args.spine)) (goes_on c.args.self.now.rules.env.now c.args.self.now.rules.budget (opens (place c.args.whole) (binder_of c.args.argument) (spine_of c.args.spine)) (λ (o : Open). cond (has_unknown o.1.0) (then (infers (env_of c.args.self.now.rules.env.now) no_encodings (entries c.args.context.now) c.args.arg.now (term (env_of c.args.self.now.rules.env.now) no_encodings (entries c.args.context.now) c.args.arg.now)) (λ (x : Typed). takes_inferred (place c.args.whole) (binder_of c.args.argument) (binary_of c.args.argument) (span_of c.args.arg.now) o x)) (then ((checks (env_of c.args.self.now.rules.env.now) no_encodings (entries c.args.context.now) c.args.arg.now (term (env_of c.args.self.now.rules.env.now) no_encodings (entries c.args.context.now) c.args.arg.now)) o.1.0) (λ (u : Tree). takes (place c.args.whole) (binary_of c.args.argument) o u))) (open_of c.in_ok-opened.opened) _ c.in_ok-opened.ensures (where_true c.args.self.now.rules.env.now c.args.self.now.rules.budget (has_unknown c.in_ok-opened.opened.domain) (then (infers (env_of c.args.self.now.rules.env.now) no_encodings (entries c.args.context.now) c.args.arg.now (term (env_of c.args.self.now.rules.env.now) no_encodings (entries c.args.context.now) c.args.arg.now)) (λ (x : Typed). takes_inferred (place c.args.whole) (binder_of c.args.argument) (binary_of c.args.argument) (span_of c.args.arg.now) (open_of c.in_ok-opened.opened) x)) (then ((checks (env_of c.args.self.now.rules.env.now) no_encodings (entries c.args.context.now) c.args.arg.now (term (env_of c.args.self.now.rules.env.now) no_encodings (entries c.args.context.now) c.args.arg.now)) c.in_ok-opened.opened.domain) (λ (u : Tree). takes (place c.args.whole) (binary_of c.args.argument) (open_of c.in_ok-opened.opened) u)) _ (sym (unknown_is c.in_ok-opened.opened.domain) ∙ sym c.has_unknown.ensures.is ∙ c.if-has_unknown.true) (ends c.args.self.now.rules.env.now c.args.self.now.rules.budget (infers (env_of c.args.self.now.rules.env.now) no_encodings (entries c.args.context.now) c.args.arg.now (term (env_of c.args.self.now.rules.env.now) no_encodings (entries c.args.context.now) c.args.arg.now)) (λ (x : Typed). takes_inferred (place c.args.whole) (binder_of c.args.argument) (binary_of c.args.argument) (span_of c.args.arg.now) (open_of c.in_ok-opened.opened) x) _ c.in_err-found.ensures))))

pub argument-returns-then-has_unknown : goal.argument-returns-then-has_unknown
argument-returns-then-has_unknown t c = along c.args.self.now.rules.env.now c.args.self.now.rules.budget _ _ _ (argument_falls (place c.args.whole) (binder_of c.args.argument) (binary_of c.args.argument) (span_of c.args.arg.now) (infers (env_of c.args.self.now.rules.env.now) no_encodings (entries c.args.context.now) c.args.arg.now (term (env_of c.args.self.now.rules.env.now) no_encodings (entries c.args.context.now) c.args.arg.now)) (checks (env_of c.args.self.now.rules.env.now) no_encodings (entries c.args.context.now) c.args.arg.now (term (env_of c.args.self.now.rules.env.now) no_encodings (entries c.args.context.now) c.args.arg.now)) (spine_of c.args.spine)) (goes_on c.args.self.now.rules.env.now c.args.self.now.rules.budget (opens (place c.args.whole) (binder_of c.args.argument) (spine_of c.args.spine)) (λ (o : Open). cond (has_unknown o.1.0) (then (infers (env_of c.args.self.now.rules.env.now) no_encodings (entries c.args.context.now) c.args.arg.now (term (env_of c.args.self.now.rules.env.now) no_encodings (entries c.args.context.now) c.args.arg.now)) (λ (x : Typed). takes_inferred (place c.args.whole) (binder_of c.args.argument) (binary_of c.args.argument) (span_of c.args.arg.now) o x)) (then ((checks (env_of c.args.self.now.rules.env.now) no_encodings (entries c.args.context.now) c.args.arg.now (term (env_of c.args.self.now.rules.env.now) no_encodings (entries c.args.context.now) c.args.arg.now)) o.1.0) (λ (u : Tree). takes (place c.args.whole) (binary_of c.args.argument) o u))) (open_of c.in_ok-opened.opened) _ c.in_ok-opened.ensures (where_true c.args.self.now.rules.env.now c.args.self.now.rules.budget (has_unknown c.in_ok-opened.opened.domain) (then (infers (env_of c.args.self.now.rules.env.now) no_encodings (entries c.args.context.now) c.args.arg.now (term (env_of c.args.self.now.rules.env.now) no_encodings (entries c.args.context.now) c.args.arg.now)) (λ (x : Typed). takes_inferred (place c.args.whole) (binder_of c.args.argument) (binary_of c.args.argument) (span_of c.args.arg.now) (open_of c.in_ok-opened.opened) x)) (then ((checks (env_of c.args.self.now.rules.env.now) no_encodings (entries c.args.context.now) c.args.arg.now (term (env_of c.args.self.now.rules.env.now) no_encodings (entries c.args.context.now) c.args.arg.now)) c.in_ok-opened.opened.domain) (λ (u : Tree). takes (place c.args.whole) (binary_of c.args.argument) (open_of c.in_ok-opened.opened) u)) _ (sym (unknown_is c.in_ok-opened.opened.domain) ∙ sym c.has_unknown.ensures.is ∙ c.if-has_unknown.true) (goes_on c.args.self.now.rules.env.now c.args.self.now.rules.budget (infers (env_of c.args.self.now.rules.env.now) no_encodings (entries c.args.context.now) c.args.arg.now (term (env_of c.args.self.now.rules.env.now) no_encodings (entries c.args.context.now) c.args.arg.now)) (λ (x : Typed). takes_inferred (place c.args.whole) (binder_of c.args.argument) (binary_of c.args.argument) (span_of c.args.arg.now) (open_of c.in_ok-opened.opened) x) c.in_ok-found.found _ c.in_ok-found.ensures (rw (← c.span.ensures) c.takes_inferred.ensures))))

pub argument-returns-in_err-found-2 : goal.argument-returns-in_err-found-2
argument-returns-in_err-found-2 t c = let p = err_from_is_err_and c.from_residual-in_err-found-2.result c.from_residual-in_err-found-2.ensures.1 in ended_through spine_of c.args.self.now.rules.env.now c.args.self.now.rules.budget _ _ _ _ p.1 p.2 (along c.args.self.now.rules.env.now c.args.self.now.rules.budget _ _ _ (argument_falls (place c.args.whole) (binder_of c.args.argument) (binary_of c.args.argument) (span_of c.args.arg.now) (infers (env_of c.args.self.now.rules.env.now) no_encodings (entries c.args.context.now) c.args.arg.now (term (env_of c.args.self.now.rules.env.now) no_encodings (entries c.args.context.now) c.args.arg.now)) (checks (env_of c.args.self.now.rules.env.now) no_encodings (entries c.args.context.now) c.args.arg.now (term (env_of c.args.self.now.rules.env.now) no_encodings (entries c.args.context.now) c.args.arg.now)) (spine_of c.args.spine)) (goes_on c.args.self.now.rules.env.now c.args.self.now.rules.budget (opens (place c.args.whole) (binder_of c.args.argument) (spine_of c.args.spine)) (λ (o : Open). cond (has_unknown o.1.0) (then (infers (env_of c.args.self.now.rules.env.now) no_encodings (entries c.args.context.now) c.args.arg.now (term (env_of c.args.self.now.rules.env.now) no_encodings (entries c.args.context.now) c.args.arg.now)) (λ (x : Typed). takes_inferred (place c.args.whole) (binder_of c.args.argument) (binary_of c.args.argument) (span_of c.args.arg.now) o x)) (then ((checks (env_of c.args.self.now.rules.env.now) no_encodings (entries c.args.context.now) c.args.arg.now (term (env_of c.args.self.now.rules.env.now) no_encodings (entries c.args.context.now) c.args.arg.now)) o.1.0) (λ (u : Tree). takes (place c.args.whole) (binary_of c.args.argument) o u))) (open_of c.in_ok-opened.opened) _ c.in_ok-opened.ensures (where_false c.args.self.now.rules.env.now c.args.self.now.rules.budget (has_unknown c.in_ok-opened.opened.domain) (then (infers (env_of c.args.self.now.rules.env.now) no_encodings (entries c.args.context.now) c.args.arg.now (term (env_of c.args.self.now.rules.env.now) no_encodings (entries c.args.context.now) c.args.arg.now)) (λ (x : Typed). takes_inferred (place c.args.whole) (binder_of c.args.argument) (binary_of c.args.argument) (span_of c.args.arg.now) (open_of c.in_ok-opened.opened) x)) (then ((checks (env_of c.args.self.now.rules.env.now) no_encodings (entries c.args.context.now) c.args.arg.now (term (env_of c.args.self.now.rules.env.now) no_encodings (entries c.args.context.now) c.args.arg.now)) c.in_ok-opened.opened.domain) (λ (u : Tree). takes (place c.args.whole) (binary_of c.args.argument) (open_of c.in_ok-opened.opened) u)) _ (sym (unknown_is c.in_ok-opened.opened.domain) ∙ sym c.has_unknown.ensures.is ∙ c.if-has_unknown.false) (ends c.args.self.now.rules.env.now c.args.self.now.rules.budget ((checks (env_of c.args.self.now.rules.env.now) no_encodings (entries c.args.context.now) c.args.arg.now (term (env_of c.args.self.now.rules.env.now) no_encodings (entries c.args.context.now) c.args.arg.now)) c.in_ok-opened.opened.domain) (λ (u : Tree). takes (place c.args.whole) (binary_of c.args.argument) (open_of c.in_ok-opened.opened) u) _ c.in_err-found-2.ensures))))

pub argument-returns : goal.argument-returns
argument-returns t c = along c.args.self.now.rules.env.now c.args.self.now.rules.budget _ _ _ (argument_falls (place c.args.whole) (binder_of c.args.argument) (binary_of c.args.argument) (span_of c.args.arg.now) (infers (env_of c.args.self.now.rules.env.now) no_encodings (entries c.args.context.now) c.args.arg.now (term (env_of c.args.self.now.rules.env.now) no_encodings (entries c.args.context.now) c.args.arg.now)) (checks (env_of c.args.self.now.rules.env.now) no_encodings (entries c.args.context.now) c.args.arg.now (term (env_of c.args.self.now.rules.env.now) no_encodings (entries c.args.context.now) c.args.arg.now)) (spine_of c.args.spine)) (goes_on c.args.self.now.rules.env.now c.args.self.now.rules.budget (opens (place c.args.whole) (binder_of c.args.argument) (spine_of c.args.spine)) (λ (o : Open). cond (has_unknown o.1.0) (then (infers (env_of c.args.self.now.rules.env.now) no_encodings (entries c.args.context.now) c.args.arg.now (term (env_of c.args.self.now.rules.env.now) no_encodings (entries c.args.context.now) c.args.arg.now)) (λ (x : Typed). takes_inferred (place c.args.whole) (binder_of c.args.argument) (binary_of c.args.argument) (span_of c.args.arg.now) o x)) (then ((checks (env_of c.args.self.now.rules.env.now) no_encodings (entries c.args.context.now) c.args.arg.now (term (env_of c.args.self.now.rules.env.now) no_encodings (entries c.args.context.now) c.args.arg.now)) o.1.0) (λ (u : Tree). takes (place c.args.whole) (binary_of c.args.argument) o u))) (open_of c.in_ok-opened.opened) _ c.in_ok-opened.ensures (where_false c.args.self.now.rules.env.now c.args.self.now.rules.budget (has_unknown c.in_ok-opened.opened.domain) (then (infers (env_of c.args.self.now.rules.env.now) no_encodings (entries c.args.context.now) c.args.arg.now (term (env_of c.args.self.now.rules.env.now) no_encodings (entries c.args.context.now) c.args.arg.now)) (λ (x : Typed). takes_inferred (place c.args.whole) (binder_of c.args.argument) (binary_of c.args.argument) (span_of c.args.arg.now) (open_of c.in_ok-opened.opened) x)) (then ((checks (env_of c.args.self.now.rules.env.now) no_encodings (entries c.args.context.now) c.args.arg.now (term (env_of c.args.self.now.rules.env.now) no_encodings (entries c.args.context.now) c.args.arg.now)) c.in_ok-opened.opened.domain) (λ (u : Tree). takes (place c.args.whole) (binary_of c.args.argument) (open_of c.in_ok-opened.opened) u)) _ (sym (unknown_is c.in_ok-opened.opened.domain) ∙ sym c.has_unknown.ensures.is ∙ c.if-has_unknown.false) (goes_on c.args.self.now.rules.env.now c.args.self.now.rules.budget ((checks (env_of c.args.self.now.rules.env.now) no_encodings (entries c.args.context.now) c.args.arg.now (term (env_of c.args.self.now.rules.env.now) no_encodings (entries c.args.context.now) c.args.arg.now)) c.in_ok-opened.opened.domain) (λ (u : Tree). takes (place c.args.whole) (binary_of c.args.argument) (open_of c.in_ok-opened.opened) u) c.in_ok-found-2.found _ c.in_ok-found-2.ensures c.takes.ensures)))

pub type_argument-returns-in_err-opened : goal.type_argument-returns-in_err-opened
type_argument-returns-in_err-opened t c = let p = err_from_is_err_and c.from_residual.result c.from_residual.ensures.1 in rw (p.1, p.2) (along c.args.self.now.rules.env.now c.args.self.now.rules.budget _ _ _ (type_argument_falls (place c.args.whole) (span_of c.args.arg.now) (type_in (env_of c.args.self.now.rules.env.now) no_encodings (entries c.args.context.now) c.args.arg.now) (spine_of c.args.spine)) (ends c.args.self.now.rules.env.now c.args.self.now.rules.budget (opens_type (place c.args.whole) (spine_of c.args.spine)) (λ (o : Open). then (type_in (env_of c.args.self.now.rules.env.now) no_encodings (entries c.args.context.now) c.args.arg.now) (λ (x : Typed). takes_type (place c.args.whole) (span_of c.args.arg.now) o x)) _ c.in_err-opened.ensures))

pub type_argument-returns-in_err-found : goal.type_argument-returns-in_err-found
type_argument-returns-in_err-found t c = let p = err_from_is_err_and c.from_residual-in_err-found.result c.from_residual-in_err-found.ensures.1 in rw (p.1, p.2) (along c.args.self.now.rules.env.now c.args.self.now.rules.budget _ _ _ (type_argument_falls (place c.args.whole) (span_of c.args.arg.now) (type_in (env_of c.args.self.now.rules.env.now) no_encodings (entries c.args.context.now) c.args.arg.now) (spine_of c.args.spine)) (goes_on c.args.self.now.rules.env.now c.args.self.now.rules.budget (opens_type (place c.args.whole) (spine_of c.args.spine)) (λ (o : Open). then (type_in (env_of c.args.self.now.rules.env.now) no_encodings (entries c.args.context.now) c.args.arg.now) (λ (x : Typed). takes_type (place c.args.whole) (span_of c.args.arg.now) o x)) (open_type_of c.in_ok-opened.opened) _ c.in_ok-opened.ensures (ends c.args.self.now.rules.env.now c.args.self.now.rules.budget (type_in (env_of c.args.self.now.rules.env.now) no_encodings (entries c.args.context.now) c.args.arg.now) (λ (x : Typed). takes_type (place c.args.whole) (span_of c.args.arg.now) (open_type_of c.in_ok-opened.opened) x) _ c.in_err-found.ensures)))

pub type_argument-returns : goal.type_argument-returns
type_argument-returns t c = along c.args.self.now.rules.env.now c.args.self.now.rules.budget _ _ _ (type_argument_falls (place c.args.whole) (span_of c.args.arg.now) (type_in (env_of c.args.self.now.rules.env.now) no_encodings (entries c.args.context.now) c.args.arg.now) (spine_of c.args.spine)) (goes_on c.args.self.now.rules.env.now c.args.self.now.rules.budget (opens_type (place c.args.whole) (spine_of c.args.spine)) (λ (o : Open). then (type_in (env_of c.args.self.now.rules.env.now) no_encodings (entries c.args.context.now) c.args.arg.now) (λ (x : Typed). takes_type (place c.args.whole) (span_of c.args.arg.now) o x)) (open_type_of c.in_ok-opened.opened) _ c.in_ok-opened.ensures (goes_on c.args.self.now.rules.env.now c.args.self.now.rules.budget (type_in (env_of c.args.self.now.rules.env.now) no_encodings (entries c.args.context.now) c.args.arg.now) (λ (x : Typed). takes_type (place c.args.whole) (span_of c.args.arg.now) (open_type_of c.in_ok-opened.opened) x) c.in_ok-found.found _ c.in_ok-found.ensures (rw (← c.span.ensures) c.takes_type.ensures)))

pub term-returns-in_default : goal.term-returns-in_default
term-returns-in_default t c = no_memory _ _ _

pub of_binder-returns-in_default : goal.of_binder-returns-in_default
of_binder-returns-in_default t c = λ w. no_memory _ _ _

pub of_two-returns-in_default : goal.of_two-returns-in_default
of_two-returns-in_default t c = no_memory _ _ _

pub ty-returns-in_default : goal.ty-returns-in_default
ty-returns-in_default t c = no_memory _ _ _

pub kind-returns-in_default : goal.kind-returns-in_default
kind-returns-in_default t c = no_memory _ _ _

pub type_of_binder-returns-in_default : goal.type_of_binder-returns-in_default
type_of_binder-returns-in_default t c = no_memory _ _ _

pub type_of_two-returns-in-Eq : goal.type_of_two-returns-in-Eq
type_of_two-returns-in-Eq t c = along c.args.self.now.rules.env.now c.args.self.now.rules.budget _ _ _ (ap (λ (z : TwoForm). type_in (env_of c.args.self.now.rules.env.now) no_encodings (entries c.args.context.now) (two (place c.args.span) (two_form z) c.args.head.now c.args.arg.now)) (sym c.in-Eq.is)) (c.equation_type.ensures (entries c.args.context.now))

pub type_of_two-returns-in_default : goal.type_of_two-returns-in_default
type_of_two-returns-in_default t c = no_memory _ _ _

pub term-returns-in-Use : goal.term-returns-in-Use
term-returns-in-Use t c = along c.args.self.now.rules.env.now c.args.self.now.rules.budget _ _ _ (ap (λ (z : Scoped). term (env_of c.args.self.now.rules.env.now) no_encodings (entries c.args.context.now) z (seen_goal c.args.goal) (place c.args.whole)) (ap (form_tree (span_of c.args.node.now)) (sym c.in-Use.is) ∙ c.form.ensures.is)) (rw (← c.span.ensures) (c.term_name.ensures no_encodings))

pub term-returns-in-Two : goal.term-returns-in-Two
term-returns-in-Two t c = along c.args.self.now.rules.env.now c.args.self.now.rules.budget _ _ _ (ap (λ (z : Scoped). term (env_of c.args.self.now.rules.env.now) no_encodings (entries c.args.context.now) z (seen_goal c.args.goal) (place c.args.whole)) (ap (form_tree (span_of c.args.node.now)) (sym c.in-Two.is) ∙ c.form.ensures.is)) (rw (← c.span-in-Two.ensures) c.of_two.ensures)

pub term-returns-in-Bind : goal.term-returns-in-Bind
term-returns-in-Bind t c = along c.args.self.now.rules.env.now c.args.self.now.rules.budget _ _ _ (ap (λ (z : Scoped). term (env_of c.args.self.now.rules.env.now) no_encodings (entries c.args.context.now) z (seen_goal c.args.goal) (place c.args.whole)) (ap (form_tree (span_of c.args.node.now)) (sym c.in-Bind.is) ∙ c.form.ensures.is)) (rw (← c.span-in-Bind.ensures) (c.of_binder.ensures (place c.args.whole)))

pub ty-returns-in-Use : goal.ty-returns-in-Use
ty-returns-in-Use t c = along c.args.self.now.rules.env.now c.args.self.now.rules.budget _ _ _ (ap (λ (z : Scoped). type_in (env_of c.args.self.now.rules.env.now) no_encodings (entries c.args.context.now) z) (ap (form_tree (span_of c.args.node.now)) (sym c.in-Use.is) ∙ c.form.ensures.is)) (rw (← c.span.ensures) (c.type_name.ensures no_encodings))

pub ty-returns-in-Two : goal.ty-returns-in-Two
ty-returns-in-Two t c = along c.args.self.now.rules.env.now c.args.self.now.rules.budget _ _ _ (ap (λ (z : Scoped). type_in (env_of c.args.self.now.rules.env.now) no_encodings (entries c.args.context.now) z) (ap (form_tree (span_of c.args.node.now)) (sym c.in-Two.is) ∙ c.form.ensures.is)) (rw (← c.span-in-Two.ensures) c.type_of_two.ensures)

pub ty-returns-in-Bind : goal.ty-returns-in-Bind
ty-returns-in-Bind t c = along c.args.self.now.rules.env.now c.args.self.now.rules.budget _ _ _ (ap (λ (z : Scoped). type_in (env_of c.args.self.now.rules.env.now) no_encodings (entries c.args.context.now) z) (ap (form_tree (span_of c.args.node.now)) (sym c.in-Bind.is) ∙ c.form.ensures.is)) (rw (← c.span-in-Bind.ensures) c.type_of_binder.ensures)

pub kind-returns-in-Leaf : goal.kind-returns-in-Leaf
kind-returns-in-Leaf t c = along c.args.self.now.rules.env.now c.args.self.now.rules.budget _ _ _ (ap (λ (z : Scoped). kind_in (env_of c.args.self.now.rules.env.now) no_encodings (entries c.args.context.now) z) (ap (form_tree (span_of c.args.node.now)) (sym c.in-Leaf.is) ∙ c.form.ensures.is)) (c.leaf_kind.ensures (entries c.args.context.now) (span_of c.args.node.now))

pub kind-returns-in-Bind : goal.kind-returns-in-Bind
kind-returns-in-Bind t c = along c.args.self.now.rules.env.now c.args.self.now.rules.budget _ _ _ (ap (λ (z : Scoped). kind_in (env_of c.args.self.now.rules.env.now) no_encodings (entries c.args.context.now) z) (ap (form_tree (span_of c.args.node.now)) (sym c.in-Bind.is) ∙ c.form.ensures.is)) (rw (← c.span.ensures) c.kind_of_binder.ensures)

pub of_binder-returns-in-Lam : goal.of_binder-returns-in-Lam
of_binder-returns-in-Lam t c = λ w. along c.args.self.now.rules.env.now c.args.self.now.rules.budget _ _ _ (ap (λ (z : BindForm). term (env_of c.args.self.now.rules.env.now) no_encodings (entries c.args.context.now) (bind (place c.args.span) (bind_form z) (tt {0}) c.args.domain.now c.args.part.now) (seen_goal c.args.goal) w) (sym c.in-Lam.is)) (c.function.ensures w)

pub of_binder-returns-in-Elam : goal.of_binder-returns-in-Elam
of_binder-returns-in-Elam t c = λ w. along c.args.self.now.rules.env.now c.args.self.now.rules.budget _ _ _ (ap (λ (z : BindForm). term (env_of c.args.self.now.rules.env.now) no_encodings (entries c.args.context.now) (bind (place c.args.span) (bind_form z) (tt {0}) c.args.domain.now c.args.part.now) (seen_goal c.args.goal) w) (sym c.in-Elam.is)) (c.function-in-Elam.ensures w)

pub of_binder-returns-in-Xlam : goal.of_binder-returns-in-Xlam
of_binder-returns-in-Xlam t c = λ w. along c.args.self.now.rules.env.now c.args.self.now.rules.budget _ _ _ (ap (λ (z : BindForm). term (env_of c.args.self.now.rules.env.now) no_encodings (entries c.args.context.now) (bind (place c.args.span) (bind_form z) (tt {0}) c.args.domain.now c.args.part.now) (seen_goal c.args.goal) w) (sym c.in-Xlam.is)) (c.function_of_types.ensures w)

pub of_binder-returns-in-Unclassed : goal.of_binder-returns-in-Unclassed
of_binder-returns-in-Unclassed t c = λ w. along c.args.self.now.rules.env.now c.args.self.now.rules.budget _ _ _ (ap (λ (z : BindForm). term (env_of c.args.self.now.rules.env.now) no_encodings (entries c.args.context.now) (bind (place c.args.span) (bind_form z) (tt {0}) c.args.domain.now c.args.part.now) (seen_goal c.args.goal) w) (sym c.in-Unclassed.is)) (c.unclassed.ensures w c.args.domain.now)

pub of_two-returns-in-App : goal.of_two-returns-in-App
of_two-returns-in-App t c = along c.args.self.now.rules.env.now c.args.self.now.rules.budget _ _ _ (ap (λ (z : TwoForm). term (env_of c.args.self.now.rules.env.now) no_encodings (entries c.args.context.now) (two (place c.args.span) (two_form z) c.args.left.now c.args.right.now) (seen_goal c.args.goal) (place c.args.whole)) (sym c.in-App.is)) (c.application.ensures (place c.args.span) (seen_goal c.args.goal))

pub of_two-returns-in-Eapp : goal.of_two-returns-in-Eapp
of_two-returns-in-Eapp t c = along c.args.self.now.rules.env.now c.args.self.now.rules.budget _ _ _ (ap (λ (z : TwoForm). term (env_of c.args.self.now.rules.env.now) no_encodings (entries c.args.context.now) (two (place c.args.span) (two_form z) c.args.left.now c.args.right.now) (seen_goal c.args.goal) (place c.args.whole)) (sym c.in-Eapp.is)) (c.application-in-Eapp.ensures (place c.args.span) (seen_goal c.args.goal))

pub of_two-returns-in-Tapp : goal.of_two-returns-in-Tapp
of_two-returns-in-Tapp t c = along c.args.self.now.rules.env.now c.args.self.now.rules.budget _ _ _ (ap (λ (z : TwoForm). term (env_of c.args.self.now.rules.env.now) no_encodings (entries c.args.context.now) (two (place c.args.span) (two_form z) c.args.left.now c.args.right.now) (seen_goal c.args.goal) (place c.args.whole)) (sym c.in-Tapp.is)) (c.type_application.ensures (place c.args.span) (seen_goal c.args.goal))

pub function-returns-in-Some : goal.function-returns-in-Some
function-returns-in-Some t c = λ w. along c.args.self.now.rules.env.now c.args.self.now.rules.budget _ _ _ (ap (λ (z : Option (Bor Tree)). term (env_of c.args.self.now.rules.env.now) no_encodings (entries c.args.context.now) (abstracted c.args.argument (place c.args.span) c.args.domain.now c.args.part.now) (seen_goal z) w) (sym c.in-Some.is)) (c.abstraction_against.ensures w)

pub function-returns-in-None : goal.function-returns-in-None
function-returns-in-None t c = λ w. along c.args.self.now.rules.env.now c.args.self.now.rules.budget _ _ _ (sym (abstraction_is (env_of c.args.self.now.rules.env.now) no_encodings (entries c.args.context.now) c.args.argument (place c.args.span) c.args.domain.now c.args.part.now w) ∙ ap (λ (z : Option (Bor Tree)). term (env_of c.args.self.now.rules.env.now) no_encodings (entries c.args.context.now) (abstracted c.args.argument (place c.args.span) c.args.domain.now c.args.part.now) (seen_goal z) w) (sym c.in-None.is)) (where_true c.args.self.now.rules.env.now c.args.self.now.rules.budget (is_none c.args.domain.now) (rejects (letter (place c.args.span)) AnnotationWanted) (inferred_abstraction (env_of c.args.self.now.rules.env.now) no_encodings (entries c.args.context.now) (place c.args.span) c.args.argument c.args.domain.now c.args.part.now) _ (c.is_left_out.ensures ∙ c.if-is_left_out.true) (refused Made c.args.self.now.rules.env.now c.args.self.now.rules.budget (Letter c.args.span) AnnotationWanted))

pub function-returns-in-None-2 : goal.function-returns-in-None-2
function-returns-in-None-2 t c = λ w. along c.args.self.now.rules.env.now c.args.self.now.rules.budget _ _ _ (sym (abstraction_is (env_of c.args.self.now.rules.env.now) no_encodings (entries c.args.context.now) c.args.argument (place c.args.span) c.args.domain.now c.args.part.now w) ∙ ap (λ (z : Option (Bor Tree)). term (env_of c.args.self.now.rules.env.now) no_encodings (entries c.args.context.now) (abstracted c.args.argument (place c.args.span) c.args.domain.now c.args.part.now) (seen_goal z) w) (sym c.in-None.is)) (where_false c.args.self.now.rules.env.now c.args.self.now.rules.budget (is_none c.args.domain.now) (rejects (letter (place c.args.span)) AnnotationWanted) (inferred_abstraction (env_of c.args.self.now.rules.env.now) no_encodings (entries c.args.context.now) (place c.args.span) c.args.argument c.args.domain.now c.args.part.now) _ (c.is_left_out.ensures ∙ c.if-is_left_out.false) c.abstraction.ensures)

pub function_of_types-returns-in-Some : goal.function_of_types-returns-in-Some
function_of_types-returns-in-Some t c = λ w. along c.args.self.now.rules.env.now c.args.self.now.rules.budget _ _ _ (ap (λ (z : Option (Bor Tree)). term (env_of c.args.self.now.rules.env.now) no_encodings (entries c.args.context.now) (s_xlam (place c.args.span) (tt {0}) c.args.domain.now c.args.part.now) (seen_goal z) w) (sym c.in-Some.is)) (c.type_abstraction_against.ensures w)

pub function_of_types-returns-in-None : goal.function_of_types-returns-in-None
function_of_types-returns-in-None t c = λ w. along c.args.self.now.rules.env.now c.args.self.now.rules.budget _ _ _ (ap (λ (z : Option (Bor Tree)). term (env_of c.args.self.now.rules.env.now) no_encodings (entries c.args.context.now) (s_xlam (place c.args.span) (tt {0}) c.args.domain.now c.args.part.now) (seen_goal z) w) (sym c.in-None.is)) (where_true c.args.self.now.rules.env.now c.args.self.now.rules.budget (is_none c.args.domain.now) (rejects (letter (place c.args.span)) AnnotationWanted) (then (kind_in (env_of c.args.self.now.rules.env.now) no_encodings (entries c.args.context.now) c.args.domain.now) (λ (d : Tree). then (infers (env_of c.args.self.now.rules.env.now) no_encodings (type_of d ∷ (entries c.args.context.now)) c.args.part.now (term (env_of c.args.self.now.rules.env.now) no_encodings (type_of d ∷ (entries c.args.context.now)) c.args.part.now)) (λ (r : Typed). ends_of.type_abstraction (place c.args.span) d r))) _ (c.is_left_out.ensures ∙ c.if-is_left_out.true) (refused Made c.args.self.now.rules.env.now c.args.self.now.rules.budget (Letter c.args.span) AnnotationWanted))

pub unclassed-returns-in-Some : goal.unclassed-returns-in-Some
unclassed-returns-in-Some t c = λ w a. along c.args.self.now.rules.env.now c.args.self.now.rules.budget _ _ _ (ap (λ (z : Option (Bor Tree)). term (env_of c.args.self.now.rules.env.now) no_encodings (entries c.args.context.now) (s_unclassed (place c.args.span) (tt {0}) a c.args.part.now) (seen_goal z) w) (sym c.in-Some.is)) (c.unclassed_against.ensures w a)

pub unclassed-returns-in-None : goal.unclassed-returns-in-None
unclassed-returns-in-None t c = λ w a. along c.args.self.now.rules.env.now c.args.self.now.rules.budget _ _ _ (ap (λ (z : Option (Bor Tree)). term (env_of c.args.self.now.rules.env.now) no_encodings (entries c.args.context.now) (s_unclassed (place c.args.span) (tt {0}) a c.args.part.now) (seen_goal z) w) (sym c.in-None.is)) (refused Made c.args.self.now.rules.env.now c.args.self.now.rules.budget (Letter c.args.span) AnnotationWanted)

pub unclassed_against-returns-in_err-product : goal.unclassed_against-returns-in_err-product
unclassed_against-returns-in_err-product t c = let p = err_from_is_err_and c.from_residual.result c.from_residual.ensures.1 in rw (p.1, p.2) (λ w a. along c.args.self.now.rules.env.now c.args.self.now.rules.budget _ _ _ (either_falls (place c.args.span) (letter (place c.args.span)) c.args.goal.now (of_product (env_of c.args.self.now.rules.env.now) (entries c.args.context.now) (place c.args.span) c.args.part.now)) (ends c.args.self.now.rules.env.now c.args.self.now.rules.budget (asks_product (place c.args.span) (letter (place c.args.span)) c.args.goal.now) (of_product (env_of c.args.self.now.rules.env.now) (entries c.args.context.now) (place c.args.span) c.args.part.now) _ c.in_err-product.ensures))

pub unclassed_against-returns : goal.unclassed_against-returns
unclassed_against-returns t c = λ w a. along c.args.self.now.rules.env.now c.args.self.now.rules.budget _ _ _ (either_falls (place c.args.span) (letter (place c.args.span)) c.args.goal.now (of_product (env_of c.args.self.now.rules.env.now) (entries c.args.context.now) (place c.args.span) c.args.part.now)) (goes_on c.args.self.now.rules.env.now c.args.self.now.rules.budget (asks_product (place c.args.span) (letter (place c.args.span)) c.args.goal.now) (of_product (env_of c.args.self.now.rules.env.now) (entries c.args.context.now) (place c.args.span) c.args.part.now) (either_of c.in_ok-product.product) _ c.in_ok-product.ensures c.unclassed_at.ensures)

pub unclassed_at-returns-in-OverTerms : goal.unclassed_at-returns-in-OverTerms
unclassed_at-returns-in-OverTerms t c = along c.args.self.now.rules.env.now c.args.self.now.rules.budget _ _ _ (ap (λ (z : Product). of_product (env_of c.args.self.now.rules.env.now) (entries c.args.context.now) (place c.args.span) c.args.part.now (either_of z)) (sym c.in-OverTerms.is)) c.erased_abstracted.ensures

pub unclassed_at-returns-in-OverTypes : goal.unclassed_at-returns-in-OverTypes
unclassed_at-returns-in-OverTypes t c = along c.args.self.now.rules.env.now c.args.self.now.rules.budget _ _ _ (ap (λ (z : Product). of_product (env_of c.args.self.now.rules.env.now) (entries c.args.context.now) (place c.args.span) c.args.part.now (either_of z)) (sym c.in-OverTypes.is)) c.type_abstracted.ensures

pub kind_of_binder-returns-in_default : goal.kind_of_binder-returns-in_default
kind_of_binder-returns-in_default t c = no_memory _ _ _

pub kind_of_binder-returns-in-Kpi : goal.kind_of_binder-returns-in-Kpi
kind_of_binder-returns-in-Kpi t c = along c.args.self.now.rules.env.now c.args.self.now.rules.budget _ _ _ (ap (λ (z : BindForm). kind_in (env_of c.args.self.now.rules.env.now) no_encodings (entries c.args.context.now) (bind (place c.args.span) (bind_form z) (tt {0}) c.args.domain.now c.args.part.now)) (sym c.in-Kpi.is)) c.kind_over_term.ensures

pub kind_of_binder-returns-in-Kpit : goal.kind_of_binder-returns-in-Kpit
kind_of_binder-returns-in-Kpit t c = along c.args.self.now.rules.env.now c.args.self.now.rules.budget _ _ _ (ap (λ (z : BindForm). kind_in (env_of c.args.self.now.rules.env.now) no_encodings (entries c.args.context.now) (bind (place c.args.span) (bind_form z) (tt {0}) c.args.domain.now c.args.part.now)) (sym c.in-Kpit.is)) c.kind_over_type.ensures

pub of_two-returns-in-Pair : goal.of_two-returns-in-Pair
of_two-returns-in-Pair t c = along c.args.self.now.rules.env.now c.args.self.now.rules.budget _ _ _ (ap (λ (z : TwoForm). term (env_of c.args.self.now.rules.env.now) no_encodings (entries c.args.context.now) (two (place c.args.span) (two_form z) c.args.left.now c.args.right.now) (seen_goal c.args.goal) (place c.args.whole)) (sym c.in-Pair.is)) (c.pair.ensures (place c.args.whole))

pub of_two-returns-in-Delta : goal.of_two-returns-in-Delta
of_two-returns-in-Delta t c = along c.args.self.now.rules.env.now c.args.self.now.rules.budget _ _ _ (ap (λ (z : TwoForm). term (env_of c.args.self.now.rules.env.now) no_encodings (entries c.args.context.now) (two (place c.args.span) (two_form z) c.args.left.now c.args.right.now) (seen_goal c.args.goal) (place c.args.whole)) (sym c.in-Delta.is)) (c.absurdity.ensures (place c.args.whole))

pub of_two-returns-in-Phi : goal.of_two-returns-in-Phi
of_two-returns-in-Phi t c = along c.args.self.now.rules.env.now c.args.self.now.rules.budget _ _ _ (ap (λ (z : TwoForm). term (env_of c.args.self.now.rules.env.now) no_encodings (entries c.args.context.now) (two (place c.args.span) (two_form z) c.args.left.now c.args.right.now) (seen_goal c.args.goal) (place c.args.whole)) (sym c.in-Phi.is)) (c.cast.ensures (place c.args.whole))

pub of_two-returns-in-Rho : goal.of_two-returns-in-Rho
of_two-returns-in-Rho t c = along c.args.self.now.rules.env.now c.args.self.now.rules.budget _ _ _ (ap (λ (z : TwoForm). term (env_of c.args.self.now.rules.env.now) no_encodings (entries c.args.context.now) (two (place c.args.span) (two_form z) c.args.left.now c.args.right.now) (seen_goal c.args.goal) (place c.args.whole)) (sym c.in-Rho.is)) (c.guided.ensures (place c.args.whole))

pub of_two-returns-in-Beta : goal.of_two-returns-in-Beta
of_two-returns-in-Beta t c = along c.args.self.now.rules.env.now c.args.self.now.rules.budget _ _ _ (ap (λ (z : TwoForm). term (env_of c.args.self.now.rules.env.now) no_encodings (entries c.args.context.now) (two (place c.args.span) (two_form z) c.args.left.now c.args.right.now) (seen_goal c.args.goal) (place c.args.whole)) (sym c.in-Beta.is)) (c.reflexivity.ensures (entries c.args.context.now) (place c.args.whole))

pub of_two-returns-in-Chi : goal.of_two-returns-in-Chi
of_two-returns-in-Chi t c = along c.args.self.now.rules.env.now c.args.self.now.rules.budget _ _ _ (ap (λ (z : TwoForm). term (env_of c.args.self.now.rules.env.now) no_encodings (entries c.args.context.now) (two (place c.args.span) (two_form z) c.args.left.now c.args.right.now) (seen_goal c.args.goal) (place c.args.whole)) (sym c.in-Chi.is)) (c.annotated.ensures (seen_goal c.args.goal) (place c.args.whole))

pub of_one-returns-in-Fst : goal.of_one-returns-in-Fst
of_one-returns-in-Fst t c = λ g w. along c.args.self.now.rules.env.now c.args.self.now.rules.budget _ _ _ (ap (λ (z : OneForm). term (env_of c.args.self.now.rules.env.now) no_encodings (entries c.args.context.now) (one (place c.args.span) (one_form z) c.args.part.now) g w) (sym c.in-Fst.is)) (c.first_of.ensures g w)

pub of_one-returns-in-Snd : goal.of_one-returns-in-Snd
of_one-returns-in-Snd t c = λ g w. along c.args.self.now.rules.env.now c.args.self.now.rules.budget _ _ _ (ap (λ (z : OneForm). term (env_of c.args.self.now.rules.env.now) no_encodings (entries c.args.context.now) (one (place c.args.span) (one_form z) c.args.part.now) g w) (sym c.in-Snd.is)) (c.second_of.ensures g w)

pub of_one-returns-in-Flip : goal.of_one-returns-in-Flip
of_one-returns-in-Flip t c = λ g w. along c.args.self.now.rules.env.now c.args.self.now.rules.budget _ _ _ (ap (λ (z : OneForm). term (env_of c.args.self.now.rules.env.now) no_encodings (entries c.args.context.now) (one (place c.args.span) (one_form z) c.args.part.now) g w) (sym c.in-Flip.is)) (c.flip.ensures g w)

pub term-returns-in-One : goal.term-returns-in-One
term-returns-in-One t c = along c.args.self.now.rules.env.now c.args.self.now.rules.budget _ _ _ (ap (λ (z : Scoped). term (env_of c.args.self.now.rules.env.now) no_encodings (entries c.args.context.now) z (seen_goal c.args.goal) (place c.args.whole)) (ap (form_tree (span_of c.args.node.now)) (sym c.in-One.is) ∙ c.form.ensures.is)) (rw (← c.span-in-One.ensures) (c.of_one.ensures (seen_goal c.args.goal) (place c.args.whole)))

pub proof-returns-in_err-found : goal.proof-returns-in_err-found
proof-returns-in_err-found t c = let p = err_from_is_err_and c.from_residual.result c.from_residual.ensures.1 in rw (p.1, p.2) (ends c.args.self.now.rules.env.now c.args.self.now.rules.budget (infers (env_of c.args.self.now.rules.env.now) no_encodings (entries c.args.context.now) c.args.proof.now (term (env_of c.args.self.now.rules.env.now) no_encodings (entries c.args.context.now) c.args.proof.now)) (λ (x : Typed). equation_then (place c.args.span) (span_of c.args.proof.now) x.1 (λ x' y'. gives (x.0, (x', y')))) _ c.in_err-found.ensures)

pub proof-returns-in_err-sides : goal.proof-returns-in_err-sides
proof-returns-in_err-sides t c = let p = err_from_is_err_and c.from_residual-in_err-sides.result c.from_residual-in_err-sides.ensures.1 in rw (p.1, p.2) (goes_on c.args.self.now.rules.env.now c.args.self.now.rules.budget (infers (env_of c.args.self.now.rules.env.now) no_encodings (entries c.args.context.now) c.args.proof.now (term (env_of c.args.self.now.rules.env.now) no_encodings (entries c.args.context.now) c.args.proof.now)) (λ (x : Typed). equation_then (place c.args.span) (span_of c.args.proof.now) x.1 (λ x' y'. gives (x.0, (x', y')))) c.in_ok-found.found _ c.in_ok-found.ensures (equation_ends (place c.args.span) (span_of c.args.proof.now) c.in_ok-found.found.1 (λ x' y'. gives (c.in_ok-found.found.0, (x', y'))) c.args.self.now.rules.env.now c.args.self.now.rules.budget _ (rw (← c.span.ensures) c.in_err-sides.ensures)))

pub proof-returns : goal.proof-returns
proof-returns t c = goes_on c.args.self.now.rules.env.now c.args.self.now.rules.budget (infers (env_of c.args.self.now.rules.env.now) no_encodings (entries c.args.context.now) c.args.proof.now (term (env_of c.args.self.now.rules.env.now) no_encodings (entries c.args.context.now) c.args.proof.now)) (λ (x : Typed). equation_then (place c.args.span) (span_of c.args.proof.now) x.1 (λ x' y'. gives (x.0, (x', y')))) c.in_ok-found.found _ c.in_ok-found.ensures (equation_on (place c.args.span) (span_of c.args.proof.now) c.in_ok-found.found.1 (λ x' y'. gives (c.in_ok-found.found.0, (x', y'))) c.args.self.now.rules.env.now c.args.self.now.rules.budget c.in_ok-sides.sides _ (rw (← c.span.ensures) c.in_ok-sides.ensures) (given c.args.self.now.rules.env.now c.args.self.now.rules.budget _))

pub pair-returns-in-Some : goal.pair-returns-in-Some
pair-returns-in-Some t c = λ w. along c.args.self.now.rules.env.now c.args.self.now.rules.budget _ _ _ (ap (λ (z : Option (Bor Tree)). term (env_of c.args.self.now.rules.env.now) no_encodings (entries c.args.context.now) (s_pair (place c.args.span) c.args.left.now c.args.right.now) (seen_goal z) w) (sym c.in-Some.is)) (c.pair_against.ensures w)

pub pair-returns-in-None : goal.pair-returns-in-None
pair-returns-in-None t c = λ w. along c.args.self.now.rules.env.now c.args.self.now.rules.budget _ _ _ (ap (λ (z : Option (Bor Tree)). term (env_of c.args.self.now.rules.env.now) no_encodings (entries c.args.context.now) (s_pair (place c.args.span) c.args.left.now c.args.right.now) (seen_goal z) w) (sym c.in-None.is)) (refused Made c.args.self.now.rules.env.now c.args.self.now.rules.budget (Bracket c.args.span) AnnotationWanted)

pub pair_against-returns-in_err-parts : goal.pair_against-returns-in_err-parts
pair_against-returns-in_err-parts t c = let p = err_from_is_err_and c.from_residual.result c.from_residual.ensures.1 in rw (p.1, p.2) (λ w. along c.args.self.now.rules.env.now c.args.self.now.rules.budget _ _ _ (pair_falls (env_of c.args.self.now.rules.env.now) (entries c.args.context.now) (place c.args.span) c.args.left.now c.args.right.now c.args.goal.now w) (binder_ends (place c.args.span) (bracket (place c.args.span)) WantedIntersection iota_of c.args.goal.now (pair_checked (env_of c.args.self.now.rules.env.now) (entries c.args.context.now) (place c.args.span) c.args.left.now c.args.right.now) c.args.self.now.rules.env.now c.args.self.now.rules.budget _ c.in_err-parts.ensures))

pub pair_against-returns-in_err-left : goal.pair_against-returns-in_err-left
pair_against-returns-in_err-left t c = let p = err_from_is_err_and c.from_residual-in_err-left.result c.from_residual-in_err-left.ensures.1 in rw (p.1, p.2) (λ w. along c.args.self.now.rules.env.now c.args.self.now.rules.budget _ _ _ (pair_falls (env_of c.args.self.now.rules.env.now) (entries c.args.context.now) (place c.args.span) c.args.left.now c.args.right.now c.args.goal.now w) (binder_on (place c.args.span) (bracket (place c.args.span)) WantedIntersection iota_of c.args.goal.now (pair_checked (env_of c.args.self.now.rules.env.now) (entries c.args.context.now) (place c.args.span) c.args.left.now c.args.right.now) c.args.self.now.rules.env.now c.args.self.now.rules.budget c.in_ok-parts.parts _ c.in_ok-parts.ensures (ends c.args.self.now.rules.env.now c.args.self.now.rules.budget (checks (env_of c.args.self.now.rules.env.now) no_encodings (entries c.args.context.now) c.args.left.now (term (env_of c.args.self.now.rules.env.now) no_encodings (entries c.args.context.now) c.args.left.now) c.in_ok-parts.parts.0) (λ (t : Tree). (second_checked (env_of c.args.self.now.rules.env.now) (entries c.args.context.now) (place c.args.span) c.args.right.now t c.in_ok-parts.parts.1)) _ c.in_err-left.ensures)))

pub pair_against-returns : goal.pair_against-returns
pair_against-returns t c = λ w. along c.args.self.now.rules.env.now c.args.self.now.rules.budget _ _ _ (pair_falls (env_of c.args.self.now.rules.env.now) (entries c.args.context.now) (place c.args.span) c.args.left.now c.args.right.now c.args.goal.now w) (binder_on (place c.args.span) (bracket (place c.args.span)) WantedIntersection iota_of c.args.goal.now (pair_checked (env_of c.args.self.now.rules.env.now) (entries c.args.context.now) (place c.args.span) c.args.left.now c.args.right.now) c.args.self.now.rules.env.now c.args.self.now.rules.budget c.in_ok-parts.parts _ c.in_ok-parts.ensures (goes_on c.args.self.now.rules.env.now c.args.self.now.rules.budget (checks (env_of c.args.self.now.rules.env.now) no_encodings (entries c.args.context.now) c.args.left.now (term (env_of c.args.self.now.rules.env.now) no_encodings (entries c.args.context.now) c.args.left.now) c.in_ok-parts.parts.0) (λ (t : Tree). (second_checked (env_of c.args.self.now.rules.env.now) (entries c.args.context.now) (place c.args.span) c.args.right.now t c.in_ok-parts.parts.1)) c.in_ok-left.left _ c.in_ok-left.ensures c.second_part.ensures))

pub second_part-returns-in_err-wanted : goal.second_part-returns-in_err-wanted
second_part-returns-in_err-wanted t c = let p = err_from_is_err_and c.from_residual.result c.from_residual.ensures.1 in rw (p.1, p.2) (ends c.args.self.now.rules.env.now c.args.self.now.rules.budget (limited (place c.args.span) (put_written 0 c.args.left.now c.args.range.now)) (λ (b : Tree). then (checks (env_of c.args.self.now.rules.env.now) no_encodings (entries c.args.context.now) c.args.right.now (term (env_of c.args.self.now.rules.env.now) no_encodings (entries c.args.context.now) c.args.right.now) b) (λ (u : Tree). paired (place c.args.span) c.args.left.now u c.args.range.now)) _ c.in_err-wanted.ensures)

pub second_part-returns-in_err-right : goal.second_part-returns-in_err-right
second_part-returns-in_err-right t c = let p = err_from_is_err_and c.from_residual-in_err-right.result c.from_residual-in_err-right.ensures.1 in rw (p.1, p.2) (goes_on c.args.self.now.rules.env.now c.args.self.now.rules.budget (limited (place c.args.span) (put_written 0 c.args.left.now c.args.range.now)) (λ (b : Tree). then (checks (env_of c.args.self.now.rules.env.now) no_encodings (entries c.args.context.now) c.args.right.now (term (env_of c.args.self.now.rules.env.now) no_encodings (entries c.args.context.now) c.args.right.now) b) (λ (u : Tree). paired (place c.args.span) c.args.left.now u c.args.range.now)) c.in_ok-wanted.wanted _ c.in_ok-wanted.ensures (ends c.args.self.now.rules.env.now c.args.self.now.rules.budget (checks (env_of c.args.self.now.rules.env.now) no_encodings (entries c.args.context.now) c.args.right.now (term (env_of c.args.self.now.rules.env.now) no_encodings (entries c.args.context.now) c.args.right.now) c.in_ok-wanted.wanted) (λ (u : Tree). paired (place c.args.span) c.args.left.now u c.args.range.now) _ c.in_err-right.ensures))

pub second_part-returns : goal.second_part-returns
second_part-returns t c = goes_on c.args.self.now.rules.env.now c.args.self.now.rules.budget (limited (place c.args.span) (put_written 0 c.args.left.now c.args.range.now)) (λ (b : Tree). then (checks (env_of c.args.self.now.rules.env.now) no_encodings (entries c.args.context.now) c.args.right.now (term (env_of c.args.self.now.rules.env.now) no_encodings (entries c.args.context.now) c.args.right.now) b) (λ (u : Tree). paired (place c.args.span) c.args.left.now u c.args.range.now)) c.in_ok-wanted.wanted _ c.in_ok-wanted.ensures (goes_on c.args.self.now.rules.env.now c.args.self.now.rules.budget (checks (env_of c.args.self.now.rules.env.now) no_encodings (entries c.args.context.now) c.args.right.now (term (env_of c.args.self.now.rules.env.now) no_encodings (entries c.args.context.now) c.args.right.now) c.in_ok-wanted.wanted) (λ (u : Tree). paired (place c.args.span) c.args.left.now u c.args.range.now) c.in_ok-right.right _ c.in_ok-right.ensures c.paired.ensures)

pub first_of-returns-in_err-found : goal.first_of-returns-in_err-found
first_of-returns-in_err-found t c = let p = err_from_is_err_and c.from_residual.result c.from_residual.ensures.1 in rw (p.1, p.2) (λ g w. ends c.args.self.now.rules.env.now c.args.self.now.rules.budget (infers (env_of c.args.self.now.rules.env.now) no_encodings (entries c.args.context.now) c.args.part.now (term (env_of c.args.self.now.rules.env.now) no_encodings (entries c.args.context.now) c.args.part.now)) (λ (x : Typed). binder_then (place c.args.span) (span_of c.args.part.now) WantedIntersection iota_of x.1 (λ (a b : Tree). gives_spine (place c.args.span) (fst x.0) a)) _ c.in_err-found.ensures)

pub first_of-returns-in_err-parts : goal.first_of-returns-in_err-parts
first_of-returns-in_err-parts t c = let p = err_from_is_err_and c.from_residual-in_err-parts.result c.from_residual-in_err-parts.ensures.1 in rw (p.1, p.2) (λ g w. goes_on c.args.self.now.rules.env.now c.args.self.now.rules.budget (infers (env_of c.args.self.now.rules.env.now) no_encodings (entries c.args.context.now) c.args.part.now (term (env_of c.args.self.now.rules.env.now) no_encodings (entries c.args.context.now) c.args.part.now)) (λ (x : Typed). binder_then (place c.args.span) (span_of c.args.part.now) WantedIntersection iota_of x.1 (λ (a b : Tree). gives_spine (place c.args.span) (fst x.0) a)) c.in_ok-found.found _ c.in_ok-found.ensures (binder_ends (place c.args.span) (span_of c.args.part.now) WantedIntersection iota_of c.in_ok-found.found.1 (λ (a b : Tree). gives_spine (place c.args.span) (fst c.in_ok-found.found.0) a) c.args.self.now.rules.env.now c.args.self.now.rules.budget _ (rw (← c.span.ensures) c.in_err-parts.ensures)))

pub first_of-returns : goal.first_of-returns
first_of-returns t c = λ g w. goes_on c.args.self.now.rules.env.now c.args.self.now.rules.budget (infers (env_of c.args.self.now.rules.env.now) no_encodings (entries c.args.context.now) c.args.part.now (term (env_of c.args.self.now.rules.env.now) no_encodings (entries c.args.context.now) c.args.part.now)) (λ (x : Typed). binder_then (place c.args.span) (span_of c.args.part.now) WantedIntersection iota_of x.1 (λ (a b : Tree). gives_spine (place c.args.span) (fst x.0) a)) c.in_ok-found.found _ c.in_ok-found.ensures (binder_on (place c.args.span) (span_of c.args.part.now) WantedIntersection iota_of c.in_ok-found.found.1 (λ (a b : Tree). gives_spine (place c.args.span) (fst c.in_ok-found.found.0) a) c.args.self.now.rules.env.now c.args.self.now.rules.budget c.in_ok-parts.parts _ (rw (← c.span.ensures) c.in_ok-parts.ensures) c.first.ensures)

pub second_of-returns-in_err-found : goal.second_of-returns-in_err-found
second_of-returns-in_err-found t c = let p = err_from_is_err_and c.from_residual.result c.from_residual.ensures.1 in rw (p.1, p.2) (λ g w. ends c.args.self.now.rules.env.now c.args.self.now.rules.budget (infers (env_of c.args.self.now.rules.env.now) no_encodings (entries c.args.context.now) c.args.part.now (term (env_of c.args.self.now.rules.env.now) no_encodings (entries c.args.context.now) c.args.part.now)) (λ (x : Typed). binder_then (place c.args.span) (span_of c.args.part.now) WantedIntersection iota_of x.1 (λ (a b : Tree). gives_spine (place c.args.span) (snd x.0) (put_written 0 (fst x.0) b))) _ c.in_err-found.ensures)

pub second_of-returns-in_err-parts : goal.second_of-returns-in_err-parts
second_of-returns-in_err-parts t c = let p = err_from_is_err_and c.from_residual-in_err-parts.result c.from_residual-in_err-parts.ensures.1 in rw (p.1, p.2) (λ g w. goes_on c.args.self.now.rules.env.now c.args.self.now.rules.budget (infers (env_of c.args.self.now.rules.env.now) no_encodings (entries c.args.context.now) c.args.part.now (term (env_of c.args.self.now.rules.env.now) no_encodings (entries c.args.context.now) c.args.part.now)) (λ (x : Typed). binder_then (place c.args.span) (span_of c.args.part.now) WantedIntersection iota_of x.1 (λ (a b : Tree). gives_spine (place c.args.span) (snd x.0) (put_written 0 (fst x.0) b))) c.in_ok-found.found _ c.in_ok-found.ensures (binder_ends (place c.args.span) (span_of c.args.part.now) WantedIntersection iota_of c.in_ok-found.found.1 (λ (a b : Tree). gives_spine (place c.args.span) (snd c.in_ok-found.found.0) (put_written 0 (fst c.in_ok-found.found.0) b)) c.args.self.now.rules.env.now c.args.self.now.rules.budget _ (rw (← c.span.ensures) c.in_err-parts.ensures)))

pub second_of-returns : goal.second_of-returns
second_of-returns t c = λ g w. goes_on c.args.self.now.rules.env.now c.args.self.now.rules.budget (infers (env_of c.args.self.now.rules.env.now) no_encodings (entries c.args.context.now) c.args.part.now (term (env_of c.args.self.now.rules.env.now) no_encodings (entries c.args.context.now) c.args.part.now)) (λ (x : Typed). binder_then (place c.args.span) (span_of c.args.part.now) WantedIntersection iota_of x.1 (λ (a b : Tree). gives_spine (place c.args.span) (snd x.0) (put_written 0 (fst x.0) b))) c.in_ok-found.found _ c.in_ok-found.ensures (binder_on (place c.args.span) (span_of c.args.part.now) WantedIntersection iota_of c.in_ok-found.found.1 (λ (a b : Tree). gives_spine (place c.args.span) (snd c.in_ok-found.found.0) (put_written 0 (fst c.in_ok-found.found.0) b)) c.args.self.now.rules.env.now c.args.self.now.rules.budget c.in_ok-parts.parts _ (rw (← c.span.ensures) c.in_ok-parts.ensures) c.second.ensures)

pub cast-returns-in-Two : goal.cast-returns-in-Two
cast-returns-in-Two t c = λ w. along c.args.self.now.rules.env.now c.args.self.now.rules.budget _ _ _ (ap (λ (z : Scoped). term (env_of c.args.self.now.rules.env.now) no_encodings (entries c.args.context.now) (two (place c.args.span) phi_of z c.args.kept.now) (seen_goal c.args.goal) w) (ap (form_tree (span_of c.args.group.now)) (sym c.in-Two.is) ∙ c.form.ensures.is)) (c.cast_by.ensures (span_of c.args.group.now) w)

pub cast-returns-in_default : goal.cast-returns-in_default
cast-returns-in_default t c = λ w. no_memory _ _ _

pub cast_by-returns-in-Group : goal.cast_by-returns-in-Group
cast_by-returns-in-Group t c = λ r w. along c.args.self.now.rules.env.now c.args.self.now.rules.budget _ _ _ (ap (λ (z : TwoForm). term (env_of c.args.self.now.rules.env.now) no_encodings (entries c.args.context.now) (two (place c.args.span) phi_of (two r (two_form z) c.args.proof.now c.args.part.now) c.args.kept.now) (seen_goal c.args.goal) w) (sym c.in-Group.is)) (c.cast_of.ensures r w)

pub cast_by-returns-in_default : goal.cast_by-returns-in_default
cast_by-returns-in_default t c = λ r w. no_memory _ _ _

pub cast_of-returns-in_err-proof : goal.cast_of-returns-in_err-proof
cast_of-returns-in_err-proof t c = let p = err_from_is_err_and c.from_residual.result c.from_residual.ensures.1 in rw (p.1, p.2) (λ r w. along c.args.self.now.rules.env.now c.args.self.now.rules.budget _ _ _ (proof_falls (env_of c.args.self.now.rules.env.now) (entries c.args.context.now) (place c.args.span) c.args.proof.now (casts (env_of c.args.self.now.rules.env.now) (entries c.args.context.now) (place c.args.span) c.args.part.now c.args.kept.now (seen_goal c.args.goal))) (ends c.args.self.now.rules.env.now c.args.self.now.rules.budget (proof_of (env_of c.args.self.now.rules.env.now) (entries c.args.context.now) (place c.args.span) c.args.proof.now) (casts (env_of c.args.self.now.rules.env.now) (entries c.args.context.now) (place c.args.span) c.args.part.now c.args.kept.now (seen_goal c.args.goal)) _ c.in_err-proof.ensures))

pub cast_of-returns : goal.cast_of-returns
cast_of-returns t c = λ r w. along c.args.self.now.rules.env.now c.args.self.now.rules.budget _ _ _ (proof_falls (env_of c.args.self.now.rules.env.now) (entries c.args.context.now) (place c.args.span) c.args.proof.now (casts (env_of c.args.self.now.rules.env.now) (entries c.args.context.now) (place c.args.span) c.args.part.now c.args.kept.now (seen_goal c.args.goal))) (goes_on c.args.self.now.rules.env.now c.args.self.now.rules.budget (proof_of (env_of c.args.self.now.rules.env.now) (entries c.args.context.now) (place c.args.span) c.args.proof.now) (casts (env_of c.args.self.now.rules.env.now) (entries c.args.context.now) (place c.args.span) c.args.part.now c.args.kept.now (seen_goal c.args.goal)) c.in_ok-proof.proof _ c.in_ok-proof.ensures c.cast_along.ensures)

pub cast_along-returns-in-Some : goal.cast_along-returns-in-Some
cast_along-returns-in-Some t c = along c.args.self.now.rules.env.now c.args.self.now.rules.budget _ _ _ (ap (λ (z : Option (Bor Tree)). casts (env_of c.args.self.now.rules.env.now) (entries c.args.context.now) (place c.args.span) c.args.part.now c.args.kept.now (seen_goal z) c.args.proof.now) (sym c.in-Some.is)) c.cast_against.ensures

pub cast_along-returns-in-None : goal.cast_along-returns-in-None
cast_along-returns-in-None t c = along c.args.self.now.rules.env.now c.args.self.now.rules.budget _ _ _ (ap (λ (z : Option (Bor Tree)). casts (env_of c.args.self.now.rules.env.now) (entries c.args.context.now) (place c.args.span) c.args.part.now c.args.kept.now (seen_goal z) c.args.proof.now) (sym c.in-None.is)) c.cast_inferred.ensures

pub cast_inferred-returns-in_err-part : goal.cast_inferred-returns-in_err-part
cast_inferred-returns-in_err-part t c = let p = err_from_is_err_and c.from_residual.result c.from_residual.ensures.1 in rw (p.1, p.2) (ends c.args.self.now.rules.env.now c.args.self.now.rules.budget (infers (env_of c.args.self.now.rules.env.now) no_encodings (entries c.args.context.now) c.args.part.now (term (env_of c.args.self.now.rules.env.now) no_encodings (entries c.args.context.now) c.args.part.now)) (λ (z : Typed). then (erase (env_of c.args.self.now.rules.env.now) no_encodings c.args.kept.now) (λ (k : Tree). then (are_sides (place c.args.span) c.args.proof.now.1 z.0 k) (λ _. gives_inferred (place c.args.span) (phi c.args.proof.now.0 z.0 k) z.1))) _ c.in_err-part.ensures)

pub cast_inferred-returns-in_err-kept : goal.cast_inferred-returns-in_err-kept
cast_inferred-returns-in_err-kept t c = let p = err_from_is_err_and c.from_residual-in_err-kept.result c.from_residual-in_err-kept.ensures.1 in rw (p.1, p.2) (goes_on c.args.self.now.rules.env.now c.args.self.now.rules.budget (infers (env_of c.args.self.now.rules.env.now) no_encodings (entries c.args.context.now) c.args.part.now (term (env_of c.args.self.now.rules.env.now) no_encodings (entries c.args.context.now) c.args.part.now)) (λ (z : Typed). then (erase (env_of c.args.self.now.rules.env.now) no_encodings c.args.kept.now) (λ (k : Tree). then (are_sides (place c.args.span) c.args.proof.now.1 z.0 k) (λ _. gives_inferred (place c.args.span) (phi c.args.proof.now.0 z.0 k) z.1))) c.in_ok-part.part _ c.in_ok-part.ensures (ends c.args.self.now.rules.env.now c.args.self.now.rules.budget (erase (env_of c.args.self.now.rules.env.now) no_encodings c.args.kept.now) (λ (k : Tree). then (are_sides (place c.args.span) c.args.proof.now.1 c.in_ok-part.part.0 k) (λ _. gives_inferred (place c.args.span) (phi c.args.proof.now.0 c.in_ok-part.part.0 k) c.in_ok-part.part.1)) _ c.in_err-kept.ensures))

pub cast_inferred-returns-in_err-are_sides : goal.cast_inferred-returns-in_err-are_sides
cast_inferred-returns-in_err-are_sides t c = let p = err_from_is_err_and c.from_residual-in_err-are_sides.result c.from_residual-in_err-are_sides.ensures.1 in rw (p.1, p.2) (goes_on c.args.self.now.rules.env.now c.args.self.now.rules.budget (infers (env_of c.args.self.now.rules.env.now) no_encodings (entries c.args.context.now) c.args.part.now (term (env_of c.args.self.now.rules.env.now) no_encodings (entries c.args.context.now) c.args.part.now)) (λ (z : Typed). then (erase (env_of c.args.self.now.rules.env.now) no_encodings c.args.kept.now) (λ (k : Tree). then (are_sides (place c.args.span) c.args.proof.now.1 z.0 k) (λ _. gives_inferred (place c.args.span) (phi c.args.proof.now.0 z.0 k) z.1))) c.in_ok-part.part _ c.in_ok-part.ensures (goes_on c.args.self.now.rules.env.now c.args.self.now.rules.budget (erase (env_of c.args.self.now.rules.env.now) no_encodings c.args.kept.now) (λ (k : Tree). then (are_sides (place c.args.span) c.args.proof.now.1 c.in_ok-part.part.0 k) (λ _. gives_inferred (place c.args.span) (phi c.args.proof.now.0 c.in_ok-part.part.0 k) c.in_ok-part.part.1)) c.in_ok-kept.kept _ c.in_ok-kept.ensures (ends c.args.self.now.rules.env.now c.args.self.now.rules.budget (are_sides (place c.args.span) c.args.proof.now.1 c.in_ok-part.part.0 c.in_ok-kept.kept) (λ _. gives_inferred (place c.args.span) (phi c.args.proof.now.0 c.in_ok-part.part.0 c.in_ok-kept.kept) c.in_ok-part.part.1) _ c.in_err-are_sides.ensures)))

pub cast_inferred-returns : goal.cast_inferred-returns
cast_inferred-returns t c = goes_on c.args.self.now.rules.env.now c.args.self.now.rules.budget (infers (env_of c.args.self.now.rules.env.now) no_encodings (entries c.args.context.now) c.args.part.now (term (env_of c.args.self.now.rules.env.now) no_encodings (entries c.args.context.now) c.args.part.now)) (λ (z : Typed). then (erase (env_of c.args.self.now.rules.env.now) no_encodings c.args.kept.now) (λ (k : Tree). then (are_sides (place c.args.span) c.args.proof.now.1 z.0 k) (λ _. gives_inferred (place c.args.span) (phi c.args.proof.now.0 z.0 k) z.1))) c.in_ok-part.part _ c.in_ok-part.ensures (goes_on c.args.self.now.rules.env.now c.args.self.now.rules.budget (erase (env_of c.args.self.now.rules.env.now) no_encodings c.args.kept.now) (λ (k : Tree). then (are_sides (place c.args.span) c.args.proof.now.1 c.in_ok-part.part.0 k) (λ _. gives_inferred (place c.args.span) (phi c.args.proof.now.0 c.in_ok-part.part.0 k) c.in_ok-part.part.1)) c.in_ok-kept.kept _ c.in_ok-kept.ensures (goes_on c.args.self.now.rules.env.now c.args.self.now.rules.budget (are_sides (place c.args.span) c.args.proof.now.1 c.in_ok-part.part.0 c.in_ok-kept.kept) (λ _. gives_inferred (place c.args.span) (phi c.args.proof.now.0 c.in_ok-part.part.0 c.in_ok-kept.kept) c.in_ok-part.part.1) (tt {0}) _ c.in_ok-are_sides.ensures c.cast_along.ensures))

pub cast_against-returns-in_err-part : goal.cast_against-returns-in_err-part
cast_against-returns-in_err-part t c = let p = err_from_is_err_and c.from_residual.result c.from_residual.ensures.1 in rw (p.1, p.2) (ends c.args.self.now.rules.env.now c.args.self.now.rules.budget (checks (env_of c.args.self.now.rules.env.now) no_encodings (entries c.args.context.now) c.args.part.now (term (env_of c.args.self.now.rules.env.now) no_encodings (entries c.args.context.now) c.args.part.now) c.args.goal.now) (λ (z : Tree). then (erase (env_of c.args.self.now.rules.env.now) no_encodings c.args.kept.now) (λ (k : Tree). then (are_sides (place c.args.span) c.args.proof.now.1 z k) (λ _. gives_checked (place c.args.span) (phi c.args.proof.now.0 z k)))) _ c.in_err-part.ensures)

pub cast_against-returns-in_err-kept : goal.cast_against-returns-in_err-kept
cast_against-returns-in_err-kept t c = let p = err_from_is_err_and c.from_residual-in_err-kept.result c.from_residual-in_err-kept.ensures.1 in rw (p.1, p.2) (goes_on c.args.self.now.rules.env.now c.args.self.now.rules.budget (checks (env_of c.args.self.now.rules.env.now) no_encodings (entries c.args.context.now) c.args.part.now (term (env_of c.args.self.now.rules.env.now) no_encodings (entries c.args.context.now) c.args.part.now) c.args.goal.now) (λ (z : Tree). then (erase (env_of c.args.self.now.rules.env.now) no_encodings c.args.kept.now) (λ (k : Tree). then (are_sides (place c.args.span) c.args.proof.now.1 z k) (λ _. gives_checked (place c.args.span) (phi c.args.proof.now.0 z k)))) c.in_ok-part.part _ c.in_ok-part.ensures (ends c.args.self.now.rules.env.now c.args.self.now.rules.budget (erase (env_of c.args.self.now.rules.env.now) no_encodings c.args.kept.now) (λ (k : Tree). then (are_sides (place c.args.span) c.args.proof.now.1 c.in_ok-part.part k) (λ _. gives_checked (place c.args.span) (phi c.args.proof.now.0 c.in_ok-part.part k))) _ c.in_err-kept.ensures))

pub cast_against-returns-in_err-are_sides : goal.cast_against-returns-in_err-are_sides
cast_against-returns-in_err-are_sides t c = let p = err_from_is_err_and c.from_residual-in_err-are_sides.result c.from_residual-in_err-are_sides.ensures.1 in rw (p.1, p.2) (goes_on c.args.self.now.rules.env.now c.args.self.now.rules.budget (checks (env_of c.args.self.now.rules.env.now) no_encodings (entries c.args.context.now) c.args.part.now (term (env_of c.args.self.now.rules.env.now) no_encodings (entries c.args.context.now) c.args.part.now) c.args.goal.now) (λ (z : Tree). then (erase (env_of c.args.self.now.rules.env.now) no_encodings c.args.kept.now) (λ (k : Tree). then (are_sides (place c.args.span) c.args.proof.now.1 z k) (λ _. gives_checked (place c.args.span) (phi c.args.proof.now.0 z k)))) c.in_ok-part.part _ c.in_ok-part.ensures (goes_on c.args.self.now.rules.env.now c.args.self.now.rules.budget (erase (env_of c.args.self.now.rules.env.now) no_encodings c.args.kept.now) (λ (k : Tree). then (are_sides (place c.args.span) c.args.proof.now.1 c.in_ok-part.part k) (λ _. gives_checked (place c.args.span) (phi c.args.proof.now.0 c.in_ok-part.part k))) c.in_ok-kept.kept _ c.in_ok-kept.ensures (ends c.args.self.now.rules.env.now c.args.self.now.rules.budget (are_sides (place c.args.span) c.args.proof.now.1 c.in_ok-part.part c.in_ok-kept.kept) (λ _. gives_checked (place c.args.span) (phi c.args.proof.now.0 c.in_ok-part.part c.in_ok-kept.kept)) _ c.in_err-are_sides.ensures)))

pub cast_against-returns : goal.cast_against-returns
cast_against-returns t c = goes_on c.args.self.now.rules.env.now c.args.self.now.rules.budget (checks (env_of c.args.self.now.rules.env.now) no_encodings (entries c.args.context.now) c.args.part.now (term (env_of c.args.self.now.rules.env.now) no_encodings (entries c.args.context.now) c.args.part.now) c.args.goal.now) (λ (z : Tree). then (erase (env_of c.args.self.now.rules.env.now) no_encodings c.args.kept.now) (λ (k : Tree). then (are_sides (place c.args.span) c.args.proof.now.1 z k) (λ _. gives_checked (place c.args.span) (phi c.args.proof.now.0 z k)))) c.in_ok-part.part _ c.in_ok-part.ensures (goes_on c.args.self.now.rules.env.now c.args.self.now.rules.budget (erase (env_of c.args.self.now.rules.env.now) no_encodings c.args.kept.now) (λ (k : Tree). then (are_sides (place c.args.span) c.args.proof.now.1 c.in_ok-part.part k) (λ _. gives_checked (place c.args.span) (phi c.args.proof.now.0 c.in_ok-part.part k))) c.in_ok-kept.kept _ c.in_ok-kept.ensures (goes_on c.args.self.now.rules.env.now c.args.self.now.rules.budget (are_sides (place c.args.span) c.args.proof.now.1 c.in_ok-part.part c.in_ok-kept.kept) (λ _. gives_checked (place c.args.span) (phi c.args.proof.now.0 c.in_ok-part.part c.in_ok-kept.kept)) (tt {0}) _ c.in_ok-are_sides.ensures c.cast_along_against.ensures))

pub absurdity-returns-then-is_left_out : goal.absurdity-returns-then-is_left_out
absurdity-returns-then-is_left_out t c = λ w. along c.args.self.now.rules.env.now c.args.self.now.rules.budget _ _ _ (absurd_falls (env_of c.args.self.now.rules.env.now) (entries c.args.context.now) (place c.args.span) c.args.ty.now c.args.proof.now (seen_goal c.args.goal) w) (where_true c.args.self.now.rules.env.now c.args.self.now.rules.budget (is_none c.args.ty.now) (absurd_by_goal (env_of c.args.self.now.rules.env.now) (entries c.args.context.now) (place c.args.span) c.args.proof.now (seen_goal c.args.goal)) (absurd_of (env_of c.args.self.now.rules.env.now) (entries c.args.context.now) (place c.args.span) c.args.ty.now c.args.proof.now) _ (c.is_left_out.ensures ∙ c.if-is_left_out.true) c.absurd_asked.ensures)

pub absurdity-returns : goal.absurdity-returns
absurdity-returns t c = λ w. along c.args.self.now.rules.env.now c.args.self.now.rules.budget _ _ _ (absurd_falls (env_of c.args.self.now.rules.env.now) (entries c.args.context.now) (place c.args.span) c.args.ty.now c.args.proof.now (seen_goal c.args.goal) w) (where_false c.args.self.now.rules.env.now c.args.self.now.rules.budget (is_none c.args.ty.now) (absurd_by_goal (env_of c.args.self.now.rules.env.now) (entries c.args.context.now) (place c.args.span) c.args.proof.now (seen_goal c.args.goal)) (absurd_of (env_of c.args.self.now.rules.env.now) (entries c.args.context.now) (place c.args.span) c.args.ty.now c.args.proof.now) _ (c.is_left_out.ensures ∙ c.if-is_left_out.false) c.absurd_written.ensures)

pub absurd_asked-returns-in-Some : goal.absurd_asked-returns-in-Some
absurd_asked-returns-in-Some t c = along c.args.self.now.rules.env.now c.args.self.now.rules.budget _ _ _ (ap (λ (z : Option (Bor Tree)). absurd_by_goal (env_of c.args.self.now.rules.env.now) (entries c.args.context.now) (place c.args.span) c.args.proof.now (seen_goal z)) (sym c.in-Some.is)) c.absurd_against.ensures

pub absurd_asked-returns-in-None : goal.absurd_asked-returns-in-None
absurd_asked-returns-in-None t c = along c.args.self.now.rules.env.now c.args.self.now.rules.budget _ _ _ (ap (λ (z : Option (Bor Tree)). absurd_by_goal (env_of c.args.self.now.rules.env.now) (entries c.args.context.now) (place c.args.span) c.args.proof.now (seen_goal z)) (sym c.in-None.is)) (refused Made c.args.self.now.rules.env.now c.args.self.now.rules.budget (Letter c.args.span) AnnotationWanted)

pub absurd_against-returns-in_err-proof : goal.absurd_against-returns-in_err-proof
absurd_against-returns-in_err-proof t c = let p = err_from_is_err_and c.from_residual.result c.from_residual.ensures.1 in rw (p.1, p.2) (ends c.args.self.now.rules.env.now c.args.self.now.rules.budget (proof_of (env_of c.args.self.now.rules.env.now) (entries c.args.context.now) (place c.args.span) c.args.proof.now) (λ (p : Proof). then (are_booleans (place c.args.span) p.1) (λ _. gives_checked (place c.args.span) (delta c.args.goal.now p.0))) _ c.in_err-proof.ensures)

pub absurd_against-returns-in_err-are_booleans : goal.absurd_against-returns-in_err-are_booleans
absurd_against-returns-in_err-are_booleans t c = let p = err_from_is_err_and c.from_residual-in_err-are_booleans.result c.from_residual-in_err-are_booleans.ensures.1 in rw (p.1, p.2) (goes_on c.args.self.now.rules.env.now c.args.self.now.rules.budget (proof_of (env_of c.args.self.now.rules.env.now) (entries c.args.context.now) (place c.args.span) c.args.proof.now) (λ (p : Proof). then (are_booleans (place c.args.span) p.1) (λ _. gives_checked (place c.args.span) (delta c.args.goal.now p.0))) c.in_ok-proof.proof _ c.in_ok-proof.ensures (ends c.args.self.now.rules.env.now c.args.self.now.rules.budget (are_booleans (place c.args.span) c.in_ok-proof.proof.1) (λ _. gives_checked (place c.args.span) (delta c.args.goal.now c.in_ok-proof.proof.0)) _ c.in_err-are_booleans.ensures))

pub absurd_against-returns : goal.absurd_against-returns
absurd_against-returns t c = goes_on c.args.self.now.rules.env.now c.args.self.now.rules.budget (proof_of (env_of c.args.self.now.rules.env.now) (entries c.args.context.now) (place c.args.span) c.args.proof.now) (λ (p : Proof). then (are_booleans (place c.args.span) p.1) (λ _. gives_checked (place c.args.span) (delta c.args.goal.now p.0))) c.in_ok-proof.proof _ c.in_ok-proof.ensures (goes_on c.args.self.now.rules.env.now c.args.self.now.rules.budget (are_booleans (place c.args.span) c.in_ok-proof.proof.1) (λ _. gives_checked (place c.args.span) (delta c.args.goal.now c.in_ok-proof.proof.0)) (tt {0}) _ c.in_ok-are_booleans.ensures c.absurd_against.ensures)

pub absurd_written-returns-in_err-ty : goal.absurd_written-returns-in_err-ty
absurd_written-returns-in_err-ty t c = let p = err_from_is_err_and c.from_residual.result c.from_residual.ensures.1 in rw (p.1, p.2) (star_ends (place c.args.span) c.args.ty.now (type_in (env_of c.args.self.now.rules.env.now) no_encodings (entries c.args.context.now) c.args.ty.now) (λ (a : Tree). then (proof_of (env_of c.args.self.now.rules.env.now) (entries c.args.context.now) (place c.args.span) c.args.proof.now) (λ (p : Proof). then (are_booleans (place c.args.span) p.1) (λ _. gives_inferred (place c.args.span) (delta a p.0) a))) c.args.self.now.rules.env.now c.args.self.now.rules.budget _ c.in_err-ty.ensures)

pub absurd_written-returns-in_err-proof : goal.absurd_written-returns-in_err-proof
absurd_written-returns-in_err-proof t c = let p = err_from_is_err_and c.from_residual-in_err-proof.result c.from_residual-in_err-proof.ensures.1 in rw (p.1, p.2) (star_on (place c.args.span) c.args.ty.now (type_in (env_of c.args.self.now.rules.env.now) no_encodings (entries c.args.context.now) c.args.ty.now) (λ (a : Tree). then (proof_of (env_of c.args.self.now.rules.env.now) (entries c.args.context.now) (place c.args.span) c.args.proof.now) (λ (p : Proof). then (are_booleans (place c.args.span) p.1) (λ _. gives_inferred (place c.args.span) (delta a p.0) a))) c.args.self.now.rules.env.now c.args.self.now.rules.budget _ _ c.in_ok-ty.ensures (ends c.args.self.now.rules.env.now c.args.self.now.rules.budget (proof_of (env_of c.args.self.now.rules.env.now) (entries c.args.context.now) (place c.args.span) c.args.proof.now) (λ (p : Proof). then (are_booleans (place c.args.span) p.1) (λ _. gives_inferred (place c.args.span) (delta c.in_ok-ty.ty p.0) c.in_ok-ty.ty)) _ c.in_err-proof.ensures))

pub absurd_written-returns-in_err-are_booleans : goal.absurd_written-returns-in_err-are_booleans
absurd_written-returns-in_err-are_booleans t c = let p = err_from_is_err_and c.from_residual-in_err-are_booleans.result c.from_residual-in_err-are_booleans.ensures.1 in rw (p.1, p.2) (star_on (place c.args.span) c.args.ty.now (type_in (env_of c.args.self.now.rules.env.now) no_encodings (entries c.args.context.now) c.args.ty.now) (λ (a : Tree). then (proof_of (env_of c.args.self.now.rules.env.now) (entries c.args.context.now) (place c.args.span) c.args.proof.now) (λ (p : Proof). then (are_booleans (place c.args.span) p.1) (λ _. gives_inferred (place c.args.span) (delta a p.0) a))) c.args.self.now.rules.env.now c.args.self.now.rules.budget _ _ c.in_ok-ty.ensures (goes_on c.args.self.now.rules.env.now c.args.self.now.rules.budget (proof_of (env_of c.args.self.now.rules.env.now) (entries c.args.context.now) (place c.args.span) c.args.proof.now) (λ (p : Proof). then (are_booleans (place c.args.span) p.1) (λ _. gives_inferred (place c.args.span) (delta c.in_ok-ty.ty p.0) c.in_ok-ty.ty)) c.in_ok-proof.proof _ c.in_ok-proof.ensures (ends c.args.self.now.rules.env.now c.args.self.now.rules.budget (are_booleans (place c.args.span) c.in_ok-proof.proof.1) (λ _. gives_inferred (place c.args.span) (delta c.in_ok-ty.ty c.in_ok-proof.proof.0) c.in_ok-ty.ty) _ c.in_err-are_booleans.ensures)))

pub absurd_written-returns : goal.absurd_written-returns
absurd_written-returns t c = star_on (place c.args.span) c.args.ty.now (type_in (env_of c.args.self.now.rules.env.now) no_encodings (entries c.args.context.now) c.args.ty.now) (λ (a : Tree). then (proof_of (env_of c.args.self.now.rules.env.now) (entries c.args.context.now) (place c.args.span) c.args.proof.now) (λ (p : Proof). then (are_booleans (place c.args.span) p.1) (λ _. gives_inferred (place c.args.span) (delta a p.0) a))) c.args.self.now.rules.env.now c.args.self.now.rules.budget _ _ c.in_ok-ty.ensures (goes_on c.args.self.now.rules.env.now c.args.self.now.rules.budget (proof_of (env_of c.args.self.now.rules.env.now) (entries c.args.context.now) (place c.args.span) c.args.proof.now) (λ (p : Proof). then (are_booleans (place c.args.span) p.1) (λ _. gives_inferred (place c.args.span) (delta c.in_ok-ty.ty p.0) c.in_ok-ty.ty)) c.in_ok-proof.proof _ c.in_ok-proof.ensures (goes_on c.args.self.now.rules.env.now c.args.self.now.rules.budget (are_booleans (place c.args.span) c.in_ok-proof.proof.1) (λ _. gives_inferred (place c.args.span) (delta c.in_ok-ty.ty c.in_ok-proof.proof.0) c.in_ok-ty.ty) (tt {0}) _ c.in_ok-are_booleans.ensures c.absurd.ensures))

pub annotated-returns-in_err-ty : goal.annotated-returns-in_err-ty
annotated-returns-in_err-ty t c = let p = err_from_is_err_and c.from_residual.result c.from_residual.ensures.1 in rw (p.1, p.2) (λ g w. star_ends (place c.args.span) c.args.ty.now (type_in (env_of c.args.self.now.rules.env.now) no_encodings (entries c.args.context.now) c.args.ty.now) (λ (a : Tree). then (checks (env_of c.args.self.now.rules.env.now) no_encodings (entries c.args.context.now) c.args.part.now (term (env_of c.args.self.now.rules.env.now) no_encodings (entries c.args.context.now) c.args.part.now) a) (λ (t : Tree). gives_inferred (place c.args.span) t a)) c.args.self.now.rules.env.now c.args.self.now.rules.budget _ c.in_err-ty.ensures)

pub annotated-returns-in_err-part : goal.annotated-returns-in_err-part
annotated-returns-in_err-part t c = let p = err_from_is_err_and c.from_residual-in_err-part.result c.from_residual-in_err-part.ensures.1 in rw (p.1, p.2) (λ g w. star_on (place c.args.span) c.args.ty.now (type_in (env_of c.args.self.now.rules.env.now) no_encodings (entries c.args.context.now) c.args.ty.now) (λ (a : Tree). then (checks (env_of c.args.self.now.rules.env.now) no_encodings (entries c.args.context.now) c.args.part.now (term (env_of c.args.self.now.rules.env.now) no_encodings (entries c.args.context.now) c.args.part.now) a) (λ (t : Tree). gives_inferred (place c.args.span) t a)) c.args.self.now.rules.env.now c.args.self.now.rules.budget _ _ c.in_ok-ty.ensures (ends c.args.self.now.rules.env.now c.args.self.now.rules.budget (checks (env_of c.args.self.now.rules.env.now) no_encodings (entries c.args.context.now) c.args.part.now (term (env_of c.args.self.now.rules.env.now) no_encodings (entries c.args.context.now) c.args.part.now) c.in_ok-ty.ty) (λ (t : Tree). gives_inferred (place c.args.span) t c.in_ok-ty.ty) _ c.in_err-part.ensures))

pub annotated-returns : goal.annotated-returns
annotated-returns t c = λ g w. star_on (place c.args.span) c.args.ty.now (type_in (env_of c.args.self.now.rules.env.now) no_encodings (entries c.args.context.now) c.args.ty.now) (λ (a : Tree). then (checks (env_of c.args.self.now.rules.env.now) no_encodings (entries c.args.context.now) c.args.part.now (term (env_of c.args.self.now.rules.env.now) no_encodings (entries c.args.context.now) c.args.part.now) a) (λ (t : Tree). gives_inferred (place c.args.span) t a)) c.args.self.now.rules.env.now c.args.self.now.rules.budget _ _ c.in_ok-ty.ensures (goes_on c.args.self.now.rules.env.now c.args.self.now.rules.budget (checks (env_of c.args.self.now.rules.env.now) no_encodings (entries c.args.context.now) c.args.part.now (term (env_of c.args.self.now.rules.env.now) no_encodings (entries c.args.context.now) c.args.part.now) c.in_ok-ty.ty) (λ (t : Tree). gives_inferred (place c.args.span) t c.in_ok-ty.ty) c.in_ok-part.part _ c.in_ok-part.ensures c.annotated.ensures)

pub flip-returns-in_err-proof : goal.flip-returns-in_err-proof
flip-returns-in_err-proof t c = let p = err_from_is_err_and c.from_residual.result c.from_residual.ensures.1 in rw (p.1, p.2) (λ g w. along c.args.self.now.rules.env.now c.args.self.now.rules.budget _ _ _ (proof_falls (env_of c.args.self.now.rules.env.now) (entries c.args.context.now) (place c.args.span) c.args.proof.now (λ (p : Proof). flipped (place c.args.span) p.1 p.0)) (ends c.args.self.now.rules.env.now c.args.self.now.rules.budget (proof_of (env_of c.args.self.now.rules.env.now) (entries c.args.context.now) (place c.args.span) c.args.proof.now) (λ (p : Proof). flipped (place c.args.span) p.1 p.0) _ c.in_err-proof.ensures))

pub flip-returns : goal.flip-returns
flip-returns t c = λ g w. along c.args.self.now.rules.env.now c.args.self.now.rules.budget _ _ _ (proof_falls (env_of c.args.self.now.rules.env.now) (entries c.args.context.now) (place c.args.span) c.args.proof.now (λ (p : Proof). flipped (place c.args.span) p.1 p.0)) (goes_on c.args.self.now.rules.env.now c.args.self.now.rules.budget (proof_of (env_of c.args.self.now.rules.env.now) (entries c.args.context.now) (place c.args.span) c.args.proof.now) (λ (p : Proof). flipped (place c.args.span) p.1 p.0) c.in_ok-proof.proof _ c.in_ok-proof.ensures c.flipped.ensures)

pub guided-returns-in-Bind : goal.guided-returns-in-Bind
guided-returns-in-Bind t c = λ w. along c.args.self.now.rules.env.now c.args.self.now.rules.budget _ _ _ (ap (λ (z : Scoped). term (env_of c.args.self.now.rules.env.now) no_encodings (entries c.args.context.now) (two (place c.args.span) rho_of z c.args.part.now) (seen_goal c.args.goal) w) (ap (form_tree (span_of c.args.guided.now)) (sym c.in-Bind.is) ∙ c.form.ensures.is)) (c.guided_by.ensures (span_of c.args.guided.now) w)

pub guided-returns-in_default : goal.guided-returns-in_default
guided-returns-in_default t c = λ w. no_memory _ _ _

pub guided_by-returns-in-Guide : goal.guided_by-returns-in-Guide
guided_by-returns-in-Guide t c = λ r w. along c.args.self.now.rules.env.now c.args.self.now.rules.budget _ _ _ (ap (λ (z : BindForm). term (env_of c.args.self.now.rules.env.now) no_encodings (entries c.args.context.now) (two (place c.args.span) rho_of (bind r (bind_form z) (tt {0}) c.args.proof.now c.args.guide.now) c.args.part.now) (seen_goal c.args.goal) w) (sym c.in-Guide.is)) (c.rewriting.ensures r w)

pub guided_by-returns-in_default : goal.guided_by-returns-in_default
guided_by-returns-in_default t c = λ r w. no_memory _ _ _

pub rewriting-returns-in_err-proof : goal.rewriting-returns-in_err-proof
rewriting-returns-in_err-proof t c = let p = err_from_is_err_and c.from_residual.result c.from_residual.ensures.1 in rw (p.1, p.2) (λ r w. along c.args.self.now.rules.env.now c.args.self.now.rules.budget _ _ _ (rewriting_falls (env_of c.args.self.now.rules.env.now) (entries c.args.context.now) (place c.args.span) c.args.part.now r w c.args.proof.now c.args.guide.now (seen_goal c.args.goal)) (ends c.args.self.now.rules.env.now c.args.self.now.rules.budget (proof_of (env_of c.args.self.now.rules.env.now) (entries c.args.context.now) (place c.args.span) c.args.proof.now) (rewrites (env_of c.args.self.now.rules.env.now) (entries c.args.context.now) (place c.args.span) c.args.guide.now c.args.part.now (seen_goal c.args.goal)) _ c.in_err-proof.ensures))

pub rewriting-returns : goal.rewriting-returns
rewriting-returns t c = λ r w. along c.args.self.now.rules.env.now c.args.self.now.rules.budget _ _ _ (rewriting_falls (env_of c.args.self.now.rules.env.now) (entries c.args.context.now) (place c.args.span) c.args.part.now r w c.args.proof.now c.args.guide.now (seen_goal c.args.goal)) (goes_on c.args.self.now.rules.env.now c.args.self.now.rules.budget (proof_of (env_of c.args.self.now.rules.env.now) (entries c.args.context.now) (place c.args.span) c.args.proof.now) (rewrites (env_of c.args.self.now.rules.env.now) (entries c.args.context.now) (place c.args.span) c.args.guide.now c.args.part.now (seen_goal c.args.goal)) c.in_ok-proof.proof _ c.in_ok-proof.ensures c.rewriting_along.ensures)

pub rewriting_along-returns-then-is_equation : goal.rewriting_along-returns-then-is_equation
rewriting_along-returns-then-is_equation t c = where_true c.args.self.now.rules.env.now c.args.self.now.rules.budget (is_written c.args.guide.now) (then (erase (env_of c.args.self.now.rules.env.now) no_encodings c.args.guide.now) (along_equation (env_of c.args.self.now.rules.env.now) (entries c.args.context.now) (place c.args.span) c.args.part.now (seen_goal c.args.goal) c.args.proof.now)) (by_goal (seen_goal c.args.goal) (rejects (letter (place c.args.span)) AnnotationWanted) (λ a. then (erase (env_of c.args.self.now.rules.env.now) no_encodings c.args.guide.now) (along_guide (env_of c.args.self.now.rules.env.now) (entries c.args.context.now) (place c.args.span) c.args.part.now a c.args.proof.now))) _ (c.is_equation.ensures ∙ c.if-is_equation.true) c.to_equation.ensures

pub rewriting_along-returns-in-Some : goal.rewriting_along-returns-in-Some
rewriting_along-returns-in-Some t c = along c.args.self.now.rules.env.now c.args.self.now.rules.budget _ _ _ (ap (λ (z : Option (Bor Tree)). rewrites (env_of c.args.self.now.rules.env.now) (entries c.args.context.now) (place c.args.span) c.args.guide.now c.args.part.now (seen_goal z) c.args.proof.now) (sym c.in-Some.is)) (where_false c.args.self.now.rules.env.now c.args.self.now.rules.budget (is_written c.args.guide.now) (then (erase (env_of c.args.self.now.rules.env.now) no_encodings c.args.guide.now) (along_equation (env_of c.args.self.now.rules.env.now) (entries c.args.context.now) (place c.args.span) c.args.part.now (Some c.in-Some.goal.now) c.args.proof.now)) (then (erase (env_of c.args.self.now.rules.env.now) no_encodings c.args.guide.now) (along_guide (env_of c.args.self.now.rules.env.now) (entries c.args.context.now) (place c.args.span) c.args.part.now c.in-Some.goal.now c.args.proof.now)) _ (c.is_equation.ensures ∙ c.if-is_equation.false) c.to_goal.ensures)

pub rewriting_along-returns-in-None : goal.rewriting_along-returns-in-None
rewriting_along-returns-in-None t c = along c.args.self.now.rules.env.now c.args.self.now.rules.budget _ _ _ (ap (λ (z : Option (Bor Tree)). rewrites (env_of c.args.self.now.rules.env.now) (entries c.args.context.now) (place c.args.span) c.args.guide.now c.args.part.now (seen_goal z) c.args.proof.now) (sym c.in-None.is)) (where_false c.args.self.now.rules.env.now c.args.self.now.rules.budget (is_written c.args.guide.now) (then (erase (env_of c.args.self.now.rules.env.now) no_encodings c.args.guide.now) (along_equation (env_of c.args.self.now.rules.env.now) (entries c.args.context.now) (place c.args.span) c.args.part.now None c.args.proof.now)) (rejects (letter (place c.args.span)) AnnotationWanted) _ (c.is_equation.ensures ∙ c.if-is_equation.false) (refused Made c.args.self.now.rules.env.now c.args.self.now.rules.budget (Letter c.args.span) AnnotationWanted))

pub to_equation-returns-in_err-guide : goal.to_equation-returns-in_err-guide
to_equation-returns-in_err-guide t c = let p = err_from_is_err_and c.from_residual.result c.from_residual.ensures.1 in rw (p.1, p.2) (ends c.args.self.now.rules.env.now c.args.self.now.rules.budget (erase (env_of c.args.self.now.rules.env.now) no_encodings c.args.guide.now) (along_equation (env_of c.args.self.now.rules.env.now) (entries c.args.context.now) (place c.args.span) c.args.part.now (seen_goal c.args.goal) c.args.proof.now) _ c.in_err-guide.ensures)

pub to_equation-returns : goal.to_equation-returns
to_equation-returns t c = goes_on c.args.self.now.rules.env.now c.args.self.now.rules.budget (erase (env_of c.args.self.now.rules.env.now) no_encodings c.args.guide.now) (along_equation (env_of c.args.self.now.rules.env.now) (entries c.args.context.now) (place c.args.span) c.args.part.now (seen_goal c.args.goal) c.args.proof.now) c.in_ok-guide.guide _ c.in_ok-guide.ensures c.from_equation.ensures

pub from_equation-returns-in_err-ty : goal.from_equation-returns-in_err-ty
from_equation-returns-in_err-ty t c = let p = err_from_is_err_and c.from_residual.result c.from_residual.ensures.1 in rw (p.1, p.2) (ends c.args.self.now.rules.env.now c.args.self.now.rules.budget (said_of (place c.args.span) (by_goal (seen_goal c.args.goal) (put 0 c.args.proof.now.1.0 c.args.guide.now) (λ a. a)) c.args.guide.now c.args.proof.now.1.0) (λ b. then (limited (place c.args.span) (put 0 c.args.proof.now.1.1 c.args.guide.now)) (λ b'. then (checks (env_of c.args.self.now.rules.env.now) no_encodings (entries c.args.context.now) c.args.part.now (term (env_of c.args.self.now.rules.env.now) no_encodings (entries c.args.context.now) c.args.part.now) b') (λ t. by_goal (seen_goal c.args.goal) (gives_inferred (place c.args.span) (rho c.args.proof.now.0 c.args.guide.now b t) b) (λ a. gives_checked (place c.args.span) (rho c.args.proof.now.0 c.args.guide.now a t))))) _ c.in_err-ty.ensures)

pub from_equation-returns-in_err-wanted : goal.from_equation-returns-in_err-wanted
from_equation-returns-in_err-wanted t c = let p = err_from_is_err_and c.from_residual-in_err-wanted.result c.from_residual-in_err-wanted.ensures.1 in rw (p.1, p.2) (goes_on c.args.self.now.rules.env.now c.args.self.now.rules.budget (said_of (place c.args.span) (by_goal (seen_goal c.args.goal) (put 0 c.args.proof.now.1.0 c.args.guide.now) (λ a. a)) c.args.guide.now c.args.proof.now.1.0) (λ b. then (limited (place c.args.span) (put 0 c.args.proof.now.1.1 c.args.guide.now)) (λ b'. then (checks (env_of c.args.self.now.rules.env.now) no_encodings (entries c.args.context.now) c.args.part.now (term (env_of c.args.self.now.rules.env.now) no_encodings (entries c.args.context.now) c.args.part.now) b') (λ t. by_goal (seen_goal c.args.goal) (gives_inferred (place c.args.span) (rho c.args.proof.now.0 c.args.guide.now b t) b) (λ a. gives_checked (place c.args.span) (rho c.args.proof.now.0 c.args.guide.now a t))))) c.in_ok-ty.ty _ c.in_ok-ty.ensures (ends c.args.self.now.rules.env.now c.args.self.now.rules.budget (limited (place c.args.span) (put 0 c.args.proof.now.1.1 c.args.guide.now)) (λ b'. then (checks (env_of c.args.self.now.rules.env.now) no_encodings (entries c.args.context.now) c.args.part.now (term (env_of c.args.self.now.rules.env.now) no_encodings (entries c.args.context.now) c.args.part.now) b') (λ t. by_goal (seen_goal c.args.goal) (gives_inferred (place c.args.span) (rho c.args.proof.now.0 c.args.guide.now c.in_ok-ty.ty t) c.in_ok-ty.ty) (λ a. gives_checked (place c.args.span) (rho c.args.proof.now.0 c.args.guide.now a t)))) _ c.in_err-wanted.ensures))

pub from_equation-returns-in_err-part : goal.from_equation-returns-in_err-part
from_equation-returns-in_err-part t c = let p = err_from_is_err_and c.from_residual-in_err-part.result c.from_residual-in_err-part.ensures.1 in rw (p.1, p.2) (goes_on c.args.self.now.rules.env.now c.args.self.now.rules.budget (said_of (place c.args.span) (by_goal (seen_goal c.args.goal) (put 0 c.args.proof.now.1.0 c.args.guide.now) (λ a. a)) c.args.guide.now c.args.proof.now.1.0) (λ b. then (limited (place c.args.span) (put 0 c.args.proof.now.1.1 c.args.guide.now)) (λ b'. then (checks (env_of c.args.self.now.rules.env.now) no_encodings (entries c.args.context.now) c.args.part.now (term (env_of c.args.self.now.rules.env.now) no_encodings (entries c.args.context.now) c.args.part.now) b') (λ t. by_goal (seen_goal c.args.goal) (gives_inferred (place c.args.span) (rho c.args.proof.now.0 c.args.guide.now b t) b) (λ a. gives_checked (place c.args.span) (rho c.args.proof.now.0 c.args.guide.now a t))))) c.in_ok-ty.ty _ c.in_ok-ty.ensures (goes_on c.args.self.now.rules.env.now c.args.self.now.rules.budget (limited (place c.args.span) (put 0 c.args.proof.now.1.1 c.args.guide.now)) (λ b'. then (checks (env_of c.args.self.now.rules.env.now) no_encodings (entries c.args.context.now) c.args.part.now (term (env_of c.args.self.now.rules.env.now) no_encodings (entries c.args.context.now) c.args.part.now) b') (λ t. by_goal (seen_goal c.args.goal) (gives_inferred (place c.args.span) (rho c.args.proof.now.0 c.args.guide.now c.in_ok-ty.ty t) c.in_ok-ty.ty) (λ a. gives_checked (place c.args.span) (rho c.args.proof.now.0 c.args.guide.now a t)))) c.in_ok-wanted.wanted _ c.in_ok-wanted.ensures (ends c.args.self.now.rules.env.now c.args.self.now.rules.budget (checks (env_of c.args.self.now.rules.env.now) no_encodings (entries c.args.context.now) c.args.part.now (term (env_of c.args.self.now.rules.env.now) no_encodings (entries c.args.context.now) c.args.part.now) c.in_ok-wanted.wanted) (λ t. by_goal (seen_goal c.args.goal) (gives_inferred (place c.args.span) (rho c.args.proof.now.0 c.args.guide.now c.in_ok-ty.ty t) c.in_ok-ty.ty) (λ a. gives_checked (place c.args.span) (rho c.args.proof.now.0 c.args.guide.now a t))) _ c.in_err-part.ensures)))

pub from_equation-returns : goal.from_equation-returns
from_equation-returns t c = goes_on c.args.self.now.rules.env.now c.args.self.now.rules.budget (said_of (place c.args.span) (by_goal (seen_goal c.args.goal) (put 0 c.args.proof.now.1.0 c.args.guide.now) (λ a. a)) c.args.guide.now c.args.proof.now.1.0) (λ b. then (limited (place c.args.span) (put 0 c.args.proof.now.1.1 c.args.guide.now)) (λ b'. then (checks (env_of c.args.self.now.rules.env.now) no_encodings (entries c.args.context.now) c.args.part.now (term (env_of c.args.self.now.rules.env.now) no_encodings (entries c.args.context.now) c.args.part.now) b') (λ t. by_goal (seen_goal c.args.goal) (gives_inferred (place c.args.span) (rho c.args.proof.now.0 c.args.guide.now b t) b) (λ a. gives_checked (place c.args.span) (rho c.args.proof.now.0 c.args.guide.now a t))))) c.in_ok-ty.ty _ c.in_ok-ty.ensures (goes_on c.args.self.now.rules.env.now c.args.self.now.rules.budget (limited (place c.args.span) (put 0 c.args.proof.now.1.1 c.args.guide.now)) (λ b'. then (checks (env_of c.args.self.now.rules.env.now) no_encodings (entries c.args.context.now) c.args.part.now (term (env_of c.args.self.now.rules.env.now) no_encodings (entries c.args.context.now) c.args.part.now) b') (λ t. by_goal (seen_goal c.args.goal) (gives_inferred (place c.args.span) (rho c.args.proof.now.0 c.args.guide.now c.in_ok-ty.ty t) c.in_ok-ty.ty) (λ a. gives_checked (place c.args.span) (rho c.args.proof.now.0 c.args.guide.now a t)))) c.in_ok-wanted.wanted _ c.in_ok-wanted.ensures (goes_on c.args.self.now.rules.env.now c.args.self.now.rules.budget (checks (env_of c.args.self.now.rules.env.now) no_encodings (entries c.args.context.now) c.args.part.now (term (env_of c.args.self.now.rules.env.now) no_encodings (entries c.args.context.now) c.args.part.now) c.in_ok-wanted.wanted) (λ t. by_goal (seen_goal c.args.goal) (gives_inferred (place c.args.span) (rho c.args.proof.now.0 c.args.guide.now c.in_ok-ty.ty t) c.in_ok-ty.ty) (λ a. gives_checked (place c.args.span) (rho c.args.proof.now.0 c.args.guide.now a t))) c.in_ok-part.part _ c.in_ok-part.ensures c.rewritten.ensures))

pub to_goal-returns-in_err-guide : goal.to_goal-returns-in_err-guide
to_goal-returns-in_err-guide t c = let p = err_from_is_err_and c.from_residual.result c.from_residual.ensures.1 in rw (p.1, p.2) (ends c.args.self.now.rules.env.now c.args.self.now.rules.budget (erase (env_of c.args.self.now.rules.env.now) no_encodings c.args.guide.now) (along_guide (env_of c.args.self.now.rules.env.now) (entries c.args.context.now) (place c.args.span) c.args.part.now c.args.goal.now c.args.proof.now) _ c.in_err-guide.ensures)

pub to_goal-returns-in_err-is_said : goal.to_goal-returns-in_err-is_said
to_goal-returns-in_err-is_said t c = let p = err_from_is_err_and c.from_residual-in_err-is_said.result c.from_residual-in_err-is_said.ensures.1 in rw (p.1, p.2) (goes_on c.args.self.now.rules.env.now c.args.self.now.rules.budget (erase (env_of c.args.self.now.rules.env.now) no_encodings c.args.guide.now) (along_guide (env_of c.args.self.now.rules.env.now) (entries c.args.context.now) (place c.args.span) c.args.part.now c.args.goal.now c.args.proof.now) c.in_ok-guide.guide _ c.in_ok-guide.ensures (ends c.args.self.now.rules.env.now c.args.self.now.rules.budget (is_said (place c.args.span) (letter (place c.args.span)) SidesDiffer c.args.goal.now c.in_ok-guide.guide c.args.proof.now.1.0) (λ (_ : Unit {0}). then (infers (env_of c.args.self.now.rules.env.now) no_encodings (entries c.args.context.now) c.args.part.now (term (env_of c.args.self.now.rules.env.now) no_encodings (entries c.args.context.now) c.args.part.now)) (λ (z : Typed). rewritten_from (place c.args.span) (span_of c.args.part.now) c.args.proof.now c.in_ok-guide.guide c.args.goal.now z)) _ c.in_err-is_said.ensures))

pub to_goal-returns-in_err-found : goal.to_goal-returns-in_err-found
to_goal-returns-in_err-found t c = let p = err_from_is_err_and c.from_residual-in_err-found.result c.from_residual-in_err-found.ensures.1 in rw (p.1, p.2) (goes_on c.args.self.now.rules.env.now c.args.self.now.rules.budget (erase (env_of c.args.self.now.rules.env.now) no_encodings c.args.guide.now) (along_guide (env_of c.args.self.now.rules.env.now) (entries c.args.context.now) (place c.args.span) c.args.part.now c.args.goal.now c.args.proof.now) c.in_ok-guide.guide _ c.in_ok-guide.ensures (goes_on c.args.self.now.rules.env.now c.args.self.now.rules.budget (is_said (place c.args.span) (letter (place c.args.span)) SidesDiffer c.args.goal.now c.in_ok-guide.guide c.args.proof.now.1.0) (λ (_ : Unit {0}). then (infers (env_of c.args.self.now.rules.env.now) no_encodings (entries c.args.context.now) c.args.part.now (term (env_of c.args.self.now.rules.env.now) no_encodings (entries c.args.context.now) c.args.part.now)) (λ (z : Typed). rewritten_from (place c.args.span) (span_of c.args.part.now) c.args.proof.now c.in_ok-guide.guide c.args.goal.now z)) (tt {0}) _ c.in_ok-is_said.ensures (ends c.args.self.now.rules.env.now c.args.self.now.rules.budget (infers (env_of c.args.self.now.rules.env.now) no_encodings (entries c.args.context.now) c.args.part.now (term (env_of c.args.self.now.rules.env.now) no_encodings (entries c.args.context.now) c.args.part.now)) (λ (z : Typed). rewritten_from (place c.args.span) (span_of c.args.part.now) c.args.proof.now c.in_ok-guide.guide c.args.goal.now z) _ c.in_err-found.ensures)))

pub to_goal-returns : goal.to_goal-returns
to_goal-returns t c = goes_on c.args.self.now.rules.env.now c.args.self.now.rules.budget (erase (env_of c.args.self.now.rules.env.now) no_encodings c.args.guide.now) (along_guide (env_of c.args.self.now.rules.env.now) (entries c.args.context.now) (place c.args.span) c.args.part.now c.args.goal.now c.args.proof.now) c.in_ok-guide.guide _ c.in_ok-guide.ensures (goes_on c.args.self.now.rules.env.now c.args.self.now.rules.budget (is_said (place c.args.span) (letter (place c.args.span)) SidesDiffer c.args.goal.now c.in_ok-guide.guide c.args.proof.now.1.0) (λ (_ : Unit {0}). then (infers (env_of c.args.self.now.rules.env.now) no_encodings (entries c.args.context.now) c.args.part.now (term (env_of c.args.self.now.rules.env.now) no_encodings (entries c.args.context.now) c.args.part.now)) (λ (z : Typed). rewritten_from (place c.args.span) (span_of c.args.part.now) c.args.proof.now c.in_ok-guide.guide c.args.goal.now z)) (tt {0}) _ c.in_ok-is_said.ensures (goes_on c.args.self.now.rules.env.now c.args.self.now.rules.budget (infers (env_of c.args.self.now.rules.env.now) no_encodings (entries c.args.context.now) c.args.part.now (term (env_of c.args.self.now.rules.env.now) no_encodings (entries c.args.context.now) c.args.part.now)) (λ (z : Typed). rewritten_from (place c.args.span) (span_of c.args.part.now) c.args.proof.now c.in_ok-guide.guide c.args.goal.now z) c.in_ok-found.found _ c.in_ok-found.ensures (rw (← c.span.ensures) c.rewritten_from.ensures)))
