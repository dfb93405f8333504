use Rattle.std.proofs.lemmas.Result.{err_from_is_err_and}
use Rattle.cdle_model.specs.Forms.{kpi, kpit}
use Rattle.cdle_model.specs.Substitution.{put_written}
use Rattle.cdle_model.specs.Trees.{kpi_of, kpit_of}
use Rattle.elab_model.specs.Questions.{limited, rejects}
use Rattle.elab_model.specs.Spines.{binder_parts}
use Rattle.elab_model.specs.declared.codes.Code.TheVariants.{WantedKind}
use Rattle.scoped_tree.specs.Trees.{place}
use Rattle.elab_rules.specs.Contexts.{entries}
use Rattle.elab_rules.proofs.KindsRead.{has_star}
use Rattle.elab_rules.proofs.Steps.{no_memory, goes_on, ends}
use Rattle.elab_rules.proofs.ask.Rules.+kind_of.Goals as goal

pub kind_of-returns-in_err-star-in-Pi : goal.kind_of-returns-in_err-star-in-Pi
kind_of-returns-in_err-star-in-Pi t c = let p = err_from_is_err_and c.from_residual.result c.from_residual.ensures.1 in rw (p.1, p.2) (no_memory _ _ _)

pub kind_of-returns-in-Unknown : goal.kind_of-returns-in-Unknown
kind_of-returns-in-Unknown t c = no_memory _ _ _

pub kind_of-returns-in_ok-star-in-Pi : goal.kind_of-returns-in_ok-star-in-Pi
kind_of-returns-in_ok-star-in-Pi t c = has_star c.args.self.now.env.now c.args.self.now.budget (place c.args.whole) (entries c.args.context.now) c.form.result.now c.args.ty.now c.in_ok-star-in-Pi.field-0 c.form.ensures.is c.in_ok-star-in-Pi.ensures c.in-Pi.is

pub term_function_kind-returns-in_err-kind : goal.term_function_kind-returns-in_err-kind
term_function_kind-returns-in_err-kind t c =
    let p = err_from_is_err_and c.from_residual.result c.from_residual.ensures.1 in
    rw (p.1, p.2) (ends _ _ _ (λ k. limited (place c.args.whole) (kpi c.args.domain.now k)) _ c.in_err-kind.ensures)

pub term_function_kind-returns : goal.term_function_kind-returns
term_function_kind-returns t c = goes_on _ _ _ (λ k. limited (place c.args.whole) (kpi c.args.domain.now k)) _ _ c.in_ok-kind.ensures c.kind_of_terms.ensures

pub type_function_kind-returns-in_err-kind : goal.type_function_kind-returns-in_err-kind
type_function_kind-returns-in_err-kind t c =
    let p = err_from_is_err_and c.from_residual.result c.from_residual.ensures.1 in
    rw (p.1, p.2) (ends _ _ _ (λ k. limited (place c.args.whole) (kpit c.args.domain.now k)) _ c.in_err-kind.ensures)

pub type_function_kind-returns : goal.type_function_kind-returns
type_function_kind-returns t c = goes_on _ _ _ (λ k. limited (place c.args.whole) (kpit c.args.domain.now k)) _ _ c.in_ok-kind.ensures c.kind_of_types.ensures

pub kind_at_term-returns-in_err-kind : goal.kind_at_term-returns-in_err-kind
kind_at_term-returns-in_err-kind t c =
    let p = err_from_is_err_and c.from_residual.result c.from_residual.ensures.1 in
    rw (p.1, p.2) (ends _ _ _ (λ k. binder_parts kpi_of k (λ b l. limited (place c.args.whole) (put_written 0 c.args.arg.now l)) (rejects (place c.args.whole) WantedKind)) _ c.in_err-kind.ensures)

pub kind_at_term-returns : goal.kind_at_term-returns
kind_at_term-returns t c =
    goes_on _ _ _ (λ k. binder_parts kpi_of k (λ b l. limited (place c.args.whole) (put_written 0 c.args.arg.now l)) (rejects (place c.args.whole) WantedKind)) _ _ c.in_ok-kind.ensures c.range_at_term.ensures

pub kind_at_type-returns-in_err-kind : goal.kind_at_type-returns-in_err-kind
kind_at_type-returns-in_err-kind t c =
    let p = err_from_is_err_and c.from_residual.result c.from_residual.ensures.1 in
    rw (p.1, p.2) (ends _ _ _ (λ k. binder_parts kpit_of k (λ m l. limited (place c.args.whole) (put_written 0 c.args.arg.now l)) (rejects (place c.args.whole) WantedKind)) _ c.in_err-kind.ensures)

pub kind_at_type-returns : goal.kind_at_type-returns
kind_at_type-returns t c =
    goes_on _ _ _ (λ k. binder_parts kpit_of k (λ m l. limited (place c.args.whole) (put_written 0 c.args.arg.now l)) (rejects (place c.args.whole) WantedKind)) _ _ c.in_ok-kind.ensures c.range_at_type.ensures
