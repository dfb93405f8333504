use Rattle.std.proofs.Common.{◌≡◌, sym, ap, subst, ◌∙◌, Some, length, slice_get, arith}
use Rattle.std.specs.Prelude.{is_some}
use Rattle.cdle_names.specs.Texts.{number_of, with_text}
use Rattle.cdle_names.proofs.Interned.{text_there, found_number, present_texts, absent_number, texts_inserted, number_inserted}
use Rattle.cdle_names.proofs.table.NameTable.intern.Goals as goal

pub returns-in-Some-clause-number : goal.returns-in-Some-clause-number
returns-in-Some-clause-number c = subst (λ ts. c.in-Some.index ≡ number_of c.args.text.now ts) c.self.view_is (found_number c.args.text.now c.self.inside.texts.keys c.in-Some.index (sym c.in-Some.is ∙ c.get_index_of.ensures.index))

pub returns-in-Some-clause-texts : goal.returns-in-Some-clause-texts
returns-in-Some-clause-texts c = subst (λ ts. ts ≡ with_text c.args.text.now ts) c.self.view_is (sym (present_texts c.args.text.now c.self.inside.texts.keys (sym c.get_index_of.ensures.found ∙ ap is_some c.in-Some.is)))

pub returns-in-Some-clause-there : goal.returns-in-Some-clause-there
returns-in-Some-clause-there c =
    let number = found_number c.args.text.now c.self.inside.texts.keys c.in-Some.index (sym c.in-Some.is ∙ c.get_index_of.ensures.index) in
    let same = present_texts c.args.text.now c.self.inside.texts.keys (sym c.get_index_of.ensures.found ∙ ap is_some c.in-Some.is) in
    subst (λ ts. slice_get ts c.in-Some.index ≡ Some c.args.text.now) (same ∙ c.self.view_is) (rw number (text_there c.args.text.now _))

pub returns-in_err-text-clause-known : goal.returns-in_err-text-clause-known
returns-in_err-text-clause-known c = λ lt.
    let n = subst (λ ts. number_of c.args.text.now ts ≡ length ts) c.self.view_is (absent_number c.args.text.now c.self.inside.texts.keys (sym c.get_index_of.ensures.found ∙ ap is_some c.in_default.is)) in
    absurd (omega (arith, lt, n))

pub returns-in_err-index-clause-known : goal.returns-in_err-index-clause-known
returns-in_err-index-clause-known c = λ lt.
    let n = subst (λ ts. number_of c.args.text.now ts ≡ length ts) c.self.view_is (absent_number c.args.text.now c.self.inside.texts.keys (sym c.get_index_of.ensures.found ∙ ap is_some c.in_default.is)) in
    absurd (omega (arith, lt, n))

pub returns-clause-number : goal.returns-clause-number
returns-clause-number c = subst (λ ts. c.in_ok-index.index ≡ number_of c.args.text.now ts) c.self.view_is (number_inserted c.in_ok-text.text c.args.text.now c.self.inside.texts.keys c.in_ok-index.index c.in_ok-text.ensures.ok c.in_ok-index.ensures.index)

pub returns-clause-texts : goal.returns-clause-texts
returns-clause-texts c =
    let absent = sym c.get_index_of.ensures.found ∙ ap is_some c.in_default.is in
    texts_inserted c.in_ok-text.text c.args.text.now c.self.inside.texts.keys _ c.in_ok-text.ensures.ok absent c.in_ok-index.ensures.keys ∙ ap (with_text c.args.text.now) c.self.view_is

pub returns-clause-there : goal.returns-clause-there
returns-clause-there c =
    let absent = sym c.get_index_of.ensures.found ∙ ap is_some c.in_default.is in
    let number = number_inserted c.in_ok-text.text c.args.text.now c.self.inside.texts.keys c.in_ok-index.index c.in_ok-text.ensures.ok c.in_ok-index.ensures.index in
    let texts = texts_inserted c.in_ok-text.text c.args.text.now c.self.inside.texts.keys _ c.in_ok-text.ensures.ok absent c.in_ok-index.ensures.keys in
    rw (texts, number) (text_there c.args.text.now _)
