use Rattle.std.proofs.Common.{◌≡◌, [], ◌∷◌, None, refl, ◌∙◌, Err, sym, ap, rules, suc, ◌-◌, pred, arith, ℕ, List, ◌+◌, ◌≤◌, Bool, true, false, ◌++◌, length}
use Rattle.source_model.specs.Grammar.{Value, token, part, enclosed, patterns, branches, Branch, Test_, Make, Read, any, of_type, IsType, IsShallow, The, Term, Spine, Atom, ClassAtom, Class, Owner, Annotation, Side, KeptTerm, TypeGiven, Motive, MaybeArrow, Projections, Patterns, Arguments, TypeArguments, Branches}
use Rattle.source_model.specs.Grammar as m
use Rattle.source_model.specs.Rows.{row, MustStand, NotGiven, Row, ◌▸◌, whole_atom_row, argument_row, type_argument_row, raised, one_less, atom_row, sign, binding, LeftOut, behind_type, only, spine_row, term_row, case_rows, class_atom_row, class_row, arrow_row, Ends as Ends_}
use Rattle.source_model.specs.declared.token.TokenKind.TheVariants as k
use Rattle.surf_reader.specs.View.{token_of, type_given, given_of, here, term_on, type_part, Argued, arrow_need, arrow_ends, by, term_part, on_token, need_of, ends_of, owner_value, name_tree, branch_of, case_under, case_making, class_part, binder_row, arrow_tail, ClassArgued, enclosed_value, class_given_part, branch_row_behind, Branched}
use Rattle.surf_reader.proofs.Steps.{omitted, told_option, fails_on, fails_same, told_err, told_same, by_begins, by_ends, misses, ends, bind_done, told_last, told_then, go, told_more, begins, told_row, by_misses, told_by}
use Rattle.source_model.specs.Source.{none}
use Rattle.source_model.specs.Made.{made}
use Rattle.source_model.specs.Parsing.{one, turn, Given, word_of}
use Rattle.source_model.proofs.Turns.{one_make}
use Rattle.source_model.specs.declared.wanted.Wanted.TheVariants as wanted
use Rattle.surf_reader.proofs.Rules.{argument_other, by_same, atom_then_twice, type_argument_other, no_row, argument_goes, argument_deep, need_is, atom_is, named_makes, class_atom_none, atom_none, class_other, arrow_none, term_other, class_head_is, spine_by, spine_is, term_goes, term_deep, class_deep, type_argument_fails, type_argument_deep, type_argument_goes, type_given_is, class_told}
use Rattle.surf_tree.specs.Forms.{class_tree, given}
use Rattle.surf_reader.proofs.Loops.{no_patterns_makes, branch_makes, case_makes, no_branches_makes, again, again_fails, onward}
use Rattle.surf_reader.specs.declared.binder.Binder.TheVariants as binders
use Rattle.surf_part.proofs.+part.Goals as goal

pub terms::annotation-returns-in-Some : goal.terms::annotation-returns-in-Some
unfolding row
terms::annotation-returns-in-Some o c = told_option c.args.reader.now type_given c.type_behind.result (Annotation c.args.left of_type) k.Colon c.args.at c.in-Some.field-0 (Read (Class c.args.left of_type None) ∷ Test_ IsType ∷ Make m.Given ∷ []) c.in-Some.ensures.taken (λ vs t. refl) (c.type_behind.ensures (token_of c.in-Some.field-0))

pub terms::annotation-returns-in-None : goal.terms::annotation-returns-in-None
unfolding row
terms::annotation-returns-in-None o c = λ vs. omitted c.args.reader.now (Annotation c.args.left of_type) k.Colon c.args.at (Read (Class c.args.left of_type None) ∷ Test_ IsType ∷ Make m.Given ∷ []) vs (c.in-None.ensures.none refl) (λ t. refl) (λ e. let h : NotGiven ≡ MustStand = e in absurd cc)

pub terms::app-returns : goal.terms::app-returns
terms::app-returns o c = λ f vs. go (given_of c.args.reader.now) (Read (Atom c.args.left)) (Make m.App ∷ Test_ IsShallow ∷ []) _ _ _ (c.in_ok-arg.ensures _) (c.in_ok-term.ensures f _ vs)

pub terms::applied-returns-in-None : goal.terms::applied-returns-in-None
terms::applied-returns-in-None o c = λ f vs. by_ends c.args.reader.now (λ t. argument_row c.args.left t ▸ (Test_ IsShallow ∷ [])) wanted.Term c.args.at (part f c.args.head.now ∷ vs) (c.in-None.ensures.none refl)

pub terms::applied-returns-in-Minus : goal.terms::applied-returns-in-Minus
terms::applied-returns-in-Minus o c =
    λ f. told_same c.args.reader.now (term_on f) c.eapp.result _ _
    (λ vs. by_begins c.args.reader.now (λ t. argument_row c.args.left t ▸ (Test_ IsShallow ∷ [])) wanted.Term c.args.at c.in-Some.token (Read (Atom c.args.left) ∷ Make m.Eapp ∷ Test_ IsShallow ∷ []) (part f c.args.head.now ∷ vs) c.in-Some.ensures.next (ap (λ t. argument_row c.args.left t ▸ (Test_ IsShallow ∷ [])) c.in-Minus.is))
    (c.eapp.ensures (token_of c.in-Some.token) f)

pub terms::applied-returns-in-MiddleDot : goal.terms::applied-returns-in-MiddleDot
terms::applied-returns-in-MiddleDot o c =
    λ f. told_same c.args.reader.now (term_on f) c.tapp.result _ _
    (λ vs. by_begins c.args.reader.now (λ t. argument_row c.args.left t ▸ (Test_ IsShallow ∷ [])) wanted.Term c.args.at c.in-Some.token (Read (ClassAtom c.args.left wanted.Ty) ∷ Test_ IsType ∷ Make m.Tapp ∷ Test_ IsShallow ∷ []) (part f c.args.head.now ∷ vs) c.in-Some.ensures.next (ap (λ t. argument_row c.args.left t ▸ (Test_ IsShallow ∷ [])) c.in-MiddleDot.is))
    (c.tapp.ensures (token_of c.in-Some.token) f)

pub terms::applied-returns-in_default : goal.terms::applied-returns-in_default
terms::applied-returns-in_default o c =
    λ f. told_same c.args.reader.now (term_on f) c.app.result _ _
    (λ vs. by_same c.args.reader.now (λ t. argument_row c.args.left t ▸ (Test_ IsShallow ∷ [])) (λ t. whole_atom_row c.args.left t ▸ (Make m.App ∷ []) ▸ (Test_ IsShallow ∷ [])) wanted.Term c.args.at c.in-Some.token (part f c.args.head.now ∷ vs) c.in-Some.ensures.next (ap (λ (f : Row). f ▸ (Test_ IsShallow ∷ [])) (argument_other c.args.left c.in-Some.token.kind c.in_default.not-Minus c.in_default.not-MiddleDot))
    ∙ atom_then_twice (given_of c.args.reader.now) c.args.left (Make m.App ∷ []) (Test_ IsShallow ∷ []) (here c.args.reader.now c.args.at (part f c.args.head.now ∷ vs)))
    (c.app.ensures f)

pub classes::applied_type-returns-in-None : goal.classes::applied_type-returns-in-None
classes::applied_type-returns-in-None o c = λ vs. by_ends c.args.reader.now (λ t. type_argument_row c.args.left t ▸ (Test_ IsShallow ∷ [])) wanted.Term c.args.at (part c.args.first c.args.head.now ∷ vs) (c.in-None.ensures.none refl)

pub classes::applied_type-returns-in-MiddleDot : goal.classes::applied_type-returns-in-MiddleDot
classes::applied_type-returns-in-MiddleDot o c =
    told_same c.args.reader.now (type_part c.args.first) c.on_type.result _ _
    (λ vs. by_begins c.args.reader.now (λ t. type_argument_row c.args.left t ▸ (Test_ IsShallow ∷ [])) wanted.Term c.args.at c.in-Some.token (Read (ClassAtom c.args.left wanted.Ty) ∷ Test_ IsType ∷ Make m.On ∷ Test_ IsShallow ∷ []) (part c.args.first c.args.head.now ∷ vs) c.in-Some.ensures.next (ap (λ t. type_argument_row c.args.left t ▸ (Test_ IsShallow ∷ [])) c.in-MiddleDot.is))
    (c.on_type.ensures (token_of c.in-Some.token))

pub classes::applied_type-returns-in_default : goal.classes::applied_type-returns-in_default
classes::applied_type-returns-in_default o c =
    told_same c.args.reader.now (type_part c.args.first) c.at_term.result _ _
    (λ vs. by_same c.args.reader.now (λ t. type_argument_row c.args.left t ▸ (Test_ IsShallow ∷ [])) (λ t. whole_atom_row c.args.left t ▸ (Make m.At ∷ []) ▸ (Test_ IsShallow ∷ [])) wanted.Term c.args.at c.in-Some.token (part c.args.first c.args.head.now ∷ vs) c.in-Some.ensures.next (ap (λ (f : Row). f ▸ (Test_ IsShallow ∷ [])) (type_argument_other c.args.left c.in-Some.token.kind c.in_default.not-MiddleDot))
    ∙ atom_then_twice (given_of c.args.reader.now) c.args.left (Make m.At ∷ []) (Test_ IsShallow ∷ []) (here c.args.reader.now c.args.at (part c.args.first c.args.head.now ∷ vs)))
    c.at_term.ensures

pub terms::argument-returns-in-None-clause-argued : goal.terms::argument-returns-in-None-clause-argued
terms::argument-returns-in-None-clause-argued o c = λ vs. ends c.args.reader.now (Arguments c.args.left) c.args.at (part c.args.first c.args.head.now ∷ vs) (c.in-None.ensures.none refl) ∙ refl

pub terms::argument-returns-then-not-begins_argument-clause-argued : goal.terms::argument-returns-then-not-begins_argument-clause-argued
unfolding row
terms::argument-returns-then-not-begins_argument-clause-argued o c = λ vs. misses c.args.reader.now (Arguments c.args.left) c.args.at c.in-Some.token (part c.args.first c.args.head.now ∷ vs) c.in-Some.ensures.next (ap (λ (g : Row). raised c.args.left (g ▸ (Test_ IsShallow ∷ Read (Arguments (pred c.args.left)) ∷ []))) (no_row (argument_row (pred c.args.left) c.in-Some.token.kind) (c.if-not-begins_argument.ensures (pred c.args.left)))) ∙ refl

pub terms::argument-returns-then-left-eq0-clause-argued : goal.terms::argument-returns-then-left-eq0-clause-argued
terms::argument-returns-then-left-eq0-clause-argued o c =
    λ vs.
    let none : c.args.left ≡ 0 = let h = c.if-left-eq0.true in grind arith in
    argument_deep c.args.reader.now c.args.left c.args.at c.in-Some.token (part c.args.first c.args.head.now ∷ vs) c.in-Some.ensures.next none (c.if-not-begins_argument.ensures 0)

pub terms::argument-returns-in_err-applied-in-Some-clause-argued : goal.terms::argument-returns-in_err-applied-in-Some-clause-argued
terms::argument-returns-in_err-applied-in-Some-clause-argued o c =
    let q : c.from_residual.result ≡ Err c.in_err-applied-in-Some.field-0.0 = search rules in
    let more : c.args.left ≡ suc (c.args.left - 1) = let h = c.if-left-eq0.false in grind arith in
    let h : Argued c.args.reader.now c.args.left c.args.first c.args.head.now c.args.at (Err c.in_err-applied-in-Some.field-0.0) =
    λ vs. fails_same c.in_err-applied-in-Some.field-0.0 _ _ (argument_goes c.args.reader.now c.args.left (c.args.left - 1) c.args.at c.in-Some.token (part c.args.first c.args.head.now ∷ vs) c.in-Some.ensures.next more (c.if-not-begins_argument.ensures (c.args.left - 1)))
    (fails_on c.in_err-applied-in-Some.field-0.0 _ _ (c.in_err-applied-in-Some.ensures c.args.first vs)) in
    rw q h

pub terms::argument-returns-in_ok-applied-in-Some-clause-argued : goal.terms::argument-returns-in_ok-applied-in-Some-clause-argued
terms::argument-returns-in_ok-applied-in-Some-clause-argued o c =
    λ vs.
    let more : c.args.left ≡ suc (c.args.left - 1) = let h = c.if-left-eq0.false in grind arith in
    argument_goes c.args.reader.now c.args.left (c.args.left - 1) c.args.at c.in-Some.token (part c.args.first c.args.head.now ∷ vs) c.in-Some.ensures.next more (c.if-not-begins_argument.ensures (c.args.left - 1))
    ∙ rw (c.in_ok-applied-in-Some.ensures c.args.first vs) (bind_done (one (given_of c.args.reader.now) (Read (Arguments (c.args.left - 1))) (here c.args.reader.now c.in_ok-applied-in-Some.field-0.1 (part c.args.first c.in_ok-applied-in-Some.field-0.0 ∷ vs))))

pub classes::arrow-returns : goal.classes::arrow-returns
classes::arrow-returns o c =
    λ d vs.
    let i = c.in_ok-first.ensures (arrow_need c.args.erased) (token d ∷ part c.args.begin (class_tree c.args.domain.now) ∷ vs) (need_is (arrow_need c.args.erased) d c.args.begin (class_tree c.args.domain.now) vs ∙ sym c.word_behind_arrow-wanted.ensures) in
    c.in_ok-counted.ensures (Read (Class c.args.left (arrow_need c.args.erased) (one_less c.args.count)) ∷ arrow_ends c.args.erased) (token d ∷ part c.args.begin (class_tree c.args.domain.now) ∷ vs)
    ∙ rw (sym c.one_less.ensures, i) (c.in_ok-class.ensures _ _ _)

pub classes::at_term-returns : goal.classes::at_term-returns
classes::at_term-returns o c = λ vs. go (given_of c.args.reader.now) (Read (Atom c.args.left)) (Make m.At ∷ Test_ IsShallow ∷ []) _ _ _ (c.in_ok-arg.ensures _) (c.in_ok-ty.ensures c.args.first _ vs)

pub atoms::atom-returns : goal.atoms::atom-returns
atoms::atom-returns o c =
    told_same c.args.reader.now term_part c.projections.result _ _ (λ vs. atom_is (given_of c.args.reader.now) c.args.left (here c.args.reader.now c.args.at vs))
    (told_then c.args.reader.now term_part c.projections.result (λ vs. by (given_of c.args.reader.now) (atom_row c.args.left) wanted.Term (here c.args.reader.now c.args.at vs)) (λ q. turn (given_of c.args.reader.now) (Read Projections ∷ []) q) (λ vs. here c.args.reader.now c.in_ok-first.at (part c.in_ok-first.first c.in_ok-first.term ∷ vs)) c.in_ok-first.ensures
    (told_last c.args.reader.now term_part c.projections.result (Read Projections) (λ vs. part c.in_ok-first.first c.in_ok-first.term ∷ vs) c.in_ok-first.at c.projections.ensures))

pub atoms::atom-returns-in_err-first : goal.atoms::atom-returns-in_err-first
atoms::atom-returns-in_err-first o c =
    let q : c.from_residual.result ≡ Err c.in_err-first.field-0.0 = search rules in
    told_err c.args.reader.now term_part c.from_residual.result c.in_err-first.field-0.0 _ q (λ vs. fails_same c.in_err-first.field-0.0 _ _ (atom_is (given_of c.args.reader.now) c.args.left (here c.args.reader.now c.args.at vs)) (fails_on c.in_err-first.field-0.0 _ _ (c.in_err-first.ensures vs)))

pub terms::atom_given-returns : goal.terms::atom_given-returns
terms::atom_given-returns o c = λ vs. rw (c.in_ok-first.ensures, c.in_ok-ty.ensures) refl

pub atoms::beta-returns : goal.atoms::beta-returns
unfolding made
atoms::beta-returns o c = λ vs. rw (c.in_ok-side.ensures, c.in_ok-kept.ensures, one_make (given_of c.args.reader.now) m.Beta, c.in_ok-term.ensures) refl

pub classes::binder-returns : goal.classes::binder-returns
classes::binder-returns o c =
    told_same c.args.reader.now class_part c.binder_part.result _ _ (λ vs. c.in_ok-counted.ensures (binding ∷ sign k.Colon ∷ Read (Class c.args.left any None) ∷ sign k.Period ∷ Read (Class c.args.left (need_of c.args.binder) (one_less c.args.count)) ∷ ends_of c.args.binder) (on_token c.args.letter vs))
    (told_more c.args.reader.now class_part c.binder_part.result binding (sign k.Colon ∷ Read (Class c.args.left any None) ∷ sign k.Period ∷ Read (Class c.args.left (need_of c.args.binder) (one_less c.args.count)) ∷ ends_of c.args.binder) (λ vs. on_token c.args.letter vs) (λ vs. on_token c.in_ok-name.name (on_token c.args.letter vs)) c.args.at c.in_ok-name.at (λ vs. c.in_ok-name.ensures (on_token c.args.letter vs))
    (told_more c.args.reader.now class_part c.binder_part.result (sign k.Colon) (Read (Class c.args.left any None) ∷ sign k.Period ∷ Read (Class c.args.left (need_of c.args.binder) (one_less c.args.count)) ∷ ends_of c.args.binder) (λ vs. on_token c.in_ok-name.name (on_token c.args.letter vs)) (λ vs. token (token_of c.in_ok-at.field-0-0) ∷ on_token c.in_ok-name.name (on_token c.args.letter vs)) c.in_ok-name.at c.in_ok-at.at (λ vs. c.in_ok-at.ensures (on_token c.in_ok-name.name (on_token c.args.letter vs)))
    (told_more c.args.reader.now class_part c.binder_part.result (Read (Class c.args.left any None)) (sign k.Period ∷ Read (Class c.args.left (need_of c.args.binder) (one_less c.args.count)) ∷ ends_of c.args.binder) (λ vs. token (token_of c.in_ok-at.field-0-0) ∷ on_token c.in_ok-name.name (on_token c.args.letter vs)) (λ vs. part c.in_ok-domain.field-0-0-0 (class_tree c.in_ok-domain.domain) ∷ token (token_of c.in_ok-at.field-0-0) ∷ on_token c.in_ok-name.name (on_token c.args.letter vs)) c.in_ok-at.at c.in_ok-domain.at (λ vs. c.in_ok-domain.ensures any (token (token_of c.in_ok-at.field-0-0) ∷ on_token c.in_ok-name.name (on_token c.args.letter vs)) refl)
    (told_more c.args.reader.now class_part c.binder_part.result (sign k.Period) (Read (Class c.args.left (need_of c.args.binder) (one_less c.args.count)) ∷ ends_of c.args.binder) (λ vs. part c.in_ok-domain.field-0-0-0 (class_tree c.in_ok-domain.domain) ∷ token (token_of c.in_ok-at.field-0-0) ∷ on_token c.in_ok-name.name (on_token c.args.letter vs)) (λ vs. token (token_of c.in_ok-at-2.field-0-0) ∷ part c.in_ok-domain.field-0-0-0 (class_tree c.in_ok-domain.domain) ∷ token (token_of c.in_ok-at.field-0-0) ∷ on_token c.in_ok-name.name (on_token c.args.letter vs)) c.in_ok-domain.at c.in_ok-at-2.at (λ vs. c.in_ok-at-2.ensures (part c.in_ok-domain.field-0-0-0 (class_tree c.in_ok-domain.domain) ∷ token (token_of c.in_ok-at.field-0-0) ∷ on_token c.in_ok-name.name (on_token c.args.letter vs)))
    (c.binder_part.ensures (token_of c.in_ok-at-2.field-0-0) (token_of c.in_ok-at.field-0-0) c.in_ok-domain.field-0-0-0)))))

pub classes::binder_part-returns : goal.classes::binder_part-returns
classes::binder_part-returns o c =
    λ d e f vs.
    let i = λ (us : List (Value ℕ)). c.in_ok-first.ensures (need_of c.args.binder) (token d ∷ part f (class_tree c.args.domain.now) ∷ us) (need_is (need_of c.args.binder) d f (class_tree c.args.domain.now) us ∙ sym c.word_of_part-wanted.ensures) in
    rw (sym c.one_less.ensures, i) (c.in_ok-class.ensures d e f _ _)

pub cases::branch-returns : goal.cases::branch-returns
cases::branch-returns o c =
    λ d bs. told_more c.args.reader.now (branch_of bs) c.branch_behind.result (binding) (Read Owner ∷ Make m.Named ∷ Make m.NoPatterns ∷ Read Patterns ∷ sign k.Arrow ∷ Read (Term c.args.left) ∷ Make m.ABranch ∷ []) (λ vs. token d ∷ branches bs ∷ vs) (λ vs. on_token c.in_ok-name.name (token d ∷ branches bs ∷ vs)) c.args.at c.in_ok-name.at (λ vs. c.in_ok-name.ensures (token d ∷ branches bs ∷ vs))
    (told_more c.args.reader.now (branch_of bs) c.branch_behind.result (Read Owner) (Make m.Named ∷ Make m.NoPatterns ∷ Read Patterns ∷ sign k.Arrow ∷ Read (Term c.args.left) ∷ Make m.ABranch ∷ []) (λ vs. on_token c.in_ok-name.name (token d ∷ branches bs ∷ vs)) (λ vs. owner_value c.in_ok-second.second ∷ on_token c.in_ok-name.name (token d ∷ branches bs ∷ vs)) c.in_ok-name.at c.in_ok-second.at (λ vs. c.in_ok-second.ensures (on_token c.in_ok-name.name (token d ∷ branches bs ∷ vs)))
    (told_more c.args.reader.now (branch_of bs) c.branch_behind.result (Make m.Named) (Make m.NoPatterns ∷ Read Patterns ∷ sign k.Arrow ∷ Read (Term c.args.left) ∷ Make m.ABranch ∷ []) (λ vs. owner_value c.in_ok-second.second ∷ on_token c.in_ok-name.name (token d ∷ branches bs ∷ vs)) (λ vs. part c.in_ok-name.name.span.from (name_tree c.in_ok-name.name c.in_ok-second.second) ∷ token d ∷ branches bs ∷ vs) c.in_ok-second.at c.in_ok-second.at (λ vs. rw (one_make (given_of c.args.reader.now) m.Named, named_makes) refl)
    (told_more c.args.reader.now (branch_of bs) c.branch_behind.result (Make m.NoPatterns) (Read Patterns ∷ sign k.Arrow ∷ Read (Term c.args.left) ∷ Make m.ABranch ∷ []) (λ vs. part c.in_ok-name.name.span.from (name_tree c.in_ok-name.name c.in_ok-second.second) ∷ token d ∷ branches bs ∷ vs) (λ vs. patterns [] ∷ part c.in_ok-name.name.span.from (name_tree c.in_ok-name.name c.in_ok-second.second) ∷ token d ∷ branches bs ∷ vs) c.in_ok-second.at c.in_ok-second.at (λ vs. rw (one_make (given_of c.args.reader.now) m.NoPatterns, no_patterns_makes) refl)
    (c.branch_behind.ensures d bs))))

pub cases::branch_behind-returns : goal.cases::branch_behind-returns
cases::branch_behind-returns o c = λ d bs vs. rw (c.in_ok-args.ensures, c.in_ok-at.ensures, c.in_ok-part.ensures) (branch_makes c.args.reader.now _ _ _ _ _ _ (record { ctor = c.used.result.0; span = c.used.result.1; args = c.in_ok-args.args; part = c.in_ok-part.part }) bs vs c.used.ensures)

pub cases::branches-branches-smaller : goal.cases::branches-branches-smaller
cases::branches-branches-smaller o c = let h = c.in_ok-branch.ensures.moves (c.in-Some.branch, c.in-Some.next) (cc) in omega (arith, h)

pub cases::case_branches-returns : goal.cases::case_branches-returns
cases::case_branches-returns o c = λ b d f g vs. rw (c.in_ok-branches.ensures, c.in_ok-close.ensures, c.in_ok-term.ensures) (case_makes c.args.reader.now _ d b f g c.args.letter c.in_ok-close.close c.args.var c.args.part.now (given c.args.motive) c.in_ok-branches.branches.items vs)

pub cases::cases-returns : goal.cases::cases-returns
cases::cases-returns o c =
    λ d. told_more c.args.reader.now term_part c.case_branches.result (Read (Spine c.args.left)) (Read (Motive c.args.left) ∷ sign k.OpenBrace ∷ Make m.NoBranches ∷ Read (Branches c.args.left) ∷ Read (The k.CloseBrace wanted.Branch) ∷ case_making c.args.var) (λ vs. case_under d c.args.letter c.args.var vs) (λ vs. part c.in_ok-part.field-0-0-0 c.in_ok-part.part ∷ case_under d c.args.letter c.args.var vs) c.args.at c.in_ok-part.at (λ vs. c.in_ok-part.ensures (case_under d c.args.letter c.args.var vs))
    (told_more c.args.reader.now term_part c.case_branches.result (Read (Motive c.args.left)) (sign k.OpenBrace ∷ Make m.NoBranches ∷ Read (Branches c.args.left) ∷ Read (The k.CloseBrace wanted.Branch) ∷ case_making c.args.var) (λ vs. part c.in_ok-part.field-0-0-0 c.in_ok-part.part ∷ case_under d c.args.letter c.args.var vs) (λ vs. part c.in_ok-motive.field-0-0-0 (given c.in_ok-motive.motive) ∷ part c.in_ok-part.field-0-0-0 c.in_ok-part.part ∷ case_under d c.args.letter c.args.var vs) c.in_ok-part.at c.in_ok-motive.at (λ vs. c.in_ok-motive.ensures (part c.in_ok-part.field-0-0-0 c.in_ok-part.part ∷ case_under d c.args.letter c.args.var vs))
    (told_more c.args.reader.now term_part c.case_branches.result (sign k.OpenBrace) (Make m.NoBranches ∷ Read (Branches c.args.left) ∷ Read (The k.CloseBrace wanted.Branch) ∷ case_making c.args.var) (λ vs. part c.in_ok-motive.field-0-0-0 (given c.in_ok-motive.motive) ∷ part c.in_ok-part.field-0-0-0 c.in_ok-part.part ∷ case_under d c.args.letter c.args.var vs) (λ vs. token (token_of c.in_ok-at.field-0-0) ∷ part c.in_ok-motive.field-0-0-0 (given c.in_ok-motive.motive) ∷ part c.in_ok-part.field-0-0-0 c.in_ok-part.part ∷ case_under d c.args.letter c.args.var vs) c.in_ok-motive.at c.in_ok-at.at (λ vs. c.in_ok-at.ensures (part c.in_ok-motive.field-0-0-0 (given c.in_ok-motive.motive) ∷ part c.in_ok-part.field-0-0-0 c.in_ok-part.part ∷ case_under d c.args.letter c.args.var vs))
    (told_more c.args.reader.now term_part c.case_branches.result (Make m.NoBranches) (Read (Branches c.args.left) ∷ Read (The k.CloseBrace wanted.Branch) ∷ case_making c.args.var) (λ vs. token (token_of c.in_ok-at.field-0-0) ∷ part c.in_ok-motive.field-0-0-0 (given c.in_ok-motive.motive) ∷ part c.in_ok-part.field-0-0-0 c.in_ok-part.part ∷ case_under d c.args.letter c.args.var vs) (λ vs. branches [] ∷ token (token_of c.in_ok-at.field-0-0) ∷ part c.in_ok-motive.field-0-0-0 (given c.in_ok-motive.motive) ∷ part c.in_ok-part.field-0-0-0 c.in_ok-part.part ∷ case_under d c.args.letter c.args.var vs) c.in_ok-at.at c.in_ok-at.at (λ vs. rw (one_make (given_of c.args.reader.now) m.NoBranches, no_branches_makes) refl)
    (c.case_branches.ensures (token_of c.in_ok-at.field-0-0) d c.in_ok-part.field-0-0-0 c.in_ok-motive.field-0-0-0))))

pub terms::chi-returns : goal.terms::chi-returns
unfolding made
terms::chi-returns o c = λ vs. rw (c.in_ok-first.ensures, c.in_ok-ty.ensures, c.in_ok-at.ensures, c.in_ok-part.ensures, one_make (given_of c.args.reader.now) m.Chi, c.in_ok-term.ensures, c.to_term.ensures) refl

pub classes::class-returns-then-left-eq0 : goal.classes::class-returns-then-left-eq0
classes::class-returns-then-left-eq0 o c =
    let z : c.args.left ≡ 0 = let h = c.if-left-eq0.true in grind arith in
    λ need vs e. fails_same c.deep_class.result _ _ (class_deep (given_of c.args.reader.now) c.args.left need c.args.count c.args.wanted (here c.args.reader.now c.args.at vs) z e) (c.deep_class.ensures 0 c.args.count vs)

pub classes::class-returns : goal.classes::class-returns
classes::class-returns o c =
    let more : c.args.left ≡ suc (c.args.left - 1) = let h = c.if-left-eq0.false in grind arith in
    class_told c.args.reader.now c.class_form.result c.args.left (c.args.left - 1) c.args.count c.args.wanted c.args.at more c.class_form.ensures

pub terms::class_annotation-returns-in-Some : goal.terms::class_annotation-returns-in-Some
unfolding row
terms::class_annotation-returns-in-Some o c = told_option c.args.reader.now class_given_part c.class_behind.result (Annotation c.args.left any) k.Colon c.args.at c.in-Some.field-0 (Read (Class c.args.left any None) ∷ Make m.Given ∷ []) c.in-Some.ensures.taken (λ vs t. refl) (c.class_behind.ensures (token_of c.in-Some.field-0))

pub terms::class_annotation-returns-in-None : goal.terms::class_annotation-returns-in-None
unfolding row
terms::class_annotation-returns-in-None o c = λ vs. omitted c.args.reader.now (Annotation c.args.left any) k.Colon c.args.at (Read (Class c.args.left any None) ∷ Make m.Given ∷ []) vs (c.in-None.ensures.none refl) (λ t. refl) (λ e. let h : NotGiven ≡ MustStand = e in absurd cc)

pub classes::class_atom-returns-in-None : goal.classes::class_atom-returns-in-None
unfolding word_of
classes::class_atom-returns-in-None o c = λ vs. ends c.args.reader.now (ClassAtom c.args.left c.args.wanted) c.args.at vs (c.in-None.ensures.none refl) ∙ refl

pub classes::class_atom-returns-in-Star : goal.classes::class_atom-returns-in-Star
unfolding row
classes::class_atom-returns-in-Star o c = told_row c.args.reader.now class_part c.star.result (ClassAtom c.args.left c.args.wanted) c.args.at c.in-Some.token (Make m.Star ∷ []) c.in-Some.ensures.next (λ vs. ap (class_atom_row c.args.left) c.in-Star.is) c.star.ensures

pub classes::class_atom-returns-in-Name : goal.classes::class_atom-returns-in-Name
unfolding row
classes::class_atom-returns-in-Name o c = told_row c.args.reader.now class_part c.type_name.result (ClassAtom c.args.left c.args.wanted) c.args.at c.in-Some.token (Read Owner ∷ Make m.Named ∷ []) c.in-Some.ensures.next (λ vs. ap (class_atom_row c.args.left) c.in-Name.is) c.type_name.ensures

pub classes::class_atom-returns-in-Open : goal.classes::class_atom-returns-in-Open
unfolding row
classes::class_atom-returns-in-Open o c = told_row c.args.reader.now class_part c.parenthesized_class.result (ClassAtom c.args.left c.args.wanted) c.args.at c.in-Some.token (Read (Class c.args.left any None) ∷ sign k.Close ∷ Make m.Parenthesized ∷ []) c.in-Some.ensures.next (λ vs. ap (class_atom_row c.args.left) c.in-Open.is) c.parenthesized_class.ensures

pub classes::class_atom-returns-in-OpenBrace : goal.classes::class_atom-returns-in-OpenBrace
unfolding row
classes::class_atom-returns-in-OpenBrace o c = told_row c.args.reader.now class_part c.equation.result (ClassAtom c.args.left c.args.wanted) c.args.at c.in-Some.token (Read (Term c.args.left) ∷ sign k.Equal ∷ Read (Term c.args.left) ∷ sign k.CloseBrace ∷ Make m.Equation ∷ []) c.in-Some.ensures.next (λ vs. ap (class_atom_row c.args.left) c.in-OpenBrace.is) c.equation.ensures

pub classes::class_atom-returns-in_default : goal.classes::class_atom-returns-in_default
unfolding row word_of
classes::class_atom-returns-in_default o c = λ vs. misses c.args.reader.now (ClassAtom c.args.left c.args.wanted) c.args.at c.in-Some.token vs c.in-Some.ensures.next (class_atom_none c.args.left c.in-Some.token.kind c.in_default.not-Star c.in_default.not-Name c.in_default.not-Open c.in_default.not-OpenBrace) ∙ refl

pub terms::class_behind-returns : goal.terms::class_behind-returns
unfolding made
terms::class_behind-returns o c = λ d vs. let h = λ (us : List (Value ℕ)). c.in_ok-first.ensures any us refl in rw (h, one_make (given_of c.args.reader.now) m.Given) refl

pub classes::class_form-returns-in-None : goal.classes::class_form-returns-in-None
classes::class_form-returns-in-None o c = λ vs. by_ends c.args.reader.now (class_row c.args.left c.args.count) c.args.wanted c.args.at vs (c.in-None.ensures.none refl)

pub classes::class_form-returns-in-BigPi : goal.classes::class_form-returns-in-BigPi
classes::class_form-returns-in-BigPi o c = told_by c.args.reader.now class_part c.binder.result (class_row c.args.left c.args.count) c.args.wanted c.args.at c.in-Some.token (binder_row c.args.left c.args.count binders.Product) c.in-Some.ensures.next (ap (class_row c.args.left c.args.count) c.in-BigPi.is) c.binder.ensures

pub classes::class_form-returns-in-ForAll : goal.classes::class_form-returns-in-ForAll
classes::class_form-returns-in-ForAll o c = told_by c.args.reader.now class_part c.binder-in-ForAll.result (class_row c.args.left c.args.count) c.args.wanted c.args.at c.in-Some.token (binder_row c.args.left c.args.count binders.Forall) c.in-Some.ensures.next (ap (class_row c.args.left c.args.count) c.in-ForAll.is) c.binder-in-ForAll.ensures

pub classes::class_form-returns-in-Lambda : goal.classes::class_form-returns-in-Lambda
classes::class_form-returns-in-Lambda o c = told_by c.args.reader.now class_part c.binder-in-Lambda.result (class_row c.args.left c.args.count) c.args.wanted c.args.at c.in-Some.token (binder_row c.args.left None binders.Lambda) c.in-Some.ensures.next (ap (class_row c.args.left c.args.count) c.in-Lambda.is) c.binder-in-Lambda.ensures

pub classes::class_form-returns-in-Iota : goal.classes::class_form-returns-in-Iota
classes::class_form-returns-in-Iota o c = told_by c.args.reader.now class_part c.iota.result (class_row c.args.left c.args.count) c.args.wanted c.args.at c.in-Some.token (binding ∷ sign k.Colon ∷ Read (Class c.args.left of_type None) ∷ Test_ IsType ∷ sign k.Period ∷ Read (Class c.args.left of_type None) ∷ Test_ IsType ∷ Make m.Iota ∷ []) c.in-Some.ensures.next (ap (class_row c.args.left c.args.count) c.in-Iota.is) c.iota.ensures

pub classes::class_form-returns-in_default : goal.classes::class_form-returns-in_default
classes::class_form-returns-in_default o c =
    told_same c.args.reader.now class_part c.class_head.result _ _
    (λ vs. by_same c.args.reader.now (class_row c.args.left c.args.count) (λ t. class_atom_row c.args.left t ▸ (Read (TypeArguments c.args.left) ∷ Read (MaybeArrow c.args.left c.args.count) ∷ [])) c.args.wanted c.args.at c.in-Some.token vs c.in-Some.ensures.next (class_other c.args.left c.args.count c.in-Some.token.kind c.in_default.not-BigPi c.in_default.not-ForAll c.in_default.not-Lambda c.in_default.not-Iota))
    c.class_head.ensures

pub classes::class_head-returns : goal.classes::class_head-returns
classes::class_head-returns o c =
    told_same c.args.reader.now class_part c.class_tail.result _ _ (λ vs. class_head_is (given_of c.args.reader.now) c.args.left c.args.wanted (Read (TypeArguments c.args.left) ∷ Read (MaybeArrow c.args.left c.args.count) ∷ []) (here c.args.reader.now c.args.at vs))
    (told_then c.args.reader.now class_part c.class_tail.result (λ vs. one (given_of c.args.reader.now) (Read (ClassAtom c.args.left c.args.wanted)) (here c.args.reader.now c.args.at vs)) (λ q. turn (given_of c.args.reader.now) (Read (TypeArguments c.args.left) ∷ Read (MaybeArrow c.args.left c.args.count) ∷ []) q) (λ vs. here c.args.reader.now c.in_ok-first.at (part c.in_ok-first.first (class_tree c.in_ok-first.head) ∷ vs)) c.in_ok-first.ensures c.class_tail.ensures)

pub classes::class_head-returns-in_err-first : goal.classes::class_head-returns-in_err-first
classes::class_head-returns-in_err-first o c = told_same c.args.reader.now class_part c.from_residual.result _ _ (λ vs. class_head_is (given_of c.args.reader.now) c.args.left c.args.wanted (Read (TypeArguments c.args.left) ∷ Read (MaybeArrow c.args.left c.args.count) ∷ []) (here c.args.reader.now c.args.at vs)) (search rules)

pub classes::class_tail-returns : goal.classes::class_tail-returns
classes::class_tail-returns o c =
    told_more c.args.reader.now class_part c.maybe_arrow.result (Read (TypeArguments c.args.left)) (Read (MaybeArrow c.args.left c.args.count) ∷ []) (λ vs. part c.args.first (class_tree c.args.head) ∷ vs) (λ vs. part c.args.first (class_tree c.in_ok-applied.applied) ∷ vs) c.args.at c.in_ok-applied.at c.in_ok-applied.ensures
    (told_last c.args.reader.now class_part c.maybe_arrow.result (Read (MaybeArrow c.args.left c.args.count)) (λ vs. part c.args.first (class_tree c.in_ok-applied.applied) ∷ vs) c.in_ok-applied.at c.maybe_arrow.ensures)

pub terms::delta-returns : goal.terms::delta-returns
unfolding made
terms::delta-returns o c = λ vs. rw (c.in_ok-ty.ensures, c.in_ok-at.ensures, c.in_ok-proof.ensures, one_make (given_of c.args.reader.now) m.Delta, c.in_ok-term.ensures, c.to_term.ensures) refl

pub terms::eapp-returns : goal.terms::eapp-returns
terms::eapp-returns o c = λ d f vs. go (given_of c.args.reader.now) (Read (Atom c.args.left)) (Make m.Eapp ∷ Test_ IsShallow ∷ []) _ _ _ (c.in_ok-arg.ensures _) (c.in_ok-term.ensures d f _ vs)

pub terms::elam-returns : goal.terms::elam-returns
unfolding made
terms::elam-returns o c = λ vs. rw (c.in_ok-name.ensures, c.in_ok-class.ensures, c.in_ok-at.ensures, c.in_ok-part.ensures, one_make (given_of c.args.reader.now) m.Elam, c.in_ok-term.ensures) refl

pub atoms::enclosed-returns : goal.atoms::enclosed-returns
unfolding made
atoms::enclosed-returns o c = λ d vs. rw (c.in_ok-term.ensures, c.in_ok-close.ensures, one_make (given_of c.args.reader.now) m.Enclosed) refl

pub classes::equation-returns : goal.classes::equation-returns
unfolding made
classes::equation-returns o c = λ vs. rw (c.in_ok-first.ensures, c.in_ok-at.ensures, c.in_ok-second.ensures, c.in_ok-close.ensures, one_make (given_of c.args.reader.now) m.Equation, c.in_ok-ty.ensures, c.between.ensures) refl

pub terms::flip-returns : goal.terms::flip-returns
unfolding made
terms::flip-returns o c = λ vs. rw (c.in_ok-proof.ensures, one_make (given_of c.args.reader.now) m.Flip, c.in_ok-term.ensures, c.to_term.ensures) refl

pub classes::iota-returns : goal.classes::iota-returns
classes::iota-returns o c =
    told_more c.args.reader.now class_part c.iota_part.result binding (sign k.Colon ∷ Read (Class c.args.left of_type None) ∷ Test_ IsType ∷ sign k.Period ∷ Read (Class c.args.left of_type None) ∷ Test_ IsType ∷ Make m.Iota ∷ []) (λ vs. on_token c.args.letter vs) (λ vs. on_token c.in_ok-name.name (on_token c.args.letter vs)) c.args.at c.in_ok-name.at (λ vs. c.in_ok-name.ensures (on_token c.args.letter vs))
    (told_more c.args.reader.now class_part c.iota_part.result (sign k.Colon) (Read (Class c.args.left of_type None) ∷ Test_ IsType ∷ sign k.Period ∷ Read (Class c.args.left of_type None) ∷ Test_ IsType ∷ Make m.Iota ∷ []) (λ vs. on_token c.in_ok-name.name (on_token c.args.letter vs)) (λ vs. token (token_of c.in_ok-at.field-0-0) ∷ on_token c.in_ok-name.name (on_token c.args.letter vs)) c.in_ok-name.at c.in_ok-at.at (λ vs. c.in_ok-at.ensures (on_token c.in_ok-name.name (on_token c.args.letter vs)))
    (told_more c.args.reader.now class_part c.iota_part.result (Read (Class c.args.left of_type None)) (Test_ IsType ∷ sign k.Period ∷ Read (Class c.args.left of_type None) ∷ Test_ IsType ∷ Make m.Iota ∷ []) (λ vs. token (token_of c.in_ok-at.field-0-0) ∷ on_token c.in_ok-name.name (on_token c.args.letter vs)) (λ vs. part c.in_ok-first.first (class_tree c.in_ok-first.found) ∷ token (token_of c.in_ok-at.field-0-0) ∷ on_token c.in_ok-name.name (on_token c.args.letter vs)) c.in_ok-at.at c.in_ok-first.at (λ vs. c.in_ok-first.ensures of_type (token (token_of c.in_ok-at.field-0-0) ∷ on_token c.in_ok-name.name (on_token c.args.letter vs)) refl)
    (told_more c.args.reader.now class_part c.iota_part.result (Test_ IsType) (sign k.Period ∷ Read (Class c.args.left of_type None) ∷ Test_ IsType ∷ Make m.Iota ∷ []) (λ vs. part c.in_ok-first.first (class_tree c.in_ok-first.found) ∷ token (token_of c.in_ok-at.field-0-0) ∷ on_token c.in_ok-name.name (on_token c.args.letter vs)) (λ vs. part c.in_ok-first.first c.in_ok-domain.domain ∷ token (token_of c.in_ok-at.field-0-0) ∷ on_token c.in_ok-name.name (on_token c.args.letter vs)) c.in_ok-first.at c.in_ok-first.at (λ vs. c.in_ok-domain.ensures c.in_ok-first.at (token (token_of c.in_ok-at.field-0-0) ∷ on_token c.in_ok-name.name (on_token c.args.letter vs)))
    (told_more c.args.reader.now class_part c.iota_part.result (sign k.Period) (Read (Class c.args.left of_type None) ∷ Test_ IsType ∷ Make m.Iota ∷ []) (λ vs. part c.in_ok-first.first c.in_ok-domain.domain ∷ token (token_of c.in_ok-at.field-0-0) ∷ on_token c.in_ok-name.name (on_token c.args.letter vs)) (λ vs. token (token_of c.in_ok-at-2.field-0-0) ∷ part c.in_ok-first.first c.in_ok-domain.domain ∷ token (token_of c.in_ok-at.field-0-0) ∷ on_token c.in_ok-name.name (on_token c.args.letter vs)) c.in_ok-first.at c.in_ok-at-2.at (λ vs. c.in_ok-at-2.ensures (part c.in_ok-first.first c.in_ok-domain.domain ∷ token (token_of c.in_ok-at.field-0-0) ∷ on_token c.in_ok-name.name (on_token c.args.letter vs)))
    (c.iota_part.ensures (token_of c.in_ok-at-2.field-0-0) (token_of c.in_ok-at.field-0-0) c.in_ok-first.first)))))

pub classes::iota_part-returns : goal.classes::iota_part-returns
classes::iota_part-returns o c = λ d e f vs. go (given_of c.args.reader.now) (Read (Class c.args.left of_type None)) (Test_ IsType ∷ Make m.Iota ∷ []) _ _ _ (c.in_ok-first.ensures of_type _ refl) (c.in_ok-ty.ensures d e f c.in_ok-first.at vs)

pub atoms::kept_term-returns-in-Some : goal.atoms::kept_term-returns-in-Some
unfolding row
atoms::kept_term-returns-in-Some o c = told_option c.args.reader.now enclosed_value c.enclosed.result (KeptTerm c.args.left) k.OpenBrace c.args.at c.in-Some.field-0 (Read (Term c.args.left) ∷ sign k.CloseBrace ∷ Make m.Enclosed ∷ []) c.in-Some.ensures.taken (λ vs t. refl) (c.enclosed.ensures (token_of c.in-Some.field-0))

pub atoms::kept_term-returns-in-None : goal.atoms::kept_term-returns-in-None
unfolding row
atoms::kept_term-returns-in-None o c = λ vs. omitted c.args.reader.now (KeptTerm c.args.left) k.OpenBrace c.args.at (Read (Term c.args.left) ∷ sign k.CloseBrace ∷ Make m.Enclosed ∷ []) vs (c.in-None.ensures.none refl) (λ t. refl) (λ e. let h : LeftOut ≡ MustStand = e in absurd cc)

pub terms::lam-returns : goal.terms::lam-returns
unfolding made
terms::lam-returns o c = λ vs. rw (c.in_ok-name.ensures, c.in_ok-ty.ensures, c.in_ok-at.ensures, c.in_ok-part.ensures, one_make (given_of c.args.reader.now) m.Lam, c.in_ok-term.ensures, c.to_term.ensures) refl

pub classes::maybe_arrow-returns-in-None : goal.classes::maybe_arrow-returns-in-None
classes::maybe_arrow-returns-in-None o c = λ vs. ends c.args.reader.now (MaybeArrow c.args.left c.args.count) c.args.at (part c.args.first (class_tree c.args.domain) ∷ vs) (c.in-None.ensures.none refl) ∙ refl

pub classes::maybe_arrow-returns-in-Arrow : goal.classes::maybe_arrow-returns-in-Arrow
unfolding row
classes::maybe_arrow-returns-in-Arrow o c =
    told_same c.args.reader.now class_part c.arrow.result _ _
    (λ vs. begins c.args.reader.now (MaybeArrow c.args.left c.args.count) c.args.at c.in-Some.token (arrow_tail c.args.left c.args.count false) (part c.args.first (class_tree c.args.domain) ∷ vs) c.in-Some.ensures.next (ap (arrow_row c.args.left c.args.count) c.in-Arrow.is))
    (c.arrow.ensures (token_of c.in-Some.token))

pub classes::maybe_arrow-returns-in-ErasedArrow : goal.classes::maybe_arrow-returns-in-ErasedArrow
unfolding row
classes::maybe_arrow-returns-in-ErasedArrow o c =
    told_same c.args.reader.now class_part c.arrow-in-ErasedArrow.result _ _
    (λ vs. begins c.args.reader.now (MaybeArrow c.args.left c.args.count) c.args.at c.in-Some.token (arrow_tail c.args.left c.args.count true) (part c.args.first (class_tree c.args.domain) ∷ vs) c.in-Some.ensures.next (ap (arrow_row c.args.left c.args.count) c.in-ErasedArrow.is))
    (c.arrow-in-ErasedArrow.ensures (token_of c.in-Some.token))

pub classes::maybe_arrow-returns-in_default : goal.classes::maybe_arrow-returns-in_default
unfolding row
classes::maybe_arrow-returns-in_default o c = λ vs. misses c.args.reader.now (MaybeArrow c.args.left c.args.count) c.args.at c.in-Some.token (part c.args.first (class_tree c.args.domain) ∷ vs) c.in-Some.ensures.next (arrow_none c.args.left c.args.count c.in-Some.token.kind c.in_default.not-Arrow c.in_default.not-ErasedArrow) ∙ refl

pub terms::motive-returns-in-Some : goal.terms::motive-returns-in-Some
unfolding row
terms::motive-returns-in-Some o c = told_option c.args.reader.now type_given c.motive_behind.result (Motive c.args.left) k.At c.args.at c.in-Some.field-0 (Read (ClassAtom c.args.left wanted.Ty) ∷ Test_ IsType ∷ Make m.Given ∷ []) c.in-Some.ensures.taken (λ vs t. refl) (c.motive_behind.ensures (token_of c.in-Some.field-0))

pub terms::motive-returns-in-None : goal.terms::motive-returns-in-None
unfolding row
terms::motive-returns-in-None o c = λ vs. omitted c.args.reader.now (Motive c.args.left) k.At c.args.at (Read (ClassAtom c.args.left wanted.Ty) ∷ Test_ IsType ∷ Make m.Given ∷ []) vs (c.in-None.ensures.none refl) (λ t. refl) (λ e. let h : NotGiven ≡ MustStand = e in absurd cc)

pub terms::motive_behind-returns : goal.terms::motive_behind-returns
unfolding made
terms::motive_behind-returns o c = λ d vs. rw (c.in_ok-first.ensures, c.in_ok-ty.ensures, one_make (given_of c.args.reader.now) m.Given) refl

pub cases::mu-returns : goal.cases::mu-returns
cases::mu-returns o c =
    told_more c.args.reader.now term_part c.cases.result (binding) (sign k.Period ∷ case_rows c.args.left ++ Make m.Mu ∷ []) (λ vs. on_token c.args.letter vs) (λ vs. on_token c.in_ok-name.name (on_token c.args.letter vs)) c.args.at c.in_ok-name.at (λ vs. c.in_ok-name.ensures (on_token c.args.letter vs))
    (told_more c.args.reader.now term_part c.cases.result (sign k.Period) (case_rows c.args.left ++ Make m.Mu ∷ []) (λ vs. on_token c.in_ok-name.name (on_token c.args.letter vs)) (λ vs. token (token_of c.in_ok-at.field-0-0) ∷ on_token c.in_ok-name.name (on_token c.args.letter vs)) c.in_ok-name.at c.in_ok-at.at (λ vs. c.in_ok-at.ensures (on_token c.in_ok-name.name (on_token c.args.letter vs)))
    (c.cases.ensures (token_of c.in_ok-at.field-0-0)))

pub cases::next_branch-returns-in-None-clause-gives : goal.cases::next_branch-returns-in-None-clause-gives
unfolding row
cases::next_branch-returns-in-None-clause-gives o c = λ bs vs. omitted c.args.reader.now (Branches c.args.left) k.Bar c.args.at (branch_row_behind c.args.left ++ Read (Branches c.args.left) ∷ []) (branches bs ∷ vs) (c.in-None.ensures.none refl) (λ t. refl) (λ e. let h : Ends_ ≡ MustStand = e in absurd cc)

pub cases::next_branch-returns-in_ok-branch-in-Some-clause-gives : goal.cases::next_branch-returns-in_ok-branch-in-Some-clause-gives
unfolding row
cases::next_branch-returns-in_ok-branch-in-Some-clause-gives o c = λ bs vs. again c.args.reader.now (Branches c.args.left) (Branches c.args.left) c.args.at c.in-Some.field-0 (branch_row_behind c.args.left) (branches bs ∷ vs) c.in_ok-branch-in-Some.field-0.1 (branch_of bs c.in_ok-branch-in-Some.field-0.0 vs) c.in-Some.ensures.taken.next (ap (λ (b : Bool). only b (branch_row_behind c.args.left ++ Read (Branches c.args.left) ∷ [])) c.in-Some.ensures.taken.same) (c.in_ok-branch-in-Some.ensures (token_of c.in-Some.field-0) bs vs)

pub cases::next_branch-returns-in_err-branch-in-Some-clause-gives : goal.cases::next_branch-returns-in_err-branch-in-Some-clause-gives
unfolding row
cases::next_branch-returns-in_err-branch-in-Some-clause-gives o c =
    let q : c.from_residual.result ≡ Err c.in_err-branch-in-Some.field-0.0 = search rules in
    let h : Branched c.args.reader.now c.args.left c.args.at (Err c.in_err-branch-in-Some.field-0.0) = λ bs vs. again_fails c.args.reader.now (Branches c.args.left) (Branches c.args.left) c.args.at c.in-Some.field-0 (branch_row_behind c.args.left) (branches bs ∷ vs) c.in_err-branch-in-Some.field-0.0 c.in-Some.ensures.taken.next (ap (λ (b : Bool). only b (branch_row_behind c.args.left ++ Read (Branches c.args.left) ∷ [])) c.in-Some.ensures.taken.same) (c.in_err-branch-in-Some.ensures (token_of c.in-Some.field-0) bs vs) in
    rw q h

pub cases::next_branch-returns-in_ok-branch-in-Some-clause-moves : goal.cases::next_branch-returns-in_ok-branch-in-Some-clause-moves
cases::next_branch-returns-in_ok-branch-in-Some-clause-moves o c =
    λ x e.
    let s : c.in_ok-branch-in-Some.field-0 ≡ x = cc in
    let o : length c.args.reader.now.tokens.now - c.in_ok-branch-in-Some.field-0.1 ≤ length c.args.reader.now.tokens.now - (c.args.at + 1) = onward c.args.reader.now (branch_row_behind c.args.left) (c.args.at + 1) c.in_ok-branch-in-Some.field-0.1 _ _ (c.in_ok-branch-in-Some.ensures (token_of c.in-Some.field-0) [] []) in
    rw (sym s) (omega (arith, o, c.in-Some.ensures.inside))

pub classes::on_type-returns : goal.classes::on_type-returns
classes::on_type-returns o c = λ d vs. go (given_of c.args.reader.now) (Read (ClassAtom c.args.left wanted.Ty)) (Test_ IsType ∷ Make m.On ∷ Test_ IsShallow ∷ []) _ _ _ (c.in_ok-begin.ensures _) (c.in_ok-ty.ensures d c.args.first vs)

pub atoms::pair-returns : goal.atoms::pair-returns
unfolding made
atoms::pair-returns o c = λ vs. rw (c.in_ok-first.ensures, c.in_ok-at.ensures, c.in_ok-second.ensures, c.in_ok-close.ensures, one_make (given_of c.args.reader.now) m.Pair, c.in_ok-term.ensures, c.between.ensures) refl

pub atoms::parenthesized-returns : goal.atoms::parenthesized-returns
unfolding made
atoms::parenthesized-returns o c = λ vs. rw (c.in_ok-term.ensures, c.in_ok-at.ensures, one_make (given_of c.args.reader.now) m.Parenthesized) refl

pub classes::parenthesized_class-returns : goal.classes::parenthesized_class-returns
unfolding made
classes::parenthesized_class-returns o c = λ vs. let h = λ (us : List (Value ℕ)). c.in_ok-class.ensures any us refl in rw (h, c.in_ok-at.ensures, one_make (given_of c.args.reader.now) m.Parenthesized) refl

pub terms::phi-returns : goal.terms::phi-returns
terms::phi-returns o c =
    told_more c.args.reader.now term_part c.phi_part.result (Read (Atom c.args.left)) (sign k.Minus ∷ Read (Atom c.args.left) ∷ sign k.OpenBrace ∷ Read (Term c.args.left) ∷ sign k.CloseBrace ∷ Make m.Phi ∷ []) (λ vs. on_token c.args.letter vs) (λ vs. part c.in_ok-proof.field-0-0-0 c.in_ok-proof.proof ∷ on_token c.args.letter vs) c.args.at c.in_ok-proof.at (λ vs. c.in_ok-proof.ensures (on_token c.args.letter vs))
    (told_more c.args.reader.now term_part c.phi_part.result (sign k.Minus) (Read (Atom c.args.left) ∷ sign k.OpenBrace ∷ Read (Term c.args.left) ∷ sign k.CloseBrace ∷ Make m.Phi ∷ []) (λ vs. part c.in_ok-proof.field-0-0-0 c.in_ok-proof.proof ∷ on_token c.args.letter vs) (λ vs. token (token_of c.in_ok-at.field-0-0) ∷ part c.in_ok-proof.field-0-0-0 c.in_ok-proof.proof ∷ on_token c.args.letter vs) c.in_ok-proof.at c.in_ok-at.at (λ vs. c.in_ok-at.ensures (part c.in_ok-proof.field-0-0-0 c.in_ok-proof.proof ∷ on_token c.args.letter vs))
    (told_more c.args.reader.now term_part c.phi_part.result (Read (Atom c.args.left)) (sign k.OpenBrace ∷ Read (Term c.args.left) ∷ sign k.CloseBrace ∷ Make m.Phi ∷ []) (λ vs. token (token_of c.in_ok-at.field-0-0) ∷ part c.in_ok-proof.field-0-0-0 c.in_ok-proof.proof ∷ on_token c.args.letter vs) (λ vs. part c.in_ok-part.field-0-0-0 c.in_ok-part.part ∷ token (token_of c.in_ok-at.field-0-0) ∷ part c.in_ok-proof.field-0-0-0 c.in_ok-proof.proof ∷ on_token c.args.letter vs) c.in_ok-at.at c.in_ok-part.at (λ vs. c.in_ok-part.ensures (token (token_of c.in_ok-at.field-0-0) ∷ part c.in_ok-proof.field-0-0-0 c.in_ok-proof.proof ∷ on_token c.args.letter vs))
    (told_more c.args.reader.now term_part c.phi_part.result (sign k.OpenBrace) (Read (Term c.args.left) ∷ sign k.CloseBrace ∷ Make m.Phi ∷ []) (λ vs. part c.in_ok-part.field-0-0-0 c.in_ok-part.part ∷ token (token_of c.in_ok-at.field-0-0) ∷ part c.in_ok-proof.field-0-0-0 c.in_ok-proof.proof ∷ on_token c.args.letter vs) (λ vs. token (token_of c.in_ok-at-2.field-0-0) ∷ part c.in_ok-part.field-0-0-0 c.in_ok-part.part ∷ token (token_of c.in_ok-at.field-0-0) ∷ part c.in_ok-proof.field-0-0-0 c.in_ok-proof.proof ∷ on_token c.args.letter vs) c.in_ok-part.at c.in_ok-at-2.at (λ vs. c.in_ok-at-2.ensures (part c.in_ok-part.field-0-0-0 c.in_ok-part.part ∷ token (token_of c.in_ok-at.field-0-0) ∷ part c.in_ok-proof.field-0-0-0 c.in_ok-proof.proof ∷ on_token c.args.letter vs))
    (c.phi_part.ensures (token_of c.in_ok-at-2.field-0-0) (token_of c.in_ok-at.field-0-0) c.in_ok-part.field-0-0-0 c.in_ok-proof.field-0-0-0))))

pub terms::phi_part-returns : goal.terms::phi_part-returns
unfolding made
terms::phi_part-returns o c = λ d e f g vs. rw (c.in_ok-kept.ensures, c.in_ok-close.ensures, one_make (given_of c.args.reader.now) m.Phi, c.in_ok-term.ensures, c.between.ensures) refl

pub terms::rewritten-returns : goal.terms::rewritten-returns
unfolding made
terms::rewritten-returns o c = λ d e f vs. let h = λ (us : List (Value ℕ)). c.in_ok-first.ensures of_type us refl in rw (h, c.in_ok-guide.ensures, c.in_ok-at.ensures, c.in_ok-part.ensures, one_make (given_of c.args.reader.now) m.Rho, c.in_ok-term.ensures, c.to_term-span.ensures) refl

pub terms::rho-returns : goal.terms::rho-returns
terms::rho-returns o c =
    told_more c.args.reader.now term_part c.rewritten.result (Read (Atom c.args.left)) (sign k.At ∷ binding ∷ sign k.Period ∷ Read (Class c.args.left of_type None) ∷ Test_ IsType ∷ sign k.Minus ∷ Read (Term c.args.left) ∷ Make m.Rho ∷ []) (λ vs. on_token c.args.letter vs) (λ vs. part c.in_ok-proof.field-0-0-0 c.in_ok-proof.proof ∷ on_token c.args.letter vs) c.args.at c.in_ok-proof.at (λ vs. c.in_ok-proof.ensures (on_token c.args.letter vs))
    (told_more c.args.reader.now term_part c.rewritten.result (sign k.At) (binding ∷ sign k.Period ∷ Read (Class c.args.left of_type None) ∷ Test_ IsType ∷ sign k.Minus ∷ Read (Term c.args.left) ∷ Make m.Rho ∷ []) (λ vs. part c.in_ok-proof.field-0-0-0 c.in_ok-proof.proof ∷ on_token c.args.letter vs) (λ vs. token (token_of c.in_ok-at.field-0-0) ∷ part c.in_ok-proof.field-0-0-0 c.in_ok-proof.proof ∷ on_token c.args.letter vs) c.in_ok-proof.at c.in_ok-at.at (λ vs. c.in_ok-at.ensures (part c.in_ok-proof.field-0-0-0 c.in_ok-proof.proof ∷ on_token c.args.letter vs))
    (told_more c.args.reader.now term_part c.rewritten.result (binding) (sign k.Period ∷ Read (Class c.args.left of_type None) ∷ Test_ IsType ∷ sign k.Minus ∷ Read (Term c.args.left) ∷ Make m.Rho ∷ []) (λ vs. token (token_of c.in_ok-at.field-0-0) ∷ part c.in_ok-proof.field-0-0-0 c.in_ok-proof.proof ∷ on_token c.args.letter vs) (λ vs. on_token c.in_ok-name.name (token (token_of c.in_ok-at.field-0-0) ∷ part c.in_ok-proof.field-0-0-0 c.in_ok-proof.proof ∷ on_token c.args.letter vs)) c.in_ok-at.at c.in_ok-name.at (λ vs. c.in_ok-name.ensures (token (token_of c.in_ok-at.field-0-0) ∷ part c.in_ok-proof.field-0-0-0 c.in_ok-proof.proof ∷ on_token c.args.letter vs))
    (told_more c.args.reader.now term_part c.rewritten.result (sign k.Period) (Read (Class c.args.left of_type None) ∷ Test_ IsType ∷ sign k.Minus ∷ Read (Term c.args.left) ∷ Make m.Rho ∷ []) (λ vs. on_token c.in_ok-name.name (token (token_of c.in_ok-at.field-0-0) ∷ part c.in_ok-proof.field-0-0-0 c.in_ok-proof.proof ∷ on_token c.args.letter vs)) (λ vs. token (token_of c.in_ok-at-2.field-0-0) ∷ on_token c.in_ok-name.name (token (token_of c.in_ok-at.field-0-0) ∷ part c.in_ok-proof.field-0-0-0 c.in_ok-proof.proof ∷ on_token c.args.letter vs)) c.in_ok-name.at c.in_ok-at-2.at (λ vs. c.in_ok-at-2.ensures (on_token c.in_ok-name.name (token (token_of c.in_ok-at.field-0-0) ∷ part c.in_ok-proof.field-0-0-0 c.in_ok-proof.proof ∷ on_token c.args.letter vs)))
    (c.rewritten.ensures (token_of c.in_ok-at-2.field-0-0) (token_of c.in_ok-at.field-0-0) c.in_ok-proof.field-0-0-0))))

pub atoms::side-returns-in-Some : goal.atoms::side-returns-in-Some
unfolding row
atoms::side-returns-in-Some o c = told_option c.args.reader.now enclosed_value c.enclosed.result (Side c.args.left) k.Less c.args.at c.in-Some.field-0 (Read (Term c.args.left) ∷ sign k.Greater ∷ Make m.Enclosed ∷ []) c.in-Some.ensures.taken (λ vs t. refl) (c.enclosed.ensures (token_of c.in-Some.field-0))

pub atoms::side-returns-in-None : goal.atoms::side-returns-in-None
unfolding row
atoms::side-returns-in-None o c = λ vs. omitted c.args.reader.now (Side c.args.left) k.Less c.args.at (Read (Term c.args.left) ∷ sign k.Greater ∷ Make m.Enclosed ∷ []) vs (c.in-None.ensures.none refl) (λ t. refl) (λ e. let h : LeftOut ≡ MustStand = e in absurd cc)

pub atoms::simple-returns-in-None : goal.atoms::simple-returns-in-None
atoms::simple-returns-in-None o c = λ vs. by_ends c.args.reader.now (atom_row c.args.left) wanted.Term c.args.at vs (c.in-None.ensures.none refl)

pub atoms::simple-returns-in-Name : goal.atoms::simple-returns-in-Name
atoms::simple-returns-in-Name o c = told_by c.args.reader.now term_part c.term_name.result (atom_row c.args.left) wanted.Term c.args.at c.in-Some.token (Read Owner ∷ Make m.Named ∷ []) c.in-Some.ensures.next (ap (atom_row c.args.left) c.in-Name.is) c.term_name.ensures

pub atoms::simple-returns-in-Open : goal.atoms::simple-returns-in-Open
atoms::simple-returns-in-Open o c = told_by c.args.reader.now term_part c.parenthesized.result (atom_row c.args.left) wanted.Term c.args.at c.in-Some.token (Read (Term c.args.left) ∷ sign k.Close ∷ Make m.Parenthesized ∷ []) c.in-Some.ensures.next (ap (atom_row c.args.left) c.in-Open.is) c.parenthesized.ensures

pub atoms::simple-returns-in-OpenBracket : goal.atoms::simple-returns-in-OpenBracket
atoms::simple-returns-in-OpenBracket o c = told_by c.args.reader.now term_part c.pair.result (atom_row c.args.left) wanted.Term c.args.at c.in-Some.token (Read (Term c.args.left) ∷ sign k.Comma ∷ Read (Term c.args.left) ∷ sign k.CloseBracket ∷ Make m.Pair ∷ []) c.in-Some.ensures.next (ap (atom_row c.args.left) c.in-OpenBracket.is) c.pair.ensures

pub atoms::simple-returns-in-Beta : goal.atoms::simple-returns-in-Beta
atoms::simple-returns-in-Beta o c = told_by c.args.reader.now term_part c.beta.result (atom_row c.args.left) wanted.Term c.args.at c.in-Some.token (Read (Side c.args.left) ∷ Read (KeptTerm c.args.left) ∷ Make m.Beta ∷ []) c.in-Some.ensures.next (ap (atom_row c.args.left) c.in-Beta.is) c.beta.ensures

pub atoms::simple-returns-in_default : goal.atoms::simple-returns-in_default
atoms::simple-returns-in_default o c = λ vs. by_misses c.args.reader.now (atom_row c.args.left) wanted.Term c.args.at c.in-Some.token vs c.in-Some.ensures.next (atom_none c.args.left c.in-Some.token.kind c.in_default.not-Name c.in_default.not-Open c.in_default.not-OpenBracket c.in_default.not-Beta)

pub terms::spine-returns : goal.terms::spine-returns
terms::spine-returns o c =
    told_same c.args.reader.now term_part c.arguments.result _ _ (λ vs. spine_is (given_of c.args.reader.now) c.args.left (here c.args.reader.now c.args.at vs))
    (told_more c.args.reader.now term_part c.arguments.result (Read (Atom c.args.left)) (Read (Arguments c.args.left) ∷ []) (λ vs. vs) (λ vs. part c.in_ok-first.first c.in_ok-first.head ∷ vs) c.args.at c.in_ok-first.at c.in_ok-first.ensures
    (told_last c.args.reader.now term_part c.arguments.result (Read (Arguments c.args.left)) (λ vs. part c.in_ok-first.first c.in_ok-first.head ∷ vs) c.in_ok-first.at c.arguments.ensures))

pub terms::spine-returns-in_err-first : goal.terms::spine-returns-in_err-first
terms::spine-returns-in_err-first o c = told_same c.args.reader.now term_part c.from_residual.result _ _ (λ vs. spine_is (given_of c.args.reader.now) c.args.left (here c.args.reader.now c.args.at vs)) (search rules)

pub terms::tapp-returns : goal.terms::tapp-returns
terms::tapp-returns o c = λ d f vs. go (given_of c.args.reader.now) (Read (ClassAtom c.args.left wanted.Ty)) (Test_ IsType ∷ Make m.Tapp ∷ Test_ IsShallow ∷ []) _ _ _ (c.in_ok-begin.ensures _) (c.in_ok-term.ensures d f vs)

pub terms::term-returns-then-left-eq0 : goal.terms::term-returns-then-left-eq0
terms::term-returns-then-left-eq0 o c =
    let z : c.args.left ≡ 0 = let h = c.if-left-eq0.true in grind arith in
    λ vs. fails_same c.deep_term.result _ _ (term_deep (given_of c.args.reader.now) c.args.left (here c.args.reader.now c.args.at vs) z) (c.deep_term.ensures 0 vs)

pub terms::term-returns : goal.terms::term-returns
terms::term-returns o c =
    let more : c.args.left ≡ suc (c.args.left - 1) = let h = c.if-left-eq0.false in grind arith in
    told_same c.args.reader.now term_part c.term_form.result _ _ (λ vs. term_goes (given_of c.args.reader.now) c.args.left (c.args.left - 1) (here c.args.reader.now c.args.at vs) more) c.term_form.ensures

pub terms::term_form-returns-in-None : goal.terms::term_form-returns-in-None
terms::term_form-returns-in-None o c = λ vs. by_ends c.args.reader.now (term_row c.args.left) wanted.Term c.args.at vs (c.in-None.ensures.none refl)

pub terms::term_form-returns-in-Lambda : goal.terms::term_form-returns-in-Lambda
terms::term_form-returns-in-Lambda o c = told_by c.args.reader.now term_part c.lam.result (term_row c.args.left) wanted.Term c.args.at c.in-Some.token (binding ∷ Read (Annotation c.args.left of_type) ∷ sign k.Period ∷ Read (Term c.args.left) ∷ Make m.Lam ∷ []) c.in-Some.ensures.next (ap (term_row c.args.left) c.in-Lambda.is) c.lam.ensures

pub terms::term_form-returns-in-BigLambda : goal.terms::term_form-returns-in-BigLambda
terms::term_form-returns-in-BigLambda o c = told_by c.args.reader.now term_part c.elam.result (term_row c.args.left) wanted.Term c.args.at c.in-Some.token (binding ∷ Read (Annotation c.args.left any) ∷ sign k.Period ∷ Read (Term c.args.left) ∷ Make m.Elam ∷ []) c.in-Some.ensures.next (ap (term_row c.args.left) c.in-BigLambda.is) c.elam.ensures

pub terms::term_form-returns-in-Rho : goal.terms::term_form-returns-in-Rho
terms::term_form-returns-in-Rho o c = told_by c.args.reader.now term_part c.rho.result (term_row c.args.left) wanted.Term c.args.at c.in-Some.token (Read (Atom c.args.left) ∷ sign k.At ∷ binding ∷ sign k.Period ∷ Read (Class c.args.left of_type None) ∷ Test_ IsType ∷ sign k.Minus ∷ Read (Term c.args.left) ∷ Make m.Rho ∷ []) c.in-Some.ensures.next (ap (term_row c.args.left) c.in-Rho.is) c.rho.ensures

pub terms::term_form-returns-in-Phi : goal.terms::term_form-returns-in-Phi
terms::term_form-returns-in-Phi o c = told_by c.args.reader.now term_part c.phi.result (term_row c.args.left) wanted.Term c.args.at c.in-Some.token (Read (Atom c.args.left) ∷ sign k.Minus ∷ Read (Atom c.args.left) ∷ sign k.OpenBrace ∷ Read (Term c.args.left) ∷ sign k.CloseBrace ∷ Make m.Phi ∷ []) c.in-Some.ensures.next (ap (term_row c.args.left) c.in-Phi.is) c.phi.ensures

pub terms::term_form-returns-in-Delta : goal.terms::term_form-returns-in-Delta
terms::term_form-returns-in-Delta o c = told_by c.args.reader.now term_part c.delta.result (term_row c.args.left) wanted.Term c.args.at c.in-Some.token (Read (TypeGiven c.args.left) ∷ sign k.Minus ∷ Read (Atom c.args.left) ∷ Make m.Delta ∷ []) c.in-Some.ensures.next (ap (term_row c.args.left) c.in-Delta.is) c.delta.ensures

pub terms::term_form-returns-in-Chi : goal.terms::term_form-returns-in-Chi
terms::term_form-returns-in-Chi o c = told_by c.args.reader.now term_part c.chi.result (term_row c.args.left) wanted.Term c.args.at c.in-Some.token (Read (ClassAtom c.args.left wanted.Ty) ∷ Test_ IsType ∷ sign k.Minus ∷ Read (Term c.args.left) ∷ Make m.Chi ∷ []) c.in-Some.ensures.next (ap (term_row c.args.left) c.in-Chi.is) c.chi.ensures

pub terms::term_form-returns-in-FinalSigma : goal.terms::term_form-returns-in-FinalSigma
terms::term_form-returns-in-FinalSigma o c = told_by c.args.reader.now term_part c.flip.result (term_row c.args.left) wanted.Term c.args.at c.in-Some.token (Read (Atom c.args.left) ∷ Make m.Flip ∷ []) c.in-Some.ensures.next (ap (term_row c.args.left) c.in-FinalSigma.is) c.flip.ensures

pub terms::term_form-returns-in-Mu : goal.terms::term_form-returns-in-Mu
terms::term_form-returns-in-Mu o c = told_by c.args.reader.now term_part c.mu.result (term_row c.args.left) wanted.Term c.args.at c.in-Some.token (binding ∷ sign k.Period ∷ case_rows c.args.left ++ Make m.Mu ∷ []) c.in-Some.ensures.next (ap (term_row c.args.left) c.in-Mu.is) c.mu.ensures

pub terms::term_form-returns-in-Sigma : goal.terms::term_form-returns-in-Sigma
terms::term_form-returns-in-Sigma o c = told_by c.args.reader.now term_part c.cases.result (term_row c.args.left) wanted.Term c.args.at c.in-Some.token (case_rows c.args.left ++ Make m.Sigma ∷ []) c.in-Some.ensures.next (ap (term_row c.args.left) c.in-Sigma.is) (c.cases.ensures (token_of c.in-Some.token))

pub terms::term_form-returns-in_default : goal.terms::term_form-returns-in_default
terms::term_form-returns-in_default o c =
    told_same c.args.reader.now term_part c.spine.result _ _
    (λ vs. by_same c.args.reader.now (term_row c.args.left) (spine_row c.args.left) wanted.Term c.args.at c.in-Some.token vs c.in-Some.ensures.next (term_other c.args.left c.in-Some.token.kind c.in_default.not-Lambda c.in_default.not-BigLambda c.in_default.not-Rho c.in_default.not-Phi c.in_default.not-Delta c.in_default.not-Chi c.in_default.not-FinalSigma c.in_default.not-Mu c.in_default.not-Sigma) ∙ sym (spine_by (given_of c.args.reader.now) c.args.left (here c.args.reader.now c.args.at vs)))
    c.spine.ensures

pub classes::type_argument-returns-in-None-clause-argued : goal.classes::type_argument-returns-in-None-clause-argued
classes::type_argument-returns-in-None-clause-argued o c = λ vs. ends c.args.reader.now (TypeArguments c.args.left) c.args.at (part c.args.first (class_tree c.args.head.now) ∷ vs) (c.in-None.ensures.none refl) ∙ refl

pub classes::type_argument-returns-then-not-begins_type_argument-clause-argued : goal.classes::type_argument-returns-then-not-begins_type_argument-clause-argued
unfolding row
classes::type_argument-returns-then-not-begins_type_argument-clause-argued o c = λ vs. misses c.args.reader.now (TypeArguments c.args.left) c.args.at c.in-Some.token (part c.args.first (class_tree c.args.head.now) ∷ vs) c.in-Some.ensures.next (ap (λ (f : Row). behind_type (raised c.args.left (f ▸ (Test_ IsShallow ∷ Read (TypeArguments (pred c.args.left)) ∷ [])))) (no_row (type_argument_row (pred c.args.left) c.in-Some.token.kind) (c.if-not-begins_type_argument.ensures (pred c.args.left)))) ∙ refl

pub classes::type_argument-returns-in_err-head-in-Some-clause-argued : goal.classes::type_argument-returns-in_err-head-in-Some-clause-argued
classes::type_argument-returns-in_err-head-in-Some-clause-argued o c =
    let q : c.from_residual.result ≡ Err c.in_err-head-in-Some.field-0.0 = search rules in
    let h : ClassArgued c.args.reader.now c.args.left c.args.first (class_tree c.args.head.now) c.args.at (Err c.in_err-head-in-Some.field-0.0) =
    λ vs. type_argument_fails c.args.reader.now c.args.left c.args.at c.in-Some.token (part c.args.first (class_tree c.args.head.now) ∷ vs) c.in_err-head-in-Some.field-0.0 c.in-Some.ensures.next (c.if-not-begins_type_argument.ensures (pred c.args.left)) (c.in_err-head-in-Some.ensures (token_of c.in-Some.token) (c.args.at + 1) vs) in
    rw q h

pub classes::type_argument-returns-then-left-eq0-clause-argued : goal.classes::type_argument-returns-then-left-eq0-clause-argued
classes::type_argument-returns-then-left-eq0-clause-argued o c =
    λ vs.
    let none : c.args.left ≡ 0 = let h = c.if-left-eq0.true in grind arith in
    type_argument_deep c.args.reader.now c.args.left c.args.at c.in-Some.token (part c.args.first (class_tree c.args.head.now) ∷ vs) (token (token_of c.in-Some.token) ∷ part c.args.first c.in_ok-head-in-Some.head.now ∷ vs) c.in-Some.ensures.next none (c.if-not-begins_type_argument.ensures (pred c.args.left)) (c.in_ok-head-in-Some.ensures (token_of c.in-Some.token) (c.args.at + 1) vs)

pub classes::type_argument-returns-in_err-ty-in-Some-clause-argued : goal.classes::type_argument-returns-in_err-ty-in-Some-clause-argued
classes::type_argument-returns-in_err-ty-in-Some-clause-argued o c =
    let q : c.from_residual-in_err-ty-in-Some.result ≡ Err c.in_err-ty-in-Some.field-0.0 = search rules in
    let more : c.args.left ≡ suc (c.args.left - 1) = let h = c.if-left-eq0.false in grind arith in
    let h : ClassArgued c.args.reader.now c.args.left c.args.first (class_tree c.args.head.now) c.args.at (Err c.in_err-ty-in-Some.field-0.0) =
    λ vs. fails_same c.in_err-ty-in-Some.field-0.0 _ _
    (type_argument_goes c.args.reader.now c.args.left (c.args.left - 1) c.args.at c.in-Some.token (part c.args.first (class_tree c.args.head.now) ∷ vs) (part c.args.first c.in_ok-head-in-Some.head.now ∷ vs) c.in-Some.ensures.next more (c.if-not-begins_type_argument.ensures (c.args.left - 1)) (c.in_ok-head-in-Some.ensures (token_of c.in-Some.token) (c.args.at + 1) vs))
    (fails_on c.in_err-ty-in-Some.field-0.0 _ _ (c.in_err-ty-in-Some.ensures vs)) in
    rw q h

pub classes::type_argument-returns-in_ok-ty-in-Some-clause-argued : goal.classes::type_argument-returns-in_ok-ty-in-Some-clause-argued
classes::type_argument-returns-in_ok-ty-in-Some-clause-argued o c =
    λ vs.
    let more : c.args.left ≡ suc (c.args.left - 1) = let h = c.if-left-eq0.false in grind arith in
    type_argument_goes c.args.reader.now c.args.left (c.args.left - 1) c.args.at c.in-Some.token (part c.args.first (class_tree c.args.head.now) ∷ vs) (part c.args.first c.in_ok-head-in-Some.head.now ∷ vs) c.in-Some.ensures.next more (c.if-not-begins_type_argument.ensures (c.args.left - 1)) (c.in_ok-head-in-Some.ensures (token_of c.in-Some.token) (c.args.at + 1) vs)
    ∙ rw (c.in_ok-ty-in-Some.ensures vs) (bind_done (one (given_of c.args.reader.now) (Read (TypeArguments (c.args.left - 1))) (here c.args.reader.now c.in_ok-ty-in-Some.to (part c.args.first c.in_ok-ty-in-Some.ty ∷ vs))))

pub terms::type_behind-returns : goal.terms::type_behind-returns
unfolding made
terms::type_behind-returns o c = λ d vs. let h = λ (us : List (Value ℕ)). c.in_ok-first.ensures of_type us refl in rw (h, c.in_ok-ty.ensures, one_make (given_of c.args.reader.now) m.Given) refl

pub terms::type_of_delta-returns-in-None : goal.terms::type_of_delta-returns-in-None
terms::type_of_delta-returns-in-None o c = λ vs. ends c.args.reader.now (TypeGiven c.args.left) c.args.at vs (c.in-None.ensures.none refl) ∙ refl

pub terms::type_of_delta-returns-then-begins_class_atom : goal.terms::type_of_delta-returns-then-begins_class_atom
terms::type_of_delta-returns-then-begins_class_atom o c = told_same c.args.reader.now type_given c.atom_given.result _ _ (λ vs. type_given_is c.args.reader.now c.args.left c.args.at c.in-Some.token vs c.in-Some.ensures.next (c.if-begins_class_atom.ensures c.args.left)) c.atom_given.ensures

pub terms::type_of_delta-returns-else-begins_class_atom : goal.terms::type_of_delta-returns-else-begins_class_atom
unfolding row
terms::type_of_delta-returns-else-begins_class_atom o c = λ vs. misses c.args.reader.now (TypeGiven c.args.left) c.args.at c.in-Some.token vs c.in-Some.ensures.next (ap (λ (f : Row). f ▸ (Test_ IsType ∷ [])) (no_row (class_atom_row c.args.left c.in-Some.token.kind) (c.if-begins_class_atom.ensures c.args.left))) ∙ refl
