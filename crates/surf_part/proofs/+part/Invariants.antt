use Rattle.std.proofs.Common.{◌≡◌, ◌≤◌, ◌∷◌, ℕ, List, [], ◌-◌, length, map, ◌+◌, ◌*◌}
use Rattle.source_model.specs.Grammar.{Value, Read, Arguments, part, Branches, branches, TypeArguments}
use Rattle.source_model.specs.Parsing.{one}
use Rattle.surf_reader.specs.View.{given_of, here, branch_value}
use Rattle.surf_tree.specs.Forms.{class_tree}
use Rattle.surf_part.proofs.+part.Given as goal

abbrev pub decreases-terms::annotation : goal.decreases-terms::annotation
decreases-terms::annotation l = 10 * l.left + 2

abbrev pub decreases-terms::app : goal.decreases-terms::app
decreases-terms::app l = 10 * l.left + 6

abbrev pub decreases-terms::applied : goal.decreases-terms::applied
decreases-terms::applied l = 10 * l.left + 7

abbrev pub decreases-classes::applied_type : goal.decreases-classes::applied_type
decreases-classes::applied_type l = 10 * l.left + 7

abbrev pub decreases-terms::argument : goal.decreases-terms::argument
decreases-terms::argument l = 10 * l.left

abbrev pub decreases-terms::arguments : goal.decreases-terms::arguments
decreases-terms::arguments l = 10 * l.left + 1

-- what was read goes on from what stands now
abbrev pub invariant-terms::arguments-arguments : goal.invariant-terms::arguments-arguments
invariant-terms::arguments-arguments l = record { room : l.room ≤ l.left; same : (vs : List (Value ℕ)) → one (given_of l.reader) (Read (Arguments l.left)) (here l.reader l.at (part l.first l.fn.head ∷ vs)) ≡ one (given_of l.reader) (Read (Arguments l.room)) (here l.reader l.to (part l.first l.now ∷ vs)) }

abbrev pub decreases-terms::arguments-arguments : goal.decreases-terms::arguments-arguments
decreases-terms::arguments-arguments l = l.room

abbrev pub decreases-classes::arrow : goal.decreases-classes::arrow
decreases-classes::arrow l = 10 * l.left + 1

abbrev pub decreases-classes::at_term : goal.decreases-classes::at_term
decreases-classes::at_term l = 10 * l.left + 6

abbrev pub decreases-atoms::atom : goal.decreases-atoms::atom
decreases-atoms::atom l = 10 * l.left + 5

abbrev pub decreases-terms::atom_given : goal.decreases-terms::atom_given
decreases-terms::atom_given l = 10 * l.left + 3

abbrev pub decreases-atoms::beta : goal.decreases-atoms::beta
decreases-atoms::beta l = 10 * l.left + 3

abbrev pub decreases-classes::binder : goal.decreases-classes::binder
decreases-classes::binder l = 10 * l.left + 2

abbrev pub decreases-cases::branch : goal.decreases-cases::branch
decreases-cases::branch l = 10 * l.left + 2

abbrev pub decreases-cases::branch_behind : goal.decreases-cases::branch_behind
decreases-cases::branch_behind l = 10 * l.left + 1

abbrev pub decreases-cases::branches : goal.decreases-cases::branches
decreases-cases::branches l = 10 * l.left + 4

-- what was read goes on from what stands now
abbrev pub invariant-cases::branches-branches : goal.invariant-cases::branches-branches
invariant-cases::branches-branches l = (vs : List (Value ℕ)) → one (given_of l.reader) (Read (Branches l.left)) (here l.reader l.at (branches [] ∷ vs)) ≡ one (given_of l.reader) (Read (Branches l.left)) (here l.reader l.to (branches (map branch_value l.list.items) ∷ vs))

abbrev pub decreases-cases::branches-branches : goal.decreases-cases::branches-branches
decreases-cases::branches-branches l = length l.reader.tokens.now - l.to

abbrev pub decreases-cases::case_branches : goal.decreases-cases::case_branches
decreases-cases::case_branches l = 10 * l.left + 5

abbrev pub decreases-cases::cases : goal.decreases-cases::cases
decreases-cases::cases l = 10 * l.left + 7

abbrev pub decreases-terms::chi : goal.decreases-terms::chi
decreases-terms::chi l = 10 * l.left + 6

abbrev pub decreases-classes::class : goal.decreases-classes::class
decreases-classes::class l = 10 * l.left

abbrev pub decreases-terms::class_annotation : goal.decreases-terms::class_annotation
decreases-terms::class_annotation l = 10 * l.left + 2

abbrev pub decreases-classes::class_atom : goal.decreases-classes::class_atom
decreases-classes::class_atom l = 10 * l.left + 2

abbrev pub decreases-terms::class_behind : goal.decreases-terms::class_behind
decreases-terms::class_behind l = 10 * l.left + 1

abbrev pub decreases-classes::class_form : goal.decreases-classes::class_form
decreases-classes::class_form l = 10 * l.left + 5

abbrev pub decreases-classes::class_head : goal.decreases-classes::class_head
decreases-classes::class_head l = 10 * l.left + 4

abbrev pub decreases-classes::class_tail : goal.decreases-classes::class_tail
decreases-classes::class_tail l = 10 * l.left + 3

abbrev pub decreases-terms::delta : goal.decreases-terms::delta
decreases-terms::delta l = 10 * l.left + 6

abbrev pub decreases-terms::eapp : goal.decreases-terms::eapp
decreases-terms::eapp l = 10 * l.left + 6

abbrev pub decreases-terms::elam : goal.decreases-terms::elam
decreases-terms::elam l = 10 * l.left + 3

abbrev pub decreases-atoms::enclosed : goal.decreases-atoms::enclosed
decreases-atoms::enclosed l = 10 * l.left + 1

abbrev pub decreases-classes::equation : goal.decreases-classes::equation
decreases-classes::equation l = 10 * l.left + 1

abbrev pub decreases-terms::flip : goal.decreases-terms::flip
decreases-terms::flip l = 10 * l.left + 6

abbrev pub decreases-classes::iota : goal.decreases-classes::iota
decreases-classes::iota l = 10 * l.left + 2

abbrev pub decreases-atoms::kept_term : goal.decreases-atoms::kept_term
decreases-atoms::kept_term l = 10 * l.left + 2

abbrev pub decreases-terms::lam : goal.decreases-terms::lam
decreases-terms::lam l = 10 * l.left + 3

abbrev pub decreases-classes::maybe_arrow : goal.decreases-classes::maybe_arrow
decreases-classes::maybe_arrow l = 10 * l.left + 2

abbrev pub decreases-terms::motive : goal.decreases-terms::motive
decreases-terms::motive l = 10 * l.left + 4

abbrev pub decreases-terms::motive_behind : goal.decreases-terms::motive_behind
decreases-terms::motive_behind l = 10 * l.left + 3

abbrev pub decreases-cases::mu : goal.decreases-cases::mu
decreases-cases::mu l = 10 * l.left + 8

abbrev pub decreases-cases::next_branch : goal.decreases-cases::next_branch
decreases-cases::next_branch l = 10 * l.left + 3

abbrev pub decreases-classes::on_type : goal.decreases-classes::on_type
decreases-classes::on_type l = 10 * l.left + 6

abbrev pub decreases-atoms::pair : goal.decreases-atoms::pair
decreases-atoms::pair l = 10 * l.left + 1

abbrev pub decreases-atoms::parenthesized : goal.decreases-atoms::parenthesized
decreases-atoms::parenthesized l = 10 * l.left + 1

abbrev pub decreases-classes::parenthesized_class : goal.decreases-classes::parenthesized_class
decreases-classes::parenthesized_class l = 10 * l.left + 1

abbrev pub decreases-terms::phi : goal.decreases-terms::phi
decreases-terms::phi l = 10 * l.left + 6

abbrev pub decreases-terms::rewritten : goal.decreases-terms::rewritten
decreases-terms::rewritten l = 10 * l.left + 1

abbrev pub decreases-terms::rho : goal.decreases-terms::rho
decreases-terms::rho l = 10 * l.left + 6

abbrev pub decreases-atoms::side : goal.decreases-atoms::side
decreases-atoms::side l = 10 * l.left + 2

abbrev pub decreases-atoms::simple : goal.decreases-atoms::simple
decreases-atoms::simple l = 10 * l.left + 4

abbrev pub decreases-terms::spine : goal.decreases-terms::spine
decreases-terms::spine l = 10 * l.left + 6

abbrev pub decreases-terms::tapp : goal.decreases-terms::tapp
decreases-terms::tapp l = 10 * l.left + 6

abbrev pub decreases-terms::term : goal.decreases-terms::term
decreases-terms::term l = 10 * l.left

abbrev pub decreases-terms::term_form : goal.decreases-terms::term_form
decreases-terms::term_form l = 10 * l.left + 9

abbrev pub decreases-classes::type_argument : goal.decreases-classes::type_argument
decreases-classes::type_argument l = 10 * l.left

abbrev pub decreases-classes::type_arguments : goal.decreases-classes::type_arguments
decreases-classes::type_arguments l = 10 * l.left + 1

-- what was read goes on from what stands now
abbrev pub invariant-classes::type_arguments-arguments : goal.invariant-classes::type_arguments-arguments
invariant-classes::type_arguments-arguments l = record { room : l.room ≤ l.left; same : (vs : List (Value ℕ)) → one (given_of l.reader) (Read (TypeArguments l.left)) (here l.reader l.at (part l.first (class_tree l.fn.head) ∷ vs)) ≡ one (given_of l.reader) (Read (TypeArguments l.room)) (here l.reader l.to (part l.first (class_tree l.now) ∷ vs)) }

abbrev pub decreases-classes::type_arguments-arguments : goal.decreases-classes::type_arguments-arguments
decreases-classes::type_arguments-arguments l = l.room

abbrev pub decreases-terms::type_behind : goal.decreases-terms::type_behind
decreases-terms::type_behind l = 10 * l.left + 1

abbrev pub decreases-terms::type_of_delta : goal.decreases-terms::type_of_delta
decreases-terms::type_of_delta l = 10 * l.left + 4

abbrev pub decreases-classes::binder_part : goal.decreases-classes::binder_part
decreases-classes::binder_part l = 10 * l.left + 1

abbrev pub decreases-classes::iota_part : goal.decreases-classes::iota_part
decreases-classes::iota_part l = 10 * l.left + 1

abbrev pub decreases-terms::phi_part : goal.decreases-terms::phi_part
decreases-terms::phi_part l = 10 * l.left + 1
