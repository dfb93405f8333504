use Rattle.std.proofs.Common.{rules, ◌≡◌, ◌∷◌, [], ap, sym, subst, ◌∙◌}
use denote.Enum.Bare.{same_true}
use Rattle.core_reduce.specs.contracts.value.Former.{the_type}
use Rattle.core_reduce.specs.declared.value.Former.{Former}
use Rattle.core_reduce.specs.declared.value.Value.{Value}
use Rattle.core_reduce.specs.Values.{IsValueOf, former_class, former_parts, former_tree, value_tree}
use Rattle.core_rules.proofs.Splits.{more_parts, some_part, split_is}
use Rattle.core_rules.proofs.ask.split.Goals as goal

pub pop-right-requires : goal.pop-right-requires
pop-right-requires c =
    let e : c.in-Former.found ≡ c.args.former = same_true the_type (search rules) _ _ (sym c.if-eq.ensures) in
    let h = subst (λ (z : Value). IsValueOf (former_class c.args.former) z) c.in-Former.is c.requires.class in
    some_part c.args.former c.in-Former.parts.items (h.1 ∙ ap former_parts e) c.requires.two

pub pop-left-requires : goal.pop-left-requires
pop-left-requires c =
    let e : c.in-Former.found ≡ c.args.former = same_true the_type (search rules) _ _ (sym c.if-eq.ensures) in
    let h = subst (λ (z : Value). IsValueOf (former_class c.args.former) z) c.in-Former.is c.requires.class in
    more_parts c.args.former c.in-Former.parts.items (h.1 ∙ ap former_parts e) c.requires.two c.pop-right.new.parts.items c.pop-right.result c.pop-right.ensures

pub returns-then-eq : goal.returns-then-eq
returns-then-eq c =
    let e : c.in-Former.found ≡ c.args.former = same_true the_type (search rules) _ _ (sym c.if-eq.ensures) in
    let h = subst (λ (z : Value). IsValueOf (former_class c.args.former) z) c.in-Former.is c.requires.class in
    let s = split_is c.args.former c.in-Former.parts.items (h.1 ∙ ap former_parts e) c.requires.two c.pop-right.new.parts.items c.pop-left.new.parts.items c.pop-left.result c.pop-right.result c.pop-right.ensures c.pop-left.ensures in
    (s.0, ap (value_tree (former_class c.args.former)) c.in-Former.is ∙ subst (λ (z : Former). former_tree z c.in-Former.parts.items ≡ former_tree c.args.former (c.pop-left.result ∷ c.pop-right.result ∷ [])) (sym e) s.1)
