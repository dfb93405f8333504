use Rattle.std.proofs.Common.{◌≡◌, true, false, eqb, refl, arith}
use Rattle.std.proofs.lemmas.Bool.Decides.{nat_tests}
use Rattle.source_model.specs.Grammar.{HasRoomFor}
use Rattle.source_model.specs.Parsing.{complaint}
use Rattle.cdle_model.specs.declared.grammar.Count.TheVariants as many
use Rattle.source_model.proofs.Turns.{one_test}
use Rattle.surf_reader.specs.View.{given_of}
use Rattle.surf_reader.proofs.reader.Reader.counted.Goals as goal

pub returns-then-left-eq0 : goal.returns-then-left-eq0
unfolding complaint
returns-then-left-eq0 c =
    λ ws vs.
    let e : eqb c.in-Some.left 0 ≡ true = let h = c.if-left-eq0.true in grind (arith, nat_tests) in
    rw (c.in-Some.is, one_test (given_of c.args.self.now) (HasRoomFor many.Arguments c.in-Some.left), e, c.latest.ensures) refl

pub returns-else-left-eq0 : goal.returns-else-left-eq0
unfolding complaint
returns-else-left-eq0 c =
    λ ws vs.
    let e : eqb c.in-Some.left 0 ≡ false = let h = c.if-left-eq0.false in grind (arith, nat_tests) in
    rw (c.in-Some.is, one_test (given_of c.args.self.now) (HasRoomFor many.Arguments c.in-Some.left), e) refl
