use Rattle.std.proofs.Common.{◌≡◌, true, false, leb, refl, arith}
use Rattle.std.proofs.lemmas.Bool.Decides.{nat_tests}
use Rattle.source_model.specs.Grammar.{IsShallow}
use Rattle.source_model.specs.Heights.{levels}
use Rattle.source_model.specs.Parsing.{complaint}
use Rattle.source_model.proofs.Turns.{one_test}
use Rattle.surf_reader.specs.View.{given_of}
use Rattle.surf_reader.proofs.reader.Reader.shallow.Goals as goal

pub returns-then-levels-gt-MOST_LEVELS : goal.returns-then-levels-gt-MOST_LEVELS
unfolding complaint
returns-then-levels-gt-MOST_LEVELS c =
    λ f vs.
    let high : leb (levels c.args.term.now) 1025 ≡ false = let h = c.if-levels-gt-MOST_LEVELS.true in let l = c.levels.ensures.is in grind (arith, nat_tests) in
    rw (one_test (given_of c.args.self.now) IsShallow, high, c.latest.ensures) refl

pub returns : goal.returns
unfolding complaint
returns c =
    λ f vs.
    let low : leb (levels c.args.term.now) 1025 ≡ true = let h = c.if-levels-gt-MOST_LEVELS.false in let l = c.levels.ensures.is in grind (arith, nat_tests) in
    rw (one_test (given_of c.args.self.now) IsShallow, low) refl
