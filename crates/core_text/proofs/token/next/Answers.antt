use Rattle.std.proofs.Common.{◌≡◌, ◌<◌, ◌∙◌, true, false, eqb, length, get_or, arith, sym}
use Rattle.std.proofs.lemmas.Bool.Decides.{nat_tests}
use Rattle.std.proofs.lemmas.Str.{IsCharBoundary-after_ascii}
use Rattle.core_text.proofs.Lexing.{rest_closes, rest_opens, word_text}
use Rattle.core_text.proofs.token.next.Goals as goal

pub returns-then-b-eq40 : goal.returns-then-b-eq40
returns-then-b-eq40 c =
    let lt : c.gap_end-at.result < length c.args.bytes.now = omega arith in
    let plain = c.gap_end-at.ensures.plain lt in
    let opens : eqb (get_or c.args.bytes.now c.gap_end-at.result 0) 40 ≡ true = grind (arith, nat_tests) in
    record {
      begins = c.gap_end-at.ensures.skips.ahead;
      start = c.gap_end-at.ensures.skips.boundary;
      here = c.gap_end-at.ensures.skips.same;
      ahead = omega arith;
      boundary = IsCharBoundary-after_ascii c.args.bytes.now c.gap_end-at.result c.requires.utf8 lt (omega arith);
      first = sym c.gap_end-at.ensures.skips.same ∙ rest_opens c.args.bytes.now c.gap_end-at.result lt plain.0 plain.1 opens;
      text = tt;
    }

pub returns-then-b-eq41 : goal.returns-then-b-eq41
returns-then-b-eq41 c =
    let lt : c.gap_end-at.result < length c.args.bytes.now = omega arith in
    let plain = c.gap_end-at.ensures.plain lt in
    let no : eqb (get_or c.args.bytes.now c.gap_end-at.result 0) 40 ≡ false = grind (arith, nat_tests) in
    let closes : eqb (get_or c.args.bytes.now c.gap_end-at.result 0) 41 ≡ true = grind (arith, nat_tests) in
    record {
      begins = c.gap_end-at.ensures.skips.ahead;
      start = c.gap_end-at.ensures.skips.boundary;
      here = c.gap_end-at.ensures.skips.same;
      ahead = omega arith;
      boundary = IsCharBoundary-after_ascii c.args.bytes.now c.gap_end-at.result c.requires.utf8 lt (omega arith);
      first = sym c.gap_end-at.ensures.skips.same ∙ rest_closes c.args.bytes.now c.gap_end-at.result lt plain.0 plain.1 no closes;
      text = tt;
    }

pub returns : goal.returns
returns c = record {
  begins = c.gap_end-at.ensures.skips.ahead;
  start = c.gap_end-at.ensures.skips.boundary;
  here = c.gap_end-at.ensures.skips.same;
  ahead = c.word_end-end.ensures.ahead;
  boundary = c.word_end-end.ensures.boundary;
  first = sym c.gap_end-at.ensures.skips.same ∙ c.word_end-end.ensures.first;
  text = word_text c.args.bytes.now c.gap_end-at.result c.word_end-end.result c.requires.utf8 c.word_end-end.ensures.ahead c.gap_end-at.ensures.skips.boundary c.word_end-end.ensures.boundary;
}
