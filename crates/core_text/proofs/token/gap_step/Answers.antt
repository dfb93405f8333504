use Rattle.std.proofs.Common.{◌≡◌, ◌<◌, ◌∙◌, true, length, get_or, arith, sym}
use Rattle.cdle_model.specs.CoreTokens.{is_white}
use Rattle.core_text.proofs.Lexing.{after_white, rest_white}
use Rattle.core_text.proofs.token.gap_step.Goals as goal

pub returns-then-is_white_byte : goal.returns-then-is_white_byte
returns-then-is_white_byte c =
    let lt : c.args.at < length c.args.bytes.now = omega arith in
    let white : is_white (get_or c.args.bytes.now c.args.at 0) ≡ true = sym c.is_white_byte.ensures ∙ c.if-is_white_byte.true in
    (omega arith, record { ahead = omega arith; boundary = after_white c.args.bytes.now c.args.at c.requires.utf8 lt white; same = rest_white c.args.bytes.now c.args.at lt white })
