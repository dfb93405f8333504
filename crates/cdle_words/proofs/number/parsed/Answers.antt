use Rattle.std.proofs.Common.{◌∙◌}
use Rattle.cdle_words.proofs.Digits.{number_read}
use Rattle.cdle_words.proofs.number.parsed.Goals as goal

pub returns : goal.returns
returns c = c.ok.ensures.value ∙ number_read c.args.word.now c.parse.result c.requires.some c.requires.short c.requires.digits c.parse.ensures.value.0
