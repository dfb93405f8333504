use Rattle.std.proofs.lemmas.Str.{IsCharBoundary-start}
use Rattle.core_text.proofs.words.head_of.Goals as goal

pub word_of-requires-clause-start : goal.word_of-requires-clause-start
word_of-requires-clause-start c = IsCharBoundary-start c.args.bytes.now c.requires.utf8
