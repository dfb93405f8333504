use Rattle.std.proofs.Common.{[]}
use Rattle.source_model.proofs.BadPlaces.{said_is_text, text_is_said, complaint_is_first}
use Rattle.source_model.proofs.grammar_laws.tests_alone_refuse_texts.Goals as goal

pub returns-clause-said : goal.returns-clause-said
returns-clause-said c = said_is_text

pub returns-clause-text : goal.returns-clause-text
returns-clause-text c = λ g. text_is_said g []

pub returns-clause-complaint : goal.returns-clause-complaint
returns-clause-complaint c = complaint_is_first
