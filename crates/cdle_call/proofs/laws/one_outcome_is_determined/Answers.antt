use Rattle.cdle_words.specs.Words.{command_of}
use Rattle.cdle_call.proofs.Determined.{determined_or_spent, none_determined, one_determined}
use Rattle.cdle_call.proofs.laws.one_outcome_is_determined.Goals as goal

pub returns : goal.returns
returns c = record {
  there = λ words f. determined_or_spent (command_of words) f;
  one = λ words f o p h g. one_determined (command_of words) f o p h g;
  none = λ words f o spent h. none_determined (command_of words) f o spent h;
}
