use Rattle.std.proofs.Common.{◌≡◌, ◌≤◌, ◌+◌, ◌-◌, length, map, take}
use Rattle.surf_reader.specs.View.{token_of}
use Rattle.surf_parse.specs.Answers.{AreNumbered, Grows, numbered}
use Rattle.surf_parse.proofs.numbers.number.Given as goal

-- the tokens so far have their numbers in the table as it stands now
abbrev pub invariant-tokens : goal.invariant-tokens
invariant-tokens l = record {
  grows : Grows l.fn.names l.names;
  longer : length l.names ≤ length l.fn.names + l.at;
  within : l.at ≤ length l.tokens.items;
  same : map token_of l.list.items ≡ map (numbered l.text l.names) (take l.at l.tokens.items);
  numbers : AreNumbered l.text l.names (take l.at l.tokens.items);
}

abbrev pub decreases-tokens : goal.decreases-tokens
decreases-tokens l = length l.tokens.items - l.at
