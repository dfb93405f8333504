use Rattle.std.proofs.Common.{◌≡◌, ◌≤◌, ◌-◌, length, map, take}
use Rattle.scoped_tree.specs.Trees.{place}
use Rattle.surf_lex.specs.Fronts.{token_of}
use Rattle.build_source.specs.Ends.{spelled_in}
use Rattle.build_source.proofs.end.spelled.Given as goal

-- the bytes so far are what the tokens so far spell
abbrev pub invariant-tokens : goal.invariant-tokens
invariant-tokens l = record {
  within : l.at ≤ length l.tokens.items;
  spelled : l.bytes.items ≡ spelled_in l.source (place l.span) (map token_of (take l.at l.tokens.items));
}

abbrev pub decreases-tokens : goal.decreases-tokens
decreases-tokens l = length l.tokens.items - l.at
