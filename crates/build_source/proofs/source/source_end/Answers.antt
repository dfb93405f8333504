use Rattle.build_source.proofs.Ends.{all_ends_giving, end_shown}
use Rattle.build_source.proofs.source.source_end.Goals as goal

pub new-requires : goal.new-requires
new-requires c = end_shown c.args.budget c.args.name.now c.args.file.now c.args.source.now c.args.fault c.in_ok-outcome.outcome c.requires.short c.requires.fault c.in_ok-outcome.ensures

pub returns : goal.returns
returns c =
    all_ends_giving c.args.budget c.args.name.now c.args.file.now c.args.source.now c.args.fault c.in_ok-outcome.outcome c.new.result c.requires.fault c.requires.file c.in_ok-outcome.ensures c.new.ensures.outcome c.new.ensures.report
