use Rattle.std.proofs.Common.{◌-◌, refl}
use Rattle.source_model.specs.Grammar as m
use Rattle.source_model.specs.Made.{made}
use Rattle.source_model.proofs.Turns.{one_make}
use Rattle.surf_reader.specs.View.{given_of}
use Rattle.surf_parse.proofs.Ahead.{with_import_is}
use Rattle.surf_parse.proofs.module.import_behind.Goals as goal

pub returns : goal.returns
unfolding made
returns c = λ d b vs. rw (c.in_ok-name.ensures, c.in_ok-is_importable.ensures, c.in_ok-at.ensures, one_make (given_of c.args.reader.now) m.AnImport, with_import_is) refl
