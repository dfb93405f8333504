use Rattle.build_model.proofs.SourceFiles.{source_named}
use Rattle.build_model.proofs.source_laws.file_has_its_name.Goals as goal

pub returns : goal.returns
returns c = source_named
