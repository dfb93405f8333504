use Rattle.build_model.proofs.SourceFiles.{source_or_faulty, source_is_faultless, one_source, one_source_fault}
use Rattle.build_model.proofs.source_laws.file_is_source_or_faulty.Goals as goal

pub returns-clause-either : goal.returns-clause-either
returns-clause-either c = source_or_faulty

pub returns-clause-never_both : goal.returns-clause-never_both
returns-clause-never_both c = source_is_faultless

pub returns-clause-one_module : goal.returns-clause-one_module
returns-clause-one_module c = one_source

pub returns-clause-one_fault : goal.returns-clause-one_fault
returns-clause-one_fault c = one_source_fault
