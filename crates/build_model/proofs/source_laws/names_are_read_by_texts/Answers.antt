use Rattle.std.specs.Prelude.{[]}
use Rattle.build_model.specs.ByText.{by_text}
use Rattle.build_model.proofs.ReadByText.{said_anew, faulty_anew}
use Rattle.build_model.proofs.source_laws.names_are_read_by_texts.Goals as goal

pub returns-clause-said : goal.returns-clause-said
returns-clause-said c = λ g ts us m e. said_anew g.text [] (by_text g) ts us e m

pub returns-clause-faulty : goal.returns-clause-faulty
returns-clause-faulty c = λ g ts us f e. faulty_anew g.text [] (by_text g) ts us e f
