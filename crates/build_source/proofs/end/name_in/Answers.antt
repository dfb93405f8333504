use Rattle.std.proofs.Common.{◌≡◌, Ok, map, subst}
use Rattle.cdle_folder.specs.Files.{Bytes}
use Rattle.source_model.specs.SurfaceTokens.{lexed}
use Rattle.source_model.proofs.Parts.{tokens_are}
use Rattle.surf_lex.specs.Fronts.{token_of}
use Rattle.build_source.proofs.Spelled.{has_tokens}
use Rattle.build_source.proofs.end.name_in.Goals as goal

pub spelled-requires : goal.spelled-requires
spelled-requires c = record {
  tokens = tokens_are c.args.source.now (map token_of c.in-Ok-lex.tokens.items) c.in-Ok.ensures.cases.1 (subst (λ (t : Bytes). lexed t ≡ Ok (map token_of c.in-Ok-lex.tokens.items)) c.in-Ok.ensures.cases.0 c.in-Ok-lex.ensures.ok);
}

pub returns-clause-cut : goal.returns-clause-cut
returns-clause-cut c = has_tokens c.args.source.now c.in-Ok.text.now (map token_of c.in-Ok-lex.tokens.items) c.in-Ok.ensures.cases.0 c.in-Ok-lex.ensures.ok
