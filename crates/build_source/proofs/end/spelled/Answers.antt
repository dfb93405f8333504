use Rattle.std.proofs.Common.{◌≡◌, ◌∙◌, ◌≤◌, ◌+◌, ◌<◌, List, [], ◌∷◌, ◌++◌, length, map, take, sym, ap, subst, arith}
use Rattle.std.proofs.lemmas.List.{map_push, take_all, take_more}
use Rattle.cdle_folder.specs.Files.{Bytes}
use Rattle.scoped_tree.specs.Trees.{place}
use Rattle.source_model.specs.Source.{Span}
use Rattle.surf_lex.specs.Fronts.{token_of}
use Rattle.surf_lex.specs.declared.tokens.Token as lexer
use Rattle.build_source.specs.Ends.{spelled_in}
use Rattle.build_source.proofs.Spelled.{spelled_more, token_within}
use Rattle.build_source.proofs.end.spelled.Goals as goal

pub add_token-requires-clause-ahead : goal.add_token-requires-clause-ahead
add_token-requires-clause-ahead c =
    let lt : c.tokens.at < length c.args.tokens.now.items = omega (arith, c.tokens-test.true, c.len.ensures, c.args.tokens.now.ok.0) in
    subst (λ (t : lexer.Token). t.span.from ≤ t.span.to) (sym c.index-token.ensures) (token_within c.args.source.now 0 c.args.tokens.now.items c.requires.tokens c.tokens.at c.index-token.result.now lt).0

pub add_token-requires-clause-within : goal.add_token-requires-clause-within
add_token-requires-clause-within c =
    let lt : c.tokens.at < length c.args.tokens.now.items = omega (arith, c.tokens-test.true, c.len.ensures, c.args.tokens.now.ok.0) in
    subst (λ (t : lexer.Token). t.span.to ≤ length c.args.source.now) (sym c.index-token.ensures) (token_within c.args.source.now 0 c.args.tokens.now.items c.requires.tokens c.tokens.at c.index-token.result.now lt).1

pub tokens-preserved : goal.tokens-preserved
tokens-preserved c =
    let inv = c.tokens.invariant in
    let ts : List lexer.Token = c.args.tokens.now.items in
    let t : lexer.Token = c.index-token.result.now in
    let text : Bytes = c.args.source.now in
    let p : Span = place c.args.span in
    let lt : c.tokens.at < length ts = omega (arith, c.tokens-test.true, c.len.ensures, c.args.tokens.now.ok.0) in
    let more : take (c.tokens.at + 1) ts ≡ take c.tokens.at ts ++ t ∷ [] = take_more ts c.tokens.at t lt ∙ ap (λ (u : lexer.Token). take c.tokens.at ts ++ u ∷ []) (sym c.index-token.ensures) in
    let all : map token_of (take (c.tokens.at + 1) ts) ≡ map token_of (take c.tokens.at ts) ++ token_of t ∷ [] = ap (map token_of) more ∙ map_push token_of (take c.tokens.at ts) t in
    record {
      within = omega (arith, lt);
      spelled = c.in_ok-add_token.ensures ∙ ap (λ (l : Bytes). l ++ spelled_in text p (token_of t ∷ [])) inv.spelled
          ∙ sym (spelled_more text p (map token_of (take c.tokens.at ts)) (token_of t ∷ [])) ∙ ap (spelled_in text p) (sym all);
    }

pub returns : goal.returns
returns c =
    let ts : List lexer.Token = c.args.tokens.now.items in
    let done : length ts ≤ c.tokens.at = omega (arith, c.tokens-test.false, c.len.ensures, c.args.tokens.now.ok.0) in
    c.tokens.invariant.spelled ∙ ap (λ (l : List lexer.Token). spelled_in c.args.source.now (place c.args.span) (map token_of l)) (take_all c.tokens.at ts done)
