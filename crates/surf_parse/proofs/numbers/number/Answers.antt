use Rattle.std.proofs.Common.{◌≡◌, ◌∙◌, ℕ, ◌+◌, ◌<◌, List, [], ◌∷◌, ◌++◌, length, map, take, refl, sym, ap, subst, arith}
use Rattle.std.proofs.lemmas.List.{take_more}
use Rattle.surf_lex.specs.declared.tokens.Token as lexer
use Rattle.surf_reader.specs.declared.token.Named.{Named}
use Rattle.surf_reader.specs.View.{token_of}
use Rattle.surf_parse.specs.Answers.{AreNumbered, numbered}
use Rattle.surf_parse.specs.Numbers.{IsPlaced}
use Rattle.surf_parse.proofs.Numbered.{grows_on, one_more, placed}
use Rattle.surf_parse.proofs.numbers.number.Goals as goal

pub number_of-requires-clause-placed : goal.number_of-requires-clause-placed
number_of-requires-clause-placed c =
    let lt : c.tokens.at < length c.args.tokens.now.items = omega (arith, c.tokens-test.true, c.len.ensures, c.args.tokens.now.ok.0) in
    subst (IsPlaced c.args.text.now) (sym c.index-token.ensures) (placed c.args.text.now c.args.tokens.now.items c.utf8.text c.requires.lexed c.tokens.at c.index-token.result.now lt)

pub tokens-preserved : goal.tokens-preserved
tokens-preserved c =
    let inv = c.tokens.invariant in
    let ts : List lexer.Token = c.args.tokens.now.items in
    let t : lexer.Token = c.index-token.result.now in
    let text : List ℕ = c.args.text.now in
    let old : List (List ℕ) = c.tokens.names in
    let new : List (List ℕ) = c.number_of.new.names in
    let n : Named = record { kind = t.kind; span = t.span; name = c.in_ok-name.name } in
    let lt : c.tokens.at < length ts = omega (arith, c.tokens-test.true, c.len.ensures, c.args.tokens.now.ok.0) in
    let more : take (c.tokens.at + 1) ts ≡ take c.tokens.at ts ++ t ∷ [] = take_more ts c.tokens.at t lt ∙ ap (λ (u : lexer.Token). take c.tokens.at ts ++ u ∷ []) (sym c.index-token.ensures) in
    let next = one_more text old new (take c.tokens.at ts) c.tokens.list.items t n c.in_ok-name.ensures.grows inv.numbers inv.same c.in_ok-name.ensures.number refl refl in
    record {
      grows = grows_on c.args.names.now old new inv.grows c.in_ok-name.ensures.grows;
      longer = omega (arith, inv.longer, c.in_ok-name.ensures.longer);
      within = omega (arith, lt);
      same = ap (map token_of) c.in_ok-push.ensures.items ∙ next.0 ∙ ap (map (numbered text new)) (sym more);
      numbers = subst (AreNumbered text new) (sym more) next.1;
    }
