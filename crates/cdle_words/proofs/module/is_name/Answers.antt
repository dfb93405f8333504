use Rattle.std.proofs.Common.{◌≡◌, ◌∙◌, ◌&&◌, ◌++◌, rules, tests, sym, ap}
use Rattle.std.specs.Char.{encode_utf8}
use Rattle.std.specs.List.{list_all}
use Rattle.std.specs.Str.{chars}
use Rattle.std.proofs.lemmas.Iterator.{YieldsList-from_chars}
use Rattle.std.proofs.lemmas.Iterator.Search.{all_from_yields_List}
use Rattle.std.proofs.lemmas.Str.{IsUtf8-past_char, chars_past_char}
use Rattle.source_model.specs.SurfaceTokens.{continues_name}
use Rattle.cdle_words.specs.ModuleNames.{spell_name}
use Rattle.cdle_words.proofs.module.is_name.Goals as goal

pub returns-then-begins_name : goal.returns-then-begins_name
returns-then-begins_name c =
    let behind = c.next.new.self.rest.now in
    let whole : c.args.word.now ≡ encode_utf8 c.in-Some.c ++ behind = sym (sym c.in-Some.ensures.steps.0 ∙ c.chars-chars.ensures.rest) in
    let spelled = chars_past_char c.args.word.now behind c.in-Some.c c.utf8.word whole in
    let text = IsUtf8-past_char c.args.word.now behind c.in-Some.c c.utf8.word whole in
    let starts = sym c.begins_name.ensures ∙ c.if-begins_name.true in
    let all = all_from_yields_List continues_name _ _ c.all.result c.all.ensures.ran (YieldsList-from_chars behind text cc) (λ x b q k. search (rules, tests)) in
    all ∙ sym (ap spell_name spelled ∙ ap (λ b. b && list_all continues_name (chars behind)) starts)
