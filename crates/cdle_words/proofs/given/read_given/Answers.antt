use Rattle.std.proofs.Common.{◌≡◌, ◌∙◌, List, sym, ap, ap₂, subst, map, string_bytes}
use Rattle.std.proofs.lemmas.List.{length-map}
use Rattle.clap.specs.Words.{app_of, fault_of, matches_of, HasKind, is_simple, is_simple_and_free}
use Rattle.cdle_words.specs.Words.{Word}
use Rattle.cdle_words.specs.declared.asked.WordsFault.TheVariants.{Usage}
use Rattle.cdle_words.specs.Parser.{found_in, given_of, words_app}
use Rattle.cdle_words.proofs.Exact.{are_texts, given_by, simple, simple_app, usage_of}
use Rattle.std.proofs.lemmas.Result.{IfOk-weaker}
use Rattle.cdle_words.proofs.given.read_given.Goals as goal

pub returns-in-Ok-try_get_matches_from-clause-gives : goal.returns-in-Ok-try_get_matches_from-clause-gives
returns-in-Ok-try_get_matches_from-clause-gives c =
    let name : Word = c.as_str.result.now in
    let all : List Word = map string_bytes c.args.words.now.items in
    let app : app_of c.in-Ok.command ≡ words_app name = c.in-Ok.ensures.shape in
    let words : map string_bytes c.as_slice.result.now ≡ all = ap (map string_bytes) c.as_slice.ensures.value in
    let fine = c.in-Ok-try_get_matches_from.ensures.kinds (ap is_simple_and_free app ∙ simple_app name) in
    let rows = (c.in-Ok-try_get_matches_from.ensures.matches (ap is_simple app ∙ simple name)).0 in
    IfOk-weaker c.found.result _ _ (λ g h. given_by name all (given_of g) (are_texts c.args.words.now.items) (rw length-map c.requires)
    (sym (ap₂ fault_of app words) ∙ fine) (h ∙ ap found_in (rows ∙ ap₂ matches_of app words))) c.found.ensures.gives

pub returns-in-Err-try_get_matches_from-clause-usage : goal.returns-in-Err-try_get_matches_from-clause-usage
returns-in-Err-try_get_matches_from-clause-usage c =
    let name : Word = c.as_str.result.now in
    let app : app_of c.in-Ok.command ≡ words_app name = c.in-Ok.ensures.shape in
    let words = ap (map string_bytes) c.as_slice.ensures.value in
    let kinds = c.in-Err-try_get_matches_from.ensures.kinds (ap is_simple_and_free app ∙ simple_app name) in
    let all : List Word = map string_bytes c.args.words.now.items in
    λ is. usage_of name all c.in-Err-try_get_matches_from.error (are_texts c.args.words.now.items) (rw length-map c.requires)
    (subst (λ ks. HasKind ks c.in-Err-try_get_matches_from.error) (ap₂ fault_of app words) kinds) (λ memory. let usage : c.fault_of.result ≡ Usage = cc in c.fault_of.ensures usage (c.kind.ensures ∙ memory))
