use Rattle.std.proofs.Common.{◌≡◌, ◌∙◌, ℕ, ◌-◌, [], ◌∷◌, map, Err, ap, rules}
use Rattle.source_model.specs.Grammar.{module_so_far}
use Rattle.source_model.specs.Rows.{a_module}
use Rattle.source_model.specs.Parsing.{Reading, ◌>>=◌, turn, ended}
use Rattle.source_model.proofs.Said.{parsed_is_said}
use Rattle.surf_tree.specs.Items.{module_of}
use Rattle.surf_reader.specs.View.{token_of, given_of, here}
use Rattle.surf_parse.proofs.Ahead.{parsed_by, wrong}
use Rattle.surf_parse.proofs.module.read_module.Goals as goal

pub returns : goal.returns
returns c =
    parsed_is_said (given_of c.args.reader.now) (map token_of c.args.reader.now.tokens.now) (module_of c.in_ok-module.«module»)
    (parsed_by c.args.reader.now ∙ ap (λ (q : Reading ℕ). q >>= λ s. ended s.values s.tokens) (c.in_ok-module.ensures []) ∙ ap (ended (module_so_far (module_of c.in_ok-module.«module») ∷ [])) c.in_ok-ended.ensures)

pub returns-in_err-module : goal.returns-in_err-module
returns-in_err-module c =
    let q : c.from_residual.result ≡ Err c.in_err-module.field-0.0 = search rules in
    let h = wrong c.in_err-module.field-0.0 (given_of c.args.reader.now) (map token_of c.args.reader.now.tokens.now) (turn (given_of c.args.reader.now) a_module (here c.args.reader.now 0 [])) (λ s. ended s.values s.tokens) (parsed_by c.args.reader.now) (c.in_err-module.ensures []) in
    rw q h

pub returns-in_err-ended : goal.returns-in_err-ended
returns-in_err-ended c =
    let q : c.from_residual-in_err-ended.result ≡ Err c.in_err-ended.field-0.0 = search rules in
    let (t, e, h) = c.in_err-ended.ensures in
    let p = parsed_by c.args.reader.now ∙ ap (λ (q : Reading ℕ). q >>= λ s. ended s.values s.tokens) (c.in_ok-module.ensures []) ∙ h (module_so_far (module_of c.in_ok-module.«module») ∷ []) in
    rw (q, e) p
