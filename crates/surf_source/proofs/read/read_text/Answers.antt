use Rattle.std.proofs.lemmas.Result.{err_from_is_err_and}
use Rattle.surf_tree.specs.Items.{module_of}
use Rattle.surf_source.proofs.Reading.{parser_fault, source, of_table}
use Rattle.surf_source.proofs.read.read_text.Goals as goal

pub returns-in_err-read-clause-read : goal.returns-in_err-read-clause-read
returns-in_err-read-clause-read c =
    let p = err_from_is_err_and c.from_residual-in_err-read.result c.from_residual-in_err-read.ensures.1 in
    rw (p.1, p.2)
    (parser_fault c.args.text.now c.args.«module».now c.parse.new.names c.in_ok-tokens.tokens.items c.in_err-read.field-0.0 c.utf8.text c.in_ok-tokens.ensures.ok c.in_err-read.ensures.numbers c.in_err-read.ensures.parsed)

pub returns-clause-read : goal.returns-clause-read
returns-clause-read c =
    source c.args.text.now c.args.«module».now c.parse.new.names c.in_ok-tokens.tokens.items c.utf8.text c.in_ok-tokens.ensures.ok (c.in_ok-read.ensures.numbers (λ e. absurd cc)) (module_of c.in_ok-read.read) c.in_ok-read.ensures.parsed

pub returns-clause-numbers : goal.returns-clause-numbers
returns-clause-numbers c =
    of_table c.args.text.now c.args.«module».now c.parse.new.names c.in_ok-tokens.tokens.items c.utf8.text c.in_ok-tokens.ensures.ok (c.in_ok-read.ensures.numbers (λ e. absurd cc)) (module_of c.in_ok-read.read) c.in_ok-read.ensures.parsed
