use Rattle.std.proofs.Common.{sym}
use Rattle.surf_parse.proofs.Numbered.{interned_grows, interned_length, interned_number}
use Rattle.surf_parse.proofs.numbers.number_of.Goals as goal

pub returns-then-is_same-clause-grows : goal.returns-then-is_same-clause-grows
returns-then-is_same-clause-grows c = interned_grows c.intern.result c.range.result.now c.args.names.now c.intern.new.self c.intern.ensures.texts c.intern.ensures.unchanged

pub returns-then-is_same-clause-longer : goal.returns-then-is_same-clause-longer
returns-then-is_same-clause-longer c = interned_length c.intern.result c.range.result.now c.args.names.now c.intern.new.self c.intern.ensures.texts c.intern.ensures.unchanged

pub returns-then-is_same-clause-number : goal.returns-then-is_same-clause-number
returns-then-is_same-clause-number c =
    interned_number c.intern.result c.args.text.now c.args.token c.range.result.now c.args.names.now c.intern.new.self (sym c.if-is_same.ensures) c.range.ensures.value c.intern.ensures.number c.intern.ensures.texts c.intern.ensures.there
