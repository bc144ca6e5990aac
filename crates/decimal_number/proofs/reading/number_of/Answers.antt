use Rattle.std.proofs.Common.{◌∙◌, sym}
use Rattle.decimal_number.proofs.Numbers.{number_of-not_decimal, number_of-parse, number_of-not_utf8}
use Rattle.decimal_number.proofs.reading.number_of.Goals as goal

pub returns-then-not-is_decimal : goal.returns-then-not-is_decimal
returns-then-not-is_decimal c = sym (number_of-not_decimal _ (sym c.if-not-is_decimal.ensures))

pub returns-in-Ok : goal.returns-in-Ok
returns-in-Ok c =
    let same = c.in-Ok.ensures.cases.0 in
    let parsed = rw same at c.parse.ensures.value.0 in
    c.ok.ensures.value ∙ sym (number_of-parse c.args.bytes.now _ parsed (sym c.if-not-is_decimal.ensures))

pub returns-in-Err : goal.returns-in-Err
returns-in-Err c = sym (number_of-not_utf8 _ c.in-Err.ensures.cases.0)
