use Rattle.std.proofs.Common.{ap, sym, ◌∙◌, rules}
use Rattle.decimal_number.specs.Decimal as decimal
use Rattle.document_shapes.specs.Shape as shape
use Rattle.document_shapes.specs.Taken.{number_read}
use Rattle.document_shapes.proofs.NumberLemmas.{digit-read, whole-read}
use Rattle.document_shapes.proofs.TokenLemmas.{some_weaker}
use Rattle.document_shapes.proofs.number_text.whole_of.Goals as goal

pub returns-in-48-to-57 : goal.returns-in-48-to-57
returns-in-48-to-57 c =
    ap (number_read shape.whole) (sym c.as_bytes.ensures.value)
    ∙ digit-read c.as_bytes.result.now c.from.result c.in-48-to-57.len_at_least c.in-48-to-57.len_below c.from.ensures (search rules) (search rules)

pub returns-in_default : goal.returns-in_default
returns-in_default c =
    some_weaker c.number_of.result _ (λ n is. whole-read c.args.text.now n (ap decimal.number_of (sym c.as_bytes.ensures.value) ∙ sym c.number_of.ensures ∙ is))
