use Rattle.std.proofs.Common.{◌≡◌, ◌<◌, ◌^◌, pos, Some, ap, sym, ◌∙◌, arith, to_z, w32}
use Rattle.std.proofs.lemmas.Int.{ints}
use Rattle.document_shapes.proofs.NumberLemmas.{change-read}
use Rattle.document_shapes.proofs.number_text.not_below_zero.Goals as goal

pub returns-then-size : goal.returns-then-size
returns-then-size c =
    let size = c.in_ok-size.size in
    let small : size < 2 ^ 31 = omega arith in
    let same : to_z w32 size ≡ pos size = omega (arith, ints) in
    change-read c.args.digits.now size (sym c.in_ok-size.ensures) small ∙ ap Some (sym same)
