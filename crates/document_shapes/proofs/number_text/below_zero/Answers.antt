use Rattle.std.proofs.Common.{◌≡◌, ◌<◌, ◌^◌, pos, Some, ap, sym, ◌∙◌, arith, to_z, of_z, w32}
use Rattle.std.specs.Prelude.{neg_ℤ, ◌-ℤ◌}
use Rattle.std.proofs.lemmas.Int.{ints}
use Rattle.document_shapes.proofs.NumberLemmas.{minus-read}
use Rattle.document_shapes.proofs.number_text.below_zero.Goals as goal

pub returns-then-size : goal.returns-then-size
returns-then-size c =
    let size = c.in_ok-size.size in
    let some : 0 < size = omega arith in
    let small : size < 2 ^ 31 = omega arith in
    let same : to_z w32 (of_z w32 (pos 0 -ℤ to_z w32 size)) ≡ neg_ℤ (pos size) = omega (arith, ints) in
    minus-read c.args.digits.now size (sym c.in_ok-size.ensures) some small ∙ ap Some (sym same)
