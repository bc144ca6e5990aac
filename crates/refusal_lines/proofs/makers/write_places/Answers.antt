use Rattle.std.proofs.Common.{◌∙◌, ◌++◌, string_bytes, ap, sym}
use Rattle.refusal_lines.specs.Makers.{places_words}
use Rattle.refusal_lines.proofs.Commas.{all_written}
use Rattle.refusal_lines.proofs.makers.write_places.Goals as goal

pub returns : goal.returns
returns c =
    let before = string_bytes c.args.out.now in
    all_written before (string_bytes c.write.new.self) (string_bytes c.loop-place.out) c.in-Some.first.now c.in-Some.others.now c.loop-place.place-index
    c.loop-place-test.false c.in_ok-write.ensures.bytes c.loop-place.invariant
    ∙ ap (λ p. before ++ places_words p) (sym c.in-Some.ensures.cases.0 ∙ c.as_slice.ensures)
